-- The rules of the grammar: what each form is written as.
use Rattle.std.specs.Prelude.{ℕ, List, [], ◌∷◌, Bool, true, false}
use Rattle.tokens.specs.declared.symbol.Symbol.TheVariants as symbols
use Rattle.tokens.specs.declared.keyword.Keyword.TheVariants as keywords
use Rattle.syntax.specs.declared.operator.Operator.TheVariants as operators
use Rattle.syntax.specs.declared.piece.Sign.TheVariants as signs
use Rattle.syntax.specs.declared.piece.Fields.TheVariants as fields
use Rattle.syntax.specs.declared.piece.Kind.TheVariants as kinds
use Rattle.syntax.specs.declared.piece.Place.TheVariants as places
use Rattle.syntax.specs.declared.piece.Start.TheVariants as starts
use Rattle.syntax.specs.declared.piece.Piece.{Piece}
use Rattle.syntax.specs.declared.piece.Piece.TheVariants as pieces
use Rattle.syntax.specs.declared.form.Form.{Form}
use Rattle.syntax.specs.declared.form.Form.TheVariants as forms
use Rattle.syntax.specs.declared.form.Ending.{Ending}
use Rattle.syntax.specs.declared.form.Ending.TheVariants as endings
use Rattle.syntax.specs.Operators.{level, opening, behind}

-- what a form is written as: its signs, and its parts with what each of them may be
unfoldable pub rule : Form → List Piece
rule forms.Stop = pieces.Sign (signs.Keyword keywords.Stop) ∷ []
rule forms.Skip = pieces.Sign (signs.Keyword keywords.Skip) ∷ []
rule forms.Events = pieces.Sign (signs.Keyword keywords.Events) ∷ []
rule forms.True = pieces.Sign (signs.Keyword keywords.True) ∷ []
rule forms.False = pieces.Sign (signs.Keyword keywords.False) ∷ []
rule forms.Event = pieces.Name ∷ pieces.Others places.Outside kinds.Field (starts.Field fields.Any) ∷ []
rule forms.Call = pieces.Name ∷ pieces.Open symbols.OpenParenthesis ∷ pieces.Part places.Inside (kinds.Phrase 16) ∷ pieces.Others places.Inside (kinds.Phrase 16) (starts.Behind symbols.Comma) ∷ pieces.Sign (signs.Symbol symbols.CloseParenthesis) ∷ []
rule forms.Brackets = pieces.Open symbols.OpenParenthesis ∷ pieces.Part places.Inside (kinds.Phrase 16) ∷ pieces.Sign (signs.Symbol symbols.CloseParenthesis) ∷ []
rule forms.EmptySet = pieces.Open symbols.OpenBrace ∷ pieces.Sign (signs.Symbol symbols.CloseBrace) ∷ []
rule forms.Set = pieces.Open symbols.OpenBrace ∷ pieces.Part places.Inside (kinds.Phrase 16) ∷ pieces.Others places.Inside (kinds.Phrase 16) (starts.Behind symbols.Comma) ∷ pieces.Sign (signs.Symbol symbols.CloseBrace) ∷ []
rule forms.Range = pieces.Open symbols.OpenBrace ∷ pieces.Part places.Inside (kinds.Phrase 16) ∷ pieces.Sign (signs.Symbol symbols.Range) ∷ pieces.Part places.Inside (kinds.Phrase 16) ∷ pieces.Sign (signs.Symbol symbols.CloseBrace) ∷ []
rule forms.NoProductions = pieces.Open symbols.OpenEvents ∷ pieces.Sign (signs.Symbol symbols.CloseEvents) ∷ []
rule forms.Productions = pieces.Open symbols.OpenEvents ∷ pieces.Part places.Inside kinds.Event ∷ pieces.Others places.Inside kinds.Event (starts.Behind symbols.Comma) ∷ pieces.Sign (signs.Symbol symbols.CloseEvents) ∷ []
rule forms.Union = pieces.Sign (signs.Keyword keywords.Union) ∷ pieces.Open symbols.OpenParenthesis ∷ pieces.Part places.Inside (kinds.Phrase 16) ∷ pieces.Sign (signs.Symbol symbols.Comma) ∷ pieces.Part places.Inside (kinds.Phrase 16) ∷ pieces.Sign (signs.Symbol symbols.CloseParenthesis) ∷ []
rule forms.Intersection = pieces.Sign (signs.Keyword keywords.Inter) ∷ pieces.Open symbols.OpenParenthesis ∷ pieces.Part places.Inside (kinds.Phrase 16) ∷ pieces.Sign (signs.Symbol symbols.Comma) ∷ pieces.Part places.Inside (kinds.Phrase 16) ∷ pieces.Sign (signs.Symbol symbols.CloseParenthesis) ∷ []
rule forms.Difference = pieces.Sign (signs.Keyword keywords.Diff) ∷ pieces.Open symbols.OpenParenthesis ∷ pieces.Part places.Inside (kinds.Phrase 16) ∷ pieces.Sign (signs.Symbol symbols.Comma) ∷ pieces.Part places.Inside (kinds.Phrase 16) ∷ pieces.Sign (signs.Symbol symbols.CloseParenthesis) ∷ []
rule forms.If = pieces.Sign (signs.Keyword keywords.If) ∷ pieces.Part places.Outside (kinds.Phrase 16) ∷ pieces.Sign (signs.Keyword keywords.Then) ∷ pieces.Part places.Outside (kinds.Phrase 16) ∷ pieces.Sign (signs.Keyword keywords.Else) ∷ pieces.Part places.Outside (kinds.Phrase 16) ∷ []
rule forms.ReplicatedExternal = pieces.Sign (signs.Symbol symbols.ExternalChoice) ∷ pieces.Part places.Outside kinds.Generators ∷ pieces.Sign (signs.Symbol symbols.At) ∷ pieces.Part places.Outside (kinds.Phrase 16) ∷ []
rule forms.ReplicatedInternal = pieces.Sign (signs.Symbol symbols.InternalChoice) ∷ pieces.Part places.Outside kinds.Generators ∷ pieces.Sign (signs.Symbol symbols.At) ∷ pieces.Part places.Outside (kinds.Phrase 16) ∷ []
rule forms.ReplicatedInterleaving = pieces.Sign (signs.Symbol symbols.Interleaving) ∷ pieces.Part places.Outside kinds.Generators ∷ pieces.Sign (signs.Symbol symbols.At) ∷ pieces.Part places.Outside (kinds.Phrase 16) ∷ []
rule forms.Negation = pieces.Sign (signs.Symbol symbols.Minus) ∷ pieces.Part places.Outside (kinds.Phrase 2) ∷ []
rule forms.Not = pieces.Sign (signs.Keyword keywords.Not) ∷ pieces.Part places.Outside (kinds.Phrase 6) ∷ []
rule forms.Generators = pieces.Part places.Outside kinds.Generator ∷ pieces.Others places.Outside kinds.Generator (starts.Behind symbols.Comma) ∷ []
rule forms.Generator = pieces.Name ∷ pieces.Sign (signs.Symbol symbols.Colon) ∷ pieces.Part places.Outside (kinds.Atom fields.Any) ∷ []
rule forms.Pair = pieces.Part places.Outside kinds.Event ∷ pieces.Sign (signs.Symbol symbols.LeftArrow) ∷ pieces.Part places.Outside kinds.Event ∷ []
rule forms.Dotted = pieces.Sign (signs.Symbol symbols.Dot) ∷ pieces.Part places.Outside kinds.Value ∷ []
rule forms.Output = pieces.Sign (signs.Symbol symbols.Exclamation) ∷ pieces.Part places.Outside kinds.Value ∷ []
rule forms.Input = pieces.Sign (signs.Symbol symbols.Question) ∷ pieces.Name ∷ []
rule forms.RestrictedInput = pieces.Sign (signs.Symbol symbols.Question) ∷ pieces.Name ∷ pieces.Sign (signs.Symbol symbols.Colon) ∷ pieces.Part places.Outside (kinds.Atom fields.None) ∷ []
rule forms.NegativeNumber = pieces.Sign (signs.Symbol symbols.Minus) ∷ pieces.Part places.Outside kinds.Number ∷ []
rule forms.Names = pieces.Name ∷ pieces.Others places.Outside kinds.Called (starts.Behind symbols.Comma) ∷ []
rule forms.Constants = pieces.Name ∷ pieces.Others places.Outside kinds.Called (starts.Behind symbols.Bar) ∷ []
rule forms.FieldSets = pieces.Part places.Outside (kinds.Atom fields.Undotted) ∷ pieces.Others places.Outside (kinds.Atom fields.Undotted) starts.Dot ∷ []
rule forms.Channels = pieces.Sign (signs.Keyword keywords.Channel) ∷ pieces.Part places.Outside kinds.Names ∷ []
rule forms.ChannelsWithFields = pieces.Sign (signs.Keyword keywords.Channel) ∷ pieces.Part places.Outside kinds.Names ∷ pieces.Sign (signs.Symbol symbols.Colon) ∷ pieces.Part places.Outside kinds.FieldSets ∷ []
rule forms.Datatype = pieces.Sign (signs.Keyword keywords.Datatype) ∷ pieces.Name ∷ pieces.Sign (signs.Symbol symbols.Definition) ∷ pieces.Part places.Outside kinds.Constants ∷ []
rule forms.Definition = pieces.Name ∷ pieces.Sign (signs.Symbol symbols.Definition) ∷ pieces.Part places.Outside (kinds.Phrase 16) ∷ []
rule forms.DefinitionWithParameters = pieces.Name ∷ pieces.Open symbols.OpenParenthesis ∷ pieces.Part places.Inside kinds.Names ∷ pieces.Sign (signs.Symbol symbols.CloseParenthesis) ∷ pieces.Sign (signs.Symbol symbols.Definition) ∷ pieces.Part places.Outside (kinds.Phrase 16) ∷ []
rule forms.Script = pieces.Others places.Outside kinds.Declaration starts.Any ∷ []
rule (forms.Operation op) = pieces.Part places.Outside (kinds.Left op) ∷ opening op ∷ behind op

-- how loosely a form binds; what is no phrase is looser than all phrases
unfoldable pub form_level : Form → ℕ
form_level (forms.Operation op) = level op
form_level forms.Negation = 2
form_level forms.Not = 6
form_level forms.Generators = 99
form_level forms.Generator = 99
form_level forms.Pair = 99
form_level forms.Dotted = 99
form_level forms.Output = 99
form_level forms.Input = 99
form_level forms.RestrictedInput = 99
form_level forms.NegativeNumber = 99
form_level forms.Names = 99
form_level forms.Constants = 99
form_level forms.FieldSets = 99
form_level forms.Channels = 99
form_level forms.ChannelsWithFields = 99
form_level forms.Datatype = 99
form_level forms.Definition = 99
form_level forms.DefinitionWithParameters = 99
form_level forms.Script = 99
form_level f = 0

-- whether a form is higher than its parts
unfoldable pub is_heavy : Form → Bool
is_heavy forms.Brackets = false
is_heavy forms.Generators = false
is_heavy forms.Generator = false
is_heavy forms.Pair = false
is_heavy forms.Dotted = false
is_heavy forms.Output = false
is_heavy forms.RestrictedInput = false
is_heavy forms.NegativeNumber = false
is_heavy forms.Names = false
is_heavy forms.Constants = false
is_heavy forms.FieldSets = false
is_heavy forms.Channels = false
is_heavy forms.ChannelsWithFields = false
is_heavy forms.Datatype = false
is_heavy forms.Definition = false
is_heavy forms.DefinitionWithParameters = false
is_heavy forms.Script = false
is_heavy f = true

-- how a form ends: with a token of its own, with its last part, or with a phrase that takes all that can follow
unfoldable pub ending : Form → Ending
ending forms.If = endings.Far
ending forms.ReplicatedExternal = endings.Far
ending forms.ReplicatedInternal = endings.Far
ending forms.ReplicatedInterleaving = endings.Far
ending (forms.Operation operators.Renaming) = endings.Closed
ending (forms.Operation op) = endings.Last
ending forms.Event = endings.Last
ending forms.Negation = endings.Last
ending forms.Not = endings.Last
ending forms.Generators = endings.Last
ending forms.Generator = endings.Last
ending forms.Pair = endings.Last
ending forms.Dotted = endings.Last
ending forms.Output = endings.Last
ending forms.RestrictedInput = endings.Last
ending forms.Names = endings.Last
ending forms.Constants = endings.Last
ending forms.FieldSets = endings.Last
ending forms.Channels = endings.Last
ending forms.ChannelsWithFields = endings.Last
ending forms.Datatype = endings.Last
ending forms.Definition = endings.Last
ending forms.DefinitionWithParameters = endings.Last
ending forms.Script = endings.Last
ending f = endings.Closed
