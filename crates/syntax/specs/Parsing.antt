-- Reading from left to right.
use Rattle.std.specs.Prelude.{ℕ, zero, suc, List, [], ◌∷◌, ◌++◌, length, Bool, true, false, not, ◌||◌, ◌&&◌, Option, Some, None, nat_lt, nat_le, if◌then◌else◌}
use denote.Enum.Bare.{sameb}
use Rattle.tokens.specs.Lexeme.{Lexeme, Name, Number, Kept, Sign}
use Rattle.tokens.specs.declared.symbol.Symbol.{Symbol}
use Rattle.tokens.specs.declared.symbol.Symbol.TheVariants as symbols
use Rattle.tokens.specs.declared.keyword.Keyword.{Keyword}
use Rattle.tokens.specs.declared.keyword.Keyword.TheVariants as keywords
use Rattle.tokens.specs.contracts.symbol.Symbol.{the_type as symbol_type}
use Rattle.tokens.specs.contracts.keyword.Keyword.{the_type as keyword_type}
use Rattle.syntax.specs.declared.operator.Operator.{Operator}
use Rattle.syntax.specs.declared.piece.Sign.{Sign as Signs}
use Rattle.syntax.specs.declared.piece.Sign.TheVariants as signs
use Rattle.syntax.specs.declared.piece.Fields.{Fields}
use Rattle.syntax.specs.declared.piece.Fields.TheVariants as fields
use Rattle.syntax.specs.declared.piece.Kind.{Kind}
use Rattle.syntax.specs.declared.piece.Kind.TheVariants as kinds
use Rattle.syntax.specs.declared.piece.Place.{Place}
use Rattle.syntax.specs.declared.piece.Place.TheVariants as places
use Rattle.syntax.specs.declared.piece.Start.{Start}
use Rattle.syntax.specs.declared.piece.Start.TheVariants as starts
use Rattle.syntax.specs.declared.piece.Piece.{Piece}
use Rattle.syntax.specs.declared.piece.Piece.TheVariants as pieces
use Rattle.syntax.specs.declared.form.Form.{Form}
use Rattle.syntax.specs.declared.form.Form.TheVariants as forms
use Rattle.syntax.specs.Operators.{level, opens, behind, operator_of_symbol, operator_of_keyword}
use Rattle.syntax.specs.Rules.{rule, form_level, is_heavy}
use Rattle.syntax.specs.Grammar.{Syntax, Called, Numeral, Node, Syntaxes, NoSyntax, MoreSyntax, height_of, is_open, left_fits}

infixl 10 ◌>>=◌
abbrev pub ◌>>=◌ : {A B : Type 0} → Option A → (A → Option B) → Option B
(Some x) >>= f = f x
None >>= f = None

-- a part and the tokens after it
abbrev pub Found : Type 0
Found = Syntax × List Lexeme

-- parts and the tokens after them
abbrev pub Row : Type 0
Row = List Syntax × List Lexeme

abbrev pub syntaxes : List Syntax → Syntaxes
syntaxes [] = NoSyntax
syntaxes (t ∷ ts) = MoreSyntax t (syntaxes ts)

-- ---- tokens

unfoldable pub is_sign : Signs → Lexeme → Bool
is_sign (signs.Symbol s) (Sign t) = sameb symbol_type t s
is_sign (signs.Keyword k) (Kept j) = sameb keyword_type j k
is_sign s x = false

-- after a sign that must stand first
unfoldable pub after : Signs → List Lexeme → Option (List Lexeme)
after s (x ∷ rest) = if is_sign s x then Some rest else None
after s [] = None

unfoldable pub name_at : List Lexeme → Option Found
name_at (Name n ∷ rest) = Some (Called n, rest)
name_at _ = None

unfoldable pub number_at : List Lexeme → Option Found
number_at (Number n ∷ rest) = Some (Numeral n, rest)
number_at _ = None

-- a field of a name begins there
unfoldable pub begins_field : Fields → List Lexeme → Bool
begins_field fields.Any (Sign symbols.Dot ∷ rest) = true
begins_field fields.Any (Sign symbols.Exclamation ∷ rest) = true
begins_field fields.Any (Sign symbols.Question ∷ rest) = true
begins_field fields.Undotted (Sign symbols.Exclamation ∷ rest) = true
begins_field fields.Undotted (Sign symbols.Question ∷ rest) = true
begins_field m toks = false

-- ---- which form stands first

unfoldable pub keyword_form : Keyword → Option Form
keyword_form keywords.Stop = Some forms.Stop
keyword_form keywords.Skip = Some forms.Skip
keyword_form keywords.Events = Some forms.Events
keyword_form keywords.True = Some forms.True
keyword_form keywords.False = Some forms.False
keyword_form keywords.Union = Some forms.Union
keyword_form keywords.Inter = Some forms.Intersection
keyword_form keywords.Diff = Some forms.Difference
keyword_form keywords.If = Some forms.If
keyword_form keywords.Not = Some forms.Not
keyword_form k = None

unfoldable pub named_form : List Lexeme → Form
named_form (Sign symbols.OpenParenthesis ∷ rest) = forms.Call
named_form toks = forms.Event

unfoldable pub brace_form : List Lexeme → Form
brace_form (Sign symbols.CloseBrace ∷ rest) = forms.EmptySet
brace_form toks = forms.Set

unfoldable pub events_form : List Lexeme → Form
events_form (Sign symbols.CloseEvents ∷ rest) = forms.NoProductions
events_form toks = forms.Productions

unfoldable pub symbol_form : Symbol → List Lexeme → Option Form
symbol_form symbols.OpenParenthesis rest = Some forms.Brackets
symbol_form symbols.OpenBrace rest = Some (brace_form rest)
symbol_form symbols.OpenEvents rest = Some (events_form rest)
symbol_form symbols.Minus rest = Some forms.Negation
symbol_form symbols.ExternalChoice rest = Some forms.ReplicatedExternal
symbol_form symbols.InternalChoice rest = Some forms.ReplicatedInternal
symbol_form symbols.Interleaving rest = Some forms.ReplicatedInterleaving
symbol_form s rest = None

unfoldable pub phrase_form : List Lexeme → Option Form
phrase_form (Name n ∷ rest) = Some (named_form rest)
phrase_form (Kept k ∷ rest) = keyword_form k
phrase_form (Sign s ∷ rest) = symbol_form s rest
phrase_form _ = None

unfoldable pub value_form : List Lexeme → Option Form
value_form (Name n ∷ rest) = Some forms.Event
value_form (Sign symbols.Minus ∷ rest) = Some forms.NegativeNumber
value_form (Sign symbols.OpenParenthesis ∷ rest) = Some forms.Brackets
value_form _ = None

unfoldable pub input_form : List Lexeme → Form
input_form (Name n ∷ Sign symbols.Colon ∷ rest) = forms.RestrictedInput
input_form toks = forms.Input

unfoldable pub field_form : List Lexeme → Option Form
field_form (Sign symbols.Dot ∷ rest) = Some forms.Dotted
field_form (Sign symbols.Exclamation ∷ rest) = Some forms.Output
field_form (Sign symbols.Question ∷ rest) = Some (input_form rest)
field_form _ = None

unfoldable pub defined_form : List Lexeme → Form
defined_form (Sign symbols.OpenParenthesis ∷ rest) = forms.DefinitionWithParameters
defined_form toks = forms.Definition

unfoldable pub declaration_form : List Lexeme → Option Form
declaration_form (Kept keywords.Channel ∷ rest) = Some forms.Channels
declaration_form (Kept keywords.Datatype ∷ rest) = Some forms.Datatype
declaration_form (Name n ∷ rest) = Some (defined_form rest)
declaration_form _ = None

unfoldable pub tight : ℕ → Form → Option Form
tight l f = if nat_le (form_level f) l then Some f else None

unfoldable pub form_at : Kind → List Lexeme → Option Form
form_at (kinds.Phrase l) toks = phrase_form toks >>= tight l
form_at (kinds.Atom m) toks = phrase_form toks >>= tight 0
form_at kinds.Event toks = Some forms.Event
form_at kinds.Value toks = value_form toks
form_at kinds.Number toks = None
form_at kinds.Field toks = field_form toks
form_at kinds.Generator toks = Some forms.Generator
form_at kinds.Generators toks = Some forms.Generators
form_at kinds.Pair toks = Some forms.Pair
form_at (kinds.Left op) toks = None
form_at kinds.Called toks = None
form_at kinds.Names toks = Some forms.Names
form_at kinds.Constants toks = Some forms.Constants
form_at kinds.FieldSets toks = Some forms.FieldSets
form_at kinds.Declaration toks = declaration_form toks
form_at kinds.Script toks = Some forms.Script

unfoldable pub may_be_number : Kind → Bool
may_be_number (kinds.Phrase l) = true
may_be_number (kinds.Atom m) = true
may_be_number kinds.Value = true
may_be_number kinds.Number = true
may_be_number k = false

unfoldable pub is_alone : Kind → Bool
is_alone kinds.Called = true
is_alone k = false

unfoldable pub numeral_at : Kind → List Lexeme → Option Found
numeral_at k toks = if may_be_number k then number_at toks else None

unfoldable pub fields_of : Kind → Fields
fields_of (kinds.Atom m) = m
fields_of kinds.Value = fields.None
fields_of k = fields.Any

-- ---- rules

-- what the forms of sets with members have in common, and those of channels
unfoldable pub front : Form → List Piece
front forms.Set = pieces.Open symbols.OpenBrace ∷ pieces.Part places.Inside (kinds.Phrase 16) ∷ []
front forms.Range = pieces.Open symbols.OpenBrace ∷ pieces.Part places.Inside (kinds.Phrase 16) ∷ []
front forms.Channels = pieces.Sign (signs.Keyword keywords.Channel) ∷ pieces.Part places.Outside kinds.Names ∷ []
front forms.ChannelsWithFields = pieces.Sign (signs.Keyword keywords.Channel) ∷ pieces.Part places.Outside kinds.Names ∷ []
front f = []

-- the rest of a rule, where a name takes such fields
unfoldable pub back : Fields → Form → List Piece
back m forms.Event = pieces.Name ∷ pieces.Others places.Outside kinds.Field (starts.Field m) ∷ []
back m forms.Set = pieces.Others places.Inside (kinds.Phrase 16) (starts.Behind symbols.Comma) ∷ pieces.Sign (signs.Symbol symbols.CloseBrace) ∷ []
back m forms.Range = pieces.Sign (signs.Symbol symbols.Range) ∷ pieces.Part places.Inside (kinds.Phrase 16) ∷ pieces.Sign (signs.Symbol symbols.CloseBrace) ∷ []
back m forms.Channels = []
back m forms.ChannelsWithFields = pieces.Sign (signs.Symbol symbols.Colon) ∷ pieces.Part places.Outside kinds.FieldSets ∷ []
back m (forms.Operation op) = []
back m f = rule f

-- which set it is, by what follows its first member, and which declaration of channels
unfoldable pub turned : Form → List Lexeme → Form
turned forms.Set (Sign symbols.Range ∷ rest) = forms.Range
turned forms.Channels (Sign symbols.Colon ∷ rest) = forms.ChannelsWithFields
turned f toks = f

-- ---- parts

-- how a part is read in its place
abbrev pub Reader : Type 0
Reader = Place → Kind → List Lexeme → Option Found

abbrev pub last_is_open : List Syntax → Bool
last_is_open [] = false
last_is_open (t ∷ []) = is_open t
last_is_open (t ∷ u ∷ ts) = last_is_open (u ∷ ts)

-- where one more part begins, if there is one
unfoldable pub another : Start → Bool → List Lexeme → Option (List Lexeme)
another (starts.Behind s) open_end toks = after (signs.Symbol s) toks
another starts.Dot open_end toks = if open_end then None else after (signs.Symbol symbols.Dot) toks
another starts.Any open_end [] = None
another starts.Any open_end (x ∷ toks) = Some (x ∷ toks)
another (starts.Field m) open_end toks = if not open_end && begins_field m toks then Some toks else None

abbrev pub others_on : (List Lexeme → Option Found) → (List Syntax → List Lexeme → Option Row) → List Syntax → List Lexeme → Option (List Lexeme) → Option Row
others_on part go parts toks None = Some (parts, toks)
others_on part go parts toks (Some begin) = part begin >>= λ x. go (parts ++ x.0 ∷ []) x.1

-- further parts; the number bounds how many
unfoldable pub others : (List Lexeme → Option Found) → Start → ℕ → List Syntax → List Lexeme → Option Row
others part start zero parts toks = Some (parts, toks)
others part start (suc n) parts toks = others_on part (others part start n) parts toks (another start (last_is_open parts) toks)

abbrev pub put : List Syntax → Found → Option Row
put parts x = Some (parts ++ x.0 ∷ [], x.1)

abbrev pub keep : List Syntax → List Lexeme → Option Row
keep parts toks = Some (parts, toks)

-- a piece of a rule; the flag says whether a bracket may be opened
unfoldable pub step : Reader → Bool → Piece → List Syntax → List Lexeme → Option Row
step read opening (pieces.Sign s) parts toks = after s toks >>= keep parts
step read opening (pieces.Open s) parts toks = if opening then (after (signs.Symbol s) toks >>= keep parts) else None
step read opening pieces.Name parts toks = name_at toks >>= put parts
step read opening (pieces.Part place kind) parts toks = read place kind toks >>= put parts
step read opening (pieces.Others place kind start) parts toks = others (read place kind) start (length toks) parts toks

unfoldable pub row : Reader → Bool → List Piece → List Syntax → List Lexeme → Option Row
row read opening [] parts toks = Some (parts, toks)
row read opening (p ∷ ps) parts toks = step read opening p parts toks >>= λ y. row read opening ps y.0 y.1

abbrev pub node_of : Form → Row → Option Found
node_of f y = Some (Node f (syntaxes y.0), y.1)

abbrev pub node_on : Reader → Bool → Fields → Form → Row → Option Found
node_on read opening m f y = row read opening (back m f) y.0 y.1 >>= node_of f

unfoldable pub node : Reader → Bool → Fields → Form → List Lexeme → Option Found
node read opening m f toks = row read opening (front f) [] toks >>= λ y. node_on read opening m (turned f y.1) y

-- ---- operators

unfoldable pub operator_of : Lexeme → Option Operator
operator_of (Sign s) = operator_of_symbol s
operator_of (Kept k) = operator_of_keyword k
operator_of _ = None

-- the operator that stands first
unfoldable pub operator_at : List Lexeme → Option (Operator × List Lexeme)
operator_at (x ∷ rest) = operator_of x >>= λ op. Some (op, rest)
operator_at [] = None

-- the operator that stands first, if it may go on from this part at this level
unfoldable pub next_operator : ℕ → Syntax → List Lexeme → Option (Operator × List Lexeme)
next_operator l left toks = operator_at toks >>= λ x. if nat_le (level x.0) l && left_fits x.0 left then Some x else None

-- a part and what comes after an operator, as one phrase
unfoldable pub grown : Reader → Bool → Operator → Syntax → List Lexeme → Option Found
grown read opening op left toks = row read opening (behind op) (left ∷ []) toks >>= node_of (forms.Operation op)

-- an operator may stand where no bracket may be opened only if it begins with none
unfoldable pub may_begin : Bool → Operator → Bool
may_begin opening op = opening || not (opens op)

abbrev pub climb_on : Reader → Bool → (Syntax → List Lexeme → Option Found) → ℕ → Syntax → List Lexeme → Option (Operator × List Lexeme) → Option Found
climb_on read opening go room left toks None = Some (left, toks)
climb_on read opening go room left toks (Some x) =
    if nat_lt (height_of left) room then (if may_begin opening x.0 then (grown read opening x.0 left x.1 >>= λ y. go y.0 y.1) else None) else None

unfoldable pub climb : Reader → Bool → ℕ → ℕ → ℕ → Syntax → List Lexeme → Option Found
climb read opening room l zero left toks = climb_on read opening (λ p t. None) 0 left toks (next_operator l left toks)
climb read opening room l (suc turns) left toks = climb_on read opening (climb read opening room l turns) room left toks (next_operator l left toks)

-- ---- a part of each kind

abbrev pub pick : Reader → Reader → Bool → Reader
pick heavy light true = heavy
pick heavy light false = light

abbrev pub operand_on : Reader → Reader → Bool → Kind → List Lexeme → Option Found → Option Found
operand_on heavy light opening k toks (Some x) = Some x
operand_on heavy light opening k toks None = form_at k toks >>= λ f. node (pick heavy light (is_heavy f)) opening (fields_of k) f toks

-- the first operand: the parts of a heavy form and of a light one are read differently
unfoldable pub operand : Reader → Reader → Bool → Kind → List Lexeme → Option Found
operand heavy light opening k toks = if is_alone k then name_at toks else operand_on heavy light opening k toks (numeral_at k toks)

-- after the first operand of a phrase
unfoldable pub go_on : Reader → Bool → ℕ → Kind → Found → Option Found
go_on read opening room (kinds.Phrase l) x = climb read opening room l room x.0 x.1
go_on read opening room k x = Some x

unfoldable pub read_in : Reader → Reader → Bool → ℕ → Kind → List Lexeme → Option Found
read_in heavy light opening room k toks = operand heavy light opening k toks >>= go_on heavy opening room k

-- how parts outside brackets are read, and those in brackets
abbrev pub at : (Kind → List Lexeme → Option Found) → (Kind → List Lexeme → Option Found) → Reader
at out inn places.Outside = out
at out inn places.Inside = inn

-- the parts of a heavy form have one less of the room, those of a light one have one less of the layers; in brackets,
-- there is one bracket less
unfoldable pub in_layers : (ℕ → Kind → List Lexeme → Option Found) → Bool → (Kind → List Lexeme → Option Found) → ℕ → ℕ → Kind → List Lexeme → Option Found
in_layers inner opening lower room zero k toks = None
in_layers inner opening lower room (suc layers) k toks =
    read_in (at lower (inner room)) (at (in_layers inner opening lower room layers) (inner (suc room))) opening (suc room) k toks

unfoldable pub in_rooms : (ℕ → Kind → List Lexeme → Option Found) → Bool → ℕ → ℕ → Kind → List Lexeme → Option Found
in_rooms inner opening zero layers k toks = None
in_rooms inner opening (suc room) layers k toks = in_layers inner opening (in_rooms inner opening room 4) room layers k toks

-- a part of this kind, with so many brackets open at most, so high at most, and with so many layers of parts of one height
unfoldable pub reads : ℕ → ℕ → ℕ → Kind → List Lexeme → Option Found
reads zero room layers k toks = in_rooms (λ r k toks. None) false room layers k toks
reads (suc brackets) room layers k toks = in_rooms (λ r. reads brackets r 4) true room layers k toks

-- what stands in brackets
unfoldable pub inside : ℕ → ℕ → Kind → List Lexeme → Option Found
inside zero room k toks = None
inside (suc brackets) room k toks = reads brackets room 4 k toks

unfoldable pub may_open : ℕ → Bool
may_open zero = false
may_open (suc brackets) = true

-- the parts of a form, by their limits
abbrev pub reader : ℕ → ℕ → ℕ → Reader
reader brackets room layers = at (reads brackets room layers) (inside brackets room)

-- nothing comes after it
unfoldable pub ended : Found → Option Syntax
ended (t, []) = Some t
ended (t, x ∷ rest) = None

-- a part of this kind that is all of the tokens
unfoldable pub whole : Kind → List Lexeme → Option Syntax
whole k toks = reads 250 250 4 k toks >>= ended
