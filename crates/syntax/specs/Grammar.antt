-- What a part of a script is: its tree, the tokens that spell it, and which trees fit the grammar.
use Rattle.std.specs.Prelude.{◌≡◌, ℕ, suc, ◌+◌, List, [], ◌∷◌, ◌++◌, Bool, true, false, not, ◌&&◌, ◌||◌, nat_le, max, if◌then◌else◌}
use Rattle.tokens.specs.declared.symbol.Symbol.TheVariants as symbols
use Rattle.tokens.specs.Lexeme.{Lexeme, Name, Number, Kept, Sign}
use Rattle.syntax.specs.declared.operator.Operator.{Operator}
use Rattle.syntax.specs.declared.operator.Operator.TheVariants as operators
use Rattle.syntax.specs.declared.piece.Sign.{Sign as Signs}
use Rattle.syntax.specs.declared.piece.Sign.TheVariants as signs
use Rattle.syntax.specs.declared.piece.Fields.{Fields}
use Rattle.syntax.specs.declared.piece.Fields.TheVariants as fields
use Rattle.syntax.specs.declared.piece.Kind.{Kind}
use Rattle.syntax.specs.declared.piece.Kind.TheVariants as kinds
use Rattle.syntax.specs.declared.piece.Place.{Place}
use Rattle.syntax.specs.declared.piece.Place.TheVariants as places
use Rattle.syntax.specs.declared.piece.Start.{Start}
use Rattle.syntax.specs.declared.piece.Start.TheVariants as starts
use Rattle.syntax.specs.declared.piece.Piece.{Piece}
use Rattle.syntax.specs.declared.piece.Piece.TheVariants as pieces
use Rattle.syntax.specs.declared.form.Form.{Form}
use Rattle.syntax.specs.declared.form.Form.TheVariants as forms
use Rattle.syntax.specs.declared.form.Ending.{Ending}
use Rattle.syntax.specs.declared.form.Ending.TheVariants as endings
use Rattle.syntax.specs.Operators.{left_limit}
use Rattle.syntax.specs.Rules.{rule, form_level, is_heavy, ending}

-- a part of a script as it is written: a name, a number, or a form with its parts
mutual
  pub data Syntax : Type 0 where
    Called : List ℕ → Syntax
    Numeral : ℕ → Syntax
    Node : Form → Syntaxes → Syntax

  pub data Syntaxes : Type 0 where
    NoSyntax : Syntaxes
    MoreSyntax : Syntax → Syntaxes → Syntaxes

-- ---- the tokens of a part

abbrev pub sign_lexeme : Signs → Lexeme
sign_lexeme (signs.Symbol s) = Sign s
sign_lexeme (signs.Keyword k) = Kept k

-- what stands before one more part
abbrev pub before : Start → List Lexeme
before (starts.Behind s) = Sign s ∷ []
before starts.Dot = Sign symbols.Dot ∷ []
before (starts.Field m) = []
before starts.Any = []

-- a rule's tokens where there are no more parts
unfoldable pub spell_signs : List Piece → List Lexeme
spell_signs [] = []
spell_signs (pieces.Sign s ∷ ps) = sign_lexeme s ∷ spell_signs ps
spell_signs (pieces.Open s ∷ ps) = Sign s ∷ spell_signs ps
spell_signs (pieces.Name ∷ ps) = spell_signs ps
spell_signs (pieces.Part place kind ∷ ps) = spell_signs ps
spell_signs (pieces.Others place kind start ∷ ps) = spell_signs ps

-- a rule's tokens where the first part has these tokens, and the others have what they have after it
unfoldable pub spell_part : List Lexeme → (List Piece → List Lexeme) → List Piece → List Lexeme
spell_part part others [] = []
spell_part part others (pieces.Sign s ∷ ps) = sign_lexeme s ∷ spell_part part others ps
spell_part part others (pieces.Open s ∷ ps) = Sign s ∷ spell_part part others ps
spell_part part others (pieces.Name ∷ ps) = part ++ others ps
spell_part part others (pieces.Part place kind ∷ ps) = part ++ others ps
spell_part part others (pieces.Others place kind start ∷ ps) = before start ++ (part ++ others (pieces.Others place kind start ∷ ps))

unfoldable mutual
  pub flat : Syntax → List Lexeme
  flat (Called n) = Name n ∷ []
  flat (Numeral n) = Number n ∷ []
  flat (Node f ts) = spell ts (rule f)

  pub spell : Syntaxes → List Piece → List Lexeme
  spell NoSyntax ps = spell_signs ps
  spell (MoreSyntax t ts) ps = spell_part (flat t) (spell ts) ps

-- ---- heights and brackets

abbrev mutual
  -- the height, to which brackets, fields, generators and pairs add nothing
  pub height_of : Syntax → ℕ
  height_of (Called n) = 0
  height_of (Numeral n) = 1
  height_of (Node f ts) = (if is_heavy f then 1 else 0) + highest ts

  pub highest : Syntaxes → ℕ
  highest NoSyntax = 0
  highest (MoreSyntax t ts) = max (height_of t) (highest ts)

abbrev pub opens_any : List Piece → Bool
opens_any [] = false
opens_any (pieces.Open s ∷ ps) = true
opens_any (p ∷ ps) = opens_any ps

abbrev pub within : Place → ℕ → ℕ
within places.Outside n = n
within places.Inside n = suc n

-- how many brackets are open at once where so many are in the first part
unfoldable pub nests_part : ℕ → (List Piece → ℕ) → List Piece → ℕ
nests_part n others [] = 0
nests_part n others (pieces.Sign s ∷ ps) = nests_part n others ps
nests_part n others (pieces.Open s ∷ ps) = nests_part n others ps
nests_part n others (pieces.Name ∷ ps) = others ps
nests_part n others (pieces.Part place kind ∷ ps) = max (within place n) (others ps)
nests_part n others (pieces.Others place kind start ∷ ps) = max (within place n) (others (pieces.Others place kind start ∷ ps))

unfoldable mutual
  -- how many brackets are open at once
  pub nesting : Syntax → ℕ
  nesting (Called n) = 0
  nesting (Numeral n) = 0
  nesting (Node f ts) = nests ts (rule f)

  pub nests : Syntaxes → List Piece → ℕ
  nests NoSyntax ps = if opens_any ps then 1 else 0
  nests (MoreSyntax t ts) ps = nests_part (nesting t) (nests ts) ps

-- ---- what may follow a part

abbrev pub ends_open : Ending → Bool → Bool
ends_open endings.Closed last = false
ends_open endings.Last last = last
ends_open endings.Far last = true

abbrev pub is_last : Syntaxes → Bool
is_last NoSyntax = true
is_last (MoreSyntax t ts) = false

unfoldable mutual
  -- an `if` or a replicated form stands last in it, outside brackets: it takes all that can follow
  pub is_open : Syntax → Bool
  is_open (Called n) = false
  is_open (Numeral n) = false
  is_open (Node f ts) = ends_open (ending f) (last_open ts)

  pub last_open : Syntaxes → Bool
  last_open NoSyntax = false
  last_open (MoreSyntax t ts) = if is_last ts then is_open t else last_open ts

-- ---- kinds

unfoldable pub level_in : Syntax → ℕ
level_in (Called n) = 99
level_in (Numeral n) = 0
level_in (Node f ts) = form_level f

unfoldable pub is_event : Syntax → Bool
is_event (Node forms.Event ts) = true
is_event t = false

unfoldable pub is_value : Syntax → Bool
is_value (Numeral n) = true
is_value (Node forms.NegativeNumber ts) = true
is_value (Node forms.Brackets ts) = true
is_value (Node forms.Event (MoreSyntax n NoSyntax)) = true
is_value t = false

unfoldable pub is_field : Syntax → Bool
is_field (Node forms.Dotted ts) = true
is_field (Node forms.Output ts) = true
is_field (Node forms.Input ts) = true
is_field (Node forms.RestrictedInput ts) = true
is_field t = false

unfoldable pub is_generator : Syntax → Bool
is_generator (Node forms.Generator ts) = true
is_generator t = false

unfoldable pub is_generators : Syntax → Bool
is_generators (Node forms.Generators ts) = true
is_generators t = false

unfoldable pub is_pair : Syntax → Bool
is_pair (Node forms.Pair ts) = true
is_pair t = false

unfoldable pub is_called : Syntax → Bool
is_called (Called n) = true
is_called t = false

unfoldable pub is_numeral : Syntax → Bool
is_numeral (Numeral n) = true
is_numeral t = false

unfoldable pub is_names : Syntax → Bool
is_names (Node forms.Names ts) = true
is_names t = false

unfoldable pub is_constants : Syntax → Bool
is_constants (Node forms.Constants ts) = true
is_constants t = false

unfoldable pub is_field_sets : Syntax → Bool
is_field_sets (Node forms.FieldSets ts) = true
is_field_sets t = false

unfoldable pub is_declaration : Syntax → Bool
is_declaration (Node forms.Channels ts) = true
is_declaration (Node forms.ChannelsWithFields ts) = true
is_declaration (Node forms.Datatype ts) = true
is_declaration (Node forms.Definition ts) = true
is_declaration (Node forms.DefinitionWithParameters ts) = true
is_declaration t = false

unfoldable pub is_script : Syntax → Bool
is_script (Node forms.Script ts) = true
is_script t = false

-- a name with such fields may take this one
unfoldable pub takes_field : Fields → Syntax → Bool
takes_field fields.Any t = true
takes_field fields.None t = false
takes_field fields.Undotted (Node forms.Dotted ts) = false
takes_field fields.Undotted t = true

unfoldable pub takes_fields : Fields → Syntaxes → Bool
takes_fields m NoSyntax = true
takes_fields m (MoreSyntax t ts) = takes_field m t && takes_fields m ts

-- if it is a name with fields, they are such fields
unfoldable pub takes : Fields → Syntax → Bool
takes m (Node forms.Event (MoreSyntax n ts)) = takes_fields m ts
takes m t = true

-- what more is asked on the left of an operator than its level
unfoldable pub wants : Operator → Syntax → Bool
wants operators.Prefix t = is_event t
wants op t = true

unfoldable pub left_fits : Operator → Syntax → Bool
left_fits op t = nat_le (level_in t) (left_limit op) && (wants op t && not (is_open t))

unfoldable pub is : Kind → Syntax → Bool
is (kinds.Phrase l) t = nat_le (level_in t) l
is (kinds.Atom m) t = nat_le (level_in t) 0 && takes m t
is kinds.Event t = is_event t
is kinds.Value t = is_value t
is kinds.Number t = is_numeral t
is kinds.Field t = is_field t
is kinds.Generator t = is_generator t
is kinds.Generators t = is_generators t
is kinds.Pair t = is_pair t
is (kinds.Left op) t = left_fits op t
is kinds.Called t = is_called t
is kinds.Names t = is_names t
is kinds.Constants t = is_constants t
is kinds.FieldSets t = is_field_sets t
is kinds.Declaration t = is_declaration t
is kinds.Script t = is_script t

-- ---- which trees fit

-- a rule asks for no more parts
abbrev pub needs_none : List Piece → Bool
needs_none [] = true
needs_none (pieces.Name ∷ ps) = false
needs_none (pieces.Part place kind ∷ ps) = false
needs_none (p ∷ ps) = needs_none ps

-- the next part is what the rule asks for, and the others are after it
abbrev pub FitsPart : Syntax → (List Piece → Type 0) → List Piece → Type 0
FitsPart t others [] = ⊥
FitsPart t others (pieces.Sign s ∷ ps) = FitsPart t others ps
FitsPart t others (pieces.Open s ∷ ps) = FitsPart t others ps
FitsPart t others (pieces.Name ∷ ps) = (is_called t ≡ true) × others ps
FitsPart t others (pieces.Part place kind ∷ ps) = (is kind t ≡ true) × others ps
FitsPart t others (pieces.Others place kind start ∷ ps) = (is kind t ≡ true) × others (pieces.Others place kind start ∷ ps)

-- of the fields of a name, and of the sets of a channel's fields, only the last may be open
unfoldable pub shut : Syntaxes → Bool
shut NoSyntax = true
shut (MoreSyntax t ts) = (is_last ts || not (is_open t)) && shut ts

unfoldable pub may_stand : Form → Syntaxes → Bool
may_stand forms.Event ts = shut ts
may_stand forms.FieldSets ts = shut ts
may_stand f ts = true

abbrev mutual
  -- each part is what its form's rule asks for
  pub Fits : Syntax → Type 0
  Fits (Called n) = Unit {0}
  Fits (Numeral n) = Unit {0}
  Fits (Node f ts) = (may_stand f ts ≡ true) × FitAll ts (rule f)

  pub FitAll : Syntaxes → List Piece → Type 0
  FitAll NoSyntax ps = needs_none ps ≡ true
  FitAll (MoreSyntax t ts) ps = Fits t × FitsPart t (FitAll ts) ps
