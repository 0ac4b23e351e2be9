-- The token that a part begins with.
use Rattle.std.proofs.Common.{◌≡◌, ℕ, ◌<◌, ◌≤◌, List, ◌∷◌, ◌++◌, length, Bool, true, false, None, refl, sym, ap, subst, ◌∙◌, append_assoc, arith}
use Rattle.std.specs.Prelude.{nat_le}
use Rattle.std.proofs.lemmas.Bool.{leb-true, le-leb}
use Rattle.tokens.specs.Lexeme.{Lexeme, Name, Sign}
use Rattle.tokens.specs.declared.symbol.Symbol.{Symbol}
use Rattle.tokens.specs.declared.symbol.Symbol.TheVariants as symbols
use Rattle.syntax.specs.declared.operator.Operator.{Operator}
use Rattle.syntax.specs.declared.piece.Sign.{Sign as Signs}
use Rattle.syntax.specs.declared.piece.Sign.TheVariants as signs
use Rattle.syntax.specs.declared.piece.Fields.{Fields}
use Rattle.syntax.specs.declared.piece.Fields.TheVariants as fields
use Rattle.syntax.specs.declared.piece.Piece.{Piece}
use Rattle.syntax.specs.declared.piece.Piece.TheVariants as pieces
use Rattle.syntax.specs.declared.form.Form.{Form}
use Rattle.syntax.specs.declared.form.Form.TheVariants as forms
use Rattle.syntax.specs.Operators.{opening, behind, left_limit}
use Rattle.syntax.specs.Rules.{rule, form_level}
use Rattle.syntax.specs.Grammar.{Syntax, Called, Numeral, Node, Syntaxes, NoSyntax, MoreSyntax, sign_lexeme, flat, spell, spell_part, Fits, FitAll, is, is_called, is_field, is_declaration, takes_field, level_in, left_fits}
use Rattle.syntax.specs.Parsing.{begins_field, brace_form, number_at}
use Rattle.syntax.proofs.Sound.{spell_sign, spell_open}
use Rattle.syntax.proofs.Table.{operator_row}
use Rattle.syntax.proofs.CompleteBools.{false_true, both_true}
use Rattle.syntax.proofs.CompleteFollow.{calm, declares}

-- ---- the tokens of a rule, a piece at a time

pub fits_sign : (ts : Syntaxes) (s : Signs) (ps : List Piece) → FitAll ts (pieces.Sign s ∷ ps) → FitAll ts ps
fits_sign NoSyntax s ps h = h
fits_sign (MoreSyntax t ts) s ps h = h

pub fits_open : (ts : Syntaxes) (s : Symbol) (ps : List Piece) → FitAll ts (pieces.Open s ∷ ps) → FitAll ts ps
fits_open NoSyntax s ps h = h
fits_open (MoreSyntax t ts) s ps h = h

-- a rule that begins with a name
pub record Named (ts : Syntaxes) (ps : List Piece) : Type 0 where
  pub name : List ℕ
  pub others : Syntaxes
  pub parts : ts ≡ MoreSyntax (Called name) others
  pub fits : FitAll others ps

pub named : (ts : Syntaxes) (ps : List Piece) → FitAll ts (pieces.Name ∷ ps) → Named ts ps
unfolding is_called
named (MoreSyntax (Called n) ts) ps h = record { name = n; others = ts; parts = refl; fits = h.1.1 }
named (MoreSyntax (Numeral n) ts) ps h = absurd (false_true h.1.0)
named (MoreSyntax (Node f us) ts) ps h = absurd (false_true h.1.0)
named NoSyntax ps h = absurd cc

pub spelled_name : (ts : Syntaxes) (ps : List Piece) (w : Named ts ps) → spell ts (pieces.Name ∷ ps) ≡ Name w.name ∷ spell w.others ps
unfolding spell spell_part flat
spelled_name ts ps w = ap (λ (us : Syntaxes). spell us (pieces.Name ∷ ps)) w.parts

-- ---- what stands first

pub first_sign : (P : List Lexeme → Type 0) (ts : Syntaxes) (s : Signs) (ps : List Piece) (rest : List Lexeme) → P (sign_lexeme s ∷ (spell ts ps ++ rest)) → P (spell ts (pieces.Sign s ∷ ps) ++ rest)
first_sign P ts s ps rest h = subst P (ap (λ (xs : List Lexeme). xs ++ rest) (sym (spell_sign ts s ps))) h

pub first_open : (P : List Lexeme → Type 0) (ts : Syntaxes) (s : Symbol) (ps : List Piece) (rest : List Lexeme) → P (Sign s ∷ (spell ts ps ++ rest)) → P (spell ts (pieces.Open s ∷ ps) ++ rest)
first_open P ts s ps rest h = subst P (ap (λ (xs : List Lexeme). xs ++ rest) (sym (spell_open ts s ps))) h

pub first_name : (P : List Lexeme → Type 0) (ts : Syntaxes) (ps : List Piece) (rest : List Lexeme) (w : Named ts ps) → P (Name w.name ∷ (spell w.others ps ++ rest)) → P (spell ts (pieces.Name ∷ ps) ++ rest)
first_name P ts ps rest w h = subst P (ap (λ (xs : List Lexeme). xs ++ rest) (sym (spelled_name ts ps w))) h

some_sign : (ts : Syntaxes) (s : Signs) (ps : List Piece) → 0 < length (spell ts (pieces.Sign s ∷ ps))
some_sign ts s ps = subst (λ (xs : List Lexeme). 0 < length xs) (sym (spell_sign ts s ps)) (omega arith)

some_name : (ts : Syntaxes) (ps : List Piece) → FitAll ts (pieces.Name ∷ ps) → 0 < length (spell ts (pieces.Name ∷ ps))
some_name ts ps h = subst (λ (xs : List Lexeme). 0 < length xs) (sym (spelled_name ts ps (named ts ps h))) (omega arith)

-- ---- fields

pub record FieldFirst (m : Fields) (toks : List Lexeme) : Type 0 where
  pub begins : begins_field m toks ≡ true
  pub is_calm : calm toks ≡ true

dot_first : (m : Fields) (ts : Syntaxes) (rest : List Lexeme) → takes_field m (Node forms.Dotted ts) ≡ true → FieldFirst m (Sign symbols.Dot ∷ rest)
unfolding takes_field begins_field calm
dot_first fields.Any ts rest e = record { begins = refl; is_calm = refl }
dot_first fields.Undotted ts rest e = absurd cc
dot_first fields.None ts rest e = absurd cc

output_first : (m : Fields) (u : Syntax) (rest : List Lexeme) → takes_field m u ≡ true → FieldFirst m (Sign symbols.Exclamation ∷ rest)
unfolding takes_field begins_field calm
output_first fields.Any u rest e = record { begins = refl; is_calm = refl }
output_first fields.Undotted u rest e = record { begins = refl; is_calm = refl }
output_first fields.None u rest e = absurd cc

input_first : (m : Fields) (u : Syntax) (rest : List Lexeme) → takes_field m u ≡ true → FieldFirst m (Sign symbols.Question ∷ rest)
unfolding takes_field begins_field calm
input_first fields.Any u rest e = record { begins = refl; is_calm = refl }
input_first fields.Undotted u rest e = record { begins = refl; is_calm = refl }
input_first fields.None u rest e = absurd cc

pub field_first : (m : Fields) (u : Syntax) (rest : List Lexeme) → is_field u ≡ true → takes_field m u ≡ true → FieldFirst m (flat u ++ rest)
unfolding is_field flat rule
field_first m (Node forms.Dotted ts) rest k e = first_sign (FieldFirst m) ts _ _ rest (dot_first m ts _ e)
field_first m (Node forms.Output ts) rest k e = first_sign (FieldFirst m) ts _ _ rest (output_first m (Node forms.Output ts) _ e)
field_first m (Node forms.Input ts) rest k e = first_sign (FieldFirst m) ts _ _ rest (input_first m (Node forms.Input ts) _ e)
field_first m (Node forms.RestrictedInput ts) rest k e = first_sign (FieldFirst m) ts _ _ rest (input_first m (Node forms.RestrictedInput ts) _ e)
field_first m u rest k e = absurd (false_true k)

pub field_some : (u : Syntax) → is_field u ≡ true → 0 < length (flat u)
unfolding is_field flat rule
field_some (Node forms.Dotted ts) k = some_sign ts _ _
field_some (Node forms.Output ts) k = some_sign ts _ _
field_some (Node forms.Input ts) k = some_sign ts _ _
field_some (Node forms.RestrictedInput ts) k = some_sign ts _ _
field_some u k = absurd (false_true k)

-- ---- declarations

abbrev Declares : List Lexeme → Type 0
Declares toks = declares toks ≡ true

pub declaration_first : (u : Syntax) (rest : List Lexeme) → is_declaration u ≡ true → Fits u → declares (flat u ++ rest) ≡ true
unfolding is_declaration flat rule declares
declaration_first (Node forms.Channels ts) rest k h = first_sign Declares ts _ _ rest refl
declaration_first (Node forms.ChannelsWithFields ts) rest k h = first_sign Declares ts _ _ rest refl
declaration_first (Node forms.Datatype ts) rest k h = first_sign Declares ts _ _ rest refl
declaration_first (Node forms.Definition ts) rest k h = first_name Declares ts _ rest (named ts _ h.1) refl
declaration_first (Node forms.DefinitionWithParameters ts) rest k h = first_name Declares ts _ rest (named ts _ h.1) refl
declaration_first u rest k h = absurd (false_true k)

pub declaration_some : (u : Syntax) → is_declaration u ≡ true → Fits u → 0 < length (flat u)
unfolding is_declaration flat rule
declaration_some (Node forms.Channels ts) k h = some_sign ts _ _
declaration_some (Node forms.ChannelsWithFields ts) k h = some_sign ts _ _
declaration_some (Node forms.Datatype ts) k h = some_sign ts _ _
declaration_some (Node forms.Definition ts) k h = some_name ts _ h.1
declaration_some (Node forms.DefinitionWithParameters ts) k h = some_name ts _ h.1
declaration_some u k h = absurd (false_true k)

-- ---- phrases

-- it closes no set and is no number
pub record PhraseFirst (toks : List Lexeme) : Type 0 where
  pub member : brace_form toks ≡ forms.Set
  pub word : number_at toks ≡ None

unfoldable pub leads : List Piece → Bool
leads (pieces.Name ∷ ps) = true
leads (pieces.Open symbols.CloseBrace ∷ ps) = false
leads (pieces.Open s ∷ ps) = true
leads (pieces.Sign (signs.Symbol symbols.CloseBrace) ∷ ps) = false
leads (pieces.Sign s ∷ ps) = true
leads ps = false

sign_first : (s : Signs) (ps : List Piece) (rest : List Lexeme) → leads (pieces.Sign s ∷ ps) ≡ true → PhraseFirst (sign_lexeme s ∷ rest)
unfolding leads brace_form number_at
sign_first (signs.Symbol symbols.CloseBrace) ps rest e = absurd cc
sign_first (signs.Symbol s) ps rest e = record { member = refl; word = refl }
sign_first (signs.Keyword k) ps rest e = record { member = refl; word = refl }

open_first : (s : Symbol) (ps : List Piece) (rest : List Lexeme) → leads (pieces.Open s ∷ ps) ≡ true → PhraseFirst (Sign s ∷ rest)
unfolding leads brace_form number_at
open_first symbols.CloseBrace ps rest e = absurd cc
open_first s ps rest e = record { member = refl; word = refl }

pub rule_first : (ps : List Piece) (ts : Syntaxes) (rest : List Lexeme) → leads ps ≡ true → FitAll ts ps → PhraseFirst (spell ts ps ++ rest)
unfolding leads brace_form number_at
rule_first (pieces.Sign s ∷ ps) ts rest e h = first_sign PhraseFirst ts s ps rest (sign_first s ps _ e)
rule_first (pieces.Open s ∷ ps) ts rest e h = first_open PhraseFirst ts s ps rest (open_first s ps _ e)
rule_first (pieces.Name ∷ ps) ts rest e h = first_name PhraseFirst ts ps rest (named ts ps h) (record { member = refl; word = refl })
rule_first ps ts rest e h = absurd cc

abbrev pub is_operation : Form → Bool
is_operation (forms.Operation op) = true
is_operation f = false

pub leads_rule : (f : Form) → is_operation f ≡ false → nat_le (form_level f) 16 ≡ true → leads (rule f) ≡ true
unfolding leads rule form_level
leads_rule (forms.Operation op) o e = absurd cc
leads_rule forms.Generators o e = absurd cc
leads_rule forms.Pair o e = absurd cc
leads_rule forms.FieldSets o e = absurd cc
leads_rule forms.Script o e = absurd cc
leads_rule f o e = refl

pub left_level : (op : Operator) (p : Syntax) → left_fits op p ≡ true → level_in p ≤ left_limit op
unfolding left_fits
left_level op p e = leb-true _ _ (both_true (nat_le (level_in p) (left_limit op)) _ e).0

left_phrase : (op : Operator) (p : Syntax) → left_fits op p ≡ true → nat_le (level_in p) 16 ≡ true
left_phrase op p e = le-leb _ _ (omega (arith, left_level op p e, (operator_row op).left, (operator_row op).loosest))

pub phrase_first : (t : Syntax) (rest : List Lexeme) → Fits t → nat_le (level_in t) 16 ≡ true → brace_form (flat t ++ rest) ≡ forms.Set
unfolding level_in flat brace_form rule spell spell_part is
phrase_first (Called n) rest h e = absurd cc
phrase_first (Numeral n) rest h e = refl
phrase_first (Node (forms.Operation op) (MoreSyntax p ts)) rest h e =
    ap brace_form (append_assoc (flat p) (spell ts (opening op ∷ behind op)) rest) ∙ phrase_first p _ h.1.0 (left_phrase op p h.1.1.0)
phrase_first (Node (forms.Operation op) NoSyntax) rest h e = absurd (false_true h.1)
phrase_first (Node f ts) rest h e = (rule_first (rule f) ts rest (leads_rule f refl e) h.1).member
