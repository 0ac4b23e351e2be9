-- What the rules say, a form at a time.
use Rattle.std.proofs.Common.{◌≡◌, ℕ, ◌≤◌, List, [], ◌∷◌, ◌++◌, Bool, true, false, Option, Some, None, refl, sym, ap, subst, ◌∙◌}
use Rattle.std.specs.Prelude.{nat_le}
use Rattle.std.proofs.lemmas.Bool.{leb-true, le-leb}
use Rattle.tokens.specs.Lexeme.{Lexeme, Name, Kept, Sign}
use Rattle.tokens.specs.declared.symbol.Symbol.{Symbol}
use Rattle.tokens.specs.declared.symbol.Symbol.TheVariants as symbols
use Rattle.tokens.specs.declared.keyword.Keyword.{Keyword}
use Rattle.tokens.specs.declared.keyword.Keyword.TheVariants as keywords
use Rattle.syntax.specs.declared.piece.Fields.{Fields}
use Rattle.syntax.specs.declared.piece.Fields.TheVariants as fields
use Rattle.syntax.specs.declared.piece.Kind.{Kind}
use Rattle.syntax.specs.declared.piece.Kind.TheVariants as kinds
use Rattle.syntax.specs.declared.piece.Place.TheVariants as places
use Rattle.syntax.specs.declared.piece.Start.TheVariants as starts
use Rattle.syntax.specs.declared.piece.Piece.{Piece}
use Rattle.syntax.specs.declared.piece.Piece.TheVariants as pieces
use Rattle.syntax.specs.declared.form.Form.{Form}
use Rattle.syntax.specs.declared.form.Form.TheVariants as forms
use Rattle.syntax.specs.Rules.{rule, form_level}
use Rattle.syntax.specs.Grammar.{Node, Syntaxes, NoSyntax, MoreSyntax, spell, spell_signs, spell_part, nests, nests_part, FitAll, takes, takes_field, takes_fields, is, is_event, is_value, is_field, is_generator, is_generators, is_pair, is_names, is_constants, is_field_sets, is_declaration, is_script, level_in}
use Rattle.syntax.specs.Parsing.{◌>>=◌, Row, front, back, turned, keyword_form, named_form, brace_form, events_form, symbol_form, phrase_form, value_form, input_form, field_form, defined_form, declaration_form, tight, form_at, fields_of}
use Rattle.syntax.proofs.Sound.{bind_some, guard_some, some_is, some_of, tidy, Rowed}

-- ---- the two halves of a rule

pub tidy_rule : (m : Fields) (f : Form) → tidy (front f ++ back m f) ≡ true
unfolding front back rule
tidy_rule m (forms.Operation op) = refl
tidy_rule m f = refl

pub front_turned : (f : Form) (toks : List Lexeme) → front (turned f toks) ≡ front f
unfolding front turned
front_turned forms.Set (Sign symbols.Range ∷ rest) = refl
front_turned forms.Channels (Sign symbols.Colon ∷ rest) = refl
front_turned f toks = refl

pub level_turned : (f : Form) (toks : List Lexeme) → form_level (turned f toks) ≡ form_level f
unfolding form_level turned
level_turned forms.Set (Sign symbols.Range ∷ rest) = refl
level_turned forms.Channels (Sign symbols.Colon ∷ rest) = refl
level_turned f toks = refl

-- it is no operation
abbrev pub is_plain : Form → Bool
is_plain (forms.Operation op) = false
is_plain f = true

pub plain_turned : (f : Form) (toks : List Lexeme) → is_plain (turned f toks) ≡ is_plain f
unfolding turned
plain_turned forms.Set (Sign symbols.Range ∷ rest) = refl
plain_turned forms.Channels (Sign symbols.Colon ∷ rest) = refl
plain_turned f toks = refl

-- ---- a name with its fields, whichever it may take

abbrev taken : Fields → List Piece
taken m = pieces.Others places.Outside kinds.Field (starts.Field m) ∷ []

fields_fit : (m : Fields) (ts : Syntaxes) → FitAll ts (taken m) → FitAll ts (taken fields.Any)
fields_fit m NoSyntax h = h
fields_fit m (MoreSyntax t ts) h = (h.0, (h.1.0, fields_fit m ts h.1.1))

fields_nest : (m : Fields) (ts : Syntaxes) → nests ts (taken fields.Any) ≡ nests ts (taken m)
unfolding nests nests_part
fields_nest m NoSyntax = refl
fields_nest m (MoreSyntax t ts) = rw (fields_nest m ts) refl

fields_spelled : (m : Fields) (ts : Syntaxes) → spell ts (taken fields.Any) ≡ spell ts (taken m)
unfolding spell spell_signs spell_part
fields_spelled m NoSyntax = refl
fields_spelled m (MoreSyntax t ts) = rw (fields_spelled m ts) refl

event_fits : (m : Fields) (ts : Syntaxes) → FitAll ts (pieces.Name ∷ taken m) → FitAll ts (pieces.Name ∷ taken fields.Any)
event_fits m NoSyntax h = h
event_fits m (MoreSyntax t ts) h = (h.0, (h.1.0, fields_fit m ts h.1.1))

event_nests : (m : Fields) (ts : Syntaxes) → nests ts (pieces.Name ∷ taken fields.Any) ≡ nests ts (pieces.Name ∷ taken m)
unfolding nests nests_part
event_nests m NoSyntax = refl
event_nests m (MoreSyntax t ts) = fields_nest m ts

event_spelled : (m : Fields) (ts : Syntaxes) → spell ts (pieces.Name ∷ taken fields.Any) ≡ spell ts (pieces.Name ∷ taken m)
unfolding spell spell_signs spell_part
event_spelled m NoSyntax = refl
event_spelled m (MoreSyntax t ts) = rw (fields_spelled m ts) refl

rowed_event : (b r : ℕ) (m : Fields) (toks : List Lexeme) (z : Row) → Rowed b r (pieces.Name ∷ taken m) [] toks z → Rowed b r (pieces.Name ∷ taken fields.Any) [] toks z
rowed_event b r m toks z w = record {
  new = w.new;
  all = w.all;
  fits = event_fits m _ w.fits;
  high = w.high;
  nested = subst (λ (n : ℕ). n ≤ b) (sym (event_nests m _)) w.nested;
  spelled = w.spelled ∙ ap (λ (ts : List Lexeme). ts ++ z.1) (sym (event_spelled m _));
}

-- what is read in two halves fits the rule
pub rowed_rule : (b r : ℕ) (m : Fields) (f : Form) (toks : List Lexeme) (z : Row) → is_plain f ≡ true → Rowed b r (front f ++ back m f) [] toks z → Rowed b r (rule f) [] toks z
unfolding front back rule
rowed_rule b r m forms.Event toks z p w = rowed_event b r m toks z w
rowed_rule b r m (forms.Operation op) toks z p w = absurd cc
rowed_rule b r m f toks z p w = w

-- ---- which form stands first

abbrev are_plain : Option Form → Bool
are_plain None = true
are_plain (Some f) = is_plain f

keyword_plain : (k : Keyword) → are_plain (keyword_form k) ≡ true
unfolding keyword_form
keyword_plain keywords.Stop = refl
keyword_plain k = refl

named_plain : (toks : List Lexeme) → is_plain (named_form toks) ≡ true
unfolding named_form
named_plain (Sign symbols.OpenParenthesis ∷ rest) = refl
named_plain toks = refl

brace_plain : (toks : List Lexeme) → is_plain (brace_form toks) ≡ true
unfolding brace_form
brace_plain (Sign symbols.CloseBrace ∷ rest) = refl
brace_plain toks = refl

events_plain : (toks : List Lexeme) → is_plain (events_form toks) ≡ true
unfolding events_form
events_plain (Sign symbols.CloseEvents ∷ rest) = refl
events_plain toks = refl

symbol_plain : (s : Symbol) (toks : List Lexeme) → are_plain (symbol_form s toks) ≡ true
unfolding symbol_form
symbol_plain symbols.OpenBrace toks = brace_plain toks
symbol_plain symbols.OpenEvents toks = events_plain toks
symbol_plain s toks = refl

phrase_plain : (toks : List Lexeme) → are_plain (phrase_form toks) ≡ true
unfolding phrase_form
phrase_plain (Name n ∷ rest) = named_plain rest
phrase_plain (Kept k ∷ rest) = keyword_plain k
phrase_plain (Sign s ∷ rest) = symbol_plain s rest
phrase_plain _ = refl

value_plain : (toks : List Lexeme) → are_plain (value_form toks) ≡ true
unfolding value_form
value_plain (Name n ∷ rest) = refl
value_plain (Sign symbols.Minus ∷ rest) = refl
value_plain _ = refl

input_plain : (toks : List Lexeme) → is_plain (input_form toks) ≡ true
unfolding input_form
input_plain (Name n ∷ Sign symbols.Colon ∷ rest) = refl
input_plain toks = refl

field_plain : (toks : List Lexeme) → are_plain (field_form toks) ≡ true
unfolding field_form
field_plain (Sign symbols.Question ∷ rest) = input_plain rest
field_plain _ = refl

defined_plain : (toks : List Lexeme) → is_plain (defined_form toks) ≡ true
unfolding defined_form
defined_plain (Sign symbols.OpenParenthesis ∷ rest) = refl
defined_plain toks = refl

declaration_plain : (toks : List Lexeme) → are_plain (declaration_form toks) ≡ true
unfolding declaration_form
declaration_plain (Name n ∷ rest) = defined_plain rest
declaration_plain (Kept keywords.Channel ∷ rest) = refl
declaration_plain _ = refl

-- a tight form is the form itself
tight_is : (l : ℕ) (toks : List Lexeme) (f : Form) → (phrase_form toks >>= tight l) ≡ some_of f → (phrase_form toks ≡ some_of f) × (form_level f ≤ l)
unfolding tight
tight_is l toks f e =
    let found = bind_some (phrase_form toks) (tight l) f e in
    let test = guard_some (nat_le (form_level found.0) l) (some_of found.0) f found.2 in
    let same : found.0 ≡ f = some_is found.0 f test.1 in
    (found.1 ∙ ap some_of same, subst (λ (g : Form). form_level g ≤ l) same (leb-true _ _ test.0))

pub form_plain : (k : Kind) (toks : List Lexeme) (f : Form) → form_at k toks ≡ some_of f → is_plain f ≡ true
unfolding form_at
form_plain (kinds.Phrase l) toks f e = ap are_plain (sym (tight_is l toks f e).0) ∙ phrase_plain toks
form_plain (kinds.Atom m) toks f e = ap are_plain (sym (tight_is 0 toks f e).0) ∙ phrase_plain toks
form_plain kinds.Value toks f e = ap are_plain (sym e) ∙ value_plain toks
form_plain kinds.Field toks f e = ap are_plain (sym e) ∙ field_plain toks
form_plain kinds.Declaration toks f e = ap are_plain (sym e) ∙ declaration_plain toks
form_plain kinds.Event toks f e = ap are_plain (sym e)
form_plain kinds.Generator toks f e = ap are_plain (sym e)
form_plain kinds.Generators toks f e = ap are_plain (sym e)
form_plain kinds.Pair toks f e = ap are_plain (sym e)
form_plain kinds.Names toks f e = ap are_plain (sym e)
form_plain kinds.Constants toks f e = ap are_plain (sym e)
form_plain kinds.FieldSets toks f e = ap are_plain (sym e)
form_plain kinds.Script toks f e = ap are_plain (sym e)
form_plain k toks f e = absurd cc

-- ---- kinds

input_field : (toks rest : List Lexeme) (ts : Syntaxes) → is_field (Node (turned (input_form toks) rest) ts) ≡ true
unfolding input_form turned is_field
input_field (Name n ∷ Sign symbols.Colon ∷ toks) rest ts = refl
input_field toks rest ts = refl

defined_declaration : (toks rest : List Lexeme) (ts : Syntaxes) → is_declaration (Node (turned (defined_form toks) rest) ts) ≡ true
unfolding defined_form turned is_declaration
defined_declaration (Sign symbols.OpenParenthesis ∷ toks) rest ts = refl
defined_declaration toks rest ts = refl

channels_declaration : (rest : List Lexeme) (ts : Syntaxes) → is_declaration (Node (turned forms.Channels rest) ts) ≡ true
unfolding turned is_declaration
channels_declaration (Sign symbols.Colon ∷ rest) ts = refl
channels_declaration rest ts = refl

abbrev IsFieldForm : Option Form → Type 0
IsFieldForm None = Unit {0}
IsFieldForm (Some f) = (rest : List Lexeme) (ts : Syntaxes) → is_field (Node (turned f rest) ts) ≡ true

field_forms : (toks : List Lexeme) → IsFieldForm (field_form toks)
unfolding field_form turned is_field
field_forms (Sign symbols.Dot ∷ toks) = λ rest ts. refl
field_forms (Sign symbols.Exclamation ∷ toks) = λ rest ts. refl
field_forms (Sign symbols.Question ∷ toks) = input_field toks
field_forms _ = tt

abbrev IsDeclarationForm : Option Form → Type 0
IsDeclarationForm None = Unit {0}
IsDeclarationForm (Some f) = (rest : List Lexeme) (ts : Syntaxes) → is_declaration (Node (turned f rest) ts) ≡ true

declaration_forms : (toks : List Lexeme) → IsDeclarationForm (declaration_form toks)
unfolding declaration_form turned is_declaration
declaration_forms (Kept keywords.Channel ∷ toks) = channels_declaration
declaration_forms (Kept keywords.Datatype ∷ toks) = λ rest ts. refl
declaration_forms (Name n ∷ toks) = defined_declaration toks
declaration_forms _ = tt

event_value : (ts : Syntaxes) → FitAll ts (rule forms.Event) → takes fields.None (Node forms.Event ts) ≡ true → is_value (Node forms.Event ts) ≡ true
unfolding rule takes takes_fields takes_field is_value
event_value NoSyntax h e = absurd cc
event_value (MoreSyntax n NoSyntax) h e = refl
event_value (MoreSyntax n (MoreSyntax t ts)) h e = absurd cc

abbrev IsValueForm : Option Form → Type 0
IsValueForm None = Unit {0}
IsValueForm (Some f) = (rest : List Lexeme) (ts : Syntaxes) → FitAll ts (rule (turned f rest)) → takes fields.None (Node (turned f rest) ts) ≡ true → is_value (Node (turned f rest) ts) ≡ true

value_forms : (toks : List Lexeme) → IsValueForm (value_form toks)
unfolding value_form turned is_value
value_forms (Name n ∷ toks) = λ rest ts h e. event_value ts h e
value_forms (Sign symbols.Minus ∷ toks) = λ rest ts h e. refl
value_forms (Sign symbols.OpenParenthesis ∷ toks) = λ rest ts h e. refl
value_forms _ = tt

loose : (l : ℕ) (toks rest : List Lexeme) (f : Form) (ts : Syntaxes) → (phrase_form toks >>= tight l) ≡ some_of f → nat_le (level_in (Node (turned f rest) ts)) l ≡ true
unfolding level_in
loose l toks rest f ts e = le-leb _ _ (subst (λ (n : ℕ). n ≤ l) (sym (level_turned f rest)) (tight_is l toks f e).1)

-- the form that stands first is of the kind that is wanted
pub kind_is : (k : Kind) (toks rest : List Lexeme) (f : Form) (ts : Syntaxes) → form_at k toks ≡ some_of f → FitAll ts (rule (turned f rest)) → takes (fields_of k) (Node (turned f rest) ts) ≡ true → is k (Node (turned f rest) ts) ≡ true
unfolding form_at fields_of is is_event is_generator is_generators is_pair is_names is_constants is_field_sets is_script turned
kind_is (kinds.Phrase l) toks rest f ts e h t = loose l toks rest f ts e
kind_is (kinds.Atom m) toks rest f ts e h t = rw (loose 0 toks rest f ts e) t
kind_is kinds.Value toks rest f ts e h t = subst IsValueForm e (value_forms toks) rest ts h t
kind_is kinds.Field toks rest f ts e h t = subst IsFieldForm e (field_forms toks) rest ts
kind_is kinds.Declaration toks rest f ts e h t = subst IsDeclarationForm e (declaration_forms toks) rest ts
kind_is kinds.Event toks rest f ts e h t = ap (λ (g : Form). is_event (Node (turned g rest) ts)) (sym (some_is forms.Event f e))
kind_is kinds.Generator toks rest f ts e h t = ap (λ (g : Form). is_generator (Node (turned g rest) ts)) (sym (some_is forms.Generator f e))
kind_is kinds.Generators toks rest f ts e h t = ap (λ (g : Form). is_generators (Node (turned g rest) ts)) (sym (some_is forms.Generators f e))
kind_is kinds.Pair toks rest f ts e h t = ap (λ (g : Form). is_pair (Node (turned g rest) ts)) (sym (some_is forms.Pair f e))
kind_is kinds.Names toks rest f ts e h t = ap (λ (g : Form). is_names (Node (turned g rest) ts)) (sym (some_is forms.Names f e))
kind_is kinds.Constants toks rest f ts e h t = ap (λ (g : Form). is_constants (Node (turned g rest) ts)) (sym (some_is forms.Constants f e))
kind_is kinds.FieldSets toks rest f ts e h t = ap (λ (g : Form). is_field_sets (Node (turned g rest) ts)) (sym (some_is forms.FieldSets f e))
kind_is kinds.Script toks rest f ts e h t = ap (λ (g : Form). is_script (Node (turned g rest) ts)) (sym (some_is forms.Script f e))
kind_is k toks rest f ts e h t = absurd cc
