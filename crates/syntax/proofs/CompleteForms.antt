-- Which form stands first, where the tokens are those of a node.
use Rattle.std.proofs.Common.{◌≡◌, ℕ, List, ◌∷◌, ◌++◌, Bool, true, false, cond, Option, Some, None, refl, sym, ap, ◌∙◌, append_assoc}
use Rattle.std.specs.Prelude.{nat_le}
use Rattle.tokens.specs.Lexeme.{Lexeme, Name, Sign}
use Rattle.tokens.specs.declared.symbol.Symbol.TheVariants as symbols
use Rattle.syntax.specs.declared.piece.Fields.TheVariants as fields
use Rattle.syntax.specs.declared.piece.Kind.{Kind}
use Rattle.syntax.specs.declared.piece.Kind.TheVariants as kinds
use Rattle.syntax.specs.declared.form.Form.{Form}
use Rattle.syntax.specs.declared.form.Form.TheVariants as forms
use Rattle.syntax.specs.Rules.{rule, form_level, is_heavy}
use Rattle.syntax.specs.Grammar.{Syntax, Called, Numeral, Node, Syntaxes, NoSyntax, MoreSyntax, flat, spell, spell_signs, spell_part, is, is_called, is_event, is_value, is_field, is_declaration, takes_field, Fits, FitAll}
use Rattle.syntax.specs.Parsing.{◌>>=◌, Reader, number_at, keyword_form, named_form, brace_form, events_form, symbol_form, phrase_form, value_form, input_form, field_form, defined_form, declaration_form, tight, form_at, is_alone, numeral_at, fields_of, operand_on, operand, pick, node, name_at}
use Rattle.syntax.proofs.CompleteBools.{false_true}
use Rattle.syntax.proofs.CompleteFollow.{calm}
use Rattle.syntax.proofs.CompleteFirst.{named, first_sign, first_open, first_name, field_first, rule_first, leads_rule, is_operation, phrase_first}
use Rattle.syntax.proofs.CompleteNamed.{further}

-- the form that the tokens begin as
abbrev pub first_form : Form → Form
first_form forms.Range = forms.Set
first_form forms.ChannelsWithFields = forms.Channels
first_form f = f

abbrev pub some_form : Form → Option Form
some_form f = Some f

abbrev Begins : Form → List Lexeme → Type 0
Begins f toks = phrase_form toks ≡ some_form f

-- ---- phrases

called_none : (toks : List Lexeme) → calm toks ≡ true → named_form toks ≡ forms.Event
unfolding calm named_form
called_none (Sign symbols.OpenParenthesis ∷ rest) e = absurd cc
called_none toks e = refl

calm_fields : (ts : Syntaxes) (rest : List Lexeme) → FitAll ts (further fields.Any) → calm rest ≡ true → calm (spell ts (further fields.Any) ++ rest) ≡ true
unfolding spell spell_signs spell_part is takes_field
calm_fields NoSyntax rest h e = e
calm_fields (MoreSyntax t ts) rest h e =
    ap calm (append_assoc (flat t) (spell ts (further fields.Any)) rest) ∙ (field_first fields.Any t _ h.1.0 refl).is_calm

pub event_first : (P : List Lexeme → Type 0) (t : Syntax) (rest : List Lexeme) → is_event t ≡ true → Fits t → ((n : List ℕ) (xs : List Lexeme) → P (Name n ∷ xs)) → P (flat t ++ rest)
unfolding is_event flat rule
event_first P (Node forms.Event ts) rest e h p = first_name P ts (further fields.Any) rest (named ts (further fields.Any) h.1) (p _ _)
event_first P t rest e h p = absurd (false_true e)

pub phrase_begins : (f : Form) (ts : Syntaxes) (rest : List Lexeme) → is_operation f ≡ false → nat_le (form_level f) 16 ≡ true → Fits (Node f ts) → calm rest ≡ true → phrase_form (flat (Node f ts) ++ rest) ≡ some_form (first_form f)
unfolding form_level flat rule phrase_form keyword_form symbol_form named_form brace_form events_form spell spell_signs spell_part is
phrase_begins forms.Stop ts rest o e h c = first_sign (Begins forms.Stop) ts _ _ rest refl
phrase_begins forms.Skip ts rest o e h c = first_sign (Begins forms.Skip) ts _ _ rest refl
phrase_begins forms.Events ts rest o e h c = first_sign (Begins forms.Events) ts _ _ rest refl
phrase_begins forms.True ts rest o e h c = first_sign (Begins forms.True) ts _ _ rest refl
phrase_begins forms.False ts rest o e h c = first_sign (Begins forms.False) ts _ _ rest refl
phrase_begins forms.Union ts rest o e h c = first_sign (Begins forms.Union) ts _ _ rest refl
phrase_begins forms.Intersection ts rest o e h c = first_sign (Begins forms.Intersection) ts _ _ rest refl
phrase_begins forms.Difference ts rest o e h c = first_sign (Begins forms.Difference) ts _ _ rest refl
phrase_begins forms.If ts rest o e h c = first_sign (Begins forms.If) ts _ _ rest refl
phrase_begins forms.Not ts rest o e h c = first_sign (Begins forms.Not) ts _ _ rest refl
phrase_begins forms.Negation ts rest o e h c = first_sign (Begins forms.Negation) ts _ _ rest refl
phrase_begins forms.ReplicatedExternal ts rest o e h c = first_sign (Begins forms.ReplicatedExternal) ts _ _ rest refl
phrase_begins forms.ReplicatedInternal ts rest o e h c = first_sign (Begins forms.ReplicatedInternal) ts _ _ rest refl
phrase_begins forms.ReplicatedInterleaving ts rest o e h c = first_sign (Begins forms.ReplicatedInterleaving) ts _ _ rest refl
phrase_begins forms.Brackets ts rest o e h c = first_open (Begins forms.Brackets) ts _ _ rest refl
phrase_begins forms.EmptySet NoSyntax rest o e h c = refl
phrase_begins forms.EmptySet (MoreSyntax t ts) rest o e h c = absurd h.1.1
phrase_begins forms.NoProductions NoSyntax rest o e h c = refl
phrase_begins forms.NoProductions (MoreSyntax t ts) rest o e h c = absurd h.1.1
phrase_begins forms.Set NoSyntax rest o e h c = absurd (false_true h.1)
phrase_begins forms.Set (MoreSyntax t ts) rest o e h c =
    ap (λ (xs : List Lexeme). some_form (brace_form xs)) (append_assoc (flat t) _ rest) ∙ ap some_form (phrase_first t _ h.1.0 h.1.1.0)
phrase_begins forms.Range NoSyntax rest o e h c = absurd (false_true h.1)
phrase_begins forms.Range (MoreSyntax t ts) rest o e h c =
    ap (λ (xs : List Lexeme). some_form (brace_form xs)) (append_assoc (flat t) _ rest) ∙ ap some_form (phrase_first t _ h.1.0 h.1.1.0)
phrase_begins forms.Productions NoSyntax rest o e h c = absurd (false_true h.1)
phrase_begins forms.Productions (MoreSyntax t ts) rest o e h c =
    ap (λ (xs : List Lexeme). some_form (events_form xs)) (append_assoc (flat t) _ rest)
    ∙ event_first (λ (xs : List Lexeme). some_form (events_form xs) ≡ some_form forms.Productions) t _ h.1.1.0 h.1.0 (λ n xs. refl)
phrase_begins forms.Event ts rest o e h c =
    let w = named ts (further fields.Any) h.1 in
    first_name (Begins forms.Event) ts (further fields.Any) rest w (ap some_form (called_none _ (calm_fields w.others rest w.fits c)))
phrase_begins forms.Call ts rest o e h c =
    let w = named ts _ h.1 in
    first_name (Begins forms.Call) ts _ rest w (first_open (λ (xs : List Lexeme). some_form (named_form xs) ≡ some_form forms.Call) w.others _ _ rest refl)
phrase_begins (forms.Operation op) ts rest o e h c = absurd (false_true (sym o))
phrase_begins f ts rest o e h c = absurd (false_true e)

-- ---- what a field gives, fields and declarations

abbrev BeginsAs : (List Lexeme → Option Form) → Form → List Lexeme → Type 0
BeginsAs found f toks = found toks ≡ some_form f

pub value_begins : (f : Form) (ts : Syntaxes) (rest : List Lexeme) → is_value (Node f ts) ≡ true → Fits (Node f ts) → value_form (flat (Node f ts) ++ rest) ≡ some_form f
unfolding is_value flat rule value_form
value_begins forms.NegativeNumber ts rest e h = first_sign (BeginsAs value_form forms.NegativeNumber) ts _ _ rest refl
value_begins forms.Brackets ts rest e h = first_open (BeginsAs value_form forms.Brackets) ts _ _ rest refl
value_begins forms.Event ts rest e h = first_name (BeginsAs value_form forms.Event) ts _ rest (named ts (further fields.Any) h.1) refl
value_begins f ts rest e h = absurd (false_true e)

input_calm : (n : List ℕ) (toks : List Lexeme) → calm toks ≡ true → input_form (Name n ∷ toks) ≡ forms.Input
unfolding calm input_form
input_calm n (Sign symbols.Colon ∷ rest) e = absurd cc
input_calm n toks e = refl

pub field_begins : (f : Form) (ts : Syntaxes) (rest : List Lexeme) → is_field (Node f ts) ≡ true → Fits (Node f ts) → calm rest ≡ true → field_form (flat (Node f ts) ++ rest) ≡ some_form f
unfolding is_field is_called flat rule field_form input_form spell spell_signs spell_part
field_begins forms.Dotted ts rest e h c = first_sign (BeginsAs field_form forms.Dotted) ts _ _ rest refl
field_begins forms.Output ts rest e h c = first_sign (BeginsAs field_form forms.Output) ts _ _ rest refl
field_begins forms.Input (MoreSyntax (Called n) NoSyntax) rest e h c = ap some_form (input_calm n rest c)
field_begins forms.Input (MoreSyntax (Called n) (MoreSyntax u us)) rest e h c = absurd h.1.1.1.1
field_begins forms.Input (MoreSyntax (Numeral n) ts) rest e h c = absurd (not_name h.1.1.0)
  where
    not_name : is_called (Numeral n) ≡ true → ⊥
    not_name e = cc
field_begins forms.Input (MoreSyntax (Node f us) ts) rest e h c = absurd (not_name h.1.1.0)
  where
    not_name : is_called (Node f us) ≡ true → ⊥
    not_name e = cc
field_begins forms.Input NoSyntax rest e h c = absurd (false_true h.1)
field_begins forms.RestrictedInput (MoreSyntax (Called n) ts) rest e h c =
    first_sign (λ (xs : List Lexeme). some_form (input_form (Name n ∷ xs)) ≡ some_form forms.RestrictedInput) ts _ _ rest refl
field_begins forms.RestrictedInput (MoreSyntax (Numeral n) ts) rest e h c = absurd (not_name h.1.1.0)
  where
    not_name : is_called (Numeral n) ≡ true → ⊥
    not_name e = cc
field_begins forms.RestrictedInput (MoreSyntax (Node f us) ts) rest e h c = absurd (not_name h.1.1.0)
  where
    not_name : is_called (Node f us) ≡ true → ⊥
    not_name e = cc
field_begins forms.RestrictedInput NoSyntax rest e h c = absurd (false_true h.1)
field_begins f ts rest e h c = absurd (false_true e)

pub declaration_begins : (f : Form) (ts : Syntaxes) (rest : List Lexeme) → is_declaration (Node f ts) ≡ true → Fits (Node f ts) → declaration_form (flat (Node f ts) ++ rest) ≡ some_form (first_form f)
unfolding is_declaration flat rule declaration_form defined_form
declaration_begins forms.Channels ts rest e h = first_sign (BeginsAs declaration_form forms.Channels) ts _ _ rest refl
declaration_begins forms.ChannelsWithFields ts rest e h = first_sign (BeginsAs declaration_form forms.Channels) ts _ _ rest refl
declaration_begins forms.Datatype ts rest e h = first_sign (BeginsAs declaration_form forms.Datatype) ts _ _ rest refl
declaration_begins forms.Definition ts rest e h =
    let w = named ts _ h.1 in
    first_name (BeginsAs declaration_form forms.Definition) ts _ rest w (first_sign (λ (xs : List Lexeme). some_form (defined_form xs) ≡ some_form forms.Definition) w.others _ _ rest refl)
declaration_begins forms.DefinitionWithParameters ts rest e h =
    let w = named ts _ h.1 in
    first_name (BeginsAs declaration_form forms.DefinitionWithParameters) ts _ rest w (first_open (λ (xs : List Lexeme). some_form (defined_form xs) ≡ some_form forms.DefinitionWithParameters) w.others _ _ rest refl)
declaration_begins f ts rest e h = absurd (false_true e)

-- ---- the first operand is a node of the form that was found

pub operand_is : (heavy light : Reader) (may : Bool) (k : Kind) (f : Form) (toks : List Lexeme) → is_alone k ≡ false → numeral_at k toks ≡ None → form_at k toks ≡ some_form f → operand heavy light may k toks ≡ node (pick heavy light (is_heavy f)) may (fields_of k) f toks
unfolding operand
operand_is heavy light may k f toks alone number e =
    ap (λ (b : Bool). cond b (name_at toks) (operand_on heavy light may k toks (numeral_at k toks))) alone
    ∙ ap (operand_on heavy light may k toks) number
    ∙ ap (λ (o : Option Form). o >>= λ g. node (pick heavy light (is_heavy g)) may (fields_of k) g toks) e

tight_first : (l : ℕ) (f : Form) → nat_le (form_level f) l ≡ true → tight l (first_form f) ≡ some_form (first_form f)
unfolding tight form_level
tight_first l forms.Range e = ap (λ (b : Bool). cond b (some_form forms.Set) None) e
tight_first l forms.ChannelsWithFields e = ap (λ (b : Bool). cond b (some_form forms.Channels) None) e
tight_first l f e = ap (λ (b : Bool). cond b (some_form f) None) e

pub phrase_at : (l : ℕ) (f : Form) (ts : Syntaxes) (rest : List Lexeme) → is_operation f ≡ false → nat_le (form_level f) 16 ≡ true → nat_le (form_level f) l ≡ true → Fits (Node f ts) → calm rest ≡ true → form_at (kinds.Phrase l) (flat (Node f ts) ++ rest) ≡ some_form (first_form f)
unfolding form_at
phrase_at l f ts rest o e low h c = ap (λ (x : Option Form). x >>= tight l) (phrase_begins f ts rest o e h c) ∙ tight_first l f low

pub no_number : (f : Form) (ts : Syntaxes) (rest : List Lexeme) → is_operation f ≡ false → nat_le (form_level f) 16 ≡ true → Fits (Node f ts) → number_at (flat (Node f ts) ++ rest) ≡ None
unfolding flat
no_number f ts rest o e h = (rule_first (rule f) ts rest (leads_rule f o e) h.1).word
