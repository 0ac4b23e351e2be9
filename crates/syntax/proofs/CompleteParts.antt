-- Each kind of part that is no operation: where the tokens are those of its node, it is read as the first operand.
use Rattle.std.proofs.Common.{◌≡◌, ℕ, suc, ◌≤◌, List, [], ◌∷◌, ◌++◌, Bool, true, false, cond, Option, None, refl, sym, subst, ◌∙◌, arith, ◌&&◌}
use Rattle.std.specs.Prelude.{nat_le}
use Rattle.std.proofs.lemmas.Bool.{leb-true, le-leb}
use Rattle.tokens.specs.Lexeme.{Lexeme, Sign}
use Rattle.tokens.specs.declared.symbol.Symbol.TheVariants as symbols
use Rattle.syntax.specs.declared.piece.Sign.TheVariants as signs
use Rattle.syntax.specs.declared.piece.Fields.{Fields}
use Rattle.syntax.specs.declared.piece.Fields.TheVariants as fields
use Rattle.syntax.specs.declared.piece.Kind.{Kind}
use Rattle.syntax.specs.declared.piece.Kind.TheVariants as kinds
use Rattle.syntax.specs.declared.piece.Start.TheVariants as starts
use Rattle.syntax.specs.declared.form.Form.{Form}
use Rattle.syntax.specs.declared.form.Form.TheVariants as forms
use Rattle.syntax.specs.Rules.{rule, form_level, is_heavy, ending}
use Rattle.syntax.specs.Grammar.{Syntax, Node, Syntaxes, NoSyntax, MoreSyntax, flat, height_of, nesting, is_open, last_open, is_event, is_value, is_field, is_generator, is_generators, is_pair, is_names, is_constants, is_field_sets, is_declaration, is_script, takes, takes_field, takes_fields, Fits}
use Rattle.syntax.specs.Parsing.{Found, after, begins_field, another, numeral_at, may_be_number, is_alone, form_at, fields_of, operand, reader, may_open}
use Rattle.syntax.proofs.Branches.{some_found}
use Rattle.syntax.proofs.Climbing.{Stops}
use Rattle.syntax.proofs.Table.{operator_row}
use Rattle.syntax.proofs.CompleteBools.{both_true, false_true}
use Rattle.syntax.proofs.CompleteFollow.{declares, Behind, NoSign, Follows, quiet_behind, quiet_phrase, declares_quiet, declares_none, fieldless_dot}
use Rattle.syntax.proofs.CompleteFirst.{is_operation, leads, rule_first}
use Rattle.syntax.proofs.CompleteGoal.{AllRead, edge, rank}
use Rattle.syntax.proofs.CompleteRow.{NoMore, Tail}
use Rattle.syntax.proofs.CompleteNode.{below, is_simple, node_of_simple}
use Rattle.syntax.proofs.CompleteNamed.{node_channels, node_channels_with_fields}
use Rattle.syntax.proofs.CompleteForms.{first_form, some_form, operand_is, phrase_at, no_number, value_begins, field_begins, declaration_begins}
use Rattle.syntax.proofs.CompleteOperand.{phrase_node, event_node}

-- what is read first, where parts of this height have this many layers below them
abbrev pub first : ℕ → ℕ → ℕ → Kind → List Lexeme → Option Found
first b r n k toks = operand (reader b r 4) (reader b (suc r) n) (may_open b) k toks

-- what is asked of what comes after a first operand
abbrev pub Meets : Kind → Syntax → List Lexeme → Type 0
Meets (kinds.Phrase l) t rest = Behind fields.Any (is_open t) rest × Stops (edge t) rest
Meets k t rest = Follows k (is_open t) rest

-- a node that is read first
abbrev pub ReadFirst : Kind → Form → Syntaxes → Type 0
ReadFirst k f ts = (b r n : ℕ) (rest : List Lexeme) → AllRead ts → Fits (Node f ts) → height_of (Node f ts) ≤ suc r → nesting (Node f ts) ≤ b → rank k ≤ suc n → Meets k (Node f ts) rest → first b r n k (flat (Node f ts) ++ rest) ≡ some_found (Node f ts) rest

simple_first : (b r n : ℕ) (k : Kind) (f : Form) (ts : Syntaxes) (rest : List Lexeme) → is_simple f ≡ true → is_alone k ≡ false → numeral_at k (flat (Node f ts) ++ rest) ≡ None → form_at k (flat (Node f ts) ++ rest) ≡ some_form f → (is_heavy f ≡ false → below f ≤ n) → AllRead ts → Fits (Node f ts) → height_of (Node f ts) ≤ suc r → nesting (Node f ts) ≤ b → Tail (rule f) (last_open ts) rest → first b r n k (flat (Node f ts) ++ rest) ≡ some_found (Node f ts) rest
simple_first b r n k f ts rest s alone number form layers read fits high nested tail =
    operand_is (reader b r 4) (reader b (suc r) n) (may_open b) k f (flat (Node f ts) ++ rest) alone number form
    ∙ node_of_simple b r n (fields_of k) f ts rest s layers read fits high nested tail (is_heavy f) refl

-- ---- phrases and atoms

fields_any : (ts : Syntaxes) → takes_fields fields.Any ts ≡ true
unfolding takes_fields takes_field
fields_any NoSyntax = refl
fields_any (MoreSyntax t ts) = fields_any ts

takes_any : (t : Syntax) → takes fields.Any t ≡ true
unfolding takes
takes_any (Node forms.Event (MoreSyntax n ts)) = fields_any ts
takes_any t = refl

pub phrase_read_first : (l : ℕ) (f : Form) (ts : Syntaxes) → nat_le l 16 ≡ true → is_operation f ≡ false → nat_le (form_level f) l ≡ true → ReadFirst (kinds.Phrase l) f ts
unfolding is_alone numeral_at may_be_number fields_of
phrase_read_first l f ts loosest o low b r n rest read fits high nested layers meets =
    let low' : nat_le (form_level f) 16 ≡ true = le-leb _ _ (omega (arith, leb-true _ _ low, leb-true _ _ loosest)) in
    operand_is (reader b r 4) (reader b (suc r) n) (may_open b) (kinds.Phrase l) (first_form f) (flat (Node f ts) ++ rest) refl (no_number f ts rest o low' fits) (phrase_at l f ts rest o low' low fits meets.0.0)
    ∙ phrase_node b r n fields.Any f ts rest o low' read fits (takes_any (Node f ts)) high nested meets.0 (λ p. meets)

atom_is : (f : Form) → nat_le (form_level f) 0 ≡ true → is_operation f ≡ false
unfolding form_level
atom_is (forms.Operation op) e = absurd (omega (arith, leb-true _ _ e, (operator_row op).tight))
atom_is f e = refl

pub atom_read_first : (m : Fields) (f : Form) (ts : Syntaxes) → (nat_le (form_level f) 0 && takes m (Node f ts)) ≡ true → ReadFirst (kinds.Atom m) f ts
unfolding is_alone numeral_at may_be_number fields_of form_at
atom_read_first m f ts i b r n rest read fits high nested layers meets =
    let h = both_true (nat_le (form_level f) 0) (takes m (Node f ts)) i in
    let low : nat_le (form_level f) 16 ≡ true = le-leb _ _ (omega (arith, leb-true _ _ h.0)) in
    let o = atom_is f h.0 in
    operand_is (reader b r 4) (reader b (suc r) n) (may_open b) (kinds.Atom m) (first_form f) (flat (Node f ts) ++ rest) refl (no_number f ts rest o low fits) (phrase_at 0 f ts rest o low h.0 fits meets.0)
    ∙ phrase_node b r n m f ts rest o low read fits h.1 high nested meets (λ p. absurd (omega (arith, p, leb-true _ _ h.0)))

-- ---- names with fields, and what a field gives

pub event_read_first : (f : Form) (ts : Syntaxes) → is_event (Node f ts) ≡ true → ReadFirst kinds.Event f ts
unfolding is_event is_alone numeral_at may_be_number fields_of form_at is_heavy
event_read_first forms.Event ts i b r n rest read fits high nested layers meets =
    operand_is (reader b r 4) (reader b (suc r) n) (may_open b) kinds.Event forms.Event (flat (Node forms.Event ts) ++ rest) refl refl refl
    ∙ event_node b r fields.Any ts rest read fits (takes_any (Node forms.Event ts)) (omega (arith, high)) nested meets
event_read_first f ts i b r n rest read fits high nested layers meets = absurd (false_true i)

pub value_read_first : (f : Form) (ts : Syntaxes) → is_value (Node f ts) ≡ true → ReadFirst kinds.Value f ts
unfolding is_value is_alone numeral_at may_be_number fields_of form_at is_heavy form_level below rule leads flat rank takes takes_fields
value_read_first forms.NegativeNumber ts i b r n rest read fits high nested layers meets =
    simple_first b r n kinds.Value forms.NegativeNumber ts rest refl refl (rule_first (rule forms.NegativeNumber) ts rest refl fits.1).word (value_begins forms.NegativeNumber ts rest refl fits) (λ e. omega (arith, layers)) read fits high nested tt
value_read_first forms.Brackets ts i b r n rest read fits high nested layers meets =
    simple_first b r n kinds.Value forms.Brackets ts rest refl refl (no_number forms.Brackets ts rest refl refl fits) (value_begins forms.Brackets ts rest refl fits) (λ e. omega arith) read fits high nested tt
value_read_first forms.Event (MoreSyntax x NoSyntax) i b r n rest read fits high nested layers meets =
    operand_is (reader b r 4) (reader b (suc r) n) (may_open b) kinds.Value forms.Event (flat (Node forms.Event (MoreSyntax x NoSyntax)) ++ rest) refl (no_number forms.Event (MoreSyntax x NoSyntax) rest refl refl fits) (value_begins forms.Event (MoreSyntax x NoSyntax) rest refl fits)
    ∙ event_node b r fields.None (MoreSyntax x NoSyntax) rest read fits refl (omega (arith, high)) nested meets
value_read_first f ts i b r n rest read fits high nested layers meets = absurd (false_true i)

pub field_read_first : (f : Form) (ts : Syntaxes) → is_field (Node f ts) ≡ true → ReadFirst kinds.Field f ts
unfolding is_field is_alone numeral_at may_be_number form_at is_heavy below rule rank is_open ending
field_read_first forms.Dotted ts i b r n rest read fits high nested layers meets =
    simple_first b r n kinds.Field forms.Dotted ts rest refl refl refl (field_begins forms.Dotted ts rest refl fits meets.0) (λ e. omega (arith, layers)) read fits high nested meets
field_read_first forms.Output ts i b r n rest read fits high nested layers meets =
    simple_first b r n kinds.Field forms.Output ts rest refl refl refl (field_begins forms.Output ts rest refl fits meets.0) (λ e. omega (arith, layers)) read fits high nested meets
field_read_first forms.Input ts i b r n rest read fits high nested layers meets =
    simple_first b r n kinds.Field forms.Input ts rest refl refl refl (field_begins forms.Input ts rest refl fits meets.0) (λ e. absurd cc) read fits high nested tt
field_read_first forms.RestrictedInput ts i b r n rest read fits high nested layers meets =
    simple_first b r n kinds.Field forms.RestrictedInput ts rest refl refl refl (field_begins forms.RestrictedInput ts rest refl fits meets.0) (λ e. omega (arith, layers)) read fits high nested meets
field_read_first f ts i b r n rest read fits high nested layers meets = absurd (false_true i)

-- ---- generators and pairs

pub generator_read_first : (f : Form) (ts : Syntaxes) → is_generator (Node f ts) ≡ true → ReadFirst kinds.Generator f ts
unfolding is_generator is_alone numeral_at may_be_number form_at is_heavy below rule rank is_open ending
generator_read_first forms.Generator ts i b r n rest read fits high nested layers meets =
    simple_first b r n kinds.Generator forms.Generator ts rest refl refl refl refl (λ e. omega (arith, layers)) read fits high nested meets
generator_read_first f ts i b r n rest read fits high nested layers meets = absurd (false_true i)

no_separator : (s : _) (rest : List Lexeme) → NoSign s rest → NoMore (starts.Behind s) rest
unfolding another
no_separator s rest e o = e

pub generators_read_first : (f : Form) (ts : Syntaxes) → is_generators (Node f ts) ≡ true → ReadFirst kinds.Generators f ts
unfolding is_generators is_alone numeral_at may_be_number form_at is_heavy below rule rank is_open ending
generators_read_first forms.Generators ts i b r n rest read fits high nested layers meets =
    simple_first b r n kinds.Generators forms.Generators ts rest refl refl refl refl (λ e. omega (arith, layers)) read fits high nested (meets.0, (meets.0, no_separator symbols.Comma rest meets.1))
generators_read_first f ts i b r n rest read fits high nested layers meets = absurd (false_true i)

pub pair_read_first : (f : Form) (ts : Syntaxes) → is_pair (Node f ts) ≡ true → ReadFirst kinds.Pair f ts
unfolding is_pair is_alone numeral_at may_be_number form_at is_heavy below rule rank is_open ending
pair_read_first forms.Pair ts i b r n rest read fits high nested layers meets =
    simple_first b r n kinds.Pair forms.Pair ts rest refl refl refl refl (λ e. omega (arith, layers)) read fits high nested meets
pair_read_first f ts i b r n rest read fits high nested layers meets = absurd (false_true i)

-- ---- declarations and their lists

pub names_read_first : (f : Form) (ts : Syntaxes) → is_names (Node f ts) ≡ true → ReadFirst kinds.Names f ts
unfolding is_names is_alone numeral_at may_be_number form_at is_heavy below rule rank
names_read_first forms.Names ts i b r n rest read fits high nested layers meets =
    simple_first b r n kinds.Names forms.Names ts rest refl refl refl refl (λ e. omega (arith, layers)) read fits high nested (tt, no_separator symbols.Comma rest meets)
names_read_first f ts i b r n rest read fits high nested layers meets = absurd (false_true i)

pub constants_read_first : (f : Form) (ts : Syntaxes) → is_constants (Node f ts) ≡ true → ReadFirst kinds.Constants f ts
unfolding is_constants is_alone numeral_at may_be_number form_at is_heavy below rule rank
constants_read_first forms.Constants ts i b r n rest read fits high nested layers meets =
    simple_first b r n kinds.Constants forms.Constants ts rest refl refl refl refl (λ e. omega (arith, layers)) read fits high nested (tt, no_separator symbols.Bar rest meets)
constants_read_first f ts i b r n rest read fits high nested layers meets = absurd (false_true i)

undotted : (rest : List Lexeme) → begins_field fields.Any rest ≡ false → begins_field fields.Undotted rest ≡ false
unfolding begins_field
undotted (Sign symbols.Exclamation ∷ rest) e = e
undotted (Sign symbols.Question ∷ rest) e = e
undotted rest e = refl

no_dot : (rest : List Lexeme) → begins_field fields.Any rest ≡ false → NoMore starts.Dot rest
unfolding another
no_dot rest e o = at o (after (signs.Symbol symbols.Dot) rest) (dot_none rest e)
  where
    at : (o : Bool) (x : Option (List Lexeme)) → x ≡ None → cond o None x ≡ None
    at true x e = refl
    at false x e = e

    dot_none : (rest : List Lexeme) → begins_field fields.Any rest ≡ false → after (signs.Symbol symbols.Dot) rest ≡ None
    dot_none rest e = fieldless_dot rest e

pub field_sets_read_first : (f : Form) (ts : Syntaxes) → is_field_sets (Node f ts) ≡ true → ReadFirst kinds.FieldSets f ts
unfolding is_field_sets is_alone numeral_at may_be_number form_at is_heavy below rule rank is_open ending
field_sets_read_first forms.FieldSets ts i b r n rest read fits high nested layers meets =
    let h : Behind fields.Undotted (last_open ts) rest = (meets.0, undotted rest meets.1, meets.2) in
    simple_first b r n kinds.FieldSets forms.FieldSets ts rest refl refl refl refl (λ e. omega (arith, layers)) read fits high nested (h, (h, no_dot rest meets.1))
field_sets_read_first f ts i b r n rest read fits high nested layers meets = absurd (false_true i)

pub declaration_read_first : (f : Form) (ts : Syntaxes) → is_declaration (Node f ts) ≡ true → ReadFirst kinds.Declaration f ts
unfolding is_declaration is_alone numeral_at may_be_number form_at fields_of is_heavy below rule rank nesting
declaration_read_first forms.Channels ts i b r n rest read fits high nested layers meets =
    operand_is (reader b r 4) (reader b (suc r) n) (may_open b) kinds.Declaration forms.Channels (flat (Node forms.Channels ts) ++ rest) refl refl (declaration_begins forms.Channels ts rest refl fits)
    ∙ node_channels b (suc r) n fields.Any ts rest (omega arith) (omega (arith, layers)) read fits (omega (arith, high)) nested meets
declaration_read_first forms.ChannelsWithFields ts i b r n rest read fits high nested layers meets =
    operand_is (reader b r 4) (reader b (suc r) n) (may_open b) kinds.Declaration forms.Channels (flat (Node forms.ChannelsWithFields ts) ++ rest) refl refl (declaration_begins forms.ChannelsWithFields ts rest refl fits)
    ∙ node_channels_with_fields b (suc r) n fields.Any ts rest (omega arith) (omega (arith, layers)) read fits (omega (arith, high)) nested (quiet_behind fields.Any (last_open ts) rest (declares_quiet rest meets))
declaration_read_first forms.Datatype ts i b r n rest read fits high nested layers meets =
    simple_first b r n kinds.Declaration forms.Datatype ts rest refl refl refl (declaration_begins forms.Datatype ts rest refl fits) (λ e. omega (arith, layers)) read fits high nested (declares_none symbols.Bar rest meets)
declaration_read_first forms.Definition ts i b r n rest read fits high nested layers meets =
    simple_first b r n kinds.Declaration forms.Definition ts rest refl refl refl (declaration_begins forms.Definition ts rest refl fits) (λ e. omega (arith, layers)) read fits high nested (quiet_phrase 16 (last_open ts) rest (declares_quiet rest meets))
declaration_read_first forms.DefinitionWithParameters ts i b r n rest read fits high nested layers meets =
    simple_first b r n kinds.Declaration forms.DefinitionWithParameters ts rest refl refl refl (declaration_begins forms.DefinitionWithParameters ts rest refl fits) (λ e. omega (arith, layers)) read fits high nested (quiet_phrase 16 (last_open ts) rest (declares_quiet rest meets))
declaration_read_first f ts i b r n rest read fits high nested layers meets = absurd (false_true i)

abbrev ScriptTail : Bool → List Lexeme → Type 0
ScriptTail o rest = Tail (rule forms.Script) o rest

script_ends : (o : Bool) → ScriptTail o []
unfolding rule declares another
script_ends o = (refl, λ p. refl)

pub script_read_first : (f : Form) (ts : Syntaxes) → is_script (Node f ts) ≡ true → ReadFirst kinds.Script f ts
unfolding is_script is_alone numeral_at may_be_number form_at is_heavy below rank
script_read_first forms.Script ts i b r n rest read fits high nested layers meets =
    simple_first b r n kinds.Script forms.Script ts rest refl refl refl refl (λ e. omega (arith, layers)) read fits high nested (subst (ScriptTail (last_open ts)) (sym meets) (script_ends (last_open ts)))
script_read_first f ts i b r n rest read fits high nested layers meets = absurd (false_true i)
