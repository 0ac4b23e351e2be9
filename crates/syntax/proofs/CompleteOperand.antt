-- Where the tokens are those of a node that is no operation, and what may come after it, it is read as the first operand.
use Rattle.std.proofs.Common.{◌≡◌, ℕ, suc, ◌<◌, ◌≤◌, List, ◌++◌, true, false, refl, arith}
use Rattle.std.specs.Prelude.{nat_le}
use Rattle.std.proofs.lemmas.Bool.{leb-true}
use Rattle.std.proofs.Math.Nat.{le-max_right}
use Rattle.tokens.specs.Lexeme.{Lexeme}
use Rattle.syntax.specs.declared.piece.Fields.{Fields}
use Rattle.syntax.specs.declared.piece.Fields.TheVariants as fields
use Rattle.syntax.specs.declared.form.Form.{Form}
use Rattle.syntax.specs.declared.form.Form.TheVariants as forms
use Rattle.syntax.specs.Rules.{rule, form_level, is_heavy, ending}
use Rattle.syntax.specs.Grammar.{Called, Numeral, Node, Syntaxes, NoSyntax, MoreSyntax, flat, height_of, highest, nesting, nests, nests_part, is_called, is_open, is_last, last_open, takes, Fits}
use Rattle.syntax.specs.Parsing.{begins_field, node, pick, reader, may_open}
use Rattle.syntax.proofs.Branches.{some_found}
use Rattle.syntax.proofs.Climbing.{Stops}
use Rattle.syntax.proofs.CompleteBools.{false_true, true_false}
use Rattle.syntax.proofs.CompleteFollow.{Behind, quiet_phrase}
use Rattle.syntax.proofs.CompleteFirst.{is_operation}
use Rattle.syntax.proofs.CompleteGoal.{AllRead, edge}
use Rattle.syntax.proofs.CompleteRow.{Tail}
use Rattle.syntax.proofs.CompleteNode.{below, is_simple, node_of_simple}
use Rattle.syntax.proofs.CompleteNamed.{node_event, node_set, node_range}
use Rattle.syntax.proofs.CompleteForms.{first_form}

-- ---- what a phrase's rule asks of what comes after it

-- what is asked of what comes after a phrase that binds looser than an atom
abbrev pub Loose : Form → Syntaxes → List Lexeme → Type 0
Loose f ts rest = 0 < form_level f → Behind fields.Any (is_open (Node f ts)) rest × Stops (edge (Node f ts)) rest

phrase_tail : (m : Fields) (f : Form) (ts : Syntaxes) (rest : List Lexeme) → is_simple f ≡ true → nat_le (form_level f) 16 ≡ true → Behind m (is_open (Node f ts)) rest → Loose f ts rest → Tail (rule f) (last_open ts) rest
unfolding form_level rule is_open ending edge
phrase_tail m forms.If ts rest s e h l = quiet_phrase 16 (last_open ts) rest (h.2 refl)
phrase_tail m forms.ReplicatedExternal ts rest s e h l = quiet_phrase 16 (last_open ts) rest (h.2 refl)
phrase_tail m forms.ReplicatedInternal ts rest s e h l = quiet_phrase 16 (last_open ts) rest (h.2 refl)
phrase_tail m forms.ReplicatedInterleaving ts rest s e h l = quiet_phrase 16 (last_open ts) rest (h.2 refl)
phrase_tail m forms.Negation ts rest s e h l = l (omega arith)
phrase_tail m forms.Not ts rest s e h l = l (omega arith)
phrase_tail m forms.Generators ts rest s e h l = absurd cc
phrase_tail m forms.Generator ts rest s e h l = absurd cc
phrase_tail m forms.Pair ts rest s e h l = absurd cc
phrase_tail m forms.Dotted ts rest s e h l = absurd cc
phrase_tail m forms.Output ts rest s e h l = absurd cc
phrase_tail m forms.Input ts rest s e h l = absurd cc
phrase_tail m forms.RestrictedInput ts rest s e h l = absurd cc
phrase_tail m forms.NegativeNumber ts rest s e h l = absurd cc
phrase_tail m forms.Names ts rest s e h l = absurd cc
phrase_tail m forms.Constants ts rest s e h l = absurd cc
phrase_tail m forms.FieldSets ts rest s e h l = absurd cc
phrase_tail m forms.Datatype ts rest s e h l = absurd cc
phrase_tail m forms.Definition ts rest s e h l = absurd cc
phrase_tail m forms.DefinitionWithParameters ts rest s e h l = absurd cc
phrase_tail m forms.Script ts rest s e h l = absurd cc
phrase_tail m forms.Event ts rest s e h l = absurd cc
phrase_tail m forms.Set ts rest s e h l = absurd cc
phrase_tail m forms.Range ts rest s e h l = absurd cc
phrase_tail m forms.Channels ts rest s e h l = absurd cc
phrase_tail m forms.ChannelsWithFields ts rest s e h l = absurd cc
phrase_tail m (forms.Operation op) ts rest s e h l = absurd cc
phrase_tail m f ts rest s e h l = tt

light_phrase : (n : ℕ) (f : Form) → nat_le (form_level f) 16 ≡ true → is_heavy f ≡ false → below f ≤ n
unfolding form_level is_heavy below
light_phrase n forms.Brackets e h = omega arith
light_phrase n f e h = absurd cc

-- ---- a name with its fields, in any place

behind_fields : (n : List ℕ) (ts : Syntaxes) (m : Fields) (rest : List Lexeme) → Behind m (is_open (Node forms.Event (MoreSyntax (Called n) ts))) rest → is_last ts ≡ false → Behind fields.None (last_open ts) rest
unfolding is_open ending last_open begins_field
behind_fields n NoSyntax m rest h e = absurd (true_false true refl e)
behind_fields n (MoreSyntax u us) m rest h e = (h.0, refl, h.2)

pub event_node : (b r : ℕ) (m : Fields) (ts : Syntaxes) (rest : List Lexeme) → AllRead ts → Fits (Node forms.Event ts) → takes m (Node forms.Event ts) ≡ true → highest ts ≤ r → nesting (Node forms.Event ts) ≤ b → Behind m (is_open (Node forms.Event ts)) rest → node (reader b r 4) (may_open b) m forms.Event (flat (Node forms.Event ts) ++ rest) ≡ some_found (Node forms.Event ts) rest
unfolding takes nesting nests nests_part rule is_called
event_node b r m (MoreSyntax (Called n) us) rest read fits taken high nested h =
    node_event b r m n us rest read.1 fits taken (omega (arith, high, le-max_right 0 (highest us))) nested h.1 (behind_fields n us m rest h)
event_node b r m (MoreSyntax (Numeral n) us) rest read fits taken high nested h = absurd (false_true fits.1.1.0)
event_node b r m (MoreSyntax (Node f vs) us) rest read fits taken high nested h = absurd (false_true fits.1.1.0)
event_node b r m NoSyntax rest read fits taken high nested h = absurd (false_true fits.1)

-- ---- phrases and atoms

pub phrase_node : (b r n : ℕ) (m : Fields) (f : Form) (ts : Syntaxes) (rest : List Lexeme) → is_operation f ≡ false → nat_le (form_level f) 16 ≡ true → AllRead ts → Fits (Node f ts) → takes m (Node f ts) ≡ true → height_of (Node f ts) ≤ suc r → nesting (Node f ts) ≤ b → Behind m (is_open (Node f ts)) rest → Loose f ts rest → node (pick (reader b r 4) (reader b (suc r) n) (is_heavy (first_form f))) (may_open b) m (first_form f) (flat (Node f ts) ++ rest) ≡ some_found (Node f ts) rest
unfolding is_heavy nesting form_level
phrase_node b r n m forms.Event ts rest o e read fits taken high nested h l = event_node b r m ts rest read fits taken (omega (arith, high)) nested h
phrase_node b r n m forms.Set ts rest o e read fits taken high nested h l = node_set b r m ts rest read fits (omega (arith, high)) nested
phrase_node b r n m forms.Range ts rest o e read fits taken high nested h l = node_range b r m ts rest read fits (omega (arith, high)) nested
phrase_node b r n m forms.Channels ts rest o e read fits taken high nested h l = absurd (loose e)
  where
    loose : nat_le (form_level forms.Channels) 16 ≡ true → ⊥
    loose e = omega (arith, leb-true (form_level forms.Channels) 16 e)
phrase_node b r n m forms.ChannelsWithFields ts rest o e read fits taken high nested h l = absurd (loose e)
  where
    loose : nat_le (form_level forms.ChannelsWithFields) 16 ≡ true → ⊥
    loose e = omega (arith, leb-true (form_level forms.ChannelsWithFields) 16 e)
phrase_node b r n m (forms.Operation op) ts rest o e read fits taken high nested h l = absurd cc
phrase_node b r n m f ts rest o e read fits taken high nested h l =
    node_of_simple b r n m f ts rest refl (light_phrase n f e) read fits high nested (phrase_tail m f ts rest refl e h l) (is_heavy f) refl
