-- Phrases and their parts.
use Rattle.std.proofs.Common.{◌≡◌, List, [], ◌∷◌, map, Option, Some, None, Vec, refl, sym, ap, ◌∙◌}
use Rattle.syntax.specs.declared.form.Form.{Form}
use Rattle.syntax.specs.declared.form.Form.TheVariants as forms
use Rattle.syntax.specs.Grammar.{Syntax, Called, Numeral, Node, Syntaxes, NoSyntax, MoreSyntax}
use Rattle.syntax.specs.Parsing.{syntaxes}
use Rattle.syntax.specs.View.{shape, shapes}
use Rattle.syntax.specs.declared.tree.Tree.{Tree, Node as TreeNode}
use Rattle.tokens.specs.declared.position.Position.{Position}
use Rattle.values.specs.Values.{◌>>=◌}
use Rattle.values.proofs.Parts.{node_is}
use Rattle.event_phrases.specs.Forms.{part_list, node_of, name_of, if_none, first_of, one_of, two_of, three_of, four_of, some_or, read_by, parts_by, field_of, EventPhrase, event, event_form, event_of, event_part, SetPhrase, set_form, set_phrase_of, set_part}

abbrev node_with : Form → List Syntax → Option (Form × List Syntax)
node_with f ts = Some (f, ts)

list_back : (ts : List Syntax) → part_list (syntaxes ts) ≡ ts
unfolding part_list
list_back [] = refl
list_back (t ∷ ts) = ap (λ us. t ∷ us) (list_back ts)

-- the form and the parts that a node holds
pub node_parts : {A : Type 0} (tree : Tree A) (line : Position) (form : Form) (v : Vec (Tree A) A) (ts : List (Tree A)) → tree ≡ TreeNode line form v → ts ≡ v.items → node_with form (shapes ts) ≡ node_of (shape tree)
unfolding node_of
node_parts tree line form v ts h is = ap (node_with form) (sym (list_back (shapes ts))) ∙ sym (ap node_of (node_is tree line form v ts h is))

-- ---- parts that are seen as something

module _ {X : Type 0} (part : Syntax → X) where
  pub one_part : (ts : List Syntax) → one_of (map part ts) ≡ (one_of ts >>= λ t. Some (part t))
  unfolding one_of if_none
  one_part [] = refl
  one_part (t ∷ []) = refl
  one_part (t ∷ u ∷ ts) = refl

  pub two_parts : (ts : List Syntax) → two_of (map part ts) ≡ (two_of ts >>= λ p. Some (part p.0, part p.1))
  unfolding two_of first_of one_of if_none
  two_parts [] = refl
  two_parts (t ∷ []) = refl
  two_parts (t ∷ u ∷ []) = refl
  two_parts (t ∷ u ∷ v ∷ ts) = refl

  pub three_parts : (ts : List Syntax) → three_of (map part ts) ≡ (three_of ts >>= λ p. Some (part p.0, part p.1, part p.2))
  unfolding three_of two_of first_of one_of if_none
  three_parts [] = refl
  three_parts (t ∷ []) = refl
  three_parts (t ∷ u ∷ []) = refl
  three_parts (t ∷ u ∷ v ∷ []) = refl
  three_parts (t ∷ u ∷ v ∷ w ∷ ts) = refl

  pub four_parts : (ts : List Syntax) → four_of (map part ts) ≡ (four_of ts >>= λ p. Some (part p.0, part p.1, part p.2, part p.3))
  unfolding four_of three_of two_of first_of one_of if_none
  four_parts [] = refl
  four_parts (t ∷ []) = refl
  four_parts (t ∷ u ∷ []) = refl
  four_parts (t ∷ u ∷ v ∷ []) = refl
  four_parts (t ∷ u ∷ v ∷ w ∷ []) = refl
  four_parts (t ∷ u ∷ v ∷ w ∷ x ∷ ts) = refl

-- ---- what a tree is, by its form and its parts

module _ {X : Type 0} (form : Form → List (Syntax × X) → Option X) (x : X) where
  parts_are : (ts : Syntaxes) → parts_by form x ts ≡ map (λ t. (t, read_by form x t)) (part_list ts)
  unfolding parts_by part_list
  parts_are NoSyntax = refl
  parts_are (MoreSyntax t ts) = ap (λ ps. (t, read_by form x t) ∷ ps) (parts_are ts)

  pub read_is : (t : Syntax) → read_by form x t ≡ some_or x (node_of t >>= λ n. form n.0 (map (λ t. (t, read_by form x t)) n.1))
  unfolding read_by node_of
  read_is (Called n) = refl
  read_is (Numeral n) = refl
  read_is (Node f ts) = ap (λ ps. some_or x (form f ps)) (parts_are ts)

seen_as : {X Y : Type 0} (part : Syntax → Syntax × X) (view : Syntax → Y) → ((t : Syntax) → (part t).0 ≡ t) → (ts : List Syntax) → map (λ (p : Syntax × X). view p.0) (map part ts) ≡ map view ts
seen_as part view same [] = refl
seen_as part view same (t ∷ ts) = λ i. view (same t i) ∷ seen_as part view same ts i

-- an event, of its channel and the fields after it
pub event_parts_are : (ts : List Syntax) → event_form forms.Event (map event_part ts) ≡ (first_of ts >>= λ p. name_of p.0 >>= λ c. Some (event c (map field_of p.1)))
unfolding event_form first_of
event_parts_are [] = refl
event_parts_are (t ∷ ts) = ap (λ fs. name_of t >>= λ c. Some (event c fs)) (seen_as event_part field_of (λ t. refl) ts)

-- the events in a set
pub their_events : (ts : List Syntax) → map (λ (p : Syntax × SetPhrase). event_of p.0) (map set_part ts) ≡ map event_of ts
their_events ts = seen_as set_part event_of (λ t. refl) ts

-- ---- what is no phrase

pub no_event_form : (f : Form) (ts : List (Syntax × EventPhrase)) → (f ≡ forms.Event → ⊥) → (f ≡ forms.Brackets → ⊥) → (f ≡ forms.If → ⊥) → event_form f ts ≡ None
unfolding event_form
no_event_form forms.Event ts a b c = absurd (a refl)
no_event_form forms.Brackets ts a b c = absurd (b refl)
no_event_form forms.If ts a b c = absurd (c refl)
no_event_form f ts a b c = refl

pub no_set_form : (f : Form) (ts : List (Syntax × SetPhrase)) → (f ≡ forms.Brackets → ⊥) → (f ≡ forms.Event → ⊥) → (f ≡ forms.EmptySet → ⊥) → (f ≡ forms.NoProductions → ⊥) → (f ≡ forms.Events → ⊥) → (f ≡ forms.Productions → ⊥) → (f ≡ forms.Set → ⊥) → (f ≡ forms.Union → ⊥) → (f ≡ forms.Intersection → ⊥) → (f ≡ forms.Difference → ⊥) → (f ≡ forms.If → ⊥) → set_form f ts ≡ None
unfolding set_form
no_set_form forms.Brackets ts a b c d e g h i j k l = absurd (a refl)
no_set_form forms.Event ts a b c d e g h i j k l = absurd (b refl)
no_set_form forms.EmptySet ts a b c d e g h i j k l = absurd (c refl)
no_set_form forms.NoProductions ts a b c d e g h i j k l = absurd (d refl)
no_set_form forms.Events ts a b c d e g h i j k l = absurd (e refl)
no_set_form forms.Productions ts a b c d e g h i j k l = absurd (g refl)
no_set_form forms.Set ts a b c d e g h i j k l = absurd (h refl)
no_set_form forms.Union ts a b c d e g h i j k l = absurd (i refl)
no_set_form forms.Intersection ts a b c d e g h i j k l = absurd (j refl)
no_set_form forms.Difference ts a b c d e g h i j k l = absurd (k refl)
no_set_form forms.If ts a b c d e g h i j k l = absurd (l refl)
no_set_form f ts a b c d e g h i j k l = refl
