-- Parts that are never of height 0.
use Rattle.std.proofs.Common.{◌≡◌, ℕ, ◌<◌, ◌≤◌, List, [], ◌∷◌, Bool, true, false, refl, arith, ◌&&◌, ◌⊎◌, inl, inr}
use Rattle.std.specs.Prelude.{nat_le}
use Rattle.std.proofs.lemmas.Bool.{leb-true}
use Rattle.std.proofs.Math.Nat.{le-max_left, le-max_right}
use Rattle.syntax.specs.declared.piece.Kind.{Kind}
use Rattle.syntax.specs.declared.piece.Kind.TheVariants as kinds
use Rattle.syntax.specs.declared.piece.Piece.{Piece}
use Rattle.syntax.specs.declared.piece.Piece.TheVariants as pieces
use Rattle.syntax.specs.declared.form.Form.{Form}
use Rattle.syntax.specs.declared.form.Form.TheVariants as forms
use Rattle.syntax.specs.Rules.{rule, form_level, is_heavy}
use Rattle.syntax.specs.Grammar.{Syntax, Called, Numeral, Node, Syntaxes, NoSyntax, MoreSyntax, height_of, highest, is, is_event, is_value, is_field, is_generator, is_generators, is_pair, is_numeral, level_in, Fits, FitAll}
use Rattle.syntax.proofs.CompleteBools.{false_true, true_false, both_true}
use Rattle.syntax.proofs.CompleteGoal.{is_read_kind}

unfoldable pub tall : Kind → Bool
tall (kinds.Phrase l) = true
tall (kinds.Atom m) = true
tall kinds.Event = true
tall kinds.Value = true
tall kinds.Number = true
tall kinds.Field = true
tall kinds.Generator = true
tall kinds.Generators = true
tall kinds.Pair = true
tall k = false

abbrev pub IsTall : Syntax → Type 0
IsTall t = (k : Kind) → is_read_kind k ≡ true → tall k ≡ true → is k t ≡ true → Fits t → 0 < height_of t

abbrev AllTall : Syntaxes → Type 0
AllTall NoSyntax = Unit {0}
AllTall (MoreSyntax t ts) = IsTall t × AllTall ts

-- a rule has a part that is tall
unfoldable has_tall : List Piece → Bool
has_tall [] = false
has_tall (pieces.Part place k ∷ ps) = is_read_kind k && tall k
has_tall (pieces.Others place k start ∷ ps) = false
has_tall (p ∷ ps) = has_tall ps

tall_row : (ps : List Piece) (ts : Syntaxes) → AllTall ts → has_tall ps ≡ true → FitAll ts ps → 0 < highest ts
unfolding has_tall
tall_row [] ts all e h = absurd cc
tall_row (pieces.Sign s ∷ ps) NoSyntax all e h = tall_row ps NoSyntax all e h
tall_row (pieces.Sign s ∷ ps) (MoreSyntax t ts) all e h = tall_row ps (MoreSyntax t ts) all e h
tall_row (pieces.Open s ∷ ps) NoSyntax all e h = tall_row ps NoSyntax all e h
tall_row (pieces.Open s ∷ ps) (MoreSyntax t ts) all e h = tall_row ps (MoreSyntax t ts) all e h
tall_row (pieces.Name ∷ ps) NoSyntax all e h = absurd (false_true h)
tall_row (pieces.Name ∷ ps) (MoreSyntax t ts) all e h = omega (arith, tall_row ps ts all.1 e h.1.1, le-max_right (height_of t) (highest ts))
tall_row (pieces.Part place k ∷ ps) NoSyntax all e h = absurd (false_true h)
tall_row (pieces.Part place k ∷ ps) (MoreSyntax t ts) all e h =
    let b = both_true (is_read_kind k) (tall k) e in
    omega (arith, all.0 k b.0 b.1 h.1.0 h.0, le-max_left (height_of t) (highest ts))
tall_row (pieces.Others place k start ∷ ps) ts all e h = absurd cc

-- a form that is no part of a tall kind
unfoldable is_list : Form → Bool
is_list forms.Names = true
is_list forms.Constants = true
is_list forms.FieldSets = true
is_list forms.Channels = true
is_list forms.ChannelsWithFields = true
is_list forms.Datatype = true
is_list forms.Definition = true
is_list forms.DefinitionWithParameters = true
is_list forms.Script = true
is_list f = false

list_level : (f : Form) → is_list f ≡ true → form_level f ≡ 99
unfolding is_list form_level
list_level forms.Names e = refl
list_level forms.Constants e = refl
list_level forms.FieldSets e = refl
list_level forms.Channels e = refl
list_level forms.ChannelsWithFields e = refl
list_level forms.Datatype e = refl
list_level forms.Definition e = refl
list_level forms.DefinitionWithParameters e = refl
list_level forms.Script e = refl
list_level f e = absurd cc

too_loose : (n l m : ℕ) → n ≡ 99 → nat_le n l ≡ true → nat_le l m ≡ true → m ≤ 16 → ⊥
too_loose n l m e f g h = omega (arith, e, leb-true n l f, leb-true l m g, h)

other_kinds : (f : Form) (ts : Syntaxes) → is_list f ≡ true → (is_event (Node f ts) ≡ false) × (is_value (Node f ts) ≡ false) × (is_field (Node f ts) ≡ false) × (is_generator (Node f ts) ≡ false) × (is_generators (Node f ts) ≡ false) × (is_pair (Node f ts) ≡ false)
unfolding is_list is_event is_value is_field is_generator is_generators is_pair
other_kinds forms.Names ts e = (refl, refl, refl, refl, refl, refl)
other_kinds forms.Constants ts e = (refl, refl, refl, refl, refl, refl)
other_kinds forms.FieldSets ts e = (refl, refl, refl, refl, refl, refl)
other_kinds forms.Channels ts e = (refl, refl, refl, refl, refl, refl)
other_kinds forms.ChannelsWithFields ts e = (refl, refl, refl, refl, refl, refl)
other_kinds forms.Datatype ts e = (refl, refl, refl, refl, refl, refl)
other_kinds forms.Definition ts e = (refl, refl, refl, refl, refl, refl)
other_kinds forms.DefinitionWithParameters ts e = (refl, refl, refl, refl, refl, refl)
other_kinds forms.Script ts e = (refl, refl, refl, refl, refl, refl)
other_kinds f ts e = absurd cc

not_list : (k : Kind) (f : Form) (ts : Syntaxes) → is_list f ≡ true → is_read_kind k ≡ true → tall k ≡ true → is k (Node f ts) ≡ true → ⊥
unfolding tall is is_read_kind level_in is_numeral
not_list (kinds.Phrase l) f ts e read high i = too_loose (form_level f) l 16 (list_level f e) i read (omega arith)
not_list (kinds.Atom m) f ts e read high i = too_loose (form_level f) 0 0 (list_level f e) (both_true (nat_le (form_level f) 0) _ i).0 refl (omega arith)
not_list kinds.Event f ts e read high i = true_false _ i (other_kinds f ts e).0
not_list kinds.Value f ts e read high i = true_false _ i (other_kinds f ts e).1
not_list kinds.Number f ts e read high i = false_true i
not_list kinds.Field f ts e read high i = true_false _ i (other_kinds f ts e).2
not_list kinds.Generator f ts e read high i = true_false _ i (other_kinds f ts e).3
not_list kinds.Generators f ts e read high i = true_false _ i (other_kinds f ts e).4
not_list kinds.Pair f ts e read high i = true_false _ i (other_kinds f ts e).5
not_list k f ts e read high i = false_true high

node_tall : (f : Form) (ts : Syntaxes) → AllTall ts → IsTall (Node f ts)
unfolding is_heavy is_list rule has_tall is_read_kind tall
node_tall forms.Brackets ts all k read high i h = omega (arith, tall_row (rule forms.Brackets) ts all refl h.1)
node_tall forms.Generators ts all k read high i h = omega (arith, tall_row (rule forms.Generators) ts all refl h.1)
node_tall forms.Generator ts all k read high i h = omega (arith, tall_row (rule forms.Generator) ts all refl h.1)
node_tall forms.Pair ts all k read high i h = omega (arith, tall_row (rule forms.Pair) ts all refl h.1)
node_tall forms.Dotted ts all k read high i h = omega (arith, tall_row (rule forms.Dotted) ts all refl h.1)
node_tall forms.Output ts all k read high i h = omega (arith, tall_row (rule forms.Output) ts all refl h.1)
node_tall forms.RestrictedInput ts all k read high i h = omega (arith, tall_row (rule forms.RestrictedInput) ts all refl h.1)
node_tall forms.NegativeNumber ts all k read high i h = omega (arith, tall_row (rule forms.NegativeNumber) ts all refl h.1)
node_tall forms.Names ts all k read high i h = absurd (not_list k forms.Names ts refl read high i)
node_tall forms.Constants ts all k read high i h = absurd (not_list k forms.Constants ts refl read high i)
node_tall forms.FieldSets ts all k read high i h = absurd (not_list k forms.FieldSets ts refl read high i)
node_tall forms.Channels ts all k read high i h = absurd (not_list k forms.Channels ts refl read high i)
node_tall forms.ChannelsWithFields ts all k read high i h = absurd (not_list k forms.ChannelsWithFields ts refl read high i)
node_tall forms.Datatype ts all k read high i h = absurd (not_list k forms.Datatype ts refl read high i)
node_tall forms.Definition ts all k read high i h = absurd (not_list k forms.Definition ts refl read high i)
node_tall forms.DefinitionWithParameters ts all k read high i h = absurd (not_list k forms.DefinitionWithParameters ts refl read high i)
node_tall forms.Script ts all k read high i h = absurd (not_list k forms.Script ts refl read high i)
node_tall f ts all k read high i h = omega arith

called_tall : (n : List ℕ) → IsTall (Called n)
unfolding tall is is_read_kind level_in is_numeral is_event is_value is_field is_generator is_generators is_pair
called_tall n (kinds.Phrase l) read high i h = absurd (too_loose 99 l 16 refl i read (omega arith))
called_tall n (kinds.Atom m) read high i h = absurd (false_true i)
called_tall n kinds.Event read high i h = absurd (false_true i)
called_tall n kinds.Value read high i h = absurd (false_true i)
called_tall n kinds.Number read high i h = absurd (false_true i)
called_tall n kinds.Field read high i h = absurd (false_true i)
called_tall n kinds.Generator read high i h = absurd (false_true i)
called_tall n kinds.Generators read high i h = absurd (false_true i)
called_tall n kinds.Pair read high i h = absurd (false_true i)
called_tall n k read high i h = absurd (false_true high)

mutual
  pub is_tall : (t : Syntax) → IsTall t
  is_tall (Called n) = called_tall n
  is_tall (Numeral n) = λ k read high i h. omega arith
  is_tall (Node f ts) = node_tall f ts (all_tall ts)

  all_tall : (ts : Syntaxes) → AllTall ts
  all_tall NoSyntax = tt
  all_tall (MoreSyntax t ts) = (is_tall t, all_tall ts)

-- a part that is tall, or that stands in a light form, has room
pub has_room : (r : ℕ) (k : Kind) (t : Syntax) → (tall k ≡ true) ⊎ (0 < r) → is_read_kind k ≡ true → is k t ≡ true → Fits t → height_of t ≤ r → 0 < r
has_room r k t (inl high) read i h low = omega (arith, is_tall t k read high i h, low)
has_room r k t (inr positive) read i h low = positive
