-- Phrases for events, sets of events and fields, and how they are read off trees.
use Rattle.std.specs.Prelude.{ℕ, suc, ◌+◌, List, [], ◌∷◌, map, Option, Some, None}
use Rattle.syntax.specs.declared.form.Form.{Form}
use Rattle.syntax.specs.declared.form.Form.TheVariants as forms
use Rattle.syntax.specs.Grammar.{Syntax, Called, Numeral, Node, Syntaxes, NoSyntax, MoreSyntax}
use Rattle.values.specs.Values.{◌>>=◌, Name}
use Rattle.event_phrases.specs.declared.forms.Extent.{Extent}
use Rattle.event_phrases.specs.declared.forms.Extent.TheVariants as extents
use Rattle.event_phrases.specs.declared.forms.Combination.{Combination}
use Rattle.event_phrases.specs.declared.forms.Combination.TheVariants as combinations

-- ---- parts

unfoldable pub part_list : Syntaxes → List Syntax
part_list NoSyntax = []
part_list (MoreSyntax t ts) = t ∷ part_list ts

-- a node's form and parts
unfoldable pub node_of : Syntax → Option (Form × List Syntax)
node_of (Called n) = None
node_of (Numeral n) = None
node_of (Node f ts) = Some (f, part_list ts)

unfoldable pub name_of : Syntax → Option Name
name_of (Called n) = Some n
name_of (Numeral n) = None
name_of (Node f ts) = None

-- x, where there are no parts
unfoldable pub if_none : {X Y : Type 0} → List X → Y → Option Y
if_none [] y = Some y
if_none (x ∷ xs) y = None

-- the first part, and those after it
unfoldable pub first_of : {X : Type 0} → List X → Option (X × List X)
first_of [] = None
first_of (x ∷ xs) = Some (x, xs)

-- the only part, or the two, three or four
unfoldable pub one_of : {X : Type 0} → List X → Option X
one_of [] = None
one_of (x ∷ xs) = if_none xs x

unfoldable pub two_of : {X : Type 0} → List X → Option (X × X)
two_of xs = first_of xs >>= λ p. one_of p.1 >>= λ y. Some (p.0, y)

unfoldable pub three_of : {X : Type 0} → List X → Option (X × X × X)
three_of xs = first_of xs >>= λ p. two_of p.1 >>= λ q. Some (p.0, q.0, q.1)

unfoldable pub four_of : {X : Type 0} → List X → Option (X × X × X × X)
four_of xs = first_of xs >>= λ p. three_of p.1 >>= λ q. Some (p.0, q.0, q.1, q.2)

-- ---- phrases of trees

abbrev pub some_or : {X : Type 0} → X → Option X → X
some_or x None = x
some_or x (Some y) = y

unfoldable mutual
  -- what a tree is, where this reads a form and its parts, as they are written and as what they are; x stands for what is nothing
  pub read_by : {X : Type 0} → (Form → List (Syntax × X) → Option X) → X → Syntax → X
  read_by form x (Called n) = x
  read_by form x (Numeral n) = x
  read_by form x (Node f ts) = some_or x (form f (parts_by form x ts))

  pub parts_by : {X : Type 0} → (Form → List (Syntax × X) → Option X) → X → Syntaxes → List (Syntax × X)
  parts_by form x NoSyntax = []
  parts_by form x (MoreSyntax t ts) = (t, read_by form x t) ∷ parts_by form x ts

-- ---- fields

-- a field of an event phrase
pub data FieldPhrase : Type 0 where
  given : Syntax → FieldPhrase
  input : Name → FieldPhrase
  input_from : Name → Syntax → FieldPhrase
  -- what is no field
  no_field : FieldPhrase

unfoldable pub field_form : Form → List Syntax → Option FieldPhrase
field_form forms.Dotted ts = one_of ts >>= λ t. Some (given t)
field_form forms.Output ts = one_of ts >>= λ t. Some (given t)
field_form forms.Input ts = one_of ts >>= λ t. name_of t >>= λ x. Some (input x)
field_form forms.RestrictedInput ts = two_of ts >>= λ p. name_of p.0 >>= λ x. Some (input_from x p.1)
field_form f ts = None

unfoldable pub field_of : Syntax → FieldPhrase
field_of t = some_or no_field (node_of t >>= λ n. field_form n.0 n.1)

-- ---- events

-- a phrase for events: a channel and its fields, in brackets, or chosen by a condition
pub data EventPhrase : Type 0 where
  event : Name → List FieldPhrase → EventPhrase
  event_inside : EventPhrase → EventPhrase
  event_chosen : Syntax → EventPhrase → EventPhrase → EventPhrase
  -- what is no phrase for events
  no_event : EventPhrase

unfoldable pub event_form : Form → List (Syntax × EventPhrase) → Option EventPhrase
event_form forms.Event ts = first_of ts >>= λ p. name_of p.0.0 >>= λ c. Some (event c (map (λ t. field_of t.0) p.1))
event_form forms.Brackets ts = one_of ts >>= λ t. Some (event_inside t.1)
event_form forms.If ts = three_of ts >>= λ p. Some (event_chosen p.0.0 p.1.1 p.2.1)
event_form f ts = None

abbrev pub event_of : Syntax → EventPhrase
event_of t = read_by event_form no_event t

abbrev pub event_part : Syntax → Syntax × EventPhrase
event_part t = (t, event_of t)

-- the channel and the fields, where a phrase has them at once
abbrev pub event_parts : EventPhrase → Option (Name × List FieldPhrase)
event_parts (event c fs) = Some (c, fs)
event_parts (event_inside e) = None
event_parts (event_chosen c e f) = None
event_parts no_event = None

-- ---- sets of events

-- a phrase for a set of events
pub data SetPhrase : Type 0 where
  set_inside : SetPhrase → SetPhrase
  set_called : Name → SetPhrase
  nothing : SetPhrase
  everything : SetPhrase
  several : Extent → List EventPhrase → SetPhrase
  set_chosen : Syntax → SetPhrase → SetPhrase → SetPhrase
  combined : Combination → SetPhrase → SetPhrase → SetPhrase
  -- what is no phrase for a set of events
  no_set : SetPhrase

unfoldable pub combined_phrase : Combination → List (Syntax × SetPhrase) → Option SetPhrase
combined_phrase c ts = two_of ts >>= λ p. Some (combined c p.0.1 p.1.1)

unfoldable pub set_form : Form → List (Syntax × SetPhrase) → Option SetPhrase
set_form forms.Brackets ts = one_of ts >>= λ t. Some (set_inside t.1)
set_form forms.Event ts = one_of ts >>= λ t. name_of t.0 >>= λ n. Some (set_called n)
set_form forms.EmptySet ts = if_none ts nothing
set_form forms.Events ts = if_none ts everything
set_form forms.NoProductions ts = if_none ts nothing
set_form forms.Productions ts = Some (several extents.Beginnings (map (λ t. event_of t.0) ts))
set_form forms.Set ts = Some (several extents.Events (map (λ t. event_of t.0) ts))
set_form forms.Union ts = combined_phrase combinations.Union ts
set_form forms.Intersection ts = combined_phrase combinations.Intersection ts
set_form forms.Difference ts = combined_phrase combinations.Difference ts
set_form forms.If ts = three_of ts >>= λ p. Some (set_chosen p.0.0 p.1.1 p.2.1)
set_form f ts = None

abbrev pub set_phrase_of : Syntax → SetPhrase
set_phrase_of t = read_by set_form no_set t

abbrev pub set_part : Syntax → Syntax × SetPhrase
set_part t = (t, set_phrase_of t)

-- ---- renamings

-- the two sides of a pair of a renaming
unfoldable pub pair_form : Form → List Syntax → Option (EventPhrase × EventPhrase)
pair_form forms.Pair ts = two_of ts >>= λ p. Some (event_of p.0, event_of p.1)
pair_form f ts = None

unfoldable pub sides_of : Syntax → Option (EventPhrase × EventPhrase)
sides_of t = node_of t >>= λ n. pair_form n.0 n.1

-- ---- how much stands in one another

unfoldable pub event_weight : EventPhrase → ℕ
event_weight (event_inside e) = suc (event_weight e)
event_weight (event_chosen c e f) = suc (event_weight e + event_weight f)
event_weight e = 0

unfoldable pub set_weight : SetPhrase → ℕ
set_weight (set_inside p) = suc (set_weight p)
set_weight (set_chosen c p q) = suc (set_weight p + set_weight q)
set_weight (combined j p q) = suc (set_weight p + set_weight q)
set_weight p = 0
