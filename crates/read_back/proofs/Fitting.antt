-- The trees of values, events, sets and processes fit the grammar, within its limits.
use Rattle.std.proofs.Common.{◌≡◌, ℕ, ◌+◌, ◌≤◌, pos, negsuc, List, [], ◌∷◌, map, drop, Bool, true, false, not, ◌&&◌, ◌||◌, refl, ap, ap₂, ◌∙◌, arith}
use Rattle.std.specs.Prelude.{nat_le, slice_index_or}
use Rattle.std.proofs.lemmas.Bool.{le-leb}
use Rattle.alphabet.specs.declared.events.Event.{Event}
use Rattle.alphabet.specs.declared.events.Event.TheVariants.{Tick as tick, Of as ev}
use Rattle.alphabet.specs.EventSets.{members}
use Rattle.alphabet.specs.Channels.{FieldValue, number, constant, Values, Channel, Parts, events}
use Rattle.term.specs.Proc as procs
use Rattle.term.specs.Proc.{Proc}
use Rattle.term.specs.Sizes.{depth}
use Rattle.term.specs.Traces.{Pairs}
use Rattle.syntax.specs.declared.form.Form.TheVariants as forms
use Rattle.syntax.specs.declared.operator.Operator.TheVariants as operators
use Rattle.syntax.specs.Grammar.{Syntax, Called, MoreSyntax, height_of, highest, nesting, nests, nests_part, is_open, last_open, is_last, level_in, is_event, is_value, is_field, is_pair, is_called, is_numeral, wants, left_fits, is, shut, may_stand, Fits, FitAll}
use Rattle.syntax.specs.Rules.{rule, form_level, is_heavy, ending}
use Rattle.syntax.specs.Operators.{opening, level, left_limit, right_limit, behind}
use Rattle.read_back.proofs.Readable.{IsWritten}
use Rattle.read_back.proofs.Trees.{phrases, value_tree, dotted_trees, event_tree, no_parts, tree_of_event, braced, set_tree, pair_tree, process_tree}

-- ---- values

value_open : (v : FieldValue) → is_open (value_tree v) ≡ false
unfolding is_open last_open ending
value_open (number (pos n)) = refl
value_open (number (negsuc n)) = refl
value_open (constant n) = refl

value_fits : (v : FieldValue) → Fits (value_tree v)
unfolding rule is is_numeral is_called may_stand shut
value_fits (number (pos n)) = tt
value_fits (number (negsuc n)) = (refl, (tt, (refl, refl)))
value_fits (constant n) = (refl, (tt, (refl, refl)))

is_a_value : (v : FieldValue) → is_value (value_tree v) ≡ true
unfolding is_value
is_a_value (number (pos n)) = refl
is_a_value (number (negsuc n)) = refl
is_a_value (constant n) = refl

value_high : (v : FieldValue) → height_of (value_tree v) ≤ 1
unfolding is_heavy
value_high (number (pos n)) = omega arith
value_high (number (negsuc n)) = omega arith
value_high (constant n) = omega arith

value_nested : (v : FieldValue) → nesting (value_tree v) ≡ 0
unfolding nesting nests nests_part rule
value_nested (number (pos n)) = refl
value_nested (number (negsuc n)) = refl
value_nested (constant n) = refl

-- ---- events

fields_open : (vs : Values) → last_open (dotted_trees vs) ≡ false
unfolding is_open last_open ending
fields_open [] = refl
fields_open (v ∷ []) = value_open v
fields_open (v ∷ w ∷ vs) = fields_open (w ∷ vs)

named_open : (c : List ℕ) (vs : Values) → last_open (MoreSyntax (Called c) (dotted_trees vs)) ≡ false
unfolding is_open last_open ending
named_open c [] = refl
named_open c (v ∷ vs) = fields_open (v ∷ vs)

event_open : (p : Parts) → is_open (event_tree p) ≡ false
unfolding is_open last_open ending
event_open p = named_open p.channel p.values

fields_shut : (vs : Values) → shut (dotted_trees vs) ≡ true
unfolding shut is_open last_open ending
fields_shut [] = refl
fields_shut (v ∷ vs) = ap₂ (λ a b. (is_last (dotted_trees vs) || not a) && b) (value_open v) (fields_shut vs) ∙ either (is_last (dotted_trees vs))
  where
    either : (b : Bool) → ((b || true) && true) ≡ true
    either true = refl
    either false = refl

event_shut : (p : Parts) → shut (MoreSyntax (Called p.channel) (dotted_trees p.values)) ≡ true
unfolding shut is_open
event_shut p = ap (λ b. (is_last (dotted_trees p.values) || true) && b) (fields_shut p.values) ∙ either (is_last (dotted_trees p.values))
  where
    either : (b : Bool) → ((b || true) && true) ≡ true
    either true = refl
    either false = refl

fields_fit : (vs : Values) → FitAll (dotted_trees vs) (drop 1 (rule forms.Event))
unfolding rule is is_field may_stand
fields_fit [] = refl
fields_fit (v ∷ vs) = ((refl, (value_fits v, (is_a_value v, refl))), (refl, fields_fit vs))

event_fits : (p : Parts) → Fits (event_tree p)
unfolding rule is_called may_stand
event_fits p = (event_shut p, (tt, (refl, fields_fit p.values)))

fields_high : (vs : Values) → highest (dotted_trees vs) ≤ 1
unfolding is_heavy
fields_high [] = omega arith
fields_high (v ∷ vs) = omega (arith, value_high v, fields_high vs)

event_high : (p : Parts) → height_of (event_tree p) ≤ 2
unfolding is_heavy
event_high p = omega (arith, fields_high p.values)

fields_nested : (vs : Values) → nests (dotted_trees vs) (drop 1 (rule forms.Event)) ≡ 0
unfolding nesting nests nests_part rule
fields_nested [] = refl
fields_nested (v ∷ vs) = omega (arith, value_nested v, fields_nested vs)

event_nested : (p : Parts) → nesting (event_tree p) ≡ 0
unfolding nesting nests nests_part rule
event_nested p = fields_nested p.values

depth_some : (P : Proc) → 1 ≤ depth P
depth_some procs.stop = omega arith
depth_some P = omega arith

module _ (cs : List Channel) where
  abbrev tree : Event → Syntax
  tree e = tree_of_event cs e

  tree_fits : (e : Event) → Fits (tree e)
  tree_fits tick = event_fits no_parts
  tree_fits (ev a) = event_fits (slice_index_or (events cs) a no_parts)

  tree_high : (e : Event) → height_of (tree e) ≤ 2
  tree_high tick = event_high no_parts
  tree_high (ev a) = event_high (slice_index_or (events cs) a no_parts)

  tree_nested : (e : Event) → nesting (tree e) ≡ 0
  tree_nested tick = event_nested no_parts
  tree_nested (ev a) = event_nested (slice_index_or (events cs) a no_parts)

  tree_open : (e : Event) → is_open (tree e) ≡ false
  tree_open tick = event_open no_parts
  tree_open (ev a) = event_open (slice_index_or (events cs) a no_parts)

  tree_level : (e : Event) → level_in (tree e) ≡ 0
  unfolding level_in form_level
  tree_level tick = refl
  tree_level (ev a) = refl

  tree_event : (e : Event) → is_event (tree e) ≡ true
  unfolding is_event
  tree_event tick = refl
  tree_event (ev a) = refl

  -- a phrase that binds tightest
  is_phrase : (t : Syntax) (l : ℕ) → level_in t ≡ 0 → nat_le (level_in t) l ≡ true
  is_phrase t l h = ap (λ k. nat_le k l) h ∙ le-leb 0 l (omega arith)

  -- ---- sets

  set_level : (ts : List Syntax) → level_in (braced ts) ≡ 0
  unfolding level_in form_level
  set_level [] = refl
  set_level (t ∷ ts) = refl

  others_fit : (es : List Event) → FitAll (phrases (map tree es)) (drop 2 (rule forms.Set))
  unfolding rule is
  others_fit [] = refl
  others_fit (e ∷ es) = (tree_fits e, (is_phrase (tree e) 16 (tree_level e), others_fit es))

  set_fits : (es : List Event) → Fits (braced (map tree es))
  unfolding rule is may_stand
  set_fits [] = (refl, refl)
  set_fits (e ∷ es) = (refl, (tree_fits e, (is_phrase (tree e) 16 (tree_level e), others_fit es)))

  others_high : (es : List Event) → highest (phrases (map tree es)) ≤ 2
  others_high [] = omega arith
  others_high (e ∷ es) = omega (arith, tree_high e, others_high es)

  set_high : (es : List Event) → height_of (braced (map tree es)) ≤ 3
  unfolding is_heavy
  set_high [] = omega arith
  set_high (e ∷ es) = omega (arith, tree_high e, others_high es)

  others_nested : (es : List Event) → nests (phrases (map tree es)) (drop 2 (rule forms.Set)) ≤ 1
  unfolding nesting nests nests_part rule
  others_nested [] = omega arith
  others_nested (e ∷ es) = omega (arith, tree_nested e, others_nested es)

  set_nested : (es : List Event) → nesting (braced (map tree es)) ≤ 1
  unfolding nesting nests nests_part rule
  set_nested [] = omega arith
  set_nested (e ∷ es) = omega (arith, tree_nested e, others_nested es)

  -- ---- renamings

  pair_fits : (p : ℕ × ℕ) → Fits (pair_tree cs p)
  unfolding rule is may_stand
  pair_fits p = (refl, (tree_fits (ev p.0), (tree_event (ev p.0), (tree_fits (ev p.1), (tree_event (ev p.1), refl)))))

  pairs_fit : (R : Pairs) → FitAll (phrases (map (pair_tree cs) R)) (drop 3 (rule (forms.Operation operators.Renaming)))
  unfolding rule opening behind is is_pair
  pairs_fit [] = refl
  pairs_fit (p ∷ R) = (pair_fits p, (refl, pairs_fit R))

  pairs_high : (R : Pairs) → highest (phrases (map (pair_tree cs) R)) ≤ 2
  unfolding is_heavy
  pairs_high [] = omega arith
  pairs_high (p ∷ R) = omega (arith, tree_high (ev p.0), tree_high (ev p.1), pairs_high R)

  pair_nested : (p : ℕ × ℕ) → nesting (pair_tree cs p) ≡ 0
  unfolding nesting nests nests_part rule
  pair_nested p = omega (arith, tree_nested (ev p.0), tree_nested (ev p.1))

  pairs_nested : (R : Pairs) → nests (phrases (map (pair_tree cs) R)) (drop 3 (rule (forms.Operation operators.Renaming))) ≤ 1
  unfolding nests nests_part rule opening behind
  pairs_nested [] = omega arith
  pairs_nested (p ∷ R) = omega (arith, pair_nested p, pairs_nested R)

  -- ---- processes

  module _ (primes : ℕ) where
    abbrev process : Proc → Syntax
    process P = process_tree cs primes P

    pub process_level : (P : Proc) → level_in (process P) ≡ 0
    unfolding level_in form_level process_tree
    process_level procs.stop = refl
    process_level P = refl

    process_open : (P : Proc) → is_open (process P) ≡ false
    unfolding is_open last_open ending process_tree
    process_open procs.stop = refl
    process_open P = refl

    -- a process on the left of an operator
    on_left : (P : Proc) (l : ℕ) → (nat_le (level_in (process P)) l && (true && not (is_open (process P)))) ≡ true
    on_left P l = ap₂ (λ a b. a && (true && not b)) (is_phrase (process P) l (process_level P)) (process_open P)

    phrase : (P : Proc) (l : ℕ) → nat_le (level_in (process P)) l ≡ true
    phrase P l = is_phrase (process P) l (process_level P)

    pub process_fits : (n m : ℕ) (P : Proc) → IsWritten n m P → Fits (process P)
    unfolding is_pair rule opening level left_limit right_limit behind is left_fits wants level_in form_level may_stand shut is_called process_tree
    process_fits n m procs.stop w = (refl, refl)
    process_fits n m procs.skip w = (refl, refl)
    process_fits n m (procs.prefix a P) w = (refl, ((refl, (tree_fits (ev a), (ap₂ (λ x y. x && not y) (tree_event (ev a)) (tree_open (ev a)), (process_fits n m P w.1, (phrase P 9, refl))))), (refl, refl)))
    process_fits n m (procs.ext P Q) w = (refl, ((refl, (process_fits n m P w.0, (on_left P 12, (process_fits n m Q w.1, (phrase Q 11, refl))))), (refl, refl)))
    process_fits n m (procs.int P Q) w = (refl, ((refl, (process_fits n m P w.0, (on_left P 13, (process_fits n m Q w.1, (phrase Q 12, refl))))), (refl, refl)))
    process_fits n m (procs.seq P Q) w = (refl, ((refl, (process_fits n m P w.0, (on_left P 10, (process_fits n m Q w.1, (phrase Q 9, refl))))), (refl, refl)))
    process_fits n m (procs.intr P Q) w = (refl, ((refl, (process_fits n m P w.0, (on_left P 11, (process_fits n m Q w.1, (phrase Q 10, refl))))), (refl, refl)))
    process_fits n m (procs.par A P Q) w = (refl, ((refl, (process_fits n m P w.1, (on_left P 14, (set_fits (members A), (is_phrase (set_tree cs A) 16 (set_level (map tree (members A))), (process_fits n m Q w.2, (phrase Q 13, refl))))))), (refl, refl)))
    process_fits n m (procs.hide A P) w = (refl, ((refl, (process_fits n m P w.1, (on_left P 16, (set_fits (members A), (is_phrase (set_tree cs A) 15 (set_level (map tree (members A))), refl))))), (refl, refl)))
    process_fits n m (procs.ren [] P) w = absurd (omega (arith, w.0.some))
    process_fits n m (procs.ren (p ∷ R) P) w = (refl, ((refl, (process_fits n m P w.1, (on_left P 1, (pair_fits p, (refl, pairs_fit R))))), (refl, refl)))
    process_fits n m (procs.name k) w = (refl, (tt, (refl, refl)))

    pub process_high : (P : Proc) → height_of (process P) ≤ depth P + 2
    unfolding is_heavy process_tree
    process_high procs.stop = omega arith
    process_high procs.skip = omega arith
    process_high (procs.prefix a P) = omega (arith, tree_high (ev a), process_high P)
    process_high (procs.ext P Q) = omega (arith, process_high P, process_high Q)
    process_high (procs.int P Q) = omega (arith, process_high P, process_high Q)
    process_high (procs.seq P Q) = omega (arith, process_high P, process_high Q)
    process_high (procs.intr P Q) = omega (arith, process_high P, process_high Q)
    process_high (procs.par A P Q) = omega (arith, process_high P, process_high Q, set_high (members A), depth_some P)
    process_high (procs.hide A P) = omega (arith, process_high P, set_high (members A), depth_some P)
    process_high (procs.ren R P) = omega (arith, process_high P, pairs_high R)
    process_high (procs.name k) = omega arith

    pub process_nested : (P : Proc) → nesting (process P) ≤ depth P + 1
    unfolding nesting nests nests_part rule opening behind process_tree
    process_nested procs.stop = omega arith
    process_nested procs.skip = omega arith
    process_nested (procs.prefix a P) = omega (arith, tree_nested (ev a), process_nested P)
    process_nested (procs.ext P Q) = omega (arith, process_nested P, process_nested Q)
    process_nested (procs.int P Q) = omega (arith, process_nested P, process_nested Q)
    process_nested (procs.seq P Q) = omega (arith, process_nested P, process_nested Q)
    process_nested (procs.intr P Q) = omega (arith, process_nested P, process_nested Q)
    process_nested (procs.par A P Q) = omega (arith, process_nested P, process_nested Q, set_nested (members A), depth_some P)
    process_nested (procs.hide A P) = omega (arith, process_nested P, set_nested (members A), depth_some P)
    process_nested (procs.ren [] P) = omega (arith, process_nested P, depth_some P)
    process_nested (procs.ren (p ∷ R) P) = omega (arith, process_nested P, pair_nested p, pairs_nested R, depth_some P)
    process_nested (procs.name k) = omega arith
