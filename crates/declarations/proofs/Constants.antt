-- The constants of what phrases stand for are those that names stand for.
use Rattle.std.proofs.Common.{◌≡◌, ℕ, zero, suc, List, [], ◌∷◌, filter, Bool, true, false, cond, ◌&&◌, Some, None, ℤ, pos, ◌+ℤ◌, ◌-ℤ◌, not, refl, sym, ap, ◌∙◌}
use Rattle.std.specs.Prelude.{int_lt, int_le, nat_le, length}
use Rattle.std.specs.Int.{int_gap}
use Rattle.std.specs.List.{list_all}
use Rattle.std.specs.Ordering.{match_ordering}
use Rattle.std.specs.BTreeSet.{insert_key}
use Rattle.std.specs.declared.cmp.Ordering.{Ordering}
use Rattle.std.specs.declared.cmp.Ordering.TheVariants.{Less, Equal, Greater}
use Rattle.alphabet.specs.Channels.{FieldValue, number, Values}
use Rattle.syntax.specs.declared.form.Form.{Form}
use Rattle.syntax.specs.declared.form.Form.TheVariants as forms
use Rattle.syntax.specs.declared.operator.Operator.{Operator}
use Rattle.syntax.specs.Grammar.{Syntax}
use Rattle.values.specs.Values.{◌>>=◌, Name, value_cmp, is_among, limited, set_of, union, intersection, difference, fitting_set, numbers_from, range}
use Rattle.values.specs.Worths.{Worth, one, many, truth, Known, the_value, the_number, the_set, the_truth, the_only, the_two, two_numbers, two_sets, all_values, set_of_all, nothing_of, truth_of, calculated, computed, compared, is_comparison, comparison, operated, negated, negated_truth, set_with, range_with, union_with, intersection_with, difference_with, formed, worth}
use Rattle.values.proofs.Keeps.{EachWorth, worth_keeps}
use Rattle.declared_names.proofs.Chains.{bind_some, some_same, left, right, both}
use Rattle.declarations.specs.Passing.{passes, all_pass, pass}

-- an answer that isn't there is no answer
pub no_some : {A : Type 0} {x : A} → None ≡ Some x → ⊥
no_some h = cc

module _ (p : Name → Bool) where
  -- ---- sets

  insert_pass : (vs : Values) (v : FieldValue) → all_pass p vs ≡ true → passes p v ≡ true → all_pass p (insert_key value_cmp vs v) ≡ true
  insert_pass [] v h k = both (passes p v) true k refl
  insert_pass (w ∷ ws) v h k = by (value_cmp v w) (insert_pass ws v (right (passes p w) (all_pass p ws) h) k)
    where
      by : (o : Ordering) → all_pass p (insert_key value_cmp ws v) ≡ true → all_pass p (match_ordering o (v ∷ w ∷ ws) (w ∷ ws) (w ∷ insert_key value_cmp ws v)) ≡ true
      by Less ih = both (passes p v) (all_pass p (w ∷ ws)) k h
      by Equal ih = h
      by Greater ih = both (passes p w) (all_pass p (insert_key value_cmp ws v)) (left (passes p w) (all_pass p ws) h) ih

  pub set_pass : (vs : Values) → all_pass p vs ≡ true → all_pass p (set_of vs) ≡ true
  unfolding set_of
  set_pass [] h = refl
  set_pass (v ∷ vs) h = insert_pass (set_of vs) v (set_pass vs (right (passes p v) (all_pass p vs) h)) (left (passes p v) (all_pass p vs) h)

  union_pass : (vs ws : Values) → all_pass p vs ≡ true → all_pass p ws ≡ true → all_pass p (union vs ws) ≡ true
  unfolding union
  union_pass vs [] h k = h
  union_pass vs (w ∷ ws) h k = union_pass (insert_key value_cmp vs w) ws (insert_pass vs w h (left (passes p w) (all_pass p ws) k)) (right (passes p w) (all_pass p ws) k)

  filter_pass : (q : FieldValue → Bool) (vs : Values) → all_pass p vs ≡ true → all_pass p (filter q vs) ≡ true
  filter_pass q [] h = refl
  filter_pass q (v ∷ vs) h = by (q v) (left (passes p v) (all_pass p vs) h) (filter_pass q vs (right (passes p v) (all_pass p vs) h))
    where
      by : (b : Bool) → passes p v ≡ true → all_pass p (filter q vs) ≡ true → all_pass p (cond b (v ∷ filter q vs) (filter q vs)) ≡ true
      by true k ih = both (passes p v) (all_pass p (filter q vs)) k ih
      by false k ih = ih

  numbers_pass : (z : ℤ) (n : ℕ) → all_pass p (numbers_from z n) ≡ true
  unfolding numbers_from
  numbers_pass z zero = refl
  numbers_pass z (suc n) = numbers_pass (z +ℤ pos 1) n

  range_pass : (x y : ℤ) (vs : Values) → range x y ≡ Some vs → all_pass p vs ≡ true
  unfolding range
  range_pass x y vs h = by (int_lt y x) (int_le y (x +ℤ pos 65535)) h
    where
      by : (b c : Bool) → cond b (Some []) (cond c (Some (numbers_from x (suc (int_gap x y)))) None) ≡ Some vs → all_pass p vs ≡ true
      by true c h = ap (all_pass p) (sym (some_same h))
      by false true h = ap (all_pass p) (sym (some_same h)) ∙ numbers_pass x (suc (int_gap x y))
      by false false h = absurd cc

  fitting_pass : (vs us : Values) → fitting_set vs ≡ Some us → all_pass p vs ≡ true → all_pass p us ≡ true
  unfolding fitting_set
  fitting_pass vs us h k = by (nat_le (length vs) 65536) h
    where
      by : (b : Bool) → cond b (Some vs) None ≡ Some us → all_pass p us ≡ true
      by true h = ap (all_pass p) (sym (some_same h)) ∙ k
      by false h = absurd cc

  -- ---- what the parts of a form stand for

  abbrev list_pass : List Worth → Bool
  list_pass ws = list_all (pass p) ws

  only_pass : (ws : List Worth) (w : Worth) → the_only ws ≡ Some w → list_pass ws ≡ true → pass p w ≡ true
  unfolding the_only
  only_pass [] w h k = absurd cc
  only_pass (v ∷ []) w h k = ap (pass p) (sym (some_same h)) ∙ left (pass p v) true k
  only_pass (v ∷ u ∷ ws) w h k = absurd cc

  two_pass : (ws : List Worth) (x : Worth × Worth) → the_two ws ≡ Some x → list_pass ws ≡ true → (pass p x.0 ≡ true) × (pass p x.1 ≡ true)
  unfolding the_two
  two_pass [] x h k = absurd cc
  two_pass (v ∷ []) x h k = absurd cc
  two_pass (v ∷ u ∷ []) x h k =
      let e : (v, u) ≡ x = some_same h in
      (ap (λ (y : Worth × Worth). pass p y.0) (sym e) ∙ left (pass p v) (pass p u && true) k, ap (λ (y : Worth × Worth). pass p y.1) (sym e) ∙ left (pass p u) true (right (pass p v) (pass p u && true) k))
  two_pass (v ∷ u ∷ t ∷ ws) x h k = absurd cc

  pub sets_pass : (w : Worth) (vs : Values) → the_set w ≡ Some vs → pass p w ≡ true → all_pass p vs ≡ true
  unfolding the_set
  sets_pass (one v) vs h k = absurd cc
  sets_pass (many us) vs h k = ap (all_pass p) (sym (some_same h)) ∙ k
  sets_pass (truth b) vs h k = absurd cc

  two_sets_pass : (ws : List Worth) (x : Values × Values) → two_sets ws ≡ Some x → list_pass ws ≡ true → (all_pass p x.0 ≡ true) × (all_pass p x.1 ≡ true)
  unfolding two_sets
  two_sets_pass ws x h k =
      let (q, a, b) = bind_some (the_two ws) (λ q. the_set q.0 >>= λ vs. the_set q.1 >>= λ us. Some (vs, us)) x h in
      let (vs, c, d) = bind_some (the_set q.0) (λ vs. the_set q.1 >>= λ us. Some (vs, us)) x b in
      let (us, e, f) = bind_some (the_set q.1) (λ us. Some (vs, us)) x d in
      let g = two_pass ws q a k in
      let i : (vs, us) ≡ x = some_same f in
      (ap (λ (y : Values × Values). all_pass p y.0) (sym i) ∙ sets_pass q.0 vs c g.0, ap (λ (y : Values × Values). all_pass p y.1) (sym i) ∙ sets_pass q.1 us e g.1)

  values_pass : (ws : List Worth) (vs : Values) → all_values ws ≡ Some vs → list_pass ws ≡ true → all_pass p vs ≡ true
  unfolding all_values the_value
  values_pass [] vs h k = ap (all_pass p) (sym (some_same h))
  values_pass (w ∷ ws) vs h k =
      let (us, a, b) = bind_some (all_values ws) (λ us. the_value w >>= λ v. Some (v ∷ us)) vs h in
      let (v, c, d) = bind_some (the_value w) (λ v. Some (v ∷ us)) vs b in
      ap (all_pass p) (sym (some_same d)) ∙ both (passes p v) (all_pass p us) (here w v c (left (pass p w) (list_pass ws) k)) (values_pass ws us a (right (pass p w) (list_pass ws) k))
    where
      here : (w : Worth) (v : FieldValue) → the_value w ≡ Some v → pass p w ≡ true → passes p v ≡ true
      here (one u) v h k = ap (passes p) (sym (some_same h)) ∙ k
      here (many us) v h k = absurd cc
      here (truth b) v h k = absurd cc

  -- ---- forms

  computed_pass : (op : Operator) (ws : List Worth) (w : Worth) → computed op ws ≡ Some w → pass p w ≡ true
  unfolding computed
  computed_pass op ws w h =
      let (q, a, b) = bind_some (two_numbers ws) (λ q. calculated op q.0 q.1 >>= λ z. Some (one (number z))) w h in
      let (z, c, d) = bind_some (calculated op q.0 q.1) (λ z. Some (one (number z))) w b in
      ap (pass p) (sym (some_same d))

  comparison_pass : (op : Operator) (ws : List Worth) (w : Worth) → comparison op ws ≡ Some w → pass p w ≡ true
  unfolding comparison
  comparison_pass op ws w h =
      let (q, a, b) = bind_some (the_two ws) (λ q. compared op q.0 q.1 >>= λ b. Some (truth b)) w h in
      let (c, d, e) = bind_some (compared op q.0 q.1) (λ b. Some (truth b)) w b in
      ap (pass p) (sym (some_same e))

  operated_pass : (op : Operator) (ws : List Worth) (w : Worth) → operated op ws ≡ Some w → pass p w ≡ true
  unfolding operated
  operated_pass op ws w h = by (is_comparison op) h
    where
      by : (b : Bool) → cond b (comparison op ws) (computed op ws) ≡ Some w → pass p w ≡ true
      by true h = comparison_pass op ws w h
      by false h = computed_pass op ws w h

  truth_pass : (b : Bool) (ws : List Worth) (w : Worth) → truth_of b ws ≡ Some w → pass p w ≡ true
  unfolding truth_of
  truth_pass b [] w h = ap (pass p) (sym (some_same h))
  truth_pass b (v ∷ ws) w h = absurd cc

  other_pass : (ws : List Worth) (w : Worth) → negated_truth ws ≡ Some w → pass p w ≡ true
  unfolding negated_truth
  other_pass ws w h =
      let (v, a, b) = bind_some (the_only ws) (λ w. the_truth w >>= λ b. Some (truth (not b))) w h in
      let (c, d, e) = bind_some (the_truth v) (λ b. Some (truth (not b))) w b in
      ap (pass p) (sym (some_same e))

  negated_pass : (ws : List Worth) (w : Worth) → negated ws ≡ Some w → pass p w ≡ true
  unfolding negated
  negated_pass ws w h =
      let (v, a, b) = bind_some (the_only ws) (λ w. the_number w >>= λ y. limited (pos 0 -ℤ y) >>= λ z. Some (one (number z))) w h in
      let (y, c, d) = bind_some (the_number v) (λ y. limited (pos 0 -ℤ y) >>= λ z. Some (one (number z))) w b in
      let (z, e, f) = bind_some (limited (pos 0 -ℤ y)) (λ z. Some (one (number z))) w d in
      ap (pass p) (sym (some_same f))

  nothing_pass : (ws : List Worth) (w : Worth) → nothing_of ws ≡ Some w → pass p w ≡ true
  unfolding nothing_of
  nothing_pass [] w h = ap (pass p) (sym (some_same h))
  nothing_pass (v ∷ ws) w h = absurd cc

  listed_pass : (ws : List Worth) (w : Worth) → set_with ws ≡ Some w → list_pass ws ≡ true → pass p w ≡ true
  unfolding set_with set_of_all
  listed_pass ws w h k =
      let (vs, a, b) = bind_some (all_values ws >>= λ vs. Some (set_of vs)) (λ vs. fitting_set vs >>= λ us. Some (many us)) w h in
      let (us, c, d) = bind_some (all_values ws) (λ vs. Some (set_of vs)) vs a in
      let (ts, e, f) = bind_some (fitting_set vs) (λ us. Some (many us)) w b in
      ap (pass p) (sym (some_same f)) ∙ fitting_pass vs ts e (ap (all_pass p) (sym (some_same d)) ∙ set_pass us (values_pass ws us c k))

  ranged_pass : (ws : List Worth) (w : Worth) → range_with ws ≡ Some w → pass p w ≡ true
  unfolding range_with
  ranged_pass ws w h =
      let (q, a, b) = bind_some (two_numbers ws) (λ q. range q.0 q.1 >>= λ vs. Some (many vs)) w h in
      let (vs, c, d) = bind_some (range q.0 q.1) (λ vs. Some (many vs)) w b in
      ap (pass p) (sym (some_same d)) ∙ range_pass q.0 q.1 vs c

  united_pass : (ws : List Worth) (w : Worth) → union_with ws ≡ Some w → list_pass ws ≡ true → pass p w ≡ true
  unfolding union_with
  united_pass ws w h k =
      let (q, a, b) = bind_some (two_sets ws) (λ q. fitting_set (union q.0 q.1) >>= λ vs. Some (many vs)) w h in
      let (vs, c, d) = bind_some (fitting_set (union q.0 q.1)) (λ vs. Some (many vs)) w b in
      let g = two_sets_pass ws q a k in
      ap (pass p) (sym (some_same d)) ∙ fitting_pass (union q.0 q.1) vs c (union_pass q.0 q.1 g.0 g.1)

  shared_pass : (ws : List Worth) (w : Worth) → intersection_with ws ≡ Some w → list_pass ws ≡ true → pass p w ≡ true
  unfolding intersection_with intersection
  shared_pass ws w h k =
      let (q, a, b) = bind_some (two_sets ws) (λ q. Some (many (intersection q.0 q.1))) w h in
      ap (pass p) (sym (some_same b)) ∙ filter_pass (λ v. is_among v q.1) q.0 (two_sets_pass ws q a k).0

  parted_pass : (ws : List Worth) (w : Worth) → difference_with ws ≡ Some w → list_pass ws ≡ true → pass p w ≡ true
  unfolding difference_with difference
  parted_pass ws w h k =
      let (q, a, b) = bind_some (two_sets ws) (λ q. Some (many (difference q.0 q.1))) w h in
      ap (pass p) (sym (some_same b)) ∙ filter_pass (λ v. not (is_among v q.1)) q.0 (two_sets_pass ws q a k).0

  formed_pass : (f : Form) (ws : List Worth) (w : Worth) → formed f ws ≡ Some w → list_pass ws ≡ true → pass p w ≡ true
  unfolding formed
  formed_pass forms.Event ws w h k = only_pass ws w h k
  formed_pass forms.Brackets ws w h k = only_pass ws w h k
  formed_pass forms.Negation ws w h k = negated_pass ws w h
  formed_pass forms.NegativeNumber ws w h k = negated_pass ws w h
  formed_pass forms.True ws w h k = truth_pass true ws w h
  formed_pass forms.False ws w h k = truth_pass false ws w h
  formed_pass forms.Not ws w h k = other_pass ws w h
  formed_pass (forms.Operation op) ws w h k = operated_pass op ws w h
  formed_pass forms.EmptySet ws w h k = nothing_pass ws w h
  formed_pass forms.Set ws w h k = listed_pass ws w h k
  formed_pass forms.Range ws w h k = ranged_pass ws w h
  formed_pass forms.Union ws w h k = united_pass ws w h k
  formed_pass forms.Intersection ws w h k = shared_pass ws w h k
  formed_pass forms.Difference ws w h k = parted_pass ws w h k
  formed_pass f ws w h k = absurd (no_some h)

  each_pass : (ws : List Worth) → EachWorth (λ w. pass p w ≡ true) ws → list_pass ws ≡ true
  each_pass [] h = refl
  each_pass (w ∷ ws) h = both (pass p w) (list_pass ws) h.0 (each_pass ws h.1)

  pub worth_pass : (known : Known) → ((n : Name) (w : Worth) → known n ≡ Some w → pass p w ≡ true) → (t : Syntax) (w : Worth) → worth known t ≡ Some w → pass p w ≡ true
  worth_pass known h t w e = worth_keeps (λ w. pass p w ≡ true) (λ y z e. refl) (λ b. refl) (λ f ws w e k. formed_pass f ws w e (each_pass ws k)) known h t w e
