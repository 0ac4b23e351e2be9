-- What phrases stand for: numbers within the limits, constants that names stand for, sets in order, and truths.
use Rattle.std.proofs.Common.{◌≡◌, ℕ, zero, suc, ◌<◌, ◌≤◌, List, [], ◌∷◌, filter, Bool, true, false, cond, ◌&&◌, not, Some, None, ℤ, pos, negsuc, ◌+ℤ◌, ◌-ℤ◌, ◌≤ℤ◌, ◌<ℤ◌, refl, sym, subst, ◌∙◌, arith}
use Rattle.std.proofs.lemmas.Int.{ints, rem_below}
use Rattle.std.specs.Prelude.{int_lt, int_le, nat_le, length, unsigned_abs, int_rem, ◌*ℤ◌}
use Rattle.std.specs.Int.{int_gap}
use Rattle.std.specs.Ordering.{match_ordering}
use Rattle.std.specs.Cmp.{int_cmp_is}
use Rattle.std.specs.BTreeSet.{insert_key}
use Rattle.std.specs.declared.cmp.Ordering.{Ordering}
use Rattle.std.specs.declared.cmp.Ordering.TheVariants.{Less, Equal, Greater}
use Rattle.alphabet.specs.Channels.{FieldValue, number, constant, Values}
use Rattle.syntax.specs.declared.form.Form.{Form}
use Rattle.syntax.specs.declared.form.Form.TheVariants as forms
use Rattle.syntax.specs.declared.operator.Operator.{Operator}
use Rattle.syntax.specs.declared.operator.Operator.TheVariants as operators
use Rattle.syntax.specs.Grammar.{Syntax}
use Rattle.values.specs.Values.{◌>>=◌, Name, value_cmp, is_among, limited, remainder, set_of, union, intersection, difference, fitting_set, numbers_from, range}
use Rattle.values.specs.Worths.{Worth, one, many, truth, Known, the_value, the_number, the_set, the_truth, the_only, the_two, two_numbers, two_sets, all_values, set_of_all, nothing_of, calculated, computed, compared, is_comparison, comparison, operated, truth_of, negated_truth, negated, set_with, range_with, union_with, intersection_with, difference_with, formed, worth}
use Rattle.values.specs.Order.{value_total}
use Rattle.values.proofs.Keeps.{EachWorth, worth_keeps}
use Rattle.declared_names.proofs.Chains.{bind_some, some_same}
use Rattle.read_back.proofs.Ordered.{Above, Rises, rises_insert}

-- ---- numbers

abbrev pub InLimits : ℤ → Type 0
InLimits z = (negsuc 999999 ≤ℤ z) × (z ≤ℤ pos 1000000)

at_most : (y z : ℤ) → int_le y z ≡ true → y ≤ℤ z
at_most y z e = grind (arith, ints)

below_so : (y z : ℤ) → int_lt y z ≡ true → y <ℤ z
below_so y z e = grind (arith, ints)

not_below : (y z : ℤ) → int_lt y z ≡ false → z ≤ℤ y
not_below y z e = grind (arith, ints)

limits : (z y : ℤ) → limited z ≡ Some y → InLimits y
unfolding limited
limits z y h = by (int_le (negsuc 999999) z) (int_le z (pos 1000000)) refl refl h
  where
    by : (a b : Bool) → int_le (negsuc 999999) z ≡ a → int_le z (pos 1000000) ≡ b → cond (a && b) (Some z) None ≡ Some y → InLimits y
    by true true e f g = subst InLimits (some_same g) (at_most (negsuc 999999) z e, at_most z (pos 1000000) f)
    by true false e f g = absurd cc
    by false b e f g = absurd cc

small_abs : (z : ℤ) → unsigned_abs z < 1000001 → InLimits z
small_abs (pos n) h = (omega (arith, ints), omega (arith, ints, h))
small_abs (negsuc n) h = (omega (arith, ints, h), omega (arith, ints))

abs_small : (z : ℤ) → InLimits z → pos 0 <ℤ z → (0 < unsigned_abs z) × (unsigned_abs z ≤ 1000000)
abs_small (pos n) h k = (omega (arith, ints, h.1, k), omega (arith, ints, h.1))
abs_small (negsuc n) h k = absurd (omega (arith, ints, k))

remains : (x y z : ℤ) → InLimits y → remainder x y ≡ Some z → InLimits z
unfolding remainder
remains x y z l h = by (int_le (pos 0) x) (int_lt (pos 0) y) refl h
  where
    by : (a b : Bool) → int_lt (pos 0) y ≡ b → cond (a && b) (Some (int_rem x y)) None ≡ Some z → InLimits z
    by true true e g =
        let s = abs_small y l (below_so (pos 0) y e) in
        let r = rem_below x y s.0 in
        subst InLimits (some_same g) (small_abs (int_rem x y) (omega (arith, r, s.1)))
    by true false e g = absurd cc
    by false b e g = absurd cc

-- ---- sets

abbrev Rising : Values → Type 0
Rising vs = Rises value_cmp value_total vs

less_number : (x y : ℤ) → x <ℤ y → value_cmp (number x) (number y) ≡ Less
less_number x y h = sym (int_cmp_is x y Less h)

above_numbers : (x y : ℤ) (n : ℕ) → x <ℤ y → Above value_cmp value_total (number x) (numbers_from y n)
unfolding numbers_from
above_numbers x y zero h = tt
above_numbers x y (suc n) h = (less_number x y h, above_numbers x (y +ℤ pos 1) n (omega (arith, ints, h)))

numbers_rise : (x : ℤ) (n : ℕ) → Rising (numbers_from x n)
unfolding numbers_from
numbers_rise x zero = tt
numbers_rise x (suc n) = (above_numbers x (x +ℤ pos 1) n (omega (arith, ints)), numbers_rise (x +ℤ pos 1) n)

union_rises : (vs ws : Values) → Rising vs → Rising (union vs ws)
unfolding union
union_rises vs [] h = h
union_rises vs (w ∷ ws) h = union_rises (insert_key value_cmp vs w) ws (rises_insert value_cmp value_total vs w h)

pub set_rises : (vs : Values) → Rising (set_of vs)
unfolding set_of
set_rises [] = tt
set_rises (v ∷ vs) = rises_insert value_cmp value_total (set_of vs) v (set_rises vs)

above_filter : (x : FieldValue) (q : FieldValue → Bool) (vs : Values) → Above value_cmp value_total x vs → Above value_cmp value_total x (filter q vs)
above_filter x q [] h = tt
above_filter x q (v ∷ vs) h = by (q v) (above_filter x q vs h.1)
  where
    by : (b : Bool) → Above value_cmp value_total x (filter q vs) → Above value_cmp value_total x (cond b (v ∷ filter q vs) (filter q vs))
    by true r = (h.0, r)
    by false r = r

filter_rises : (q : FieldValue → Bool) (vs : Values) → Rising vs → Rising (filter q vs)
filter_rises q [] h = tt
filter_rises q (v ∷ vs) h = by (q v) (filter_rises q vs h.1)
  where
    by : (b : Bool) → Rising (filter q vs) → Rising (cond b (v ∷ filter q vs) (filter q vs))
    by true r = (above_filter v q vs h.0, r)
    by false r = r

-- ---- values whose constants are known

module _ (Q : Name → Type 0) where
  abbrev pub Fine : FieldValue → Type 0
  Fine (number z) = InLimits z
  Fine (constant n) = Q n

  abbrev pub AllFine : Values → Type 0
  AllFine [] = Unit {0}
  AllFine (v ∷ vs) = Fine v × AllFine vs

  -- one value, a set in order, or a truth
  abbrev pub FineWorth : Worth → Type 0
  FineWorth (one v) = Fine v
  FineWorth (many vs) = AllFine vs × Rises value_cmp value_total vs
  FineWorth (truth b) = Unit {0}

  insert_fine : (vs : Values) (v : FieldValue) → AllFine vs → Fine v → AllFine (insert_key value_cmp vs v)
  insert_fine [] v h k = (k, tt)
  insert_fine (w ∷ ws) v h k = by (value_cmp v w) (insert_fine ws v h.1 k)
    where
      by : (o : Ordering) → AllFine (insert_key value_cmp ws v) → AllFine (match_ordering o (v ∷ w ∷ ws) (w ∷ ws) (w ∷ insert_key value_cmp ws v))
      by Less ih = (k, h)
      by Equal ih = h
      by Greater ih = (h.0, ih)

  pub set_fine : (vs : Values) → AllFine vs → AllFine (set_of vs)
  unfolding set_of
  set_fine [] h = tt
  set_fine (v ∷ vs) h = insert_fine (set_of vs) v (set_fine vs h.1) h.0

  union_fine : (vs ws : Values) → AllFine vs → AllFine ws → AllFine (union vs ws)
  unfolding union
  union_fine vs [] h k = h
  union_fine vs (w ∷ ws) h k = union_fine (insert_key value_cmp vs w) ws (insert_fine vs w h k.0) k.1

  filter_fine : (q : FieldValue → Bool) (vs : Values) → AllFine vs → AllFine (filter q vs)
  filter_fine q [] h = tt
  filter_fine q (v ∷ vs) h = by (q v) (filter_fine q vs h.1)
    where
      by : (b : Bool) → AllFine (filter q vs) → AllFine (cond b (v ∷ filter q vs) (filter q vs))
      by true ih = (h.0, ih)
      by false ih = ih

  numbers_fine : (z : ℤ) (n : ℕ) → negsuc 999999 ≤ℤ z → (z +ℤ pos n) ≤ℤ pos 1000001 → AllFine (numbers_from z n)
  unfolding numbers_from
  numbers_fine z zero l h = tt
  numbers_fine z (suc n) l h = ((l, omega (arith, ints, h)), numbers_fine (z +ℤ pos 1) n (omega (arith, ints, l)) (omega (arith, ints, h)))

  gap_end : (x y : ℤ) → x ≤ℤ y → x +ℤ pos (suc (int_gap x y)) ≡ y +ℤ pos 1
  gap_end (pos a) (pos b) h = omega (arith, ints)
  gap_end (pos a) (negsuc b) h = absurd (omega (arith, ints))
  gap_end (negsuc a) (pos b) h = omega (arith, ints)
  gap_end (negsuc a) (negsuc b) h = omega (arith, ints)

  range_fine : (x y : ℤ) (vs : Values) → InLimits x → InLimits y → range x y ≡ Some vs → FineWorth (many vs)
  unfolding range
  range_fine x y vs l k h = by (int_lt y x) (int_le y (x +ℤ pos 65535)) refl h
    where
      by : (b c : Bool) → int_lt y x ≡ b → cond b (Some []) (cond c (Some (numbers_from x (suc (int_gap x y)))) None) ≡ Some vs → FineWorth (many vs)
      by true c e h = subst (λ us. FineWorth (many us)) (some_same h) (tt, tt)
      by false true e h =
          let o = not_below y x e in
          let g = gap_end x y o in
          subst (λ us. FineWorth (many us)) (some_same h) (numbers_fine x (suc (int_gap x y)) l.0 (let u : (x +ℤ pos (suc (int_gap x y))) ≤ℤ pos 1000001 = subst (λ z. z ≤ℤ pos 1000001) (sym g) (omega (arith, ints, k.1)) in u), numbers_rise x (suc (int_gap x y)))
      by false false e h = absurd cc

  fitting_same : (vs us : Values) → fitting_set vs ≡ Some us → vs ≡ us
  unfolding fitting_set
  fitting_same vs us h = by (nat_le (length vs) 65536) h
    where
      by : (b : Bool) → cond b (Some vs) None ≡ Some us → vs ≡ us
      by true h = some_same h
      by false h = absurd cc

  -- ---- what the parts of a form stand for

  abbrev ListFine : List Worth → Type 0
  ListFine ws = EachWorth FineWorth ws

  only_fine : (ws : List Worth) (w : Worth) → the_only ws ≡ Some w → ListFine ws → FineWorth w
  unfolding the_only
  only_fine [] w h k = absurd cc
  only_fine (v ∷ []) w h k = subst FineWorth (some_same h) k.0
  only_fine (v ∷ u ∷ ws) w h k = absurd cc

  two_fine : (ws : List Worth) (x : Worth × Worth) → the_two ws ≡ Some x → ListFine ws → FineWorth x.0 × FineWorth x.1
  unfolding the_two
  two_fine [] x h k = absurd cc
  two_fine (v ∷ []) x h k = absurd cc
  two_fine (v ∷ u ∷ []) x h k =
      let e : (v, u) ≡ x = some_same h in
      (subst (λ (y : Worth × Worth). FineWorth y.0) e k.0, subst (λ (y : Worth × Worth). FineWorth y.1) e k.1.0)
  two_fine (v ∷ u ∷ t ∷ ws) x h k = absurd cc

  sets_fine : (w : Worth) (vs : Values) → the_set w ≡ Some vs → FineWorth w → FineWorth (many vs)
  unfolding the_set
  sets_fine (one v) vs h k = absurd cc
  sets_fine (many us) vs h k = subst (λ xs. FineWorth (many xs)) (some_same h) k
  sets_fine (truth b) vs h k = absurd cc

  number_fine : (w : Worth) (z : ℤ) → the_number w ≡ Some z → FineWorth w → InLimits z
  unfolding the_number
  number_fine (one (number y)) z h k = subst InLimits (some_same h) k
  number_fine (one (constant n)) z h k = absurd cc
  number_fine (many vs) z h k = absurd cc
  number_fine (truth b) z h k = absurd cc

  two_sets_fine : (ws : List Worth) (x : Values × Values) → two_sets ws ≡ Some x → ListFine ws → FineWorth (many x.0) × FineWorth (many x.1)
  unfolding two_sets
  two_sets_fine ws x h k =
      let (q, a, b) = bind_some (the_two ws) (λ q. the_set q.0 >>= λ vs. the_set q.1 >>= λ us. Some (vs, us)) x h in
      let (vs, c, d) = bind_some (the_set q.0) (λ vs. the_set q.1 >>= λ us. Some (vs, us)) x b in
      let (us, e, f) = bind_some (the_set q.1) (λ us. Some (vs, us)) x d in
      let g = two_fine ws q a k in
      let i : (vs, us) ≡ x = some_same f in
      (subst (λ (y : Values × Values). FineWorth (many y.0)) i (sets_fine q.0 vs c g.0), subst (λ (y : Values × Values). FineWorth (many y.1)) i (sets_fine q.1 us e g.1))

  two_numbers_fine : (ws : List Worth) (x : ℤ × ℤ) → two_numbers ws ≡ Some x → ListFine ws → InLimits x.0 × InLimits x.1
  unfolding two_numbers
  two_numbers_fine ws x h k =
      let (q, a, b) = bind_some (the_two ws) (λ q. the_number q.0 >>= λ y. the_number q.1 >>= λ z. Some (y, z)) x h in
      let (y, c, d) = bind_some (the_number q.0) (λ y. the_number q.1 >>= λ z. Some (y, z)) x b in
      let (z, e, f) = bind_some (the_number q.1) (λ z. Some (y, z)) x d in
      let g = two_fine ws q a k in
      let i : (y, z) ≡ x = some_same f in
      (subst (λ (p : ℤ × ℤ). InLimits p.0) i (number_fine q.0 y c g.0), subst (λ (p : ℤ × ℤ). InLimits p.1) i (number_fine q.1 z e g.1))

  one_value : (w : Worth) (v : FieldValue) → the_value w ≡ Some v → FineWorth w → Fine v
  unfolding the_value
  one_value (one u) v h k = subst Fine (some_same h) k
  one_value (many us) v h k = absurd cc
  one_value (truth b) v h k = absurd cc

  values_fine : (ws : List Worth) (vs : Values) → all_values ws ≡ Some vs → ListFine ws → AllFine vs
  unfolding all_values
  values_fine [] vs h k = subst AllFine (some_same h) tt
  values_fine (w ∷ ws) vs h k =
      let (us, a, b) = bind_some (all_values ws) (λ us. the_value w >>= λ v. Some (v ∷ us)) vs h in
      let (v, c, d) = bind_some (the_value w) (λ v. Some (v ∷ us)) vs b in
      subst AllFine (some_same d) (one_value w v c k.0, values_fine ws us a k.1)

  -- ---- forms

  result_fine : (op : Operator) (x y z : ℤ) → InLimits y → calculated op x y ≡ Some z → InLimits z
  unfolding calculated
  result_fine operators.Plus x y z l h = limits (x +ℤ y) z h
  result_fine operators.Minus x y z l h = limits (x -ℤ y) z h
  result_fine operators.Times x y z l h = limits (x *ℤ y) z h
  result_fine operators.Remainder x y z l h = remains x y z l h
  result_fine op x y z l h = absurd cc

  computed_fine : (op : Operator) (ws : List Worth) (w : Worth) → computed op ws ≡ Some w → ListFine ws → FineWorth w
  unfolding computed
  computed_fine op ws w h k =
      let (q, a, b) = bind_some (two_numbers ws) (λ q. calculated op q.0 q.1 >>= λ z. Some (one (number z))) w h in
      let (z, c, d) = bind_some (calculated op q.0 q.1) (λ z. Some (one (number z))) w b in
      subst FineWorth (some_same d) (result_fine op q.0 q.1 z (two_numbers_fine ws q a k).1 c)

  compared_fine : (op : Operator) (ws : List Worth) (w : Worth) → comparison op ws ≡ Some w → FineWorth w
  unfolding comparison
  compared_fine op ws w h =
      let (q, a, b) = bind_some (the_two ws) (λ q. compared op q.0 q.1 >>= λ t. Some (truth t)) w h in
      let (t, c, d) = bind_some (compared op q.0 q.1) (λ t. Some (truth t)) w b in
      subst FineWorth (some_same d) tt

  operated_fine : (op : Operator) (ws : List Worth) (w : Worth) → operated op ws ≡ Some w → ListFine ws → FineWorth w
  unfolding operated
  operated_fine op ws w h k = by (is_comparison op) h
    where
      by : (b : Bool) → cond b (comparison op ws) (computed op ws) ≡ Some w → FineWorth w
      by true h = compared_fine op ws w h
      by false h = computed_fine op ws w h k

  truth_fine : (b : Bool) (ws : List Worth) (w : Worth) → truth_of b ws ≡ Some w → FineWorth w
  unfolding truth_of
  truth_fine b [] w h = subst FineWorth (some_same h) tt
  truth_fine b (v ∷ ws) w h = absurd cc

  other_truth : (ws : List Worth) (w : Worth) → negated_truth ws ≡ Some w → FineWorth w
  unfolding negated_truth
  other_truth ws w h =
      let (v, a, b) = bind_some (the_only ws) (λ w. the_truth w >>= λ b. Some (truth (not b))) w h in
      let (t, c, d) = bind_some (the_truth v) (λ b. Some (truth (not b))) w b in
      subst FineWorth (some_same d) tt

  negated_fine : (ws : List Worth) (w : Worth) → negated ws ≡ Some w → FineWorth w
  unfolding negated
  negated_fine ws w h =
      let (v, a, b) = bind_some (the_only ws) (λ w. the_number w >>= λ y. limited (pos 0 -ℤ y) >>= λ z. Some (one (number z))) w h in
      let (y, c, d) = bind_some (the_number v) (λ y. limited (pos 0 -ℤ y) >>= λ z. Some (one (number z))) w b in
      let (z, e, f) = bind_some (limited (pos 0 -ℤ y)) (λ z. Some (one (number z))) w d in
      subst FineWorth (some_same f) (limits (pos 0 -ℤ y) z e)

  nothing_fine : (ws : List Worth) (w : Worth) → nothing_of ws ≡ Some w → FineWorth w
  unfolding nothing_of
  nothing_fine [] w h = subst FineWorth (some_same h) (tt, tt)
  nothing_fine (v ∷ ws) w h = absurd cc

  listed_fine : (ws : List Worth) (w : Worth) → set_with ws ≡ Some w → ListFine ws → FineWorth w
  unfolding set_with set_of_all
  listed_fine ws w h k =
      let (vs, a, b) = bind_some (all_values ws >>= λ vs. Some (set_of vs)) (λ vs. fitting_set vs >>= λ us. Some (many us)) w h in
      let (us, c, d) = bind_some (all_values ws) (λ vs. Some (set_of vs)) vs a in
      let (ts, e, f) = bind_some (fitting_set vs) (λ us. Some (many us)) w b in
      subst FineWorth (some_same f) (subst (λ xs. FineWorth (many xs)) (some_same d ∙ fitting_same vs ts e) (set_fine us (values_fine ws us c k), set_rises us))

  ranged_fine : (ws : List Worth) (w : Worth) → range_with ws ≡ Some w → ListFine ws → FineWorth w
  unfolding range_with
  ranged_fine ws w h k =
      let (q, a, b) = bind_some (two_numbers ws) (λ q. range q.0 q.1 >>= λ vs. Some (many vs)) w h in
      let (vs, c, d) = bind_some (range q.0 q.1) (λ vs. Some (many vs)) w b in
      let l = two_numbers_fine ws q a k in
      subst FineWorth (some_same d) (range_fine q.0 q.1 vs l.0 l.1 c)

  united_fine : (ws : List Worth) (w : Worth) → union_with ws ≡ Some w → ListFine ws → FineWorth w
  unfolding union_with
  united_fine ws w h k =
      let (q, a, b) = bind_some (two_sets ws) (λ q. fitting_set (union q.0 q.1) >>= λ vs. Some (many vs)) w h in
      let (vs, c, d) = bind_some (fitting_set (union q.0 q.1)) (λ vs. Some (many vs)) w b in
      let g = two_sets_fine ws q a k in
      subst FineWorth (some_same d) (subst (λ xs. FineWorth (many xs)) (fitting_same (union q.0 q.1) vs c) (union_fine q.0 q.1 g.0.0 g.1.0, union_rises q.0 q.1 g.0.1))

  shared_fine : (ws : List Worth) (w : Worth) → intersection_with ws ≡ Some w → ListFine ws → FineWorth w
  unfolding intersection_with intersection
  shared_fine ws w h k =
      let (q, a, b) = bind_some (two_sets ws) (λ q. Some (many (intersection q.0 q.1))) w h in
      let g = (two_sets_fine ws q a k).0 in
      subst FineWorth (some_same b) (filter_fine (λ v. is_among v q.1) q.0 g.0, filter_rises (λ v. is_among v q.1) q.0 g.1)

  parted_fine : (ws : List Worth) (w : Worth) → difference_with ws ≡ Some w → ListFine ws → FineWorth w
  unfolding difference_with difference
  parted_fine ws w h k =
      let (q, a, b) = bind_some (two_sets ws) (λ q. Some (many (difference q.0 q.1))) w h in
      let g = (two_sets_fine ws q a k).0 in
      subst FineWorth (some_same b) (filter_fine (λ v. not (is_among v q.1)) q.0 g.0, filter_rises (λ v. not (is_among v q.1)) q.0 g.1)

  formed_fine : (f : Form) (ws : List Worth) (w : Worth) → formed f ws ≡ Some w → ListFine ws → FineWorth w
  unfolding formed
  formed_fine forms.Event ws w h k = only_fine ws w h k
  formed_fine forms.Brackets ws w h k = only_fine ws w h k
  formed_fine forms.Negation ws w h k = negated_fine ws w h
  formed_fine forms.NegativeNumber ws w h k = negated_fine ws w h
  formed_fine forms.True ws w h k = truth_fine true ws w h
  formed_fine forms.False ws w h k = truth_fine false ws w h
  formed_fine forms.Not ws w h k = other_truth ws w h
  formed_fine (forms.Operation op) ws w h k = operated_fine op ws w h k
  formed_fine forms.EmptySet ws w h k = nothing_fine ws w h
  formed_fine forms.Set ws w h k = listed_fine ws w h k
  formed_fine forms.Range ws w h k = ranged_fine ws w h k
  formed_fine forms.Union ws w h k = united_fine ws w h k
  formed_fine forms.Intersection ws w h k = shared_fine ws w h k
  formed_fine forms.Difference ws w h k = parted_fine ws w h k
  formed_fine f ws w h k = absurd cc

  pub worth_fine : (known : Known) → ((n : Name) (w : Worth) → known n ≡ Some w → FineWorth w) → (t : Syntax) (w : Worth) → worth known t ≡ Some w → FineWorth w
  worth_fine known h t w e = worth_keeps FineWorth limits (λ b. tt) formed_fine known h t w e
