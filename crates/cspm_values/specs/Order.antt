-- The order of values is total.
use Rattle.std.proofs.Common.{◌≡◌, refl, sym, ap, ap₂, ◌∙◌}
use Rattle.std.specs.Prelude.{true, false, pos}
use Rattle.std.specs.Ordering.{ordering_reverse, ordering_then, int_cmp, nat_cmp}
use Rattle.std.specs.Cmp.{IsTotalOrder}
use Rattle.std.specs.Cmp.Lexicographic.{slice_cmp}
use Rattle.std.proofs.lemmas.Cmp.{int_cmp_total, nat_cmp_total, nat_list_cmp_total, then_total, on_total}
use Rattle.std.proofs.lemmas.Map.Lookups.{exact_signed, exact_bytes}
use Rattle.std.specs.declared.cmp.Ordering.{Ordering}
use Rattle.std.specs.declared.cmp.Ordering.TheVariants.{Less, Equal, Greater}
use Rattle.cspm_values.specs.Values.{Head, number, truth, constructor, tuple, sequence, set, Value, Values, value, none, more, rank, name_of, size_of, head_cmp, value_cmp, values_cmp}

-- ---- heads

head_total : IsTotalOrder head_cmp
head_total = then_total (then_total (on_total rank nat_cmp_total) (on_total name_of nat_list_cmp_total)) (on_total size_of int_cmp_total)

both_equal : (p q : Ordering) → ordering_then p q ≡ Equal → (p ≡ Equal) × (q ≡ Equal)
both_equal Less q e = absurd cc
both_equal Equal q e = (refl, e)
both_equal Greater q e = absurd cc

exact_head : (g h : Head) → head_cmp g h ≡ Equal → g ≡ h
exact_head (number y) (number z) e = ap number (exact_signed y z e)
exact_head (truth false) (truth false) e = refl
exact_head (truth true) (truth true) e = refl
exact_head (constructor m i) (constructor n j) e =
    let p = both_equal (slice_cmp nat_cmp m n) (int_cmp (pos i) (pos j)) e in
    let sizes : pos i ≡ pos j = exact_signed (pos i) (pos j) p.1 in
    ap₂ constructor (exact_bytes m n p.0) (cc)
exact_head tuple tuple e = refl
exact_head sequence sequence e = refl
exact_head set set e = refl
exact_head g h e = absurd cc

-- ---- values

mutual
  unfolding value_cmp values_cmp

  pub value_exact : (v w : Value) → value_cmp v w ≡ Equal → v ≡ w
  value_exact (value g vs) (value h ws) e =
      let p = both_equal (head_cmp g h) (values_cmp vs ws) e in
      ap₂ value (exact_head g h p.0) (values_exact vs ws p.1)

  values_exact : (vs ws : Values) → values_cmp vs ws ≡ Equal → vs ≡ ws
  values_exact none none e = refl
  values_exact none (more w ws) e = absurd cc
  values_exact (more v vs) none e = absurd cc
  values_exact (more v vs) (more w ws) e =
      let p = both_equal (value_cmp v w) (values_cmp vs ws) e in
      ap₂ more (value_exact v w p.0) (values_exact vs ws p.1)

turned : (p q r s : Ordering) → p ≡ ordering_reverse r → q ≡ ordering_reverse s → ordering_then p q ≡ ordering_reverse (ordering_then r s)
turned p q Less s e f = ap (λ o. ordering_then o q) e
turned p q Equal s e f = ap (λ o. ordering_then o q) e ∙ f
turned p q Greater s e f = ap (λ o. ordering_then o q) e

mutual
  unfolding value_cmp values_cmp

  antisymm : (v w : Value) → value_cmp v w ≡ ordering_reverse (value_cmp w v)
  antisymm (value g vs) (value h ws) = turned (head_cmp g h) (values_cmp vs ws) (head_cmp h g) (values_cmp ws vs) (head_total.antisymm g h) (all_antisymm vs ws)

  all_antisymm : (vs ws : Values) → values_cmp vs ws ≡ ordering_reverse (values_cmp ws vs)
  all_antisymm none none = refl
  all_antisymm none (more w ws) = refl
  all_antisymm (more v vs) none = refl
  all_antisymm (more v vs) (more w ws) = turned (value_cmp v w) (values_cmp vs ws) (value_cmp w v) (values_cmp ws vs) (antisymm v w) (all_antisymm vs ws)

-- p, q and r compare the first parts of x and y, of y and z, of x and z; a, b and c the others
through : (p q r a b c : Ordering) → (p ≡ Less → q ≡ Less → r ≡ Less) → (p ≡ Equal → r ≡ q) → (q ≡ Equal → r ≡ p) → (a ≡ Less → b ≡ Less → c ≡ Less) → ordering_then p a ≡ Less → ordering_then q b ≡ Less → ordering_then r c ≡ Less
through Less Less r a b c both left right rest e f = ap (λ o. ordering_then o c) (both refl refl)
through Less Equal r a b c both left right rest e f = ap (λ o. ordering_then o c) (right refl)
through Less Greater r a b c both left right rest e f = absurd cc
through Equal Less r a b c both left right rest e f = ap (λ o. ordering_then o c) (left refl)
through Equal Equal r a b c both left right rest e f = ap (λ o. ordering_then o c) (left refl) ∙ rest e f
through Equal Greater r a b c both left right rest e f = absurd cc
through Greater q r a b c both left right rest e f = absurd cc

mutual
  unfolding value_cmp values_cmp

  trans : (u v w : Value) → value_cmp u v ≡ Less → value_cmp v w ≡ Less → value_cmp u w ≡ Less
  trans (value g us) (value h vs) (value k ws) e f =
      through (head_cmp g h) (head_cmp h k) (head_cmp g k) (values_cmp us vs) (values_cmp vs ws) (values_cmp us ws)
      (head_total.trans g h k) (λ q. ap (λ x. head_cmp x k) (exact_head g h q)) (λ q. sym (ap (head_cmp g) (exact_head h k q))) (all_trans us vs ws) e f

  all_trans : (us vs ws : Values) → values_cmp us vs ≡ Less → values_cmp vs ws ≡ Less → values_cmp us ws ≡ Less
  all_trans none none ws e f = absurd cc
  all_trans none (more v vs) none e f = absurd cc
  all_trans none (more v vs) (more w ws) e f = refl
  all_trans (more u us) none ws e f = absurd cc
  all_trans (more u us) (more v vs) none e f = absurd cc
  all_trans (more u us) (more v vs) (more w ws) e f =
      through (value_cmp u v) (value_cmp v w) (value_cmp u w) (values_cmp us vs) (values_cmp vs ws) (values_cmp us ws)
      (trans u v w) (λ q. ap (λ x. value_cmp x w) (value_exact u v q)) (λ q. sym (ap (value_cmp u) (value_exact v w q))) (all_trans us vs ws) e f

pub value_total : IsTotalOrder value_cmp
value_total = record { antisymm = antisymm; trans = trans; congr = λ u v w e. ap (λ x. value_cmp x w) (value_exact u v e) }
