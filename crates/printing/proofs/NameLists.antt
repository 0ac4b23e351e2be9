-- Names in memory, and how many primes they have.
use Rattle.std.proofs.Common.{◌≡◌, ℕ, zero, suc, ◌+◌, ◌-◌, ◌<◌, ◌≤◌, List, [], ◌∷◌, ◌++◌, map, length, take, get_or, append_assoc, inl, inr, Bool, true, false, not, ◌&&◌, cond, Vec, Some, slice_get, refl, sym, ap, ◌∙◌, arith}
use Rattle.std.proofs.lemmas.List.Folds.{list_all-append}
use Rattle.std.proofs.lemmas.List.FromFn.{map-range_with_len_more}
use Rattle.std.proofs.lemmas.Map.Text.{is_eq-slice_cmp}
use Rattle.std.proofs.lemmas.Bool.Decides.{eqb_tells}
use Rattle.std.specs.List.{list_any, list_all, flat_map, range_with_len}
use Rattle.std.specs.Ordering.{nat_cmp, match_ordering, is_eq}
use Rattle.std.specs.Cmp.Lexicographic.{slice_cmp}
use Rattle.std.specs.BTreeSet.{insert_key}
use Rattle.std.specs.BTreeMap.{is_at}
use Rattle.std.specs.declared.cmp.Ordering.{Ordering}
use Rattle.std.specs.declared.cmp.Ordering.TheVariants.{Less, Equal, Greater}
use Rattle.printing.specs.Names.{Name, byte_order, with_names, is_among, primed, differ, first_from}
use Rattle.printing.specs.View.{bytes}
use Rattle.printing.proofs.Lists.{flat_more, flat_next, map_next}

abbrev by_bytes : {B : Type 0} → Vec ℕ B → Vec ℕ B → Ordering
by_bytes m n = slice_cmp nat_cmp m.items n.items

-- a name put in its place
pub insert_view : {B : Type 0} (ks : List (Vec ℕ B)) (k : Vec ℕ B) → bytes (insert_key by_bytes ks k) ≡ insert_key byte_order (bytes ks) k.items
insert_view [] k = refl
insert_view (x ∷ xs) k = by (slice_cmp nat_cmp k.items x.items) (insert_view xs k)
  where
    by : (o : Ordering) → bytes (insert_key by_bytes xs k) ≡ insert_key byte_order (bytes xs) k.items → bytes (match_ordering o (k ∷ x ∷ xs) (x ∷ xs) (x ∷ insert_key by_bytes xs k)) ≡ match_ordering o (k.items ∷ x.items ∷ bytes xs) (x.items ∷ bytes xs) (x.items ∷ insert_key byte_order (bytes xs) k.items)
    by Less h = refl
    by Equal h = refl
    by Greater h = ap (λ ns. x.items ∷ ns) h

pub with_names-append : (ks ns ms : List Name) → with_names ks (ns ++ ms) ≡ with_names (with_names ks ns) ms
unfolding with_names
with_names-append ks [] ms = refl
with_names-append ks (n ∷ ns) ms = with_names-append (insert_key byte_order ks n) ns ms

-- a look-up among names in memory
pub among_view : {B : Type 0} (n : Name) (ks : List (Vec ℕ B)) → list_any (is_at (λ k. slice_cmp nat_cmp n k.items)) ks ≡ is_among (bytes ks) n
among_view n [] = refl
among_view n (k ∷ ks) = rw (is_eq-slice_cmp n k.items, among_view n ks) refl

-- the names with those of one item more
pub names_item : {V X : Type 0} (view : V → X) (f : X → List Name) (ks now new : List Name) (vs : List V) (i : ℕ) (v : V) → i < length vs → v ≡ get_or vs i v →
    now ≡ with_names ks (flat_map f (map view (take i vs))) → new ≡ with_names now (f (view v)) → new ≡ with_names ks (flat_map f (map view (take (i + 1) vs)))
names_item view f ks now new vs i v h e is more =
    more ∙ ap (λ ns. with_names ns (f (view v))) is ∙ sym (with_names-append ks (flat_map f (map view (take i vs))) (f (view v)))
    ∙ ap (with_names ks) (sym (flat_more view f vs i v h e))

pub names_next : {X : Type 0} (f : X → List Name) (ks now new : List Name) (xs : List X) (i : ℕ) (x : X) → slice_get xs i ≡ Some x →
    now ≡ with_names ks (flat_map f (take i xs)) → new ≡ with_names now (f x) → new ≡ with_names ks (flat_map f (take (i + 1) xs))
names_next f ks now new xs i x e is more =
    more ∙ ap (λ ns. with_names ns (f x)) is ∙ sym (with_names-append ks (flat_map f (take i xs)) (f x)) ∙ ap (with_names ks) (sym (flat_next f xs i x e))

-- the names with one more after those of a list
pub name_next : {X : Type 0} (f : X → Name) (ks ns now new : List Name) (xs : List X) (i : ℕ) (x : X) → slice_get xs i ≡ Some x →
    now ≡ with_names ks (ns ++ map f (take i xs)) → new ≡ insert_key byte_order now (f x) → new ≡ with_names ks (ns ++ map f (take (i + 1) xs))
unfolding with_names
name_next f ks ns now new xs i x e is more =
    more ∙ ap (λ m. insert_key byte_order m (f x)) is ∙ sym (with_names-append ks (ns ++ map f (take i xs)) (f x ∷ []))
    ∙ ap (with_names ks) (append_assoc ns (map f (take i xs)) (f x ∷ []) ∙ ap (λ m. ns ++ m) (sym (map_next f xs i x e)))

-- ---- the least number of primes

pub passed : (test : ℕ → Bool) (i most : ℕ) (rest : ℕ) → i < most → test i ≡ false → first_from test i (most - i) ≡ rest → first_from test (i + 1) (most - (i + 1)) ≡ rest
unfolding first_from
passed test i most rest h fails e =
    let gap : most - i ≡ suc (most - (i + 1)) = omega arith in
    let next : i + 1 ≡ suc i = omega arith in
    ap (λ n. first_from test n (most - (i + 1))) next
    ∙ sym (ap (λ b. cond b i (first_from test (suc i) (most - (i + 1)))) fails)
    ∙ sym (ap (first_from test i) gap) ∙ e

pub found : (test : ℕ → Bool) (i most : ℕ) (rest : ℕ) → i < most → test i ≡ true → first_from test i (most - i) ≡ rest → i ≡ rest
unfolding first_from
found test i most rest h passes e =
    let gap : most - i ≡ suc (most - (i + 1)) = omega arith in
    sym (ap (first_from test i) gap ∙ ap (λ b. cond b i (first_from test (suc i) (most - (i + 1)))) passes) ∙ e

pub none_found : (test : ℕ → Bool) (i most : ℕ) (rest : ℕ) → most ≤ i → i ≤ most → first_from test i (most - i) ≡ rest → most ≡ rest
unfolding first_from
none_found test i most rest h k e =
    let gap : most - i ≡ 0 = omega arith in
    let same : most ≡ i = omega arith in
    same ∙ sym (ap (first_from test i) gap) ∙ e

-- ---- the names of bodies, one by one

pub differ_more : (taken : List Name) (name : ℕ → Name) (i n : ℕ) → differ taken (map name (range_with_len 0 i)) n ≡ true → is_among taken (primed (name i) n) ≡ false → differ taken (map name (range_with_len 0 (i + 1))) n ≡ true
differ_more taken name i n h free =
    ap (list_all (λ m. not (is_among taken (primed m n)))) (map-range_with_len_more name 0 i i (omega arith))
    ∙ list_all-append (λ m. not (is_among taken (primed m n))) (map name (range_with_len 0 i)) (name i ∷ [])
    ∙ rw (h, free) refl

some_taken : (test : Name → Bool) (name : ℕ → Name) (start m i : ℕ) → start ≤ i → i < start + m → test (name i) ≡ false → list_all test (map name (range_with_len start m)) ≡ false
some_taken test name start zero i l u e = absurd (omega (arith, l, u))
some_taken test name start (suc m) i l u e =
    elim (eqb_tells i start) [
      | inl k ↦ ap (λ b. b && list_all test (map name (range_with_len (start + 1) m))) (ap (λ j. test (name j)) (sym k.1) ∙ e)
      | inr k ↦ later (test (name start)) (some_taken test name (start + 1) m i (let ne = k.1 in omega (arith, l, ne)) (omega (arith, u)) e)
    ]
  where
    later : (b : Bool) → list_all test (map name (range_with_len (start + 1) m)) ≡ false → (b && list_all test (map name (range_with_len (start + 1) m))) ≡ false
    later true f = f
    later false f = refl

pub not_all : (taken : List Name) (name : ℕ → Name) (i m n : ℕ) → i < m → is_among taken (primed (name i) n) ≡ true → false ≡ differ taken (map name (range_with_len 0 m)) n
not_all taken name i m n l e = sym (some_taken (λ x. not (is_among taken (primed x n))) name 0 m i (omega arith) (omega (arith, l)) (ap not e))
