-- Pairs in order: what stands there, and that they stay.
use Rattle.std.proofs.Common.{◌≡◌, ℕ, ◌<◌, List, [], ◌∷◌, ◌++◌, map, filter, length, get_or, nat_eq, Bool, true, false, cond, ◌&&◌, ◌||◌, refl, sym, ap, ap₂, subst, ◌∙◌, arith}
use Rattle.std.proofs.lemmas.Bool.{false≢true, eqb-true}
use Rattle.std.specs.List.{flat_map, range_with_len}
use Rattle.std.specs.Cmp.{nat_eq_equiv}
use Rattle.alphabet.specs.Elements.{In, here, there}
use Rattle.alphabet.proofs.Lists.{In-map, In-flat_map, In-under_map, In-get_or, and-left, and-right}
use Rattle.term.specs.Traces.{Pairs}
use Rattle.event_phrases.specs.Events.{is_pair_of, in_order}
use Rattle.read_back.proofs.Readable.{IsRenaming}
use Rattle.read_back.proofs.Ordered.{in_flat, in_range, range_in}

-- ---- lists

in_filter : {X : Type 0} (p : X → Bool) (xs : List X) (x : X) → In x xs → p x ≡ true → In x (filter p xs)
in_filter p [] x i e = elim i [ ]
in_filter p (y ∷ xs) x here e = by (p y) e
  where
    by : (b : Bool) → b ≡ true → In y (cond b (y ∷ filter p xs) (filter p xs))
    by true e = here
    by false e = absurd (false≢true e)
in_filter p (y ∷ xs) x (there i) e = by (p y) (in_filter p xs x i e)
  where
    by : (b : Bool) → In x (filter p xs) → In x (cond b (y ∷ filter p xs) (filter p xs))
    by true j = there j
    by false j = j

from_filter : {X : Type 0} (p : X → Bool) (xs : List X) (x : X) → In x (filter p xs) → In x xs × (p x ≡ true)
from_filter p [] x i = elim i [ ]
from_filter p (y ∷ xs) x i = by (p y) refl i (λ j. from_filter p xs x j)
  where
    first : {z : _} → p y ≡ true → In z (y ∷ filter p xs) → (In z (filter p xs) → In z xs × (p z ≡ true)) → In z (y ∷ xs) × (p z ≡ true)
    first e here f = (here, e)
    first e (there j) f = let r = f j in (there r.0, r.1)

    by : (b : Bool) → p y ≡ b → In x (cond b (y ∷ filter p xs) (filter p xs)) → (In x (filter p xs) → In x xs × (p x ≡ true)) → In x (y ∷ xs) × (p x ≡ true)
    by true e j f = first e j f
    by false e j f = let r = f j in (there r.0, r.1)

filter_same : {X : Type 0} (p q : X → Bool) (xs : List X) → ((x : X) → In x xs → p x ≡ q x) → filter p xs ≡ filter q xs
filter_same p q [] h = refl
filter_same p q (x ∷ xs) h = ap₂ (λ b ys. cond b (x ∷ ys) ys) (h x here) (filter_same p q xs (λ y i. h y (there i)))

flat_same : {X Y : Type 0} (f g : X → List Y) (xs : List X) → ((x : X) → In x xs → f x ≡ g x) → flat_map f xs ≡ flat_map g xs
flat_same f g [] h = refl
flat_same f g (x ∷ xs) h = ap₂ (λ ys zs. ys ++ zs) (h x here) (flat_same f g xs (λ y i. h y (there i)))

-- ---- pairs

pair_in : (R : Pairs) (a b : ℕ) → is_pair_of R a b ≡ true → In (a, b) R
unfolding is_pair_of
pair_in [] a b h = absurd (false≢true h)
pair_in (p ∷ R) a b h = by (nat_eq p.0 a && nat_eq p.1 b) refl h (pair_in R a b)
  where
    by : (t : Bool) → (nat_eq p.0 a && nat_eq p.1 b) ≡ t → (t || is_pair_of R a b) ≡ true → (is_pair_of R a b ≡ true → In (a, b) R) → In (a, b) (p ∷ R)
    by true e h f =
        let c : p.0 ≡ a = eqb-true p.0 a (and-left (nat_eq p.0 a) (nat_eq p.1 b) e) in
        let d : p.1 ≡ b = eqb-true p.1 b (and-right (nat_eq p.0 a) (nat_eq p.1 b) e) in
        subst (λ (q : ℕ × ℕ). In q (p ∷ R)) (ap₂ (λ x y. (x, y)) c d) here
    by false e h f = there (f h)

in_pair : (R : Pairs) (p : ℕ × ℕ) → In p R → is_pair_of R p.0 p.1 ≡ true
unfolding is_pair_of
in_pair [] p i = elim i [ ]
in_pair (q ∷ R) p here = ap (λ b. b || is_pair_of R q.0 q.1) (ap₂ (λ x y. x && y) (nat_eq_equiv.refl q.0) (nat_eq_equiv.refl q.1))
in_pair (q ∷ R) p (there i) = either (nat_eq q.0 p.0 && nat_eq q.1 p.1) (in_pair R p i)
  where
    either : (b : Bool) → is_pair_of R p.0 p.1 ≡ true → (b || is_pair_of R p.0 p.1) ≡ true
    either true h = refl
    either false h = h

module _ (n : ℕ) (R : Pairs) where
  abbrev row : ℕ → Pairs
  row a = map (λ b. (a, b)) (filter (is_pair_of R a) (range_with_len 0 n))

  from_order : (p : ℕ × ℕ) → In p (in_order n R) → (p.0 < n) × (p.1 < n) × (is_pair_of R p.0 p.1 ≡ true)
  unfolding in_order
  from_order p i =
      let (a, j, k) = In-flat_map row (range_with_len 0 n) i in
      let (b, l, e) = In-map (λ b. (a, b)) (filter (is_pair_of R a) (range_with_len 0 n)) k in
      let f = from_filter (is_pair_of R a) (range_with_len 0 n) b l in
      let c = in_range a 0 n j in
      let d = in_range b 0 n f.0 in
      subst (λ (q : ℕ × ℕ). (q.0 < n) × (q.1 < n) × (is_pair_of R q.0 q.1 ≡ true)) (sym e) (omega (arith, c.1), omega (arith, d.1), f.1)

  into_order : (a b : ℕ) → a < n → b < n → is_pair_of R a b ≡ true → In (a, b) (in_order n R)
  unfolding in_order
  into_order a b l k e =
      in_flat row (range_with_len 0 n) a (a, b) (range_in a 0 n (omega arith) (omega (arith, l)))
      (In-under_map (λ b. (a, b)) (filter (is_pair_of R a) (range_with_len 0 n)) (in_filter (is_pair_of R a) (range_with_len 0 n) b (range_in b 0 n (omega arith) (omega (arith, k))) e))

  same_pairs : (a b : ℕ) → a < n → b < n → is_pair_of (in_order n R) a b ≡ is_pair_of R a b
  same_pairs a b l k = by (is_pair_of (in_order n R) a b) (is_pair_of R a b) refl refl
    where
      by : (t u : Bool) → is_pair_of (in_order n R) a b ≡ t → is_pair_of R a b ≡ u → t ≡ u
      by true true e f = refl
      by false false e f = refl
      by true false e f = sym (from_order (a, b) (pair_in (in_order n R) a b e)).2 ∙ f
      by false true e f = sym e ∙ in_pair (in_order n R) (a, b) (into_order a b l k f)

order_stays : (n : ℕ) (R : Pairs) → in_order n (in_order n R) ≡ in_order n R
unfolding in_order
order_stays n R =
    flat_same (row n (in_order n R)) (row n R) (range_with_len 0 n)
    (λ a i. ap (map (λ b. (a, b))) (filter_same (is_pair_of (in_order n R) a) (is_pair_of R a) (range_with_len 0 n) (λ b j. same_pairs n R a b (omega (arith, (in_range a 0 n i).1)) (omega (arith, (in_range b 0 n j).1)))))

some_in : {X : Type 0} (xs : List X) (x : X) → In x xs → 0 < length xs
some_in [] x i = elim i [ ]
some_in (y ∷ xs) x i = omega arith

-- a renaming of scripts has its pairs in order
pub a_renaming : (n : ℕ) (p : ℕ × ℕ) (R : Pairs) → p.0 < n → p.1 < n → IsRenaming n (in_order n (p ∷ R))
a_renaming n p R l k = record {
  lies = λ i d h. let f = from_order n (p ∷ R) (get_or (in_order n (p ∷ R)) i d) (In-get_or (in_order n (p ∷ R)) i d h) in (f.0, f.1);
  some = some_in (in_order n (p ∷ R)) p (into_order n (p ∷ R) p.0 p.1 l k (in_pair (p ∷ R) p here));
  ordered = order_stays n (p ∷ R);
}
