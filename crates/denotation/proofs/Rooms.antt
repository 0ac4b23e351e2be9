-- Room for nodes, step by step.
use Rattle.std.proofs.Common.{◌≡◌, ℕ, zero, suc, ◌+◌, ◌-◌, ◌<◌, ◌≤◌, Option, Some, None, refl, sym, ap, subst, ◌∙◌, arith}
use Rattle.tokens.specs.declared.read_error.ReadError.{ReadError}
use Rattle.values.specs.Values.{◌>>=◌}
use Rattle.values.specs.View.{Fails}
use Rattle.event_phrases.proofs.Options.{bind_assoc, bind_none, step, fails_at}
use Rattle.denotation.specs.Rooms.{room_left, spare, fit}

pub split : (P : Type 0) (m n : ℕ) → (m ≤ n → P) → (n < m → P) → P
split P zero n f g = f (omega arith)
split P (suc m) zero f g = g (omega arith)
split P (suc m) (suc n) f g = split P m n (λ h. f (omega (arith, h))) (λ h. g (omega (arith, h)))

pub room_enough : (n room : ℕ) → n ≤ room → room_left n room ≡ Some (room - n)
unfolding room_left
room_enough n room h = grind (arith, h)

pub room_less : (n room : ℕ) → room < n → room_left n room ≡ None
unfolding room_left
room_less n room h = grind (arith, h)

-- what is taken in two steps
pub rooms : {C : Type 0} (m n room : ℕ) (f : ℕ → Option C) → (room_left m room >>= λ r. room_left n r >>= f) ≡ (room_left (m + n) room >>= f)
rooms m n room f = split _ m room enough less
  where
    less : room < m → (room_left m room >>= λ r. room_left n r >>= f) ≡ (room_left (m + n) room >>= f)
    less h = ap (λ o. o >>= λ r. room_left n r >>= f) (room_less m room h) ∙ sym (ap (λ o. o >>= f) (room_less (m + n) room (omega (arith, h))))

    enough : m ≤ room → (room_left m room >>= λ r. room_left n r >>= f) ≡ (room_left (m + n) room >>= f)
    enough h = ap (λ o. o >>= λ r. room_left n r >>= f) (room_enough m room h) ∙ split _ n (room - m)
        (λ k. let e : room - m - n ≡ room - (m + n) = omega (arith, h, k) in
        ap (λ o. o >>= f) (room_enough n (room - m) k) ∙ ap f e ∙ sym (ap (λ o. o >>= f) (room_enough (m + n) room (omega (arith, h, k)))))
        (λ k. ap (λ o. o >>= f) (room_less n (room - m) k) ∙ sym (ap (λ o. o >>= f) (room_less (m + n) room (omega (arith, h, k)))))

abbrev pub some_pair : {X : Type 0} → X → ℕ → Option (X × ℕ)
some_pair x r = Some (x, r)

-- what takes nothing leaves the room as it is
pub no_room : {X : Type 0} (x : X) (room : ℕ) → spare 0 x room ≡ Some (x, room)
no_room x room = ap (λ o. o >>= some_pair x) (room_enough 0 room (omega arith)) ∙ ap (some_pair x) (omega arith)

-- ---- something, and n nodes more

module _ {X Z : Type 0} (nx : X → ℕ) (nz : Z → ℕ) (f : X → Z) (n : X → ℕ) (h : (x : X) → nz (f x) ≡ nx x + n x) (room : ℕ) (o : Option X) where
  abbrev one : Option (Z × ℕ)
  one = fit nz room (o >>= λ x. Some (f x))

  one_is : one ≡ (fit nx room o >>= λ p. spare (n p.0) (f p.0) p.1)
  unfolding fit
  one_is = by o
    where
      by : (o : Option X) → fit nz room (o >>= λ x. Some (f x)) ≡ (fit nx room o >>= λ p. spare (n p.0) (f p.0) p.1)
      by None = refl
      by (Some x) =
          (λ i. spare (h x i) (f x) room) ∙ sym (rooms (nx x) (n x) room (some_pair (f x)))
          ∙ sym (bind_assoc (room_left (nx x) room) (some_pair x) (λ p. spare (n p.0) (f p.0) p.1))

  pub one_fails : (k : ReadError) → Fails k (fit nx room o) → Fails k one
  one_fails k e = subst (λ o. Fails k o) (sym one_is) (fails_at k (fit nx room o) (λ p. spare (n p.0) (f p.0) p.1) e)

  pub one_so : (p : X × ℕ) → fit nx room o ≡ Some p → one ≡ spare (n p.0) (f p.0) p.1
  one_so p e = one_is ∙ step (fit nx room o) (λ p. spare (n p.0) (f p.0) p.1) p e

-- ---- something, something else, and n nodes more

module _ {X Y Z : Type 0} (nx : X → ℕ) (ny : Y → ℕ) (nz : Z → ℕ) (f : X → Y → Z) (n : ℕ) (h : (x : X) (y : Y) → nz (f x y) ≡ nx x + (ny y + n)) (room : ℕ) (o : Option X) (u : Option Y) where
  abbrev two : Option (Z × ℕ)
  two = fit nz room (o >>= λ x. u >>= λ y. Some (f x y))

  pub two_is : two ≡ (fit nx room o >>= λ p. fit ny p.1 u >>= λ q. spare n (f p.0 q.0) q.1)
  unfolding fit
  two_is = by o u
    where
      by : (o : Option X) (u : Option Y) → fit nz room (o >>= λ x. u >>= λ y. Some (f x y)) ≡ (fit nx room o >>= λ p. fit ny p.1 u >>= λ q. spare n (f p.0 q.0) q.1)
      by None u = refl
      by (Some x) None = sym (bind_none (spare (nx x) x room) (λ p. None) (λ p. refl))
      by (Some x) (Some y) =
          (λ i. spare (h x y i) (f x y) room) ∙ sym (rooms (nx x) (ny y + n) room (some_pair (f x y)))
          ∙ (λ i. room_left (nx x) room >>= λ r. sym (rooms (ny y) n r (some_pair (f x y))) i)
          ∙ (λ i. room_left (nx x) room >>= λ r. sym (bind_assoc (room_left (ny y) r) (some_pair y) (λ q. spare n (f x q.0) q.1)) i)
          ∙ sym (bind_assoc (room_left (nx x) room) (some_pair x) (λ p. fit ny p.1 (Some y) >>= λ q. spare n (f p.0 q.0) q.1))

-- ---- something, a part without nodes, something else, and some nodes more

module _ {X M Y Z : Type 0} (nx : X → ℕ) (ny : Y → ℕ) (nz : Z → ℕ) (f : X → M → Y → Z) (n : M → ℕ) (h : (x : X) (a : M) (y : Y) → nz (f x a y) ≡ nx x + (ny y + n a)) (room : ℕ) (o : Option X) (m : Option M) (u : Option Y) where
  abbrev three : Option (Z × ℕ)
  three = fit nz room (o >>= λ x. m >>= λ a. u >>= λ y. Some (f x a y))

  three_is : three ≡ (fit nx room o >>= λ p. m >>= λ a. fit ny p.1 u >>= λ q. spare (n a) (f p.0 a q.0) q.1)
  unfolding fit
  three_is = by o m
    where
      by : (o : Option X) (m : Option M) → fit nz room (o >>= λ x. m >>= λ a. u >>= λ y. Some (f x a y)) ≡ (fit nx room o >>= λ p. m >>= λ a. fit ny p.1 u >>= λ q. spare (n a) (f p.0 a q.0) q.1)
      by None m = refl
      by (Some x) None = sym (bind_none (spare (nx x) x room) (λ p. None) (λ p. refl))
      by (Some x) (Some a) = two_is nx ny nz (λ x y. f x a y) (n a) (λ x y. h x a y) room (Some x) u

  pub three_first : (k : ReadError) → Fails k (fit nx room o) → Fails k three
  three_first k e = subst (λ o. Fails k o) (sym three_is) (fails_at k (fit nx room o) (λ p. m >>= λ a. fit ny p.1 u >>= λ q. spare (n a) (f p.0 a q.0) q.1) e)

  module _ (p : X × ℕ) (e : fit nx room o ≡ Some p) where
    three_on : three ≡ (m >>= λ a. fit ny p.1 u >>= λ q. spare (n a) (f p.0 a q.0) q.1)
    three_on = three_is ∙ step (fit nx room o) (λ p. m >>= λ a. fit ny p.1 u >>= λ q. spare (n a) (f p.0 a q.0) q.1) p e

    pub three_part : (k : ReadError) → Fails k m → Fails k three
    three_part k g = subst (λ o. Fails k o) (sym three_on) (fails_at k m (λ a. fit ny p.1 u >>= λ q. spare (n a) (f p.0 a q.0) q.1) g)

    module _ (a : M) (g : m ≡ Some a) where
      three_with : three ≡ (fit ny p.1 u >>= λ q. spare (n a) (f p.0 a q.0) q.1)
      three_with = three_on ∙ step m (λ a. fit ny p.1 u >>= λ q. spare (n a) (f p.0 a q.0) q.1) a g

      pub three_second : (k : ReadError) → Fails k (fit ny p.1 u) → Fails k three
      three_second k j = subst (λ o. Fails k o) (sym three_with) (fails_at k (fit ny p.1 u) (λ q. spare (n a) (f p.0 a q.0) q.1) j)

      pub three_so : (q : Y × ℕ) → fit ny p.1 u ≡ Some q → three ≡ spare (n a) (f p.0 a q.0) q.1
      three_so q j = three_with ∙ step (fit ny p.1 u) (λ q. spare (n a) (f p.0 a q.0) q.1) q j

-- ---- something, a part without nodes, and some nodes more

module _ {X M Z : Type 0} (nx : X → ℕ) (nz : Z → ℕ) (f : X → M → Z) (n : M → ℕ) (h : (x : X) (a : M) → nz (f x a) ≡ nx x + n a) (room : ℕ) (o : Option X) (m : Option M) where
  abbrev with_part : Option (Z × ℕ)
  with_part = fit nz room (o >>= λ x. m >>= λ a. Some (f x a))

  part_is : with_part ≡ (fit nx room o >>= λ p. m >>= λ a. spare (n a) (f p.0 a) p.1)
  unfolding fit
  part_is = by o m
    where
      by : (o : Option X) (m : Option M) → fit nz room (o >>= λ x. m >>= λ a. Some (f x a)) ≡ (fit nx room o >>= λ p. m >>= λ a. spare (n a) (f p.0 a) p.1)
      by None m = refl
      by (Some x) None = sym (bind_none (spare (nx x) x room) (λ p. None) (λ p. refl))
      by (Some x) (Some a) = one_is nx nz (λ x. f x a) (λ x. n a) (λ x. h x a) room (Some x)

  pub part_first : (k : ReadError) → Fails k (fit nx room o) → Fails k with_part
  part_first k e = subst (λ o. Fails k o) (sym part_is) (fails_at k (fit nx room o) (λ p. m >>= λ a. spare (n a) (f p.0 a) p.1) e)

  module _ (p : X × ℕ) (e : fit nx room o ≡ Some p) where
    pub part_on : with_part ≡ (m >>= λ a. spare (n a) (f p.0 a) p.1)
    part_on = part_is ∙ step (fit nx room o) (λ p. m >>= λ a. spare (n a) (f p.0 a) p.1) p e

    pub part_fails : (k : ReadError) → Fails k m → Fails k with_part
    part_fails k g = subst (λ o. Fails k o) (sym part_on) (fails_at k m (λ a. spare (n a) (f p.0 a) p.1) g)

    pub part_so : (a : M) → m ≡ Some a → with_part ≡ spare (n a) (f p.0 a) p.1
    part_so a g = part_on ∙ step m (λ a. spare (n a) (f p.0 a) p.1) a g
