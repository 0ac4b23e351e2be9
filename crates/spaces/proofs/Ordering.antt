-- The order of sets by their first difference.
use Rattle.std.proofs.Common.{◌≡◌, ◌↔◌, ℕ, zero, suc, ◌+◌, ◌<◌, ◌≤◌, Bool, true, false, not, ◌&&◌, ◌||◌, cond, ◌⊎◌, inl, inr, List, [], ◌∷◌, ◌++◌, length, get_or, take, drop, map, filter, refl, sym, ap, ◌∙◌, subst, arith, true≢false}
use Rattle.std.proofs.lemmas.Bool.Decides.{eqb_tells, leb_tells}
use Rattle.std.proofs.lemmas.List.{take_more}
use Rattle.std.specs.List.{insert, range_with_len}
use Rattle.alphabet.specs.EventSets.{Set, has, member, members, members_below}
use Rattle.alphabet.specs.declared.events.Event.{Event}
use Rattle.alphabet.specs.declared.events.Event.TheVariants.{Tick as tick, Of as ev}
use Rattle.alphabet.proofs.Sets.{same_set}
use Rattle.tau_closures.proofs.Members.{append-In, In-append_l, In-append_r}
use Rattle.term.specs.Traces.{In, here, there}
use Rattle.spaces.specs.Acceptances.{AreOrdered, ComesBefore, IsEarlier}
use Rattle.spaces.specs.Offers.{AreSmall, HasPutInOrder, IsPlace, IsSmall}
use Rattle.spaces.proofs.Offering.{at-In, first-or, is-off, set-at, set-more}

-- ---- what is kept of a range of numbers
at-or-after : (a j : ℕ) → a ≤ j → (a ≡ j) ⊎ (a + 1 ≤ j)
at-or-after a j h = elim (eqb_tells a j) [ inl s ↦ inl s.1 | inr d ↦ inr (omega (arith, h, d.1)) ]

kept-none : (p : ℕ → Bool) (a n : ℕ) → filter p (range_with_len a n) ≡ [] → (j : ℕ) → a ≤ j → j < a + n → p j ≡ false
kept-none p a zero e j h l = absurd (omega arith)
kept-none p a (suc n) e j h l = go (p a) refl e (λ f m. kept-none p (a + 1) n f j m (omega arith))
  where
    go : (b : Bool) → p a ≡ b → cond b (a ∷ filter p (range_with_len (a + 1) n)) (filter p (range_with_len (a + 1) n)) ≡ [] → (filter p (range_with_len (a + 1) n) ≡ [] → a + 1 ≤ j → p j ≡ false) → p j ≡ false
    go true q f rest = absurd (cc)
    go false q f rest = elim (at-or-after a j h) [ inl s ↦ sym (ap p s) ∙ q | inr m ↦ rest f m ]

kept-first : (p : ℕ → Bool) (a n k : ℕ) (ks : List ℕ) → filter p (range_with_len a n) ≡ k ∷ ks → (p k ≡ true) × ((j : ℕ) → a ≤ j → j < k → p j ≡ false)
kept-first p a zero k ks e = absurd (cc)
kept-first p a (suc n) k ks e = go (p a) refl e (kept-first p (a + 1) n k ks)
  where
    go : (b : Bool) → p a ≡ b → cond b (a ∷ filter p (range_with_len (a + 1) n)) (filter p (range_with_len (a + 1) n)) ≡ k ∷ ks
        → (filter p (range_with_len (a + 1) n) ≡ k ∷ ks → (p k ≡ true) × ((j : ℕ) → a + 1 ≤ j → j < k → p j ≡ false)) → (p k ≡ true) × ((j : ℕ) → a ≤ j → j < k → p j ≡ false)
    go true q f rest = let s : a ≡ k = cc in (sym (ap p s) ∙ q, λ j h l. absurd (omega (arith, s)))
    go false q f rest =
        let (t, before) = rest f in
        (t, λ j h l. elim (at-or-after a j h) [ inl s ↦ sym (ap p s) ∙ q | inr m ↦ before j m l ])

-- ---- the first member of a set, and a set without members
first-is : (l : List ℕ) (b : Bool) (x : Event) (rest : List Event) → map ev l ++ cond b (tick ∷ []) [] ≡ x ∷ rest
    → ((k : ℕ) × (ks : List ℕ) × (l ≡ k ∷ ks) × (x ≡ ev k)) ⊎ ((l ≡ []) × (b ≡ true) × (x ≡ tick))
first-is (k ∷ ks) b x rest e = inl (k, ks, refl, (let s : ev k ≡ x = cc in sym s))
first-is [] true x rest e = inr (refl, refl, (let s : tick ≡ x = cc in sym s))
first-is [] false x rest e = absurd (cc)

none-is : (l : List ℕ) (b : Bool) → map ev l ++ cond b (tick ∷ []) [] ≡ [] → (l ≡ []) × (b ≡ false)
none-is (k ∷ ks) b e = absurd (cc)
none-is [] true e = absurd (cc)
none-is [] false e = (refl, refl)

off-above : (D : Set) (n a : ℕ) → ((b : ℕ) → has D b ≡ true → b < n) → n ≤ a → has D a ≡ false
off-above D n a small h = is-off (has D a) (λ t. let l = small a t in absurd (omega arith))

off-all : (D : Set) (n : ℕ) → ((b : ℕ) → has D b ≡ true → b < n) → filter (has D) (range_with_len 0 n) ≡ [] → (a : ℕ) → has D a ≡ false
off-all D n small e a = elim (leb_tells n a) [ inl h ↦ off-above D n a small h.1 | inr h ↦ kept-none (has D) 0 n e a (omega arith) (omega (arith, h.1)) ]

first-below : (n : ℕ) (D : Set) → ((b : ℕ) → has D b ≡ true → b < n) → (x : Event) (rest : List Event) → members_below n D ≡ x ∷ rest → (member D x ≡ true) × ((y : Event) → IsEarlier y x → member D y ≡ false)
unfolding members_below
first-below n D small x rest e =
    elim (first-is (filter (has D) (range_with_len 0 n)) (member D tick) x rest e) [
      | inl (k, ks, f, s) ↦
          let (t, before) = kept-first (has D) 0 n k ks f in
          subst (λ (z : Event). (member D z ≡ true) × ((y : Event) → IsEarlier y z → member D y ≡ false)) (sym s) (t, λ y. earlier-event k before y)
      | inr (f, t, s) ↦ subst (λ (z : Event). (member D z ≡ true) × ((y : Event) → IsEarlier y z → member D y ≡ false)) (sym s) (t, λ y. earlier-tick f y)
    ]
  where
    earlier-event : (k : ℕ) → ((j : ℕ) → 0 ≤ j → j < k → has D j ≡ false) → (y : Event) → IsEarlier y (ev k) → member D y ≡ false
    earlier-event k before tick h = absurd h
    earlier-event k before (ev j) h = before j (omega arith) h

    earlier-tick : filter (has D) (range_with_len 0 n) ≡ [] → (y : Event) → IsEarlier y tick → member D y ≡ false
    earlier-tick f tick h = absurd h
    earlier-tick f (ev j) h = off-all D n small f j

none-below : (n : ℕ) (D : Set) → ((b : ℕ) → has D b ≡ true → b < n) → members_below n D ≡ [] → (y : Event) → member D y ≡ false
unfolding members_below
none-below n D small e tick = (none-is (filter (has D) (range_with_len 0 n)) (member D tick) e).1
none-below n D small e (ev a) = off-all D n small (none-is (filter (has D) (range_with_len 0 n)) (member D tick) e).0 a

-- ---- what is in one of two sets alone
same-test : (a b : Bool) → (a && not b || b && not a) ≡ false → a ≡ b
same-test true true e = refl
same-test true false e = absurd (cc)
same-test false true e = absurd (cc)
same-test false false e = refl

other-test : (a b v : Bool) → (a && not b || b && not a) ≡ true → a ≡ v → b ≡ not v
other-test true true v e f = absurd (cc)
other-test true false v e f = ap not f
other-test false true v e f = ap not f
other-test false false v e f = absurd (cc)

one-test : (a b : Bool) → (a && not b || b && not a) ≡ true → (a ≡ true) ⊎ (b ≡ true)
one-test true b e = inl refl
one-test false true e = inr refl
one-test false false e = absurd (cc)

-- from how the difference is made
pub differs-by : (A B M N U D : Set) → ((x : Event) → member M x ≡ (member A x && not (member B x))) → ((x : Event) → member N x ≡ (member B x && not (member A x))) → ((x : Event) → member U x ≡ (member M x || member N x)) → D ≡ U
    → (x : Event) → member D x ≡ (member A x && not (member B x) || member B x && not (member A x))
differs-by A B M N U D m n u e x = ap (λ (S : Set). member S x) e ∙ u x ∙ ap (λ b. b || member N x) (m x) ∙ ap (λ b. member A x && not (member B x) || b) (n x)

module _ (A B D : Set) (small : IsSmall A) (small' : IsSmall B) (d : (x : Event) → member D x ≡ (member A x && not (member B x) || member B x && not (member A x))) where
  small-apart : (a : ℕ) → has D a ≡ true → a < 256
  small-apart a t = elim (one-test (has A a) (has B a) (sym (d (ev a)) ∙ t)) [ inl h ↦ small a h | inr h ↦ small' a h ]

  -- the first difference, in the one set or the other
  pub first-decides : (x : Event) (rest : Set) → members D ≡ x ∷ members rest → ((member A x ≡ true) → ComesBefore A B) × ((member A x ≡ false) → ComesBefore B A)
  first-decides x rest e =
      let (t, before) = first-below 256 D small-apart x (members rest) e in
      let one : (member A x && not (member B x) || member B x && not (member A x)) ≡ true = sym (d x) ∙ t in (
        (λ h. (x, h, other-test (member A x) (member B x) true one h, λ y f. same-test (member A y) (member B y) (sym (d y) ∙ before y f))),
        (λ h. (x, other-test (member A x) (member B x) false one h, h, λ y f. sym (same-test (member A y) (member B y) (sym (d y) ∙ before y f)))),
      )

  -- no difference
  pub none-same : members D ≡ [] → A ≡ B
  none-same e = same_set A B (λ y. same-test (member A y) (member B y) (sym (d y) ∙ none-below 256 D small-apart e y))

-- ---- the order
earlier-on : (x y z : Event) → IsEarlier x y → IsEarlier y z → IsEarlier x z
earlier-on tick y z h k = absurd h
earlier-on (ev a) tick z h k = absurd k
earlier-on (ev a) (ev b) tick h k = tt
earlier-on (ev a) (ev b) (ev c) h k = omega arith

data Told (x y : Event) : Type 0 where
  told-first : IsEarlier x y → Told x y
  told-same : x ≡ y → Told x y
  told-last : IsEarlier y x → Told x y

told : (x y : Event) → Told x y
told tick tick = told-same refl
told tick (ev b) = told-last tt
told (ev a) tick = told-first tt
told (ev a) (ev b) =
    elim (eqb_tells a b) [
      | inl s ↦ told-same (ap ev s.1)
      | inr d ↦ elim (leb_tells a b) [ inl h ↦ told-first (omega (arith, h.1, d.1)) | inr h ↦ told-last h.1 ]
    ]

pub before-on : (L M N : Set) → ComesBefore L M → ComesBefore M N → ComesBefore L N
before-on L M N (x, l, m, f) (y, m', n, g) =
    elim (told x y) [
      | told-first h ↦ (x, l, sym (g x h) ∙ m, λ z k. f z k ∙ g z (earlier-on z x y k h))
      | told-same s ↦ absurd (true≢false (sym m' ∙ ap (member M) (sym s) ∙ m))
      | told-last h ↦ (y, f y h ∙ m', n, λ z k. f z (earlier-on z y x k h) ∙ g z k)
    ]

-- ---- one set more in its place
take-In : (xs : List Set) (i : ℕ) (M : Set) → In M (take i xs) → In M xs
take-In xs zero M j = elim j [ ]
take-In [] (suc i) M j = j
take-In (x ∷ xs) (suc i) M here = here
take-In (x ∷ xs) (suc i) M (there j) = there (take-In xs i M j)

drop-In : (xs : List Set) (i : ℕ) (M : Set) → In M (drop i xs) → In M xs
drop-In xs zero M j = j
drop-In [] (suc i) M j = j
drop-In (x ∷ xs) (suc i) M j = there (drop-In xs i M j)

inserted-In : (xs : List Set) (i : ℕ) (O M : Set) → In M (insert xs i O) → In M xs ⊎ (M ≡ O)
inserted-In xs i O M j =
    elim (append-In (take i xs) (O ∷ drop i xs) M j) [
      | inl k ↦ inl (take-In xs i M k)
      | inr k ↦ elim (first-or k) [ inl l ↦ inl (drop-In xs i M l) | inr e ↦ inr e ]
    ]

In-inserted : (xs : List Set) (i : ℕ) (O M : Set) → In M xs → In M (insert xs i O)
In-inserted xs zero O M j = there j
In-inserted [] (suc i) O M j = elim j [ ]
In-inserted (x ∷ xs) (suc i) O M here = here
In-inserted (x ∷ xs) (suc i) O M (there j) = there (In-inserted xs i O M j)

ordered-inserted : (xs : List Set) (i : ℕ) (O : Set) → AreOrdered xs → ((M : Set) → In M (take i xs) → ComesBefore M O) → (i < length xs → ComesBefore O (get_or xs i O)) → AreOrdered (insert xs i O)
ordered-inserted [] zero O s before after = ((λ M j. elim j [ ]), tt)
ordered-inserted [] (suc i) O s before after = ((λ M j. elim j [ ]), tt)
ordered-inserted (x ∷ xs) zero O s before after =
    let h : ComesBefore O x = after (omega arith) in
    (all h, s)
  where
    all : ComesBefore O x → (M : Set) → In M (x ∷ xs) → ComesBefore O M
    all h M here = h
    all h M (there j) = before-on O x M h (s.0 M j)
ordered-inserted (x ∷ xs) (suc i) O s before after = (
  (λ M j. elim (inserted-In xs i O M j) [ inl k ↦ s.0 M k | inr e ↦ subst (λ (N : Set). ComesBefore x N) (sym e) (before x here) ]),
  ordered-inserted xs i O s.1 (λ M j. before M (there j)) (λ h. after (omega arith)),
)

-- the set is there already
pub put-there : (old : List Set) (i : ℕ) (O : Set) → i < length old → get_or old i O ≡ O → HasPutInOrder old O old
put-there old i O h e =
    record {
      members = λ M. (inl, λ w. elim w [ inl j ↦ j | inr f ↦ subst (λ (N : Set). In N old) (sym f) (subst (λ (N : Set). In N old) e (at-In old i O h)) ]);
      ordered = λ small all s. s;
    }

-- it isn't
pub put-new : (old : List Set) (i : ℕ) (O : Set) → i ≤ length old → (IsSmall O → AreSmall old → IsPlace old O i) → (i < length old → get_or old i O ≡ O → ⊥) → HasPutInOrder old O (insert old i O)
put-new old i O h place differs =
    record {
      members = λ M. (inserted-In old i O M, λ w. elim w [ inl j ↦ In-inserted old i O M j | inr f ↦ subst (λ (N : Set). In N (insert old i O)) (sym f) (In-append_r (take i old) here) ]);
      ordered = λ small all s.
          let p = place small all in
          ordered-inserted old i O s p.before (λ l. elim (p.at l) [ inl e ↦ absurd (differs l e) | inr b ↦ b ]);
    }

-- ---- one of the first sets, one set further
module _ (sets : List Set) (i : ℕ) (O : Set) (is : O ≡ get_or sets i O) (h : i < length sets) where
  pub taken-more : (M : Set) → In M (take (i + 1) sets) ↔ (In M (take i sets) ⊎ (M ≡ O))
  taken-more M = (
    (λ j. elim (set-more sets i O (λ (N : Set). M ≡ N) is h (M, j, refl)) [ inl (N, k, e) ↦ inl (subst (λ (S : Set). In S (take i sets)) (sym e) k) | inr e ↦ inr e ]),
    (λ w.
        subst (λ (l : List Set). In M l) (sym (take_more sets i O h))
        (elim w [
          | inl j ↦ In-append_l j (get_or sets i O ∷ [])
          | inr e ↦ In-append_r (take i sets) (subst (λ (N : Set). In M (N ∷ [])) is (subst (λ (N : Set). In N (O ∷ [])) (sym e) here))
        ])),
  )

  pub ordered-more : (old new : List Set) → ((M : Set) → In M old ↔ In M (take i sets)) → (AreSmall sets → AreOrdered old) → HasPutInOrder old O new → ((M : Set) → In M new ↔ In M (take (i + 1) sets)) × (AreSmall sets → AreOrdered new)
  ordered-more old new same ordered put = (
    (λ M. (
      (λ j. (taken-more M).1 (elim ((put.members M).0 j) [ inl k ↦ inl ((same M).0 k) | inr e ↦ inr e ])),
      (λ j. (put.members M).1 (elim ((taken-more M).0 j) [ inl k ↦ inl ((same M).1 k) | inr e ↦ inr e ])),
    )),
    (λ small. put.ordered (small O (set-at sets i O is h)) (λ M j. small M (take-In sets i M ((same M).0 j))) (ordered small)),
  )
