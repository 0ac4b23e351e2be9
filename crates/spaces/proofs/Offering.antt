-- What states offer and refuse, and sets of what they offer.
use Rattle.std.proofs.Common.{◌≡◌, ◌↔◌, ℕ, zero, suc, ◌+◌, ◌<◌, Bool, true, false, not, ◌&&◌, ◌||◌, ◌⊎◌, inl, inr, IsTrue, List, [], ◌∷◌, ◌++◌, length, get_or, take, refl, sym, ap, ◌∙◌, subst, arith, true≢false}
use Rattle.std.proofs.lemmas.List.{take_more}
use Rattle.std.specs.Prelude.{IsPermutation, swap_remove}
use Rattle.std.proofs.lemmas.List.Sorted.{IsPermutation-sym}
use Rattle.alphabet.specs.Events.{is_event}
use Rattle.alphabet.specs.EventSets.{Set, has, member}
use Rattle.alphabet.specs.declared.events.Event.{Event}
use Rattle.alphabet.specs.declared.events.Event.TheVariants.{Tick as tick, Of as ev}
use Rattle.tau_closures.specs.Offers.{Offers, offered}
use Rattle.tau_closures.proofs.Members.{append-In, In-append_l, In-append_r}
use Rattle.tau_closures.proofs.Ticking.{ticks-Ticks, Ticks-ticks}
use Rattle.tau_closures.proofs.Offered.{offered-Offers, Act-offered}
use Rattle.tau_closures.proofs.Rest.{resting-says}
use Rattle.tau_closures.proofs.Cutting.{only as one-In}
use Rattle.term.specs.Proc.{Proc}
use Rattle.term.specs.Steps.{Refuses}
use Rattle.term.specs.Traces.{In, here, there}
use Rattle.term.proofs.Bools.{or-cases, or-left, or-right}
use Rattle.tau_closures.specs.Facts.{Facts}
use Rattle.tau_closures.specs.Known.{IsKnown}
use Rattle.tau_closures.specs.Closing.{Takes}
use Rattle.spaces.specs.declared.facts.SetFacts.{SetFacts}
use Rattle.spaces.specs.Known.{AreFactsOf}
use Rattle.spaces.specs.Acceptances.{AreLeast, HasApart, IsPart}
use Rattle.spaces.specs.Offers.{AreOffers, HasPart, HasPutOffer, IsOffer, Waits}
use Rattle.spaces.proofs.Members.{In-permuted}

-- ---- tests
pub and-left : (a b : Bool) → (a && b) ≡ true → a ≡ true
and-left true b e = refl
and-left false b e = absurd (cc)

pub and-right : (a b : Bool) → (a && b) ≡ true → b ≡ true
and-right true b e = e
and-right false b e = absurd (cc)

pub both : (a b : Bool) → a ≡ true → b ≡ true → (a && b) ≡ true
both true b e f = f
both false b e f = absurd (cc)

pub not-on : (b : Bool) → not b ≡ true → b ≡ false
not-on true e = absurd (cc)
not-on false e = refl

pub off-not : (b : Bool) → b ≡ false → not b ≡ true
off-not true e = absurd (cc)
off-not false e = refl

pub off-on : (b : Bool) → not b ≡ false → b ≡ true
off-on true e = refl
off-on false e = absurd (cc)

pub is-off : (b : Bool) → (b ≡ true → ⊥) → b ≡ false
is-off true h = absurd (h refl)
is-off false h = refl

-- ---- the events of one state
pub takes-end : (f : Facts) (P : Proc) (S : Set) → IsKnown f P → f.ticks ≡ true → ((x : Event) → member S x ≡ (is_event tick x || member f.offers x)) → (x : Event) → IsTrue (member S x) ↔ Takes P x
takes-end f P S k t s tick = ((λ _. ticks-Ticks P (sym k.ticks_is ∙ t)), (λ _. s tick))
takes-end f P S k t s (ev a) = (
  (λ m. offered-Offers P a (sym (k.offers_are a) ∙ (sym (s (ev a)) ∙ m))),
  (λ (Q, d). s (ev a) ∙ (k.offers_are a ∙ Act-offered d)),
)

pub takes-on : (f : Facts) (P : Proc) → IsKnown f P → f.ticks ≡ false → (x : Event) → IsTrue (member f.offers x) ↔ Takes P x
takes-on f P k t tick = ((λ m. absurd (true≢false (sym m ∙ k.no_tick))), (λ e. absurd (true≢false (sym (Ticks-ticks e) ∙ sym k.ticks_is ∙ t))))
takes-on f P k t (ev a) = ((λ m. offered-Offers P a (sym (k.offers_are a) ∙ m)), (λ (Q, d). k.offers_are a ∙ Act-offered d))

-- ---- a fact of one of the states, one state further
pub one-more : (ps : List Proc) (P : Proc) (S : Proc → Type 0) → ((Q : Proc) × In Q (ps ++ P ∷ []) × S Q) ↔ (((Q : Proc) × In Q ps × S Q) ⊎ S P)
one-more ps P S = (forth, back)
  where
    forth : ((Q : Proc) × In Q (ps ++ P ∷ []) × S Q) → ((Q : Proc) × In Q ps × S Q) ⊎ S P
    forth (Q, i, s) = elim (append-In ps (P ∷ []) Q i) [ inl j ↦ inl (Q, j, s) | inr j ↦ inr (subst S (one-In j refl) s) ]

    back : (((Q : Proc) × In Q ps × S Q) ⊎ S P) → (Q : Proc) × In Q (ps ++ P ∷ []) × S Q
    back (inl (Q, i, s)) = (Q, In-append_l i (P ∷ []), s)
    back (inr s) = (P, In-append_r ps here, s)

pub next-more : (ps : List Proc) (P : Proc) (old one new : Set) (x : Event) → IsTrue (member old x) ↔ ((Q : Proc) × In Q ps × Takes Q x) → IsTrue (member one x) ↔ Takes P x → member new x ≡ (member old x || member one x) → IsTrue (member new x) ↔ ((Q : Proc) × In Q (ps ++ P ∷ []) × Takes Q x)
next-more ps P old one new x a b e = (
  (λ t. (one-more ps P (λ Q. Takes Q x)).1 (elim (or-cases (member old x) (member one x) (sym e ∙ t)) [ inl m ↦ inl (a.0 m) | inr m ↦ inr (b.0 m) ])),
  (λ w. e ∙ elim ((one-more ps P (λ Q. Takes Q x)).0 w) [ inl m ↦ or-left (member old x) (member one x) (a.1 m) | inr m ↦ or-right (member old x) (member one x) (b.1 m) ]),
)

-- ---- sets of what waiting states offer
pub offers-none : AreOffers [] []
offers-none = record { only = λ O i. elim i [ ]; all = λ P i w. elim i [ ]; least = λ M O i. elim i [ ] }

pub offers-same : (sets : List Set) (ps : List Proc) (P : Proc) → AreOffers sets ps → (Waits P → ⊥) → AreOffers sets (ps ++ P ∷ [])
offers-same sets ps P a n =
    record {
      only = λ O i. let (Q, j, w, o) = a.only O i in (Q, In-append_l j (P ∷ []), w, o);
      all = λ Q i w.
          elim (append-In ps (P ∷ []) Q i) [
            | inl j ↦ a.all Q j w
            | inr j ↦ absurd (n (subst (λ (R : Proc). Waits R) (one-In j refl) w))
          ];
      least = a.least;
    }

pub offers-more : (old new : List Set) (O : Set) (ps : List Proc) (P : Proc) → AreOffers old ps → Waits P → IsOffer O P → HasPutOffer old O new → AreOffers new (ps ++ P ∷ [])
offers-more old new O ps P a v o p =
    record {
      only = λ M i.
          elim (p.only M i) [
            | inl j ↦ let (Q, k, w, f) = a.only M j in (Q, In-append_l k (P ∷ []), w, f)
            | inr e ↦ (P, In-append_r ps here, v, subst (λ (S : Set). IsOffer S P) (sym e) o)
          ];
      all = λ Q i w.
          elim (append-In ps (P ∷ []) Q i) [
            | inl j ↦ let (M, k, h) = a.all Q j w in let (N, l, part) = p.kept M k in (N, l, λ b y. h b (part (ev b) y))
            | inr j ↦ let (N, l, part) = p.added in (N, l, λ b y. ap (λ (R : Proc). offered R b) (one-In j refl) ∙ sym (o.events b) ∙ part (ev b) y)
          ];
      least = p.least a.least;
    }

-- from what is known of the state
pub ends-on : (f : Facts) (P : Proc) → IsKnown f P → f.ticks ≡ true → Waits P → ⊥
ends-on f P k e w = w.1 (ticks-Ticks P (sym k.ticks_is ∙ e))

pub moves-on : (f : Facts) (P : Proc) → IsKnown f P → f.rests ≡ false → Waits P → ⊥
moves-on f P k e w = true≢false (sym (k.rests_is.1 w.0) ∙ e)

pub known-waits : (f : Facts) (P : Proc) → IsKnown f P → f.ticks ≡ false → f.rests ≡ true → Waits P
known-waits f P k t r = (k.rests_is.0 r, (λ e. true≢false (sym (Ticks-ticks e) ∙ sym k.ticks_is ∙ t)))

pub known-offer : (f : Facts) (P : Proc) → IsKnown f P → IsOffer f.offers P
known-offer f P k = record { events = k.offers_are; no_tick = k.no_tick }

-- ---- one set among others
single : {M O : Set} → In M (O ∷ []) → M ≡ O
single here = refl
single (there i) = elim i [ ]

pub first-or : {M O : Set} {sets : List Set} → In M (O ∷ sets) → In M sets ⊎ (M ≡ O)
first-or here = inr refl
first-or (there i) = inl i

-- one of the first sets, one set further
pub set-more : (sets : List Set) (i : ℕ) (O : Set) (S : Set → Type 0) → O ≡ get_or sets i O → i < length sets → ((M : Set) × In M (take (i + 1) sets) × S M) → ((M : Set) × In M (take i sets) × S M) ⊎ S O
set-more sets i O S e h (M, j, s) =
    elim (append-In (take i sets) (get_or sets i O ∷ []) M (subst (λ (l : List Set). In M l) (take_more sets i O h) j)) [
      | inl k ↦ inl (M, k, s)
      | inr k ↦ inr (subst S (single k ∙ sym e) s)
    ]

pub at-In : (sets : List Set) (i : ℕ) (d : Set) → i < length sets → In (get_or sets i d) sets
at-In [] i d h = absurd (omega arith)
at-In (M ∷ sets) zero d h = here
at-In (M ∷ sets) (suc i) d h = there (at-In sets i d (omega arith))

pub set-at : (sets : List Set) (i : ℕ) (O : Set) → O ≡ get_or sets i O → i < length sets → In O sets
set-at sets i O e h = subst (λ (M : Set). In M sets) (sym e) (at-In sets i O h)

pub put-part : (old : List Set) (O : Set) → HasPart old O → HasPutOffer old O old
put-part old O h = record { only = λ M i. inl i; kept = λ M i. (M, i, λ x y. y); added = h; least = λ l. l }

-- a last set more, which lies in none of the others, nor one of them in it
least-last : (left : List Set) (O : Set) → AreLeast left → ((M : Set) → In M left → IsPart O M → ⊥) → ((M : Set) → In M left → IsPart M O → ⊥) → AreLeast (left ++ O ∷ [])
least-last left O l out none M N i j part =
    elim (append-In left (O ∷ []) M i) [
      | inl k ↦ elim (append-In left (O ∷ []) N j) [
        | inl m ↦ l M N k m part
        | inr m ↦ absurd (none M k (subst (λ (S : Set). IsPart M S) (single m) part))
      ]
      | inr k ↦ elim (append-In left (O ∷ []) N j) [
        | inl m ↦ absurd (out N m (subst (λ (S : Set). IsPart S N) (single k) part))
        | inr m ↦ single k ∙ sym (single m)
      ]
    ]

pub put-last : (old left : List Set) (O : Set) → ((M : Set) → In M left → In M old) → ((M : Set) → In M old → In M left ⊎ IsPart O M) → ((M : Set) → In M left → IsPart O M → ⊥) → (HasPart old O → ⊥) → HasPutOffer old O (left ++ O ∷ [])
put-last old left O only kept out none =
    record {
      only = λ M i. elim (append-In left (O ∷ []) M i) [ inl j ↦ inl (only M j) | inr j ↦ inr (single j) ];
      kept = λ M i. elim (kept M i) [ inl j ↦ (M, In-append_l j (O ∷ []), λ x y. y) | inr part ↦ (O, In-append_r left here, part) ];
      added = (O, In-append_r left here, λ x y. y);
      least = λ l. least-last left O (λ M N i j part. l M N (only M i) (only N j) part) out (λ M i part. none (M, only M i, part));
    }

-- a list without what stood at a place
pub taken-only : (xs : List Set) (i : ℕ) (x : Set) (p : IsPermutation xs (x ∷ swap_remove xs i x)) (M : Set) → In M (swap_remove xs i x) → In M xs
taken-only xs i x p M j = In-permuted (x ∷ swap_remove xs i x) xs M (IsPermutation-sym xs (x ∷ swap_remove xs i x) p) (there j)

pub taken-kept : (xs : List Set) (i : ℕ) (x : Set) (p : IsPermutation xs (x ∷ swap_remove xs i x)) (M : Set) → In M xs → In M (swap_remove xs i x) ⊎ (M ≡ x)
taken-kept xs i x p M j = first-or (In-permuted xs (x ∷ swap_remove xs i x) M p j)

-- ---- two sets
pub apart-says : (O X M : Set) (b : Bool) → ((x : Event) → member M x ≡ (member O x && not (member X x))) → IsTrue b ↔ ((x : Event) → IsTrue (member O x) → IsTrue (member M x)) → IsTrue b ↔ ((x : Event) → IsTrue (member O x) → IsTrue (member X x) → ⊥)
apart-says O X M b minus within = (
  (λ t x o y. true≢false (sym y ∙ not-on (member X x) (and-right (member O x) (not (member X x)) (sym (minus x) ∙ within.0 t x o)))),
  (λ h. within.1 (λ x o. minus x ∙ both (member O x) (not (member X x)) o (off-not (member X x) (is-off (member X x) (h x o))))),
)

-- ---- what a set of states refuses
module _ {A : Type 0} (facts : SetFacts A) (ps : List Proc) (B : ℕ → Proc) (X : Set) (k : AreFactsOf facts ps) where
  pub refuse-end : (member facts.next tick && not (member X tick)) ≡ true → (Q : Proc) × In Q ps × Refuses B (member X) Q
  refuse-end e =
      let (Q, i, t) = (k.next_is tick).0 (and-left (member facts.next tick) (not (member X tick)) e) in
      (Q, i, inr (t, not-on (member X tick) (and-right (member facts.next tick) (not (member X tick)) e)))

  rest-refuses : HasApart facts.offers.items X → (Q : Proc) × In Q ps × Refuses B (member X) Q
  rest-refuses (O, i, apart) =
      let (P, j, w, o) = k.offers_are.only O i in
      (P, j, inl ((resting-says B P).0 w.0, w.1, (λ a P' x d. apart (ev a) (o.events a ∙ Act-offered d) x)))

  apart-of : (M : Set) (P : Proc) → In M facts.offers.items → ((a : ℕ) → has M a ≡ true → offered P a ≡ true) → ((a : ℕ) → member X (ev a) ≡ true → Offers P a → ⊥) → (x : Event) → IsTrue (member M x) → IsTrue (member X x) → ⊥
  apart-of M P i part n tick m y = let (Q, j, w, o) = k.offers_are.only M i in true≢false (sym m ∙ o.no_tick)
  apart-of M P i part n (ev a) m y = n a y (offered-Offers P a (part a m))

  refused-by : ((Q : Proc) × In Q ps × Refuses B (member X) Q) → ((member facts.next tick && not (member X tick)) ≡ true) ⊎ HasApart facts.offers.items X
  refused-by (Q, i, inl (s, n, r)) =
      let (M, j, part) = k.offers_are.all Q i ((resting-says B Q).1 s, n) in
      inr (M, j, apart-of M Q j part (λ a y (Q', d). r a Q' y d))
  refused-by (Q, i, inr (t, f)) = inl (both (member facts.next tick) (not (member X tick)) ((k.next_is tick).1 (Q, i, t)) (off-not (member X tick) f))

  pub refuse-rest : (b : Bool) → (member facts.next tick && not (member X tick)) ≡ false → IsTrue b ↔ HasApart facts.offers.items X → IsTrue b ↔ ((Q : Proc) × In Q ps × Refuses B (member X) Q)
  refuse-rest b e h = (
    (λ t. rest-refuses (h.0 t)),
    (λ w. elim (refused-by w) [ inl t ↦ absurd (true≢false (sym t ∙ e)) | inr a ↦ h.1 a ]),
  )

  -- how it is refused
  pub refuse-says : ((Q : Proc) × In Q ps × Refuses B (member X) Q) ↔ (((member facts.next tick && not (member X tick)) ≡ true) ⊎ HasApart facts.offers.items X)
  refuse-says = (refused-by, λ w. elim w [ inl e ↦ refuse-end e | inr a ↦ rest-refuses a ])
