-- The worked examples hold.
use Rattle.std.proofs.Common.{◌≡◌, ℕ, zero, suc, Bool, true, false, ◌||◌, ◌⊎◌, inl, inr, List, [], ◌∷◌, ◌++◌, nat_eq, refl, sym, subst}
use Rattle.std.proofs.lemmas.Bool.{eqb-true}
use Rattle.alphabet.specs.EventSets.{Set, has}
use Rattle.term.specs.Events.{Event, tick, ev}
use Rattle.term.specs.Traces.{Refusal, with_set, before, joint, images, In, here, there, Merge, m-none, m-both, m-left, m-right, Related, r-none, r-more}
use Rattle.term.specs.Proc.{stop, skip, prefix, intr}
use Rattle.term.specs.Meaning.{NameFl, Tr, Fl}
use Rattle.term.specs.Examples.{a, b, c, nothing, just_a, among, once, none, itself, forever, InternalChoice, ExternalChoice, SkipInChoice, SkipBesideLoop, Unguarded, HiddenLoop, Interleaving, Synchronised, Renamed, Sequence, Interrupted}
use Rattle.term.proofs.Bools.{or-right, true-or-false, not-both}

pub internal_choice : InternalChoice
internal_choice = ((0, inr refl), (0, inl refl), (λ (n, f). elim f [ inl e ↦ absurd (cc) | inr e ↦ absurd (cc) ]))

pub external_choice : ExternalChoice
external_choice =
    ((λ (n, f). elim f [ inl e ↦ absurd (cc) | inr e ↦ elim e.1 [ inl h ↦ absurd (cc) | inr h ↦ absurd (cc) ] ]), (0, inl (refl, refl)))

pub skip_in_choice : SkipInChoice
skip_in_choice = ((0, inr (refl, inl (refl, refl))), (λ (n, f). elim f [ inl e ↦ absurd (cc) | inr e ↦ absurd (cc) ]), (0, inr (refl, tt)))

pub skip_beside_loop : SkipBesideLoop
skip_beside_loop = (0, inr (refl, inl (refl, refl)))

never_rests : (n : ℕ) (X : Refusal) → NameFl itself n 0 [] X → ⊥
never_rests zero X f = f
never_rests (suc n) X f = never_rests n X f

pub unguarded : Unguarded
unguarded X (n, f) = never_rests n X f

always_takes : (n : ℕ) (s : List Event) (X : Refusal) → X (ev a) ≡ true → NameFl forever n 0 s X → ⊥
always_takes zero s X e f = f
always_takes (suc n) [] X e f = cc
always_takes (suc n) (x ∷ s) X e f = always_takes n s X e f.1

pub hidden_loop : HiddenLoop
hidden_loop X (n, (s, f, h)) = always_takes n s (with_set just_a X) (or-right (X (ev a)) true refl) f

-- ---- interleaving
tick-apart : (A : Set) (x : Event) → joint A x ≡ false → among [] x ≡ among (tick ∷ []) x
tick-apart A tick e = absurd (cc)
tick-apart A (ev k) e = refl

no-or : (p q : Bool) → true ≡ (p || q) → p ≡ q → q ≡ false → ⊥
no-or true true e f g = cc
no-or true false e f g = cc
no-or false q e f g = cc

both-take : (n : ℕ) {s t : List Event} (Y Z : Refusal) → Merge nothing s t [] → Fl none n (prefix a skip) t Z → ((x : Event) → among (ev a ∷ []) x ≡ (Y x || Z x)) → ((x : Event) → joint nothing x ≡ false → Y x ≡ Z x) → ⊥
both-take n Y Z m-none g e o = no-or (Y (ev a)) (Z (ev a)) (e (ev a)) (o (ev a) refl) g

both-tick : (n : ℕ) {s t : List Event} → Merge nothing s t (tick ∷ []) → Tr none n (prefix a skip) t → ⊥
both-tick n (m-both j m) h = let e = h.0 in cc
both-tick n (m-left j m) h = cc
both-tick n (m-right j m) h = cc

pub interleaving : Interleaving
interleaving = (
  (0, ([], [], among [], among (tick ∷ []), refl, refl, m-none, (λ x. refl), tick-apart nothing)),
  (λ (n, (s, t, Y, Z, f, g, m, e, o)). both-take n Y Z m g e o),
  (λ (n, (s, t, h, k, m)). both-tick n m k),
  (0, (tick ∷ [], ev a ∷ tick ∷ [], (refl, refl), (refl, (refl, refl)), m-right refl (m-both refl m-none))),
)

-- ---- an event that only one side would take
none-a : (n : ℕ) {s t : List Event} → Merge just_a s t (ev a ∷ []) → Tr none n stop t → ⊥
none-a n (m-both j m) h = h
none-a n (m-left j m) h = cc
none-a n (m-right j m) h = cc

a-apart : (x : Event) → joint just_a x ≡ false → among [] x ≡ among (ev a ∷ tick ∷ []) x
a-apart tick e = absurd (cc)
a-apart (ev k) e = go (true-or-false (nat_eq a k))
  where
    go : (nat_eq a k ≡ true) ⊎ (nat_eq a k ≡ false) → false ≡ (nat_eq a k || (false || false))
    go (inl y) = absurd (not-both (refl) (subst (λ i. has just_a i ≡ false) (sym (eqb-true a k y)) e))
    go (inr n) = rw n refl

pub synchronised : Synchronised
synchronised = (
  (λ (n, (s, t, h, k, m)). none-a n m k),
  (0, ([], [], among [], among (ev a ∷ tick ∷ []), refl, tt, m-none, (λ x. refl), a-apart)),
)

-- ---- renaming
not-there : In a (b ∷ c ∷ []) → ⊥
not-there (there (there i)) = elim i [ ]

no-image : (n : ℕ) {s : List Event} → Related ((a, b) ∷ (a, c) ∷ []) s (ev a ∷ []) → Tr none n (once a) s → ⊥
no-image n (r-more {x = tick} i r) h = i
no-image n (r-more {x = ev k} i r) h = not-there (subst (λ j. In a (images ((a, b) ∷ (a, c) ∷ []) j)) (same-number k h.0) i)
  where
    same-number : (k : ℕ) → ev k ≡ ev a → k ≡ a
    same-number k e = cc

b-taken : (n : ℕ) {s : List Event} → Related ((a, b) ∷ (a, c) ∷ []) s [] → Fl none n (once a) s (before ((a, b) ∷ (a, c) ∷ []) (among (ev b ∷ []))) → ⊥
b-taken n r-none f = cc

pub renamed : Renamed
renamed = (
  (0, (ev a ∷ [], (refl, tt), r-more (there here) r-none)),
  (λ (n, (s, h, r)). no-image n r h),
  (0, ([], refl, r-none)),
  (λ (n, (s, f, r)). b-taken n r f),
)

-- ---- sequence
b-next : (n : ℕ) (s t : List Event) → ev a ∷ [] ≡ s ++ t → Tr none n (prefix a skip) (s ++ tick ∷ []) → Fl none n (once b) t (among (ev b ∷ [])) → ⊥
b-next n [] t e h k = let f = h.0 in cc
b-next n (x ∷ []) [] e h k = cc
b-next n (x ∷ []) (z ∷ t) e h k = cc
b-next n (x ∷ y ∷ s) t e h k = cc

no-tick : (n : ℕ) (s t : List Event) → ev a ∷ tick ∷ [] ≡ s ++ t → Tr none n (prefix a skip) (s ++ tick ∷ []) → Tr none n (once b) t → ⊥
no-tick n [] t e h k = let f = h.0 in cc
no-tick n (x ∷ []) [] e h k = cc
no-tick n (x ∷ []) (z ∷ t) e h k = let f = k.0 in cc
no-tick n (x ∷ y ∷ []) t e h k = let f = h.1.1 in cc
no-tick n (x ∷ y ∷ z ∷ s) t e h k = let f = h.1.1 in cc

pub sequence : Sequence
sequence = (
  (0, inr (ev a ∷ [], [], refl, tt, (refl, (refl, refl)), refl)),
  (λ (n, f). elim f [ inl (d, g) ↦ let e = g.1 in absurd (cc) | inr (s, t, e, d, h, k) ↦ b-next n s t e h k ]),
  (λ (n, f). elim f [ inl (d, g) ↦ d | inr (s, t, e, d, h, k) ↦ no-tick n s t e h k ]),
)

-- ---- interrupt
not-empty : (s t : List Event) (x : Event) → [] ≡ s ++ x ∷ t → ⊥
not-empty [] t x e = cc
not-empty (y ∷ s) t x e = cc

at-first : (n : ℕ) (X : Refusal) → Fl none n (intr (once a) (once b)) [] X → (X (ev a) ≡ false) × (X (ev b) ≡ false)
at-first n X (inl (d, f, g)) = (f, g)
at-first n X (inr (inl (e, h))) = let f = h.0 in absurd (cc)
at-first n X (inr (inr (inl (s, e, h)))) = absurd (not-empty s [] tick e)
at-first n X (inr (inr (inr (inl (s, t, x, e, d, h, k))))) = absurd (not-empty s t x e)
at-first n X (inr (inr (inr (inr (e, d, h, k))))) = let f = k.0 in absurd (cc)

pub interrupted : Interrupted
interrupted = (
  (0, inr (ev a ∷ [], ev b ∷ [], refl, tt, (refl, tt), (refl, tt))),
  (0, inr (inr (inr (inl (ev a ∷ [], [], ev b, refl, tt, (refl, tt), (refl, tt)))))),
  (λ (n, f). let e = (at-first n (among (ev a ∷ [])) f).0 in cc),
  (λ (n, f). let e = (at-first n (among (ev b ∷ [])) f).1 in cc),
)
