-- What a process offers is what it has steps with.
use Rattle.std.proofs.Common.{◌≡◌, ℕ, Bool, true, false, not, ◌&&◌, inl, inr, List, [], ◌∷◌, refl, sym, subst}
use Rattle.std.proofs.lemmas.Bool.{eqb-true, eq-eqb}
use Rattle.alphabet.specs.EventSets.{has}
use Rattle.term.specs.Traces.{In, here, there}
use Rattle.term.specs.Proc.{Proc, stop, skip, prefix, ext, int, seq, par, hide, ren, intr, name}
use Rattle.term.specs.SameLaws.{and-cases, and-both}
use Rattle.term.specs.Steps.{Act, a-prefix, a-ext-l, a-ext-r, a-seq, a-par-l, a-par-r, a-par-b, a-hide, a-ren, a-intr-l, a-intr-r}
use Rattle.term.proofs.Bools.{or-cases, or-left, or-right}
use Rattle.targets.specs.Targets.{sources}
use Rattle.targets.specs.Offers.{Offers, some_passes, both_or_one, offered}
use Rattle.targets.proofs.Sources.{image-source, source-image}

some_passes-In : (f : ℕ → Bool) (as' : List ℕ) → some_passes f as' ≡ true → (a : ℕ) × In a as' × (f a ≡ true)
some_passes-In f [] e = absurd (cc)
some_passes-In f (a ∷ as') e =
    elim (or-cases (f a) (some_passes f as') e) [
      | inl h ↦ (a, here, h)
      | inr h ↦ let (b, i, k) = some_passes-In f as' h in (b, there i, k)
    ]

In-some_passes : (f : ℕ → Bool) {a : ℕ} {as' : List ℕ} → In a as' → f a ≡ true → some_passes f as' ≡ true
In-some_passes f (here {x = a} {xs = as'}) e = or-left (f a) (some_passes f as') e
In-some_passes f (there {y = b} {xs = as'} i) e = or-right (f b) (some_passes f as') (In-some_passes f i e)

not-true : (b : Bool) → not b ≡ true → b ≡ false
not-true true e = absurd (cc)
not-true false e = refl

not-false : (b : Bool) → b ≡ false → not b ≡ true
not-false true e = absurd (cc)
not-false false e = refl

pub offered-Offers : (P : Proc) (a : ℕ) → offered P a ≡ true → Offers P a
offered-Offers stop a e = absurd (cc)
offered-Offers skip a e = absurd (cc)
offered-Offers (prefix b P) a e = (P, subst (λ v. Act (prefix b P) v P) (eqb-true b a e) a-prefix)
offered-Offers (ext P Q) a e =
    elim (or-cases (offered P a) (offered Q a) e) [
      | inl h ↦ let (R, d) = offered-Offers P a h in (R, a-ext-l d)
      | inr h ↦ let (R, d) = offered-Offers Q a h in (R, a-ext-r d)
    ]
offered-Offers (int P Q) a e = absurd (cc)
offered-Offers (seq P Q) a e = let (R, d) = offered-Offers P a e in (seq R Q, a-seq d)
offered-Offers (par A P Q) a e = go (has A a) refl (offered-Offers P a) (offered-Offers Q a) e
  where
    go : (v : Bool) → has A a ≡ v → (offered P a ≡ true → Offers P a) → (offered Q a ≡ true → Offers Q a) → both_or_one v (offered P a) (offered Q a) ≡ true → Offers (par A P Q) a
    go true y f g e =
        let (h, k) = and-cases (offered P a) (offered Q a) e in
        let (R, d) = f h in
        let (S, d') = g k in
        (par A R S, a-par-b y d d')
    go false n f g e =
        elim (or-cases (offered P a) (offered Q a) e) [
          | inl h ↦ let (R, d) = f h in (par A R Q, a-par-l n d)
          | inr h ↦ let (R, d) = g h in (par A P R, a-par-r n d)
        ]
offered-Offers (hide A P) a e =
    let (h, k) = and-cases (offered P a) (not (has A a)) e in
    let (R, d) = offered-Offers P a h in
    (hide A R, a-hide (not-true (has A a) k) d)
offered-Offers (ren S P) b e =
    let (a, i, h) = some_passes-In (offered P) (sources S b) e in
    let (R, d) = offered-Offers P a h in
    (ren S R, a-ren (source-image S a b i) d)
offered-Offers (intr P Q) a e =
    elim (or-cases (offered P a) (offered Q a) e) [
      | inl h ↦ let (R, d) = offered-Offers P a h in (intr R Q, a-intr-l d)
      | inr h ↦ let (R, d) = offered-Offers Q a h in (R, a-intr-r d)
    ]
offered-Offers (name k) a e = absurd (cc)

pub Act-offered : {P R : Proc} {a : ℕ} → Act P a R → offered P a ≡ true
Act-offered (a-prefix {a = a}) = eq-eqb a a refl
Act-offered (a-ext-l {a = a} {P = P} {Q = Q} d) = or-left (offered P a) (offered Q a) (Act-offered d)
Act-offered (a-ext-r {a = a} {P = P} {Q = Q} d) = or-right (offered P a) (offered Q a) (Act-offered d)
Act-offered (a-seq d) = Act-offered d
Act-offered (a-par-l {A = A} {a = a} {P = P} {Q = Q} n d) =
    subst (λ v. both_or_one v (offered P a) (offered Q a) ≡ true) (sym n) (or-left (offered P a) (offered Q a) (Act-offered d))
Act-offered (a-par-r {A = A} {a = a} {P = P} {Q = Q} n d) =
    subst (λ v. both_or_one v (offered P a) (offered Q a) ≡ true) (sym n) (or-right (offered P a) (offered Q a) (Act-offered d))
Act-offered (a-par-b {A = A} {a = a} {P = P} {Q = Q} y d d') =
    subst (λ v. both_or_one v (offered P a) (offered Q a) ≡ true) (sym y) (and-both (offered P a) (offered Q a) (Act-offered d) (Act-offered d'))
Act-offered (a-hide {A = A} {a = a} {P = P} n d) = and-both (offered P a) (not (has A a)) (Act-offered d) (not-false (has A a) n)
Act-offered (a-ren {R = S} {a = a} {b = b} {P = P} i d) = In-some_passes (offered P) (image-source S a b i) (Act-offered d)
Act-offered (a-intr-l {a = a} {P = P} {Q = Q} d) = or-left (offered P a) (offered Q a) (Act-offered d)
Act-offered (a-intr-r {a = a} {P = P} {Q = Q} d) = or-right (offered P a) (offered Q a) (Act-offered d)
