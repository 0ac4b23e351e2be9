-- The processes that rest are those that are stable.
use Rattle.std.proofs.Common.{◌≡◌, ℕ, false, inl, inr, refl, ◌↔◌}
use Rattle.term.specs.Proc.{Proc, stop, skip, prefix, ext, int, seq, par, hide, ren, intr, name}
use Rattle.term.specs.Steps.{is_skip, Ticks, Stable, Hid, h-int-l, h-int-r, h-ext-l, h-ext-r, h-seq, h-seq-t, h-par-l, h-par-r, h-par-tl, h-par-tr, h-hide, h-hide-a, h-ren, h-intr-l, h-intr-r, h-name}
use Rattle.term.proofs.Bools.{true-or-false, not-both}
use Rattle.targets.specs.Resting.{Settled, Resting}
use Rattle.targets.proofs.Offered.{offered-Offers, Act-offered}

module _ (B : ℕ → Proc) where
  resting-none : {P P' : Proc} → Hid B P P' → Resting P → ⊥
  resting-none h-int-l r = r
  resting-none h-int-r r = r
  resting-none (h-ext-l d) r = resting-none d r.0
  resting-none (h-ext-r d) r = resting-none d r.1
  resting-none (h-seq d) r = resting-none d r.0
  resting-none (h-seq-t t) r = r.1 t
  resting-none (h-par-l d) r = resting-none d r.0.0
  resting-none (h-par-r d) r = resting-none d r.1.0
  resting-none (h-par-tl o t) r = elim r.0.1 [ inl s ↦ not-both s o | inr n ↦ n t ]
  resting-none (h-par-tr o t) r = elim r.1.1 [ inl s ↦ not-both s o | inr n ↦ n t ]
  resting-none (h-hide d) r = resting-none d r.0
  resting-none (h-hide-a {a = a} y d) r = r.1 a y (Act-offered d)
  resting-none (h-ren d) r = resting-none d r
  resting-none (h-intr-l d) r = resting-none d r.0
  resting-none (h-intr-r d) r = resting-none d r.1
  resting-none (h-name e) r = r

  settled : (P : Proc) → (is_skip P ≡ false → Ticks P → ⊥) → Settled P
  settled P h = elim (true-or-false (is_skip P)) [ inl e ↦ inl e | inr e ↦ inr (h e) ]

  stable-resting : (P : Proc) → Stable B P → Resting P
  stable-resting stop s = tt
  stable-resting skip s = tt
  stable-resting (prefix a P) s = tt
  stable-resting (ext P Q) s = (stable-resting P (λ P' d. s (ext P' Q) (h-ext-l d)), stable-resting Q (λ Q' d. s (ext P Q') (h-ext-r d)))
  stable-resting (int P Q) s = s P h-int-l
  stable-resting (seq P Q) s = (stable-resting P (λ P' d. s (seq P' Q) (h-seq d)), (λ t. s Q (h-seq-t t)))
  stable-resting (par A P Q) s = (
    (stable-resting P (λ P' d. s (par A P' Q) (h-par-l d)), settled P (λ o t. s (par A skip Q) (h-par-tl o t))),
    (stable-resting Q (λ Q' d. s (par A P Q') (h-par-r d)), settled Q (λ o t. s (par A P skip) (h-par-tr o t))),
  )
  stable-resting (hide A P) s = (
    stable-resting P (λ P' d. s (hide A P') (h-hide d)),
    (λ a y o. let (R, d) = offered-Offers P a o in s (hide A R) (h-hide-a y d)),
  )
  stable-resting (ren R P) s = stable-resting P (λ P' d. s (ren R P') (h-ren d))
  stable-resting (intr P Q) s = (stable-resting P (λ P' d. s (intr P' Q) (h-intr-l d)), stable-resting Q (λ Q' d. s (intr P Q') (h-intr-r d)))
  stable-resting (name k) s = s (B k) (h-name refl)

  pub resting-says : (P : Proc) → Resting P ↔ Stable B P
  resting-says P = ((λ r P' d. resting-none d r), stable-resting P)
