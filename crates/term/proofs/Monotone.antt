-- The empty trace is of every term, and one more unfolding loses nothing.
use Rattle.std.proofs.Common.{ℕ, zero, suc, inl, inr, List, [], ◌∷◌, ◌++◌, refl, sym, subst}
use Rattle.term.specs.Events.{Event, tick}
use Rattle.term.specs.Traces.{Refusal, with_tick, with_set, before, m-none, x-none, r-none}
use Rattle.term.specs.Proc.{Proc, stop, skip, prefix, ext, int, seq, par, hide, ren, intr, name}
use Rattle.term.specs.Meaning.{TrIn, FlIn, NameTr, NameFl, Tr, Fl}

module _ (ρ : ℕ → List Event → Type 0) (nil : (k : ℕ) → ρ k []) where
  pub TrIn-nil : (P : Proc) → TrIn ρ P []
  TrIn-nil stop = tt
  TrIn-nil skip = tt
  TrIn-nil (prefix a P) = tt
  TrIn-nil (ext P Q) = inl (TrIn-nil P)
  TrIn-nil (int P Q) = inl (TrIn-nil P)
  TrIn-nil (seq P Q) = inl (tt, TrIn-nil P)
  TrIn-nil (par A P Q) = ([], [], TrIn-nil P, TrIn-nil Q, m-none)
  TrIn-nil (hide A P) = ([], TrIn-nil P, x-none)
  TrIn-nil (ren R P) = ([], TrIn-nil P, r-none)
  TrIn-nil (intr P Q) = inl (TrIn-nil P)
  TrIn-nil (name k) = nil k

module _ (ρ ρ' : ℕ → List Event → Type 0) (f : (k : ℕ) (u : List Event) → ρ k u → ρ' k u) where
  pub TrIn-map : (P : Proc) (u : List Event) → TrIn ρ P u → TrIn ρ' P u
  TrIn-map stop [] h = tt
  TrIn-map stop (x ∷ u) h = h
  TrIn-map skip [] h = tt
  TrIn-map skip (x ∷ u) h = h
  TrIn-map (prefix a P) [] h = tt
  TrIn-map (prefix a P) (x ∷ u) (e, h) = (e, TrIn-map P u h)
  TrIn-map (ext P Q) u (inl h) = inl (TrIn-map P u h)
  TrIn-map (ext P Q) u (inr h) = inr (TrIn-map Q u h)
  TrIn-map (int P Q) u (inl h) = inl (TrIn-map P u h)
  TrIn-map (int P Q) u (inr h) = inr (TrIn-map Q u h)
  TrIn-map (seq P Q) u (inl (c, h)) = inl (c, TrIn-map P u h)
  TrIn-map (seq P Q) u (inr (s, t, e, c, h, k)) = inr (s, t, e, c, TrIn-map P (s ++ tick ∷ []) h, TrIn-map Q t k)
  TrIn-map (par A P Q) u (s, t, h, k, m) = (s, t, TrIn-map P s h, TrIn-map Q t k, m)
  TrIn-map (hide A P) u (s, h, x) = (s, TrIn-map P s h, x)
  TrIn-map (ren R P) u (s, h, r) = (s, TrIn-map P s h, r)
  TrIn-map (intr P Q) u (inl h) = inl (TrIn-map P u h)
  TrIn-map (intr P Q) u (inr (s, t, e, c, h, k)) = inr (s, t, e, c, TrIn-map P s h, TrIn-map Q t k)
  TrIn-map (name k) u h = f k u h

  module _ (φ φ' : ℕ → List Event → Refusal → Type 0) (g : (k : ℕ) (u : List Event) (X : Refusal) → φ k u X → φ' k u X) where
    pub FlIn-map : (P : Proc) (u : List Event) (X : Refusal) → FlIn ρ φ P u X → FlIn ρ' φ' P u X
    FlIn-map stop [] X h = tt
    FlIn-map stop (x ∷ u) X h = h
    FlIn-map skip [] X h = h
    FlIn-map skip (x ∷ u) X h = h
    FlIn-map (prefix a P) [] X h = h
    FlIn-map (prefix a P) (x ∷ u) X (e, h) = (e, FlIn-map P u X h)
    FlIn-map (ext P Q) [] X (inl (h, k)) = inl (FlIn-map P [] X h, FlIn-map Q [] X k)
    FlIn-map (ext P Q) [] X (inr (c, inl h)) = inr (c, inl (TrIn-map P (tick ∷ []) h))
    FlIn-map (ext P Q) [] X (inr (c, inr h)) = inr (c, inr (TrIn-map Q (tick ∷ []) h))
    FlIn-map (ext P Q) (x ∷ u) X (inl h) = inl (FlIn-map P (x ∷ u) X h)
    FlIn-map (ext P Q) (x ∷ u) X (inr h) = inr (FlIn-map Q (x ∷ u) X h)
    FlIn-map (int P Q) u X (inl h) = inl (FlIn-map P u X h)
    FlIn-map (int P Q) u X (inr h) = inr (FlIn-map Q u X h)
    FlIn-map (seq P Q) u X (inl (c, h)) = inl (c, FlIn-map P u (with_tick X) h)
    FlIn-map (seq P Q) u X (inr (s, t, e, c, h, k)) = inr (s, t, e, c, TrIn-map P (s ++ tick ∷ []) h, FlIn-map Q t X k)
    FlIn-map (par A P Q) u X (s, t, Y, Z, h, k, m, e, o) = (s, t, Y, Z, FlIn-map P s Y h, FlIn-map Q t Z k, m, e, o)
    FlIn-map (hide A P) u X (s, h, x) = (s, FlIn-map P s (with_set A X) h, x)
    FlIn-map (ren R P) u X (s, h, r) = (s, FlIn-map P s (before R X) h, r)
    FlIn-map (intr P Q) u X (inl (c, h, k)) = inl (c, FlIn-map P u X h, FlIn-map Q [] X k)
    FlIn-map (intr P Q) u X (inr (inl (c, h))) = inr (inl (c, TrIn-map P (u ++ tick ∷ []) h))
    FlIn-map (intr P Q) u X (inr (inr (inl (s, e, h)))) = inr (inr (inl (s, e, TrIn-map P u h)))
    FlIn-map (intr P Q) u X (inr (inr (inr (inl (s, t, x, e, c, h, k))))) =
        inr (inr (inr (inl (s, t, x, e, c, TrIn-map P s h, FlIn-map Q (x ∷ t) X k))))
    FlIn-map (intr P Q) u X (inr (inr (inr (inr (e, c, h, k))))) = inr (inr (inr (inr (e, c, TrIn-map P u h, TrIn-map Q (tick ∷ []) k))))
    FlIn-map (name k) u X h = g k u X h

module _ (B : ℕ → Proc) where
  pub NameTr-nil : (n k : ℕ) → NameTr B n k []
  NameTr-nil zero k = refl
  NameTr-nil (suc n) k = TrIn-nil (NameTr B n) (NameTr-nil n) (B k)

  pub Tr-nil : (n : ℕ) (P : Proc) → Tr B n P []
  Tr-nil n P = TrIn-nil (NameTr B n) (NameTr-nil n) P

  pub NameTr-more : (n k : ℕ) (u : List Event) → NameTr B n k u → NameTr B (suc n) k u
  NameTr-more zero k u e = subst (λ v. TrIn (NameTr B zero) (B k) v) (sym e) (Tr-nil zero (B k))
  NameTr-more (suc n) k u h = TrIn-map (NameTr B n) (NameTr B (suc n)) (NameTr-more n) (B k) u h

  pub Tr-more : (n : ℕ) (P : Proc) (u : List Event) → Tr B n P u → Tr B (suc n) P u
  Tr-more n P u h = TrIn-map (NameTr B n) (NameTr B (suc n)) (NameTr-more n) P u h

  pub NameFl-more : (n k : ℕ) (u : List Event) (X : Refusal) → NameFl B n k u X → NameFl B (suc n) k u X
  NameFl-more zero k u X h = absurd h
  NameFl-more (suc n) k u X h =
      FlIn-map (NameTr B n) (NameTr B (suc n)) (NameTr-more n) (NameFl B n) (NameFl B (suc n)) (NameFl-more n) (B k) u X h

  pub Fl-more : (n : ℕ) (P : Proc) (u : List Event) (X : Refusal) → Fl B n P u X → Fl B (suc n) P u X
  Fl-more n P u X h =
      FlIn-map (NameTr B n) (NameTr B (suc n)) (NameTr-more n) (NameFl B n) (NameFl B (suc n)) (NameFl-more n) P u X h
