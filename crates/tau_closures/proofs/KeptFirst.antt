-- The kept targets of an event, of which level 0 is made.
use Rattle.std.proofs.Common.{◌≡◌, ℕ, ◌<◌, ◌≤◌, inl, inr, List, [], ◌∷◌, ◌++◌, length, refl, sym, subst, arith}
use Rattle.term.specs.Traces.{In, here, there}
use Rattle.term.specs.Proc.{Proc}
use Rattle.term.specs.Limits.{Distinct, HasDeep, HasMany, most_states}
use Rattle.targets.specs.declared.labels.Label.{Label}
use Rattle.targets.specs.Labels.{Step}
use Rattle.targets.proofs.Members.{append-In, In-append_l, In-append_r}
use Rattle.targets.proofs.Cutting.{no-longer, only as one-In}
use Rattle.tau_closures.specs.declared.fault.AfterFault.{AfterFault}
use Rattle.tau_closures.specs.declared.fault.AfterFault.TheVariants.{Depth, States, Memory}
use Rattle.tau_closures.specs.Closing.{AllShallow}
use Rattle.tau_closures.specs.Kept.{KeptStep, KeptTargetOf, AreBroadBy, AreKeptTargets, HasPutAll, IsBroadFault}
use Rattle.tau_closures.specs.Limits.{MeetsKeptLimit}

module _ (B : ℕ → Proc) (n : ℕ) (l : Label) where
  -- the targets of the first processes
  pub record IsKeptStart (ps now : List Proc) : Type 0 where
    pub once : Distinct now
    pub few : length now ≤ most_states
    pub narrow : AreBroadBy B ps l → ⊥
    pub only : (Q : Proc) → In Q now → KeptTargetOf B n ps l Q
    pub all : (Q : Proc) → KeptTargetOf B n ps l Q → In Q now

  pub start-begins : (now : List Proc) → now ≡ [] → IsKeptStart [] now
  start-begins now e =
      record {
        once = subst Distinct (sym e) tt;
        few = subst (λ v. length v ≤ most_states) (sym e) (omega arith);
        narrow = λ (P, i, m). elim i [ ];
        only = λ Q i. absurd (none i e);
        all = λ Q (P, i, d). elim i [ ];
      }
    where
      none : {P : Proc} {v : List Proc} → In P v → v ≡ [] → ⊥
      none here e = cc
      none (there i) e = cc

  module _ (ps now : List Proc) (w : IsKeptStart ps now) (P : Proc) (new : List Proc) (p : HasPutAll (KeptStep B n l P) now new) (thin : HasMany (Step B P l) → ⊥) where
    only-more : (Q : Proc) → In Q new → KeptTargetOf B n (ps ++ P ∷ []) l Q
    only-more Q j =
        elim (p.2.only Q j) [
          | inl a ↦ let (R, b, d) = w.only Q a in (R, In-append_l b (P ∷ []), d)
          | inr a ↦ (P, In-append_r ps here, (p.1 Q).0 a)
        ]

    pub start-on : length new ≤ most_states → IsKeptStart (ps ++ P ∷ []) new
    start-on few =
        record {
          once = p.2.once w.once;
          few = few;
          narrow = λ (R, a, m). elim (append-In ps (P ∷ []) R a) [
            | inl b ↦ w.narrow (R, b, m)
            | inr b ↦ thin (subst (λ v. HasMany (Step B v l)) (one-In b refl) m)
          ];
          only = only-more;
          all = λ Q (R, a, d). elim (append-In ps (P ∷ []) R a) [
            | inl b ↦ subst (λ v. In Q v) (sym p.2.more.1) (In-append_l (w.all Q (R, b, d)) p.2.more.0)
            | inr b ↦ p.2.all Q ((p.1 Q).1 (subst (λ v. KeptStep B n l v Q) (one-In b refl) d))
          ];
        }

    pub start-many : (qs : List Proc) → ((R : Proc) → In R (ps ++ P ∷ []) → In R qs) → most_states < length new → MeetsKeptLimit B n (KeptTargetOf B n qs l) (AreBroadBy B qs l) States
    start-many qs within h =
        (0, inl (new, p.2.once w.once, (λ Q j. let (R, a, d) = only-more Q j in (R, within R a, d)), h), (λ j k. absurd (omega arith)))

  pub start-ends : (ps now : List Proc) → IsKeptStart ps now → AllShallow now → AreKeptTargets B n ps l now
  start-ends ps now w shallow = record {
    once = w.once;
    few = w.few;
    shallow = shallow;
    narrow = w.narrow;
    only = w.only;
    all = w.all;
  }

  pub start-broad : (ps : List Proc) (P : Proc) → In P ps → (f : AfterFault) → IsBroadFault (Step B P l) f → MeetsKeptLimit B n (KeptTargetOf B n ps l) (AreBroadBy B ps l) f
  start-broad ps P i Depth m = absurd m
  start-broad ps P i States m = (0, inr (P, i, m), (λ j k. absurd (omega arith)))
  start-broad ps P i Memory m = tt

  pub start-deep : (ps now : List Proc) → IsKeptStart ps now → HasDeep (λ Q. In Q now) → MeetsKeptLimit B n (KeptTargetOf B n ps l) (AreBroadBy B ps l) Depth
  start-deep ps now w (Q, i, d) =
      (0, (Q, w.only Q i, d), (λ x. elim x [ inl m ↦ many m | inr b ↦ w.narrow b ]), (λ j k. absurd (omega arith)))
    where
      many : HasMany (KeptTargetOf B n ps l) → ⊥
      many (qs, e, m, h) = let k = no-longer qs now e (λ R j. w.all R (m R j)) in let f = w.few in omega arith
