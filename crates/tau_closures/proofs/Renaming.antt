-- Two names for one level 0.
use Rattle.std.proofs.Common.{ℕ, zero, suc, inl, inr}
use Rattle.term.specs.Proc.{Proc}
use Rattle.term.specs.Limits.{Terms, Level, IsWithin}
use Rattle.tau_closures.specs.declared.fault.AfterFault.{AfterFault}
use Rattle.tau_closures.specs.declared.fault.AfterFault.TheVariants.{Depth, States, Memory}
use Rattle.tau_closures.specs.Belonging.{MeetsLimit}
use Rattle.tau_closures.specs.Closing.{IsClosure}
use Rattle.std.proofs.Common.{List}

module _ (B : ℕ → Proc) (L M : Terms) (to : (Q : Proc) → L Q → M Q) (fro : (Q : Proc) → M Q → L Q) where
  level-to : (k : ℕ) (Q : Proc) → Level B L k Q → Level B M k Q
  level-to zero Q l = to Q l
  level-to (suc k) Q (inl l) = inl (level-to k Q l)
  level-to (suc k) Q (inr (P, l, d)) = inr (P, level-to k P l, d)

  level-fro : (k : ℕ) (Q : Proc) → Level B M k Q → Level B L k Q
  level-fro zero Q l = fro Q l
  level-fro (suc k) Q (inl l) = inl (level-fro k Q l)
  level-fro (suc k) Q (inr (P, l, d)) = inr (P, level-fro k P l, d)

  within-to : (k : ℕ) → IsWithin (Level B L k) → IsWithin (Level B M k)
  within-to k w = (
    (λ (Q, s, l). w.0 (Q, level-fro k Q s, l)),
    (λ (qs, d, m, l). w.1 (qs, d, (λ Q i. level-fro k Q (m Q i)), l)),
  )

  pub limit-to : (e : AfterFault) → MeetsLimit B L e → MeetsLimit B M e
  limit-to Depth (k, (Q, s, l), b) = (k, (Q, level-to k Q s, l), (λ j h. within-to j (b j h)))
  limit-to States (k, n, (qs, d, m, l), b) = (
    k,
    (λ (Q, s, x). n (Q, level-fro k Q s, x)),
    (qs, d, (λ Q i. level-to k Q (m Q i)), l),
    (λ j h. within-to j (b j h)),
  )
  limit-to Memory t = tt

  pub closure-to : (ms : List Proc) → IsClosure B L ms → IsClosure B M ms
  closure-to ms c =
      record {
        within = λ k. within-to k (c.within k);
        shallow = c.shallow;
        only = λ Q i. let (P, l, r) = c.only Q i in (P, to P l, r);
        all = λ P Q l r. c.all P Q (fro P l) r;
      }
