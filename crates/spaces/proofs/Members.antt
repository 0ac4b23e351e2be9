-- Members of sets, in any order.
use Rattle.std.proofs.Common.{◌≡◌, ◌↔◌, ℕ, zero, suc, ◌<◌, List, [], ◌∷◌, length, get_or, refl, subst, arith}
use Rattle.std.specs.Prelude.{IsPermutation, Contains}
use Rattle.std.proofs.lemmas.List.Sorted.{Contains-permutation, IsPermutation-sym, IsPermutation-map}
use Rattle.term.specs.Proc.{Proc}
use Rattle.term.specs.Traces.{In, here, there}
use Rattle.tau_closures.specs.Shapes.{at}
use Rattle.tau_closures.specs.Looks.{look, AllBelow}
use Rattle.tau_closures.specs.Closing.{AllShallow}

-- ---- what is in a list is so at some place
pub In-contains : {X : Type 0} {x : X} {xs : List X} → In x xs → Contains xs x
In-contains (here {x = x} {xs = xs}) = (0, omega arith, refl)
In-contains (there {x = x} {y = y} {xs = xs} i) = let (k, h, e) = In-contains i in (suc k, omega arith, e)

contains-at : {X : Type 0} (xs : List X) (x : X) (k : ℕ) → k < length xs → get_or xs k x ≡ x → In x xs
contains-at [] x k h e = absurd (omega arith)
contains-at (y ∷ ys) x zero h e = subst (λ z. In z (y ∷ ys)) e here
contains-at (y ∷ ys) x (suc k) h e = there (contains-at ys x k (omega arith) e)

pub In-permuted : {X : Type 0} (xs ys : List X) (x : X) → IsPermutation xs ys → In x xs → In x ys
In-permuted xs ys x p i = let (k, h, e) = Contains-permutation xs ys x p (In-contains i) in contains-at ys x k h e

-- ---- numbers
below-In : (n : ℕ) (ns : List ℕ) (k : ℕ) → AllBelow n ns → In k ns → k < n
below-In n [] k a i = elim i [ ]
below-In n (m ∷ ms) k a here = a.0
below-In n (m ∷ ms) k a (there i) = below-In n ms k a.1 i

below-from : (n : ℕ) (ns : List ℕ) → ((k : ℕ) → In k ns → k < n) → AllBelow n ns
below-from n [] h = tt
below-from n (m ∷ ms) h = (h m here, below-from n ms (λ k i. h k (there i)))

module _ (ns ms : List ℕ) (p : IsPermutation ns ms) where
  pub below-permuted : (n : ℕ) → AllBelow n ns → AllBelow n ms
  below-permuted n a = below-from n ms (λ k i. below-In n ns k a (In-permuted ms ns k (IsPermutation-sym ns ms p) i))

  pub look-permuted : (ps : List Proc) (Q : Proc) → In Q (look ps ms) ↔ In Q (look ps ns)
  look-permuted ps Q =
      let q : IsPermutation (look ps ns) (look ps ms) = IsPermutation-map (at ps) ns ms p in (
        (λ i. In-permuted (look ps ms) (look ps ns) Q (IsPermutation-sym (look ps ns) (look ps ms) q) i),
        (λ i. In-permuted (look ps ns) (look ps ms) Q q i),
      )

  pub shallow-permuted : (ps : List Proc) → AllShallow (look ps ns) → AllShallow (look ps ms)
  shallow-permuted ps s = λ Q i. s Q ((look-permuted ps Q).0 i)
