-- Sets that begin anew with one of them.
use Rattle.std.proofs.Common.{◌≡◌, ◌↔◌, ℕ, List, [], length, get_or, refl, sym, subst, arith}
use Rattle.std.proofs.lemmas.List.{length-map}
use Rattle.std.specs.List.{All}
use Rattle.std.specs.declared.vec.Vec.{Vec}
use Rattle.term.specs.Proc.{Proc}
use Rattle.term.specs.Specs.{Specified, IsClosed}
use Rattle.term.specs.Traces.{In}
use Rattle.tau_closures.specs.Looks.{look}
use Rattle.tau_closures.specs.Keepings.{Keeping}
use Rattle.spaces.specs.declared.facts.SetFacts.{SetFacts}
use Rattle.spaces.specs.Answers.{HasMembers}
use Rattle.spaces.specs.Found.{HasList, shown}
use Rattle.spaces.specs.Known.{AreOf, IsStored, IsSound, lists_of, found}
use Rattle.spaces.proofs.Entering.{has-list}

module _ {A : Type 0} (spec : Specified) (a b : Keeping) (es fs : List (Vec ℕ A × SetFacts A)) (p : b ≡ a) (q : fs ≡ es) (one : length (lists_of es) ≡ 1) where
  pub sound-alone : IsClosed spec → AreOf spec a → All (IsStored a.all.table.processes) es → IsSound spec b fs
  sound-alone closed begun stored =
      subst (λ (c : Keeping). IsSound spec c fs) (sym p)
      (subst (λ (l : List (Vec ℕ A × SetFacts A)). IsSound spec a l) (sym q)
      (record {
        closed = closed;
        begun = λ h. begun;
        few = omega (arith, one, length-map es (λ (e : Vec ℕ A × SetFacts A). e.0.items));
        stored = stored;
      }))

  pub members-alone : (ps : List Proc) (n : ℕ) → n ≡ 0 → ((Q : Proc) → In Q (look a.all.table.processes (get_or (lists_of es) 0 [])) ↔ In Q ps) → HasMembers (shown (found spec b fs)) ps n
  members-alone ps n z same =
      let h : HasList (shown (found spec a es)) (look a.all.table.processes (get_or (lists_of es) 0 [])) 0 = has-list (found spec a es) (get_or (lists_of es) 0 []) 0 (omega (arith, one)) refl in
      subst (λ (k : ℕ). HasMembers (shown (found spec b fs)) ps k) (sym z)
      (subst (λ (c : Keeping). HasMembers (shown (found spec c fs)) ps 0) (sym p)
      (subst (λ (l : List (Vec ℕ A × SetFacts A)). HasMembers (shown (found spec a l)) ps 0) (sym q)
      (record { within = h.within; same = λ Q. subst (λ (l : List Proc). In Q l ↔ In Q ps) (sym h.is) (same Q) })))
