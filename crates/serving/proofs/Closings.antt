-- How a session went whose connections are over.
use Rattle.std.proofs.Common.{◌≡◌, ◌+◌, ℕ, Bool, List, length, subst, Option}
use Rattle.std.specs.Prelude.{map, IfSome}
use Rattle.term.specs.Specs.{Specified}
use Rattle.shared.specs.Entry.{Entry}
use Rattle.shared.specs.View.{SeatView}
use Rattle.shared.specs.Seats.{AllTold, receipts}
use Rattle.wire.specs.Faults.{Fault}
use Rattle.connections.specs.declared.outcome.Ending.{Ending}
use Rattle.connections.specs.declared.outcome.Outcome.{Outcome}
use Rattle.connections.specs.Outcomes.{ending_of, places_of}
use Rattle.serving.specs.Runs.{CameTo, Went}

module _ {L R W : Type 0} (takes : L → R → W → L → Type 0) (fails : L → L → Type 0) (left : R → Option (List ℕ)) (closed : R → Type 0) (contents : W → Option (List ℕ)) (tells : W → Fault → Type 0) where
  pub went_of : (accept : L) (count : ℕ) (spec : Specified) (opening history : List Entry) (shares : List SeatView) (endings : List Ending) (accept_failed : Bool) (answered : Option ℕ)
      → (outcomes : List (Outcome SeatView)) × CameTo takes fails left closed contents tells accept count spec opening outcomes accept_failed × (shares ≡ places_of outcomes) × (endings ≡ map ending_of outcomes)
      → IfSome answered (λ n. (length history ≡ length opening + n) × (n ≡ receipts shares)) → IfSome answered (λ n. AllTold history shares)
      → Went takes fails left closed contents tells accept count spec opening history endings accept_failed answered
  went_of accept count spec opening history shares endings accept_failed answered h counted told = record {
    outcomes = h.0;
    came = h.1;
    endings_are = h.3;
    counted = subst (λ ps. IfSome answered (λ n. (length history ≡ length opening + n) × (n ≡ receipts ps))) h.2 counted;
    told = subst (λ ps. IfSome answered (λ n. AllTold history ps)) h.2 told;
  }
