-- What comes of some reports of one seat, in one turn under the lock.
use Rattle.std.specs.Prelude.{◌≡◌, ℕ, ◌+◌, ◌<◌, List, [], ◌∷◌, length, Bool, Option, Some, None}
use Rattle.std.specs.Prelude.{take, drop}
use Rattle.alphabet.specs.declared.events.Report.{Report}
use Rattle.term.specs.Proc.{Proc, bodies_of}
use Rattle.term.specs.Specs.{Specified}
use Rattle.locked.specs.Entry.{Entry}
use Rattle.locked.specs.Faults.{Explained}
use Rattle.locked.specs.SessionFaults.{Fault}
use Rattle.shared.specs.View.{SeatView}
use Rattle.shared.specs.Seats.{Answered, Refused}

-- After these entries, the one of the seat's reports that comes after so many is refused for this fault. The first has this number.
pub record IsRefused (spec : Specified) (h : List Entry) (seat number : ℕ) (reports : List Report) (count : ℕ) (f : Fault) : Type 0 where
  pub report : Report
  pub rest : List Report
  pub within : count < length reports
  pub is : drop count reports ≡ report ∷ rest
  pub why : Explained spec h seat (number + count) report f

-- Receipts for these reports with these verdicts, one after the other, the first with this place.
abbrev pub AllAnswered : (ℕ → Proc) → SeatView → List Report → List Bool → ℕ → SeatView → Type 0
AllAnswered B old [] [] place new = new ≡ old
AllAnswered B old [] (verdict ∷ verdicts) place new = ⊥
AllAnswered B old (report ∷ reports) [] place new = ⊥
AllAnswered B old (report ∷ reports) (verdict ∷ verdicts) place new =
    (mid : SeatView) × Answered B old mid report verdict place × AllAnswered B mid reports verdicts (place + 1) new

-- What comes after the receipts: nothing where no report is left, or this fault for the first of those that are left.
abbrev pub Ends : Specified → SeatView → List Report → Option Fault → SeatView → Type 0
Ends spec old [] None new = new ≡ old
Ends spec old [] (Some f) new = ⊥
Ends spec old (report ∷ reports) None new = ⊥
Ends spec old (report ∷ reports) (Some f) new = Refused spec old new report f

-- Some reports of a seat came to so many receipts, the first with this place, and to this fault of the next one, if any is left.
pub record CameTo (spec : Specified) (old : SeatView) (reports : List Report) (verdicts : List Bool) (count place : ℕ) (fault : Option Fault) (new : SeatView) : Type 0 where
  pub mid : SeatView
  pub receipts : AllAnswered (bodies_of spec.bodies) old (take count reports) (take count verdicts) place mid
  pub ends : Ends spec mid (drop count reports) fault new
