-- The answers to some reports of a seat.
use Rattle.std.specs.Prelude.{ℕ, ◌+◌, List, [], ◌∷◌, Bool, Result, Ok}
use Rattle.answers.specs.declared.receipt.Receipt.{Receipt}
use Rattle.wire.specs.Faults.{Fault}

-- receipts with these verdicts, and with places one after the other from this one on
abbrev pub receipts_of : List Bool → ℕ → List (Result Receipt Fault)
receipts_of [] place = []
receipts_of (verdict ∷ verdicts) place = Ok (record { verdict = verdict; place = place }) ∷ receipts_of verdicts (place + 1)
