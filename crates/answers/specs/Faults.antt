-- The faults of reports and seats: their numbers and words.
use Rattle.std.specs.Prelude.{ℕ, List, ◌++◌, codes, decimal}
use Rattle.answers.specs.declared.fault.Fault.{Fault}
use Rattle.answers.specs.declared.fault.Fault.TheVariants.{Depth, States, Seats, History, Turn, Behind, Reader, Taken, Journal, Closed, Memory}

module _ {F : Type 0} where
  -- the number
  abbrev pub code_of : Fault F → ℕ
  code_of Depth = 20
  code_of States = 21
  code_of Seats = 22
  code_of History = 23
  code_of Turn = 24
  code_of Behind = 25
  code_of Reader = 26
  code_of Taken = 27
  code_of (Journal f) = 30
  code_of (Closed f) = 31
  code_of Memory = 40

  -- the word after it
  abbrev pub word_of : Fault F → List ℕ
  word_of Depth = codes "depth"
  word_of States = codes "states"
  word_of Seats = codes "seats"
  word_of History = codes "history"
  word_of Turn = codes "turn"
  word_of Behind = codes "behind"
  word_of Reader = codes "reader"
  word_of Taken = codes "taken"
  word_of (Journal f) = codes "journal"
  word_of (Closed f) = codes "closed"
  word_of Memory = codes "memory"

  -- as replies and messages show it
  abbrev pub fault_text : Fault F → List ℕ
  fault_text fault = decimal (code_of fault) ++ codes " " ++ word_of fault

  -- the same fault, without what closed the session
  abbrev pub plain_of : Fault F → Fault (Unit {0})
  plain_of Depth = Depth
  plain_of States = States
  plain_of Seats = Seats
  plain_of History = History
  plain_of Turn = Turn
  plain_of Behind = Behind
  plain_of Reader = Reader
  plain_of Taken = Taken
  plain_of (Journal f) = Journal tt
  plain_of (Closed f) = Closed tt
  plain_of Memory = Memory

  -- a connection gets no seat for this: 22, 26 or 31
  abbrev pub IsNoSeat : Fault F → Type 0
  IsNoSeat Seats = Unit {0}
  IsNoSeat Reader = Unit {0}
  IsNoSeat (Closed f) = Unit {0}
  IsNoSeat fault = ⊥
