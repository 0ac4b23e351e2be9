use Rattle.std.specs.Prelude.{Some}
use Rattle.program.proofs.checking.judge_by.Given as goal

abbrev pub ghosts-hear_alone-N-Naming : goal.ghosts-hear_alone-N-Naming
ghosts-hear_alone-N-Naming g a = record { spec = a.session.spec; opening = a.session.history; book = a.opened.seen.book; all = a.blank.parts }

abbrev pub ghosts-hear_alone-N-Ledger : goal.ghosts-hear_alone-N-Ledger
ghosts-hear_alone-N-Ledger g a = record { name = a.blank.name; parts = a.blank.parts }

abbrev pub ghosts-hear_alone-N-Sharing : goal.ghosts-hear_alone-N-Sharing
ghosts-hear_alone-N-Sharing g a = record { before = Some a.session }
