use Rattle.std.specs.Prelude.{Some}
use Rattle.shared_rows.proofs.services.over.Given as goal

abbrev pub ghosts-serve-N-Naming : goal.ghosts-serve-N-Naming
ghosts-serve-N-Naming g a = record { spec = a.session.spec; opening = a.session.history; book = a.opened.seen.book; all = a.blank.parts }

abbrev pub ghosts-serve-N-Ledger : goal.ghosts-serve-N-Ledger
ghosts-serve-N-Ledger g a = record { name = a.blank.name; parts = a.blank.parts }

abbrev pub ghosts-serve-N-Sharing : goal.ghosts-serve-N-Sharing
ghosts-serve-N-Sharing g a = record { before = Some a.session }
