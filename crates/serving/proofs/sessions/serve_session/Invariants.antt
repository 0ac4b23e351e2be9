use Rattle.std.specs.Prelude.{Some}
use Rattle.serving.proofs.sessions.serve_session.Given as goal

abbrev pub ghosts-over_seats-N-Naming : goal.ghosts-over_seats-N-Naming
ghosts-over_seats-N-Naming g a = record { spec = a.session.spec; opening = a.session.history; book = a.opened.seen.book; all = a.blank.parts }

abbrev pub ghosts-over_seats-N-Ledger : goal.ghosts-over_seats-N-Ledger
ghosts-over_seats-N-Ledger g a = record { name = a.blank.name; parts = a.blank.parts }

abbrev pub ghosts-over_seats-N-Sharing : goal.ghosts-over_seats-N-Sharing
ghosts-over_seats-N-Sharing g a = record { before = Some a.session }
