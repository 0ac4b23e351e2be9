use Rattle.std.specs.Prelude.{Some}
use Rattle.serving.proofs.services.serve_service.Given as goal

abbrev pub ghosts-over_places-N-Naming : goal.ghosts-over_places-N-Naming
ghosts-over_places-N-Naming g a = record { spec = a.session.spec; opening = a.session.history; book = a.opened.seen.book; all = a.blank.parts }

abbrev pub ghosts-over_places-N-Ledger : goal.ghosts-over_places-N-Ledger
ghosts-over_places-N-Ledger g a = record { name = a.blank.name; parts = a.blank.parts }

abbrev pub ghosts-over_places-N-Sharing : goal.ghosts-over_places-N-Sharing
ghosts-over_places-N-Sharing g a = record { before = Some a.session }
