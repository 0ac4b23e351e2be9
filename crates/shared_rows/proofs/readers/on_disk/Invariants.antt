use Rattle.std.specs.Prelude.{Some}
use Rattle.shared_rows.proofs.readers.on_disk.Given as goal

abbrev pub ghosts-share-N-Naming : goal.ghosts-share-N-Naming
ghosts-share-N-Naming g a = record { spec = a.session.spec; opening = a.session.history; book = a.opened.seen.book; all = a.blank.parts }

abbrev pub ghosts-share-N-Ledger : goal.ghosts-share-N-Ledger
ghosts-share-N-Ledger g a = record { name = a.blank.name; parts = a.blank.parts }

abbrev pub ghosts-share-N-Sharing : goal.ghosts-share-N-Sharing
ghosts-share-N-Sharing g a = record { before = Some a.session }
