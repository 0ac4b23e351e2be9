use Rattle.std.proofs.Common.{◌≤◌, length, ◌≡◌, take, IsTrue}
use Rattle.disk.specs.Calls.{overwritten, Torn, Follows, Elapses, Continues}
use Rattle.file_disk.proofs.places.put.Given as goal

-- So many bytes were written.
abbrev pub invariant-loop : goal.invariant-loop
invariant-loop g l = record {
  within : l.done ≤ length l.bytes;
  continues : Continues (g.F.PlacedFile.state l.fn.file) (g.F.PlacedFile.state l.file);
  time : IsTrue (g.F.PlacedFile.state l.fn.file).claims_files → Elapses (g.F.PlacedFile.state l.fn.file) (g.F.PlacedFile.state l.file);
  written : IsTrue (g.F.PlacedFile.state l.fn.file).claims_bytes → l.at ≤ length (g.F.PlacedFile.state l.fn.file).bytes
      → (g.F.PlacedFile.state l.file).bytes ≡ overwritten l.at (take l.done l.bytes) (g.F.PlacedFile.state l.fn.file).bytes;
  part : IsTrue (g.F.PlacedFile.state l.fn.file).claims_bytes → Torn l.at (length l.bytes) (g.F.PlacedFile.state l.fn.file).bytes (g.F.PlacedFile.state l.file).bytes;
  files : IsTrue (g.F.PlacedFile.state l.fn.file).claims_files → Follows (Torn l.at (length l.bytes)) (g.F.PlacedFile.state l.fn.file) (g.F.PlacedFile.state l.file);
}
