use Rattle.std.proofs.Common.{◌≤◌, length, ◌≡◌, take, drop, IsTrue}
use Rattle.disk.specs.Calls.{AddsNone, Elapses, Continues}
use Rattle.file_disk.proofs.places.fill.Given as goal

-- What was filled lies in the buffer, which keeps its length, and is what the file has there.
abbrev pub invariant-loop : goal.invariant-loop
invariant-loop g l = record {
  within : l.done ≤ length l.buf;
  same : length l.buf ≡ length l.fn.buf;
  continues : Continues (g.F.PlacedFile.state l.fn.file) (g.F.PlacedFile.state l.file);
  time : IsTrue (g.F.PlacedFile.state l.fn.file).claims_files → Elapses (g.F.PlacedFile.state l.fn.file) (g.F.PlacedFile.state l.file);
  bytes : IsTrue (g.F.PlacedFile.state l.fn.file).claims_bytes → (g.F.PlacedFile.state l.file).bytes ≡ (g.F.PlacedFile.state l.fn.file).bytes;
  files : IsTrue (g.F.PlacedFile.state l.fn.file).claims_files → AddsNone (g.F.PlacedFile.state l.fn.file) (g.F.PlacedFile.state l.file);
  filled : IsTrue (g.F.PlacedFile.state l.fn.file).claims_bytes → take l.done l.buf ≡ take l.done (drop l.at (g.F.PlacedFile.state l.fn.file).bytes);
}
