use Rattle.std.specs.Io.KnownBytes.{Keeps}
use Rattle.command_line.proofs.patient.PatientWrite.write.Given as goal

-- A write that failed took nothing.
abbrev pub invariant-loop : goal.invariant-loop
invariant-loop g l = Keeps (g.T.Write.contents l.initial.self.inner) (g.T.Write.contents l.self.inner)
