use Rattle.memory_disks.specs.Replay.{image_at}
use Rattle.memory_disks.specs.Remains.{IsBoth}
use Rattle.memory_disks.proofs.crash.CrashDisk.left_after.Given as goal

abbrev pub invariant-loop-call : goal.invariant-loop-call
invariant-loop-call g l = IsBoth l.part (image_at l.self.first.items l.calls l.call-index) l.written.items l.left.items
