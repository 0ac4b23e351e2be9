use Rattle.disk.proofs.Parts.{cut_none}
use Rattle.memory_disks.proofs.fault.FaultDiskDisk.cut.Goals as goal

pub returns-then-fails_now-clause-part : goal.returns-then-fails_now-clause-part
returns-then-fails_now-clause-part g c claims = cut_none c.args.len c.args.self.now.inner.bytes.items
