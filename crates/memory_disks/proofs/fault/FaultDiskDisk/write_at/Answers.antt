use Rattle.std.proofs.Common.{length}
use Rattle.disk.proofs.Parts.{torn_none}
use Rattle.memory_disks.proofs.fault.FaultDiskDisk.write_at.Goals as goal

pub returns-then-fails_now-clause-part : goal.returns-then-fails_now-clause-part
returns-then-fails_now-clause-part g c claims = torn_none c.args.at (length c.args.bytes.now) c.args.self.now.inner.bytes.items
