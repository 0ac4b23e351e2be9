use Rattle.std.proofs.Common.{sym, subst}
use Rattle.memory_disks.specs.declared.crash.Call.{Call}
use Rattle.memory_disks.specs.Replay.{after_call}
use Rattle.memory_disks.specs.Remains.{IsBoth}
use Rattle.memory_disks.proofs.Crashing.{both_write, both_cut}
use Rattle.memory_disks.proofs.crash.step.Goals as goal

pub returns-in_ok-write_part-in-Write : goal.returns-in_ok-write_part-in-Write
returns-in_ok-write_part-in-Write g c m both =
    subst (λ (call : Call _). IsBoth c.args.part (after_call m call) c.put_over.new.file.items c.write_part.new.file.items) (sym c.in-Write.is)
    (both_write c.args.part m c.in-Write.at c.in-Write.bytes c.deref.result.now c.deref-in-Write.result.now c.args.written.now.items c.put_over.new.file.items c.args.left.now.items c.write_part.new.file.items c.deref.ensures.value c.deref-in-Write.ensures.value c.in_ok-put_over-in-Write.ensures c.in_ok-write_part-in-Write.ensures both)

pub returns-in_ok-cut_part-in-Cut : goal.returns-in_ok-cut_part-in-Cut
returns-in_ok-cut_part-in-Cut g c m both =
    subst (λ (call : Call _). IsBoth c.args.part (after_call m call) c.truncate.new.self.items c.cut_part.new.file.items) (sym c.in-Cut.is)
    (both_cut c.args.part m c.in-Cut.len c.args.written.now.items c.truncate.new.self.items c.args.left.now.items c.cut_part.new.file.items c.truncate.ensures.items c.in_ok-cut_part-in-Cut.ensures both)
