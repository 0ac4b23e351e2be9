use Rattle.std.proofs.Common.{arith}
use Rattle.declared_names.proofs.Shapes.{is_only, not_only}
use Rattle.declared_names.proofs.part.only_part.Goals as goal

pub returns-in-len1 : goal.returns-in-len1
returns-in-len1 g c = is_only c.args.parts.now c.only-item.result (omega arith) c.only-item.is

pub returns-in_default : goal.returns-in_default
returns-in_default g c = rw c.fault.ensures (not_only c.args.parts.now (grind arith))
