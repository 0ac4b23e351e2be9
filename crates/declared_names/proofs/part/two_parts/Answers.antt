use Rattle.std.proofs.Common.{arith}
use Rattle.declared_names.proofs.Shapes.{are_two, not_two}
use Rattle.declared_names.proofs.part.two_parts.Goals as goal

pub returns-in-len2 : goal.returns-in-len2
returns-in-len2 g c = are_two c.args.parts.now c.first-item.result c.second-item.result (omega arith) c.first-item.is c.second-item.is

pub returns-in_default : goal.returns-in_default
returns-in_default g c = rw c.fault.ensures (not_two c.args.parts.now (grind arith))
