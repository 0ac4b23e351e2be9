use Rattle.std.proofs.Common.{arith}
use Rattle.declared_names.proofs.ProcessNames.{one_name, one_number, one_node, not_one}
use Rattle.declared_names.proofs.processes.answer_of_event.Goals as goal

pub returns-in-Name : goal.returns-in-Name
returns-in-Name g c name = one_name name c.args.parts.now c.part-item.result c.in-Name.name.now (omega arith) c.part-item.is c.in-Name.ensures

pub returns-in-Number : goal.returns-in-Number
returns-in-Number g c name = one_number name c.args.parts.now c.part-item.result c.in-Number.field-0 (omega arith) c.part-item.is c.in-Number.ensures

pub returns-in-Node : goal.returns-in-Node
returns-in-Node g c name = one_node name c.args.parts.now c.part-item.result c.in-Node.field-0 _ (omega arith) c.part-item.is c.in-Node.ensures

pub returns-in_default : goal.returns-in_default
returns-in_default g c name = not_one name c.args.parts.now (grind arith)
