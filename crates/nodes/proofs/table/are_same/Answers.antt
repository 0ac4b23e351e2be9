use Rattle.term.specs.SameLaws.{other_length}
use Rattle.nodes.proofs.table.are_same.Goals as goal

pub returns-then-a-b : goal.returns-then-a-b
returns-then-a-b c = other_length c.args.a.now c.args.b.now c.if-a-b.true
