use Rattle.std.proofs.Common.{length}
use Rattle.nodes.proofs.table.Table.+number_of_term.Goals as goal

pub number_over-put-requires : goal.number_over-put-requires
number_over-put-requires g t c =
    let t' = c.numbers_of.new.self in
    let both = c.in_ok-left.ensures in
    c.node.ensures.within t'.parameters (length t'.processes) both.left.within both.right.within
