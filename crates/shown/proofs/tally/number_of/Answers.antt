use Rattle.std.proofs.Common.{◌+◌, ◌<◌, ◌^◌, ◌∙◌, ap, cond, arith}
use Rattle.shown.proofs.Digits.{has_room, one_further}
use Rattle.shown.proofs.tally.number_of.Goals as goal

pub overflow_add-number : goal.overflow_add-number
overflow_add-number c =
    let room : c.loop-index.number + c.worth-number.result < 2 ^ 64 =
    has_room c.args.digits.now c.loop-index.index c.args.event c.contains.result c.loop-index.number c.worth-number.result c.loop-index-test.true c.requires c.loop-index.invariant c.worth-number.ensures in
    omega arith

pub loop-index-preserved : goal.loop-index-preserved
loop-index-preserved c =
    one_further c.args.digits.now c.loop-index.index c.index-digits-index.result c.index-digits-index.result c.args.event c.loop-index.number c.worth-number.result
    c.loop-index-test.true c.index-digits-index.is c.loop-index.invariant (c.worth-number.ensures ∙ ap (λ b. cond b (2 ^ c.loop-index.index) 0) c.contains.ensures)
