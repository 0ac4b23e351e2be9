use Rattle.std.proofs.Common.{arith, rules, sym, ◌∙◌}
use Rattle.tokens.proofs.Comments.{step_is, none_is}
use Rattle.tokens.proofs.comment.behind_comment.Goals as goal

pub loop-depth-smaller : goal.loop-depth-smaller
loop-depth-smaller c =
    let step = step_is c.loop-depth.depth c.loop-depth.rest.now (c.in-Some.depth_then, c.in-Some.rest_then.now) (search rules) (sym c.in-Some.ensures) in
    step.shorter

pub loop-depth-preserved : goal.loop-depth-preserved
loop-depth-preserved c =
    let step = step_is c.loop-depth.depth c.loop-depth.rest.now (c.in-Some.depth_then, c.in-Some.rest_then.now) (search rules) (sym c.in-Some.ensures) in
    record { few = omega (arith, step.few, c.loop-depth.invariant.few); left = sym step.same ∙ c.loop-depth.invariant.left }

pub returns-in-None : goal.returns-in-None
returns-in-None c = sym (none_is c.loop-depth.depth c.loop-depth.rest.now (search rules) (sym c.in-None.ensures)) ∙ c.loop-depth.invariant.left
