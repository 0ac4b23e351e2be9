use Rattle.std.proofs.Common.{◌∙◌}
use Rattle.term.specs.Sizes.{depth}
use Rattle.step.proofs.Whole.{deep-capped}
use Rattle.step.proofs.finding.is_deep.Goals as goal

pub returns : goal.returns
returns c = λ P k. deep-capped c.from.result (depth P) (c.from.ensures ∙ k.depth_is)
