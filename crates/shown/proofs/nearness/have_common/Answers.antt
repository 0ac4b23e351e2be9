use Rattle.std.proofs.Common.{◌∙◌, sym}
use Rattle.shown.specs.Nearness.{has_part, parts}
use Rattle.shown.proofs.Parting.{any_first, any_later, any_last}
use Rattle.shown.proofs.nearness.have_common.Goals as goal

pub loop-first-preserved : goal.loop-first-preserved
loop-first-preserved c = sym (any_later (has_part (parts c.args.other.now)) c.loop-first.rest.now c.in-Some.first.now c.in-Some.others.now c.in-Some.ensures.0 c.in-Some.ensures.1 (sym c.has.ensures ∙ c.if-has.false)) ∙ c.loop-first.invariant

pub returns-then-has : goal.returns-then-has
returns-then-has c = sym (sym c.loop-first.invariant ∙ any_first (has_part (parts c.args.other.now)) c.loop-first.rest.now c.in-Some.first.now c.in-Some.others.now c.in-Some.ensures.0 c.in-Some.ensures.1 (sym c.has.ensures ∙ c.if-has.true))

pub returns : goal.returns
returns c = c.has-2.ensures ∙ sym (any_last (has_part (parts c.args.other.now)) c.loop-first.rest.now c.in_default.ensures) ∙ c.loop-first.invariant
