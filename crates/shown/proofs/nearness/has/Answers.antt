use Rattle.std.proofs.Common.{◌∙◌, sym}
use Rattle.shown.specs.Nearness.{is_same}
use Rattle.shown.proofs.Parting.{any_first, any_later, any_last}
use Rattle.shown.proofs.nearness.has.Goals as goal

pub loop-first-preserved : goal.loop-first-preserved
loop-first-preserved c = sym (any_later (is_same c.args.part.now) c.loop-first.rest.now c.in-Some.first.now c.in-Some.others.now c.in-Some.ensures.0 c.in-Some.ensures.1 (sym c.eq.ensures ∙ c.if-eq.false)) ∙ c.loop-first.invariant

pub returns-then-eq : goal.returns-then-eq
returns-then-eq c = sym (sym c.loop-first.invariant ∙ any_first (is_same c.args.part.now) c.loop-first.rest.now c.in-Some.first.now c.in-Some.others.now c.in-Some.ensures.0 c.in-Some.ensures.1 (sym c.eq.ensures ∙ c.if-eq.true))

pub returns : goal.returns
returns c = c.eq-2.ensures ∙ sym (any_last (is_same c.args.part.now) c.loop-first.rest.now c.in_default.ensures) ∙ c.loop-first.invariant
