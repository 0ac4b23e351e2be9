use Rattle.std.proofs.Common.{arith, sym, ◌∙◌}
use Rattle.event_phrases.specs.View.{beginning, row}
use Rattle.event_phrases.proofs.EventNumbers.{number_start, number_next, number_found, number_end}
use Rattle.event_phrases.proofs.events.number_of.Goals as goal

pub loop-number-init : goal.loop-number-init
loop-number-init g c = number_start row (beginning c.args.wanted.now) c.args.events.now

pub returns-then-is_row-clause-number : goal.returns-then-is_row-clause-number
returns-then-is_row-clause-number g c =
    number_found row (beginning c.args.wanted.now) c.args.events.now c.loop-number.number c.index-events-number.result _ c.loop-number.invariant (omega arith) c.index-events-number.is (sym c.is_row.ensures ∙ c.if-is_row.true)

pub loop-number-preserved : goal.loop-number-preserved
loop-number-preserved g c =
    number_next row (beginning c.args.wanted.now) c.args.events.now c.loop-number.number c.index-events-number.result _ c.loop-number.invariant (omega arith) c.index-events-number.is (sym c.is_row.ensures ∙ c.if-is_row.false)

pub returns-clause-number : goal.returns-clause-number
returns-clause-number g c =
    number_end row (beginning c.args.wanted.now) c.args.events.now c.loop-number.number c.args.wanted.now _ c.loop-number.invariant (omega arith)
