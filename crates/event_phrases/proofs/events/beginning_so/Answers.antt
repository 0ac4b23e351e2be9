use Rattle.std.proofs.Common.{arith, ap, sym, ◌∙◌}
use Rattle.alphabet.specs.EventSets.{member}
use Rattle.event_phrases.specs.Events.{begins_so}
use Rattle.event_phrases.specs.View.{beginning, row}
use Rattle.event_phrases.proofs.EventNumbers.{none_below, one_more, no_more}
use Rattle.event_phrases.proofs.events.beginning_so.Goals as goal
use Rattle.event_phrases.proofs.events.beginning_so.Goals.{then-begins_so, else-begins_so}

pub loop-number-init : goal.loop-number-init
loop-number-init g c = none_below _ c.empty-set.result c.empty-set.ensures

pub loop-number-preserved : goal.loop-number-preserved
loop-number-preserved g c =
    let test = begins_so (beginning c.args.first.now) in
    elim c.if-begins_so.branch [
      | then-begins_so w ↦
          one_more row test c.args.events.now c.loop-number.number c.index-events-number.result c.loop-number.set c.if-begins_so.set c.loop-number.invariant (omega arith) c.index-events-number.is
          (sym c.begins_so.ensures ∙ w.if-begins_so.true) (λ x. ap (λ s. member s x) w.set-is ∙ w.with-set.ensures x)
      | else-begins_so w ↦
          w.set-is ∙ no_more row test c.args.events.now c.loop-number.number c.index-events-number.result c.loop-number.set c.loop-number.set c.loop-number.invariant (omega arith) c.index-events-number.is (sym c.begins_so.ensures ∙ w.if-begins_so.false)
    ]
