use Rattle.std.proofs.Common.{arith}
use Rattle.alphabet.specs.declared.events.Event.{Event}
use Rattle.alphabet.specs.Channels.{event_count}
use Rattle.shown.specs.Coverage.{count_text}
use Rattle.shown.specs.Slots.{count_at}
use Rattle.shown.specs.Tallies.{tallied}
use Rattle.shown.proofs.Coverages.{next_event, with_tick}
use Rattle.shown.proofs.coverage.put_events.Goals as goal

pub loop-number-preserved : goal.loop-number-preserved
loop-number-preserved g c =
    let line = λ (x : Event). count_text c.args.format c.args.alphabet.now x (count_at c.args.counts.now.accepted.items x) (count_at c.args.counts.now.rejected.items x) (tallied c.args.counts.now.possible x) in
    next_event line c.args.text.now.items c.loop-number.text.items c.put_event.new.text.items c.loop-number.number c.loop-number.invariant c.in_ok-put_event.ensures

pub returns : goal.returns
returns g c =
    let line = λ (x : Event). count_text c.args.format c.args.alphabet.now x (count_at c.args.counts.now.accepted.items x) (count_at c.args.counts.now.rejected.items x) (tallied c.args.counts.now.possible x) in
    with_tick c.put_event-2.result line c.args.text.now.items c.loop-number.text.items c.put_event-2.new.text.items c.loop-number.number (event_count c.args.alphabet.now)
    (omega arith) c.loop-number.invariant c.put_event-2.ensures
