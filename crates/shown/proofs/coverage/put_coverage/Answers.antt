use Rattle.std.proofs.Common.{false, ◌&&◌, ◌∙◌, sym, ap}
use Rattle.shown.specs.Coverage.{is_below}
use Rattle.shown.specs.Slots.{count_at, is_absent}
use Rattle.shown.specs.Tallies.{tallied}
use Rattle.shown.proofs.Coverages.{covered}
use Rattle.shown.proofs.coverage.put_coverage.Goals as goal

pub returns : goal.returns
returns g c h nexts counts =
    covered c.put_absent.result c.args.format c.args.alphabet.now h nexts c.args.counts.now.accepted.items c.args.counts.now.rejected.items c.args.counts.now.possible
    c.args.text.now.items c.put_events.new.text.items c.put_absent.new.text.items c.absent-never.result c.absent-impossible.result c.len.result
    c.len.ensures.count counts c.absent-never.ensures (λ x. c.absent-impossible.ensures x ∙ ap (λ n. is_below n x && is_absent false (count_at c.args.counts.now.accepted.items x) (tallied c.args.counts.now.possible x)) (c.len-2.ensures.count ∙ sym c.len.ensures.count)) c.in_ok-put_events.ensures c.put_absent.ensures
