use Rattle.std.proofs.Common.{◌<◌, length, get_or, ap, ◌∙◌, arith, eq-eqb}
use Rattle.std.proofs.lemmas.Bool.{ne_eqb}
use Rattle.alphabet.specs.EventSets.{has, member}
use Rattle.event_phrases.proofs.Images.{no_pairs, itself_at, pair_more, pair_less}
use Rattle.event_phrases.proofs.pairs.images.Goals as goal
use Rattle.event_phrases.proofs.pairs.images.Goals.{then-pair-event, else-pair-event}

pub loop-pair-init : goal.loop-pair-init
loop-pair-init c = no_pairs c.args.event c.empty-set.result c.empty-set.ensures

pub loop-pair-preserved : goal.loop-pair-preserved
loop-pair-preserved c =
    let R = c.args.pairs.now in
    let i = c.loop-pair.pair-index in
    let h : i < length R = omega arith in
    let p = get_or R i (0, 0) in
    let S = c.loop-pair.set in
    elim c.if-pair-event.branch [
      | then-pair-event w ↦ pair_more R c.args.event i p S c.if-pair-event.set c.loop-pair.invariant h (itself_at R i (0, 0) h) (eq-eqb p.0 c.args.event w.if-pair-event.true) (λ x. ap (λ s. member s x) w.set-is ∙ w.with-set.ensures x)
      | else-pair-event w ↦ λ b. ap (λ s. has s b) w.set-is ∙ pair_less R c.args.event i p S S c.loop-pair.invariant h (itself_at R i (0, 0) h) (ne_eqb p.0 c.args.event w.if-pair-event.false) b
    ]
