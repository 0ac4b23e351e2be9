use Rattle.std.proofs.Common.{◌≡◌, ◌∙◌, IsTrue, List, ap, refl, sym, subst}
use Rattle.term.specs.Specs.{Specified}
use Rattle.shown.specs.Showings.{HasShown}
use Rattle.program.specs.declared.showing.DisplayError.TheVariants.{Output}
use Rattle.program.proofs.Displays.{has_failed, never_failed, same_error, writes_as}
use Rattle.program.proofs.showing.lines_of.Goals as goal

pub returns-in-Ok-end-clause-text : goal.returns-in-Ok-end-clause-text
returns-in-Ok-end-clause-text g c =
    let p = c.in-Ok.replayed in
    let s = c.replay_watched.new.onlooker in
    let w = c.replay_watched.new.output in
    let contents = g.W.Sink.contents in
    let kept = c.replay_watched.ensures.onlooker c.new-showing.result (refl, refl) in
    let has = subst (λ (x : Specified). HasShown contents g.W.Sink.failures s w x p.0.history) (sym c.spec.ensures) c.in-Ok.ensures.seen in
    writes_as c.args.options s.options p.0.spec c.spec.result.now p.0.history (contents c.args.output.now) (contents s.began) (contents w) c.in-Ok-end.left.items
    (kept.0 ∙ c.new-showing.ensures.options) c.spec.ensures (ap contents (kept.1 ∙ c.new-showing.ensures.began)) (c.in-Ok-end.ensures.text w p.0.history has)

pub returns-in-Ok-end-clause-steady : goal.returns-in-Ok-end-clause-steady
returns-in-Ok-end-clause-steady g c =
    let p = c.in-Ok.replayed in
    let kept = c.replay_watched.ensures.onlooker c.new-showing.result (refl, refl) in
    never_failed g.W.Sink.contents g.W.Sink.failures c.replay_watched.new.onlooker c.replay_watched.new.output c.args.output.now p.0.spec p.0.history c.in-Ok.ensures.seen (kept.1 ∙ c.new-showing.ensures.began) c.in-Ok-end.ensures.sound

pub returns-in-Ok-end-clause-only : goal.returns-in-Ok-end-clause-only
returns-in-Ok-end-clause-only g c claims script root spec h is =
    let begun = (c.in-Ok.ensures.replays.only claims script root spec h is).2 in
    (begun.spec_is, begun.history_is)

pub returns-in-Ok-end-clause-silent : goal.returns-in-Ok-end-clause-silent
returns-in-Ok-end-clause-silent g c = λ claims error fault. absurd (c.in-Ok.ensures.replays.refuses claims error fault)

pub returns-in-Err-end-clause-output_failed : goal.returns-in-Err-end-clause-output_failed
returns-in-Err-end-clause-output_failed g c = λ is.
    let p = c.in-Ok.replayed in
    let kept = c.replay_watched.ensures.onlooker c.new-showing.result (refl, refl) in
    has_failed g.W.Sink.contents g.W.Sink.failures c.replay_watched.new.onlooker c.replay_watched.new.output c.args.output.now p.0.spec p.0.history c.in-Ok.ensures.seen (kept.1 ∙ c.new-showing.ensures.began)
    c.in-Err-end.error c.in-Err-end.ensures.failed (c.into.ensures.1 (same_error c.into.result Output is))

pub returns-in-Err-end-clause-silent : goal.returns-in-Err-end-clause-silent
returns-in-Err-end-clause-silent g c = λ claims error fault. absurd (c.in-Ok.ensures.replays.refuses claims error fault)
