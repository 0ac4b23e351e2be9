use Rattle.std.proofs.Common.{◌≡◌, ◌∙◌, ap, is_some, refl, sym, subst}
use Rattle.term.specs.Specs.{Specified}
use Rattle.shown.specs.Showings.{HasShown}
use Rattle.program.specs.declared.showing.DisplayError.TheVariants.{Output}
use Rattle.program.proofs.Displays.{has_failed, never_failed, same_error, writes_as}
use Rattle.program.proofs.InParts.{no_display}
use Rattle.program.proofs.in_parts.lines_of_parts.Goals as goal

pub returns-in-Ok-end-clause-text : goal.returns-in-Ok-end-clause-text
returns-in-Ok-end-clause-text g c =
    let r = c.in-Ok.replaying in
    let s = c.whole_of.new.onlooker in
    let w = c.whole_of.new.output in
    let contents = g.W.Sink.contents in
    let kept = c.whole_of.ensures.onlooker c.new-showing.result (refl, refl) in
    let has = subst (λ (x : Specified). HasShown contents g.W.Sink.failures s w x r.taken.entries) (sym c.spec.ensures) c.in-Ok.ensures.seen in
    writes_as c.args.options s.options r.taken.spec c.spec.result.now r.taken.entries (contents c.args.output.now) (contents s.began) (contents w) c.in-Ok-end.left.items
    (kept.0 ∙ c.new-showing.ensures.options) c.spec.ensures (ap contents (kept.1 ∙ c.new-showing.ensures.began)) (c.in-Ok-end.ensures.text w r.taken.entries has)

pub returns-in-Ok-end-clause-steady : goal.returns-in-Ok-end-clause-steady
returns-in-Ok-end-clause-steady g c =
    let r = c.in-Ok.replaying in
    let kept = c.whole_of.ensures.onlooker c.new-showing.result (refl, refl) in
    never_failed g.W.Sink.contents g.W.Sink.failures c.whole_of.new.onlooker c.whole_of.new.output c.args.output.now r.taken.spec r.taken.entries c.in-Ok.ensures.seen (kept.1 ∙ c.new-showing.ensures.began) c.in-Ok-end.ensures.sound

pub returns-in-Ok-end-clause-done : goal.returns-in-Ok-end-clause-done
returns-in-Ok-end-clause-done g c = c.in-Ok.ensures.done (ap is_some c.in-Ok-end.ensures.sound)

pub returns-in-Ok-end-clause-no_fault : goal.returns-in-Ok-end-clause-no_fault
returns-in-Ok-end-clause-no_fault g c = c.in-Ok.ensures.no_fault (ap is_some c.in-Ok-end.ensures.sound)

pub returns-in-Ok-end-clause-replayed : goal.returns-in-Ok-end-clause-replayed
returns-in-Ok-end-clause-replayed g c = c.in-Ok.ensures.replayed (ap is_some c.in-Ok-end.ensures.sound)

pub returns-in-Ok-end-clause-only : goal.returns-in-Ok-end-clause-only
returns-in-Ok-end-clause-only g c = λ claims script root spec h is small. c.in-Ok.ensures.only claims script root spec h is small (ap is_some c.in-Ok-end.ensures.sound)

pub returns-in-Err-end-clause-output_failed : goal.returns-in-Err-end-clause-output_failed
returns-in-Err-end-clause-output_failed g c = λ is.
    let r = c.in-Ok.replaying in
    let kept = c.whole_of.ensures.onlooker c.new-showing.result (refl, refl) in
    has_failed g.W.Sink.contents g.W.Sink.failures c.whole_of.new.onlooker c.whole_of.new.output c.args.output.now r.taken.spec r.taken.entries c.in-Ok.ensures.seen (kept.1 ∙ c.new-showing.ensures.began)
    c.in-Err-end.error c.in-Err-end.ensures.failed (c.into.ensures.1 (same_error c.into.result Output is))

pub returns-in-Err-end-clause-fault : goal.returns-in-Err-end-clause-fault
returns-in-Err-end-clause-fault g c claims = no_display c.args.size (g.F.Folder.state c.args.folder).bytes c.into.result c.into.ensures.0
