use Rattle.std.proofs.Common.{ℕ, List, subst, sym}
use Rattle.std.proofs.lemmas.Result.{IfOk-weaker}
use Rattle.disk.specs.State.{DiskState}
use Rattle.shared.proofs.ScriptLemmas.{if_err}
use Rattle.shown.specs.declared.options.Options.{Options}
use Rattle.program.specs.Followings.{Follows, IsNotFollowed, IsTextOf, IsUnwritten}
use Rattle.program.specs.declared.following.FollowError.{FollowError}
use Rattle.program.specs.declared.following.FollowError.TheVariants.{Session, Output, Changed}
use Rattle.program.proofs.following.follow.Goals as goal

pub returns-in-Ok-clause-follows : goal.returns-in-Ok-clause-follows
returns-in-Ok-clause-follows g c =
    let s = g.D.Disk.state c.args.disk in
    let old = g.W.Sink.contents c.args.output.now in
    let new = g.W.Sink.contents c.show_on.new.output in
    IfOk-weaker c.show_on.result _ _
    (λ whole h. subst (λ t. Follows s c.args.options c.args.before.items t.items old new) (sym h.0) (record { text_is = c.in-Ok.ensures.text; written = h.1 }))
    c.show_on.ensures.written

-- why the rest wasn't written of a text that is that of the history
not_followed : (s : DiskState) (options : Options) (before text : List ℕ) → IsTextOf s options text → (error : FollowError) → IsUnwritten before text error → IsNotFollowed s options before error
not_followed s options before text is (Session error) why = absurd why
not_followed s options before text is Output why = tt
not_followed s options before text is Changed why = (text, is, why)

pub returns-in-Ok-clause-fault : goal.returns-in-Ok-clause-fault
returns-in-Ok-clause-fault g c =
    let s = g.D.Disk.state c.args.disk in
    if_err _ _ c.show_on.result (not_followed s c.args.options c.args.before.items c.in-Ok.text.items c.in-Ok.ensures.text) c.show_on.ensures.fault
