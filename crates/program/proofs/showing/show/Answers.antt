use Rattle.std.proofs.Common.{◌≡◌, ◌⊎◌, ◌∙◌, IsTrue, List, Ok, ap, subst, sym}
use Rattle.term.specs.Specs.{Specified}
use Rattle.shared.specs.Entry.{Entry}
use Rattle.shared.specs.Scripts.{IsReplayOf}
use Rattle.shared.specs.SessionFaults.{journal_error}
use Rattle.shared.specs.Entries.{summary_of}
use Rattle.shared.specs.Summary.{Summary}
use Rattle.program.specs.Exits.{rejected_exit, replay_exit}
use Rattle.program.specs.Showings.{HasNoDisplay, IsBeyond, WritesAll}
use Rattle.program.specs.declared.showing.DisplayError.TheVariants.{Session}
use Rattle.program.proofs.Displays.{all_written}
use Rattle.program.proofs.InParts.{err_and, err_match}
use Rattle.program.proofs.showing.show.Goals as goal
use Rattle.program.proofs.showing.show.Goals.{In-Ok}

module _ (g : _) (c : In-Ok g) where
  -- the history that is given back is the session's
  all : c.into_parts-monitor.result.1.entries ≡ c.in_ok-session.session.history
  all = c.into_parts-monitor.ensures.settled c.in_ok-session.ensures.none_offered

  -- and it was written
  written : WritesAll c.in_ok-session.session.spec c.in_ok-session.session.history c.args.options (g.W.Sink.contents c.args.output.now) (g.W.Sink.contents c.write_end-written.new.output)
  written =
      let r = c.in_ok-session in
      all_written {T = Unit {0}} {E = Unit {0}} (Ok tt) r.session.spec r.session.history c.args.options
      (g.W.Sink.contents c.args.output.now) (g.W.Sink.contents c.lines_of.new.output) (g.W.Sink.contents c.write_end-written.new.output)
      r.left.items c.summary-summary.result (c.summary-summary.ensures ∙ ap summary_of all) r.ensures.text c.in-Ok.ensures.text

pub returns-in-Ok-clause-replayed : goal.returns-in-Ok-clause-replayed
returns-in-Ok-clause-replayed g c claims =
    let a = (goal.at.returns-in-Ok-clause-replayed g c).In-Ok in
    let file = (g.D.Disk.state c.args.disk).bytes in
    let r = c.in_ok-session in
    let script = r.header.script.items in
    let root = r.header.root.items in
    subst (λ (s : Specified). IsReplayOf file script root s c.into_parts-monitor.result.1.entries) (sym c.into_parts-monitor.ensures.spec)
    (subst (λ (l : List Entry). IsReplayOf file script root r.session.spec l) (sym (all g a)) (r.ensures.replayed claims))

pub returns-in-Ok-clause-text : goal.returns-in-Ok-clause-text
returns-in-Ok-clause-text g c =
    let a = (goal.at.returns-in-Ok-clause-text g c).In-Ok in
    let old = g.W.Sink.contents c.args.output.now in
    let new = g.W.Sink.contents c.write_end-written.new.output in
    subst (λ (s : Specified). WritesAll s c.into_parts-monitor.result.1.entries c.args.options old new) (sym c.into_parts-monitor.ensures.spec)
    (subst (λ (l : List Entry). WritesAll c.in_ok-session.session.spec l c.args.options old new) (sym (all g a)) (written g a))

pub returns-in-Ok-clause-exit : goal.returns-in-Ok-clause-exit
returns-in-Ok-clause-exit g c = c.exit_of.ensures ∙ ap (λ (n : Summary). rejected_exit n.rejected) c.summary-summary.ensures

pub returns-in-Ok-clause-only : goal.returns-in-Ok-clause-only
returns-in-Ok-clause-only g c claims script root spec h is =
    let a = (goal.at.returns-in-Ok-clause-only g c).In-Ok in
    let old = g.W.Sink.contents c.args.output.now in
    let new = g.W.Sink.contents c.write_end-written.new.output in
    let same = c.in_ok-session.ensures.only claims script root spec h is in (
      all g a ∙ same.1,
      subst (λ (l : List Entry). WritesAll spec l c.args.options old new) same.1
          (subst (λ (s : Specified). WritesAll s c.in_ok-session.session.history c.args.options old new) same.0 (written g a)),
      c.exit_of.ensures ∙ ap (λ (n : Summary). rejected_exit n.rejected) c.summary-summary.ensures ∙ ap replay_exit (all g a ∙ same.1),
    )

pub returns-in-Ok-clause-refuses : goal.returns-in-Ok-clause-refuses
returns-in-Ok-clause-refuses g c claims error fault = absurd (c.in_ok-session.ensures.refuses claims error fault)

pub returns-in-Ok-clause-silent : goal.returns-in-Ok-clause-silent
returns-in-Ok-clause-silent g c claims error fault = absurd (c.in_ok-session.ensures.refuses claims error fault)

pub returns-in-Err-clause-refuses : goal.returns-in-Err-clause-refuses
returns-in-Err-clause-refuses g c claims error fault = absurd (c.in_ok-session.ensures.refuses claims error fault)

pub returns-in-Err-clause-silent : goal.returns-in-Err-clause-silent
returns-in-Err-clause-silent g c claims error fault = absurd (c.in_ok-session.ensures.refuses claims error fault)

pub returns-in_err-session-clause-fault : goal.returns-in_err-session-clause-fault
returns-in_err-session-clause-fault g c =
    let s = g.D.Disk.state c.args.disk in
    let failed = c.in_err-session.field-0.0 in
    err_and c.from_residual.result (λ e. e ≡ failed) (λ e. IsTrue s.claims_bytes → HasNoDisplay s.bytes e) c.from_residual.ensures.1
    (λ e same. subst (λ (x : _). IsTrue s.claims_bytes → HasNoDisplay s.bytes x) (sym same) c.in_err-session.ensures.fault)

pub returns-in_err-session-clause-only : goal.returns-in_err-session-clause-only
returns-in_err-session-clause-only g c claims script root spec h is =
    let failed = c.in_err-session.field-0.0 in
    err_match c.from_residual.result (λ e. e ≡ failed) _ IsBeyond c.from_residual.ensures.1 (λ e same. subst IsBeyond (sym same) (c.in_err-session.ensures.only claims script root spec h is))

pub returns-in_err-session-clause-refuses : goal.returns-in_err-session-clause-refuses
returns-in_err-session-clause-refuses g c claims error fault =
    let failed = c.in_err-session.field-0.0 in
    err_match c.from_residual.result (λ e. e ≡ failed) _ (λ e. (e ≡ Session (journal_error error)) ⊎ IsBeyond e) c.from_residual.ensures.1
    (λ e same. subst (λ (x : _). (x ≡ Session (journal_error error)) ⊎ IsBeyond x) (sym same) (c.in_err-session.ensures.refuses claims error fault))
