use Rattle.std.proofs.Common.{◌∙◌, subst}
use Rattle.program.specs.Servers.{IsInPlace, IsOpenedOn}
use Rattle.program.proofs.Servers.{given_back, in_place, served_on, unserved_by}
use Rattle.shared.specs.Beginnings.{StartsWith}
use Rattle.shared.specs.Recorder.{on_disk}
use Rattle.shared.proofs.Keeping.{if_ok}
use Rattle.program.proofs.served.serve.Goals as goal

pub returns-in-Ok-clause-served : goal.returns-in-Ok-clause-served
returns-in-Ok-clause-served g c =
    let state = g.D.Disk.state in
    let before = state c.args.disk in
    let script = c.args.script.text in
    let root = c.args.script.root in
    let opened = c.in-Ok.session in
    let o = c.in-Ok.ensures in
    let h = c.history-entries.ensures in
    let e = c.serve_opened.ensures in
    given_back (on_disk state) opened _ _ c.serve_opened.result h.judged h.reports h.names e.session e.lasts e.judged e.served
    (λ r back by. (
      opened.spec,
      opened.history,
      served_on state c.args.names before script root opened r.session (record {
        opened_on = record { read = o.read; begun = o.begun; kept = o.kept; held = o.held; continues = o.continues };
        any_moment = o.any_moment;
        back = back;
      }),
      by,
    ))

pub returns-in-Ok-clause-unserved : goal.returns-in-Ok-clause-unserved
returns-in-Ok-clause-unserved g c =
    let o = c.in-Ok.ensures in
    unserved_by _ (IsOpenedOn g.D.Disk.state c.args.names (g.D.Disk.state c.args.disk) c.args.script.text c.args.script.root) _ c.in-Ok.session
    (record { read = o.read; begun = o.begun; kept = o.kept; held = o.held; continues = o.continues }) c.serve_opened.result c.serve_opened.ensures.unserved

pub returns-in-Ok-clause-only : goal.returns-in-Ok-clause-only
returns-in-Ok-clause-only g c claims spec h holds =
    let begun = c.in-Ok.ensures.only claims spec h holds in
    in_place _ (IsInPlace (g.D.Disk.state c.args.disk).bytes spec h) _ c.in-Ok.session c.serve_opened.result
    (if_ok _ _ c.serve_opened.result (λ r session. (session.0 ∙ begun.spec_is, subst (StartsWith r.session.history) begun.history_is session.1)) c.serve_opened.ensures.session)
    (λ exit. begun) tt c.serve_opened.ensures.unserved

pub returns-in-Ok-clause-other : goal.returns-in-Ok-clause-other
returns-in-Ok-clause-other g c claims a = absurd (c.in-Ok.ensures.other claims a)

pub returns-in-Ok-clause-refuses : goal.returns-in-Ok-clause-refuses
returns-in-Ok-clause-refuses g c claims some error fault = absurd (c.in-Ok.ensures.refuses claims some error fault)

pub returns-in-Err-clause-unserved : goal.returns-in-Err-clause-unserved
returns-in-Err-clause-unserved g c =
    let o = c.in-Err.ensures in
    record { why = o.fault; left = o.left; continues = o.continues; cause = o.cause }

pub returns-in-Err-clause-only : goal.returns-in-Err-clause-only
returns-in-Err-clause-only g c = c.in-Err.ensures.only

pub returns-in-Err-clause-other : goal.returns-in-Err-clause-other
returns-in-Err-clause-other g c = c.in-Err.ensures.other

pub returns-in-Err-clause-refuses : goal.returns-in-Err-clause-refuses
returns-in-Err-clause-refuses g c = c.in-Err.ensures.refuses
