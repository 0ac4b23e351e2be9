use Rattle.std.proofs.Common.{◌∙◌, subst}
use Rattle.program.specs.Servers.{AreInPlace, AreOpenedIn}
use Rattle.program.proofs.Servers.{given_back, in_place, served_in, unserved_by}
use Rattle.shared.specs.Beginnings.{StartsWith}
use Rattle.large_sessions.specs.Recorder.{in_folder}
use Rattle.shared.proofs.Keeping.{if_ok}
use Rattle.program.proofs.served.serve_parts.Goals as goal

pub returns-in-Ok-clause-served : goal.returns-in-Ok-clause-served
returns-in-Ok-clause-served g c =
    let state = g.F.Folder.state in
    let before = state c.args.folder in
    let script = c.args.script.text in
    let root = c.args.script.root in
    let opened = c.in-Ok.session in
    let o = c.in-Ok.ensures in
    let h = c.history-entries.ensures in
    let e = c.serve_opened.ensures in
    given_back (in_folder state) opened _ _ c.serve_opened.result h.judged h.reports h.names e.session e.lasts e.judged e.served
    (λ r back by. (
      opened.spec,
      opened.history,
      served_in state c.args.size before script root opened r.session (record {
        opened_in = record { read = o.read; begun = o.begun; kept = o.kept; held = o.held; continues = o.continues };
        size_is = o.size_is;
        any_moment = o.any_moment;
        back = back;
      }),
      by,
    ))

pub returns-in-Ok-clause-unserved : goal.returns-in-Ok-clause-unserved
returns-in-Ok-clause-unserved g c =
    let o = c.in-Ok.ensures in
    unserved_by _ (AreOpenedIn g.F.Folder.state c.args.size (g.F.Folder.state c.args.folder) c.args.script.text c.args.script.root) _ c.in-Ok.session
    (record { read = o.read; begun = o.begun; kept = o.kept; held = o.held; continues = o.continues }) c.serve_opened.result c.serve_opened.ensures.unserved

pub returns-in-Ok-clause-only : goal.returns-in-Ok-clause-only
returns-in-Ok-clause-only g c claims spec h holds small =
    let begun = c.in-Ok.ensures.only claims spec h holds small in
    in_place _ (AreInPlace (g.F.Folder.state c.args.folder).bytes spec h) _ c.in-Ok.session c.serve_opened.result
    (if_ok _ _ c.serve_opened.result (λ r session. (session.0 ∙ begun.0, subst (StartsWith r.session.history) begun.1 session.1)) c.serve_opened.ensures.session)
    (λ exit. begun) tt c.serve_opened.ensures.unserved

pub returns-in-Ok-clause-other : goal.returns-in-Ok-clause-other
returns-in-Ok-clause-other g c claims a small = absurd (c.in-Ok.ensures.other claims a small)

pub returns-in-Err-clause-unserved : goal.returns-in-Err-clause-unserved
returns-in-Err-clause-unserved g c =
    let o = c.in-Err.ensures in
    record { why = o.fault; untouched = o.untouched; continues = o.continues; cause = o.cause }

pub returns-in-Err-clause-only : goal.returns-in-Err-clause-only
returns-in-Err-clause-only g c = c.in-Err.ensures.only

pub returns-in-Err-clause-other : goal.returns-in-Err-clause-other
returns-in-Err-clause-other g c = c.in-Err.ensures.other

pub returns-in-Ok-clause-refuses : goal.returns-in-Ok-clause-refuses
returns-in-Ok-clause-refuses g c claims there fault has = absurd (c.in-Ok.ensures.refuses claims there fault has)

pub returns-in-Err-clause-refuses : goal.returns-in-Err-clause-refuses
returns-in-Err-clause-refuses g c = c.in-Err.ensures.refuses
