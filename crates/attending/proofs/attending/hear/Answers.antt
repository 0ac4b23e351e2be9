use Rattle.std.proofs.Common.{ap, subst, sym}
use Rattle.wire.specs.Talks.{Conversation, with_judge}
use Rattle.attending.specs.Attendances.{Attendance}
use Rattle.attending.specs.Preparing.{standing}
use Rattle.attending.specs.Standing.{Standing, unattended}
use Rattle.attending.proofs.AttendLemmas.{begun_is, same_standing}
use Rattle.attending.proofs.attending.hear.Goals as goal

pub returns-clause-attends : goal.returns-clause-attends
returns-clause-attends g c =
    let a = c.args.attendant in
    let n = c.serve-end.new.attendant in
    let r = c.end.result in
    let m = a.manner in
    let s = a.alone.session.spec in
    let before = g.E.Write.contents c.args.errors.now in
    let after = g.E.Write.contents c.serve-end.new.errors in
    let talked : Conversation Standing = record {
      before = standing a.alone.session.history a.alone.session.failed a.tally a.lines a.whole before;
      after = standing n.alone.session.history n.alone.session.failed n.tally n.lines n.whole after;
      unread_before = g.T.Source.left c.args.reader.now;
      unread_after = g.T.Source.left c.serve-end.new.reader;
      written_before = g.W.Sink.contents c.args.writer.now;
      written_after = g.W.Sink.contents c.serve-end.new.writer;
    } in
    let k = standing r.session.history r.session.failed r.tally r.lines r.whole after in
    let start = begun_is a.alone.session.history a.alone.session.failed a.tally a.lines a.whole before c.requires.none.0 c.requires.none.1 c.requires.begins.0 c.requires.begins.1 c.requires.begins.2 in
    let last = same_standing n.alone.session.history r.session.history n.alone.session.failed r.session.failed n.tally r.tally n.lines r.lines n.whole r.whole after
    (sym (ap (λ x. x.history) c.end.ensures.session)) (sym (ap (λ x. x.failed) c.end.ensures.session)) (sym c.end.ensures.same.0) (sym c.end.ensures.same.1) (sym c.end.ensures.same.2) in
    subst (λ x. Attendance m s (with_judge talked (unattended before) k) x) (sym c.end.ensures.end)
    (subst (λ x. Attendance m s (with_judge talked (unattended before) x) c.serve-end.result) last
    (subst (λ x. Attendance m s (with_judge talked x talked.after) c.serve-end.result) start c.serve-end.ensures.attends))
