-- What is said of the judge is said of the place before and after it.
use Rattle.std.proofs.Common.{subst, sym, ◌∙◌}
use Rattle.wire.specs.Replies.{Noted, noted}
use Rattle.wire.specs.Talks.{Conversation, Serves, with_judge}
use Rattle.shared.specs.View.{SeatView}
use Rattle.seats.specs.Judges.{ServiceReplies}
use Rattle.serving.specs.Runs.{no_answers}
use Rattle.serving.proofs.service_gate.ServiceGateGate.serve.Goals as goal

pub returns-clause-serves : goal.returns-clause-serves
returns-clause-serves g c =
    let spec = g.N.Naming.spec in
    let seat = c.serve-end.new.self.judge.seat.share in
    let tally = c.serve-end.new.tally in
    let first = c.new-judge.result.judge.seat.share in
    let end = c.serve-end.result in
    let talked : Conversation (Noted SeatView) = record {
      before = noted first c.new-tally.result;
      after = noted seat tally;
      unread_before = g.R.Source.left c.args.reader.now;
      unread_after = g.R.Source.left c.serve-end.new.reader;
      written_before = g.W.Sink.contents c.args.writer.now;
      written_after = g.W.Sink.contents c.serve-end.new.writer;
    } in
    subst (λ last. Serves (ServiceReplies spec spec.alphabet) (with_judge talked (noted c.args.place no_answers) (noted last tally)) end) (sym c.end.ensures)
    (subst (λ share. Serves (ServiceReplies spec spec.alphabet) (with_judge talked (noted share no_answers) talked.after) end) (c.new-judge.ensures ∙ c.again.ensures)
    (subst (λ begun. Serves (ServiceReplies spec spec.alphabet) (with_judge talked (noted first begun) talked.after) end) c.new-tally.ensures
    (subst (λ channels. Serves (ServiceReplies spec channels) talked end) c.args.self.now.same c.serve-end.ensures.serves)))
