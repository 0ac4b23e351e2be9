-- What is said of the judge is said of what its seat knows and has done.
use Rattle.term.specs.Proc.{bodies_of}
use Rattle.wire.specs.Replies.{TakesNoName, noted}
use Rattle.seats.specs.Judges.{Reports, Statuses, Nexts}
use Rattle.wire.proofs.PartLemmas.{serves_by}
use Rattle.seats.proofs.judge.SeatJudge.serve.Goals as goal

pub returns-clause-serves : goal.returns-clause-serves
returns-clause-serves g c =
    let B = bodies_of g.N.Naming.spec.bodies in
    serves_by (λ j. j.seat.share) (Reports g.N.Naming.spec) (Statuses B) (Nexts B) TakesNoName c.args.alphabet.now
    (record {
      before = noted c.args.self.now c.args.tally.now;
      after = noted c.serve.new.judge c.serve.new.tally;
      unread_before = g.T.Source.left c.args.reader.now;
      unread_after = g.T.Source.left c.serve.new.reader;
      written_before = g.W.Sink.contents c.args.writer.now;
      written_after = g.W.Sink.contents c.serve.new.writer;
    })
    c.serve.result c.serve.ensures.serves
