use Rattle.std.proofs.Common.{◌≡◌, List, [], ◌∷◌, length, true, ap, arith}
use Rattle.std.specs.Prelude.{IsSome}
use Rattle.shared.specs.View.{SeatView}
use Rattle.shared.specs.Seats.{apart}
use Rattle.program.specs.Conversations.{no_answers}
use Rattle.program.proofs.Alone.{conversed, told_alone}
use Rattle.program.proofs.checking.hear_alone.Goals as goal

pub returns-in-Some-clause-conversed : goal.returns-in-Some-clause-conversed
returns-in-Some-clause-conversed g c =
    let heard = c.in-Some.ensures.serves in
    let items : List SeatView = c.hear-talk.new.shares.items in
    let is : items ≡ heard.1 ∷ [] = heard.4 in
    let alone : apart items ≡ true = ap apart is in
    let whole : IsSome c.finish-session.result.1 = c.finish-session.ensures.whole (omega (arith, ap length is, c.requires.ledger.3)) alone in
    let told = told_alone c.finish-session.result.1 c.finish-session.result.0.history g.N.Naming.opening items heard.1 is c.requires.story.3 whole c.finish-session.ensures.counted c.finish-session.ensures.told in
    conversed g.N.Naming.spec heard.0 heard.1
    (record {
      before = no_answers;
      after = c.in-Some.talk.tally;
      unread_before = g.T.Source.left c.args.reader.now;
      unread_after = g.T.Source.left c.hear-talk.new.reader;
      written_before = g.W.Sink.contents c.args.writer.now;
      written_after = g.W.Sink.contents c.hear-talk.new.writer;
    })
    c.in-Some.talk.end c.finish-session.result.0.history heard.2 heard.3 told.0 told.1 heard.5
