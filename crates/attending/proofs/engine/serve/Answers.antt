use Rattle.std.proofs.Common.{◌≡◌, ◌∙◌, ◌++◌, take, Ok, Err, Some, None, true, false}
use Rattle.wire.proofs.KnownLemmas.{consumes_more, consumes_kept}
use Rattle.wire.proofs.TalkLemmas.{open_then}
use Rattle.attending.specs.Lines.{Attends}
use Rattle.attending.specs.Attendances.{Listens}
use Rattle.attending.specs.Preparing.{GoesOn, standing}
use Rattle.attending.proofs.ListenLemmas.{attendance_end, attendance_err, goes_as, listens_as, listens_then}
use Rattle.attending.proofs.engine.serve.Goals as goal

pub pieces-preserved : goal.pieces-preserved
pieces-preserved g c =
    let a = c.args.attendant.now in
    let b = c.pieces.attendant in
    let d = c.feed.new.attendant in
    let j = standing a.alone.session.history a.alone.session.failed a.tally a.lines a.whole (g.E.Write.contents c.args.errors.now) in
    let i = standing b.alone.session.history b.alone.session.failed b.tally b.lines b.whole (g.E.Write.contents c.pieces.errors) in
    let k = standing d.alone.session.history d.alone.session.failed d.tally d.lines d.whole (g.E.Write.contents c.feed.new.errors) in
    let left = g.T.Source.left c.args.reader.now in
    let front = g.T.Source.left c.pieces.reader in
    let rest = g.T.Source.left c.read.new.self in
    let old = g.W.Sink.contents c.args.writer.now in
    let mid = g.W.Sink.contents c.pieces.writer in
    let new = g.W.Sink.contents c.feed.new.writer in
    let so_far = c.pieces.invariant in
    let talk = so_far.talk in
    let begun = c.pieces.begun.items in
    let later = c.feed.new.begun.items in
    let piece = take c.in-Ok.count c.read.new.buffer in
    let took = consumes_more left front rest talk.0 piece talk.1 (c.in-Ok.ensures.bytes.0) in
    let heard : Listens b.manner b.alone.session.spec i k mid new (begun ++ piece) later (Ok None) = rw c.in-Ok-None.field-0-is at c.in-Ok-None.ensures.listens in
    let goes : GoesOn b.manner d.tally (Ok None) = rw c.in-Ok-None.field-0-is at c.in-Ok-None.ensures.going in
    let open_now = open_then (Attends a.manner a.alone.session.spec) j i k old mid new talk.0 begun piece later talk.2
    (listens_as b.manner a.manner b.alone.session.spec a.alone.session.spec i k mid new (begun ++ piece) later (Ok None) so_far.same.0 so_far.same.1 heard) in
    record {
      talk = (talk.0 ++ piece, took, open_now);
      ready = c.in-Ok-None.ensures.ready;
      same = (c.in-Ok-None.ensures.same.0 ∙ so_far.same.0, c.in-Ok-None.ensures.same.1 ∙ so_far.same.1);
      going = goes_as b.manner a.manner d.tally (Ok None) so_far.same.0 goes;
      room = c.in-Ok-None.ensures.room;
      begun = open_now.5;
      handed_on = λ before. c.in-Ok-None.ensures.handed_on (so_far.handed_on before);
      reader_steady = c.in-Ok.ensures.steady ∙ so_far.reader_steady;
      writer_steady = c.in-Ok-None.ensures.steady ∙ so_far.writer_steady;
    }

pub returns-in-Ok-Some-clause-attends : goal.returns-in-Ok-Some-clause-attends
returns-in-Ok-Some-clause-attends g c =
    let a = c.args.attendant.now in
    let b = c.pieces.attendant in
    let d = c.feed.new.attendant in
    let j = standing a.alone.session.history a.alone.session.failed a.tally a.lines a.whole (g.E.Write.contents c.args.errors.now) in
    let i = standing b.alone.session.history b.alone.session.failed b.tally b.lines b.whole (g.E.Write.contents c.pieces.errors) in
    let k = standing d.alone.session.history d.alone.session.failed d.tally d.lines d.whole (g.E.Write.contents c.feed.new.errors) in
    let left = g.T.Source.left c.args.reader.now in
    let front = g.T.Source.left c.pieces.reader in
    let rest = g.T.Source.left c.read.new.self in
    let old = g.W.Sink.contents c.args.writer.now in
    let mid = g.W.Sink.contents c.pieces.writer in
    let new = g.W.Sink.contents c.feed.new.writer in
    let so_far = c.pieces.invariant in
    let talk = so_far.talk in
    let begun = c.pieces.begun.items in
    let later = c.feed.new.begun.items in
    let piece = take c.in-Ok.count c.read.new.buffer in
    let took = consumes_more left front rest talk.0 piece talk.1 (c.in-Ok.ensures.bytes.0) in
    let end = c.in-Ok-Some.end in
    let heard : Listens b.manner b.alone.session.spec i k mid new (begun ++ piece) later (Ok (Some end)) = rw c.in-Ok-Some.field-0-is at c.in-Ok-Some.ensures.listens in
    let goes : GoesOn b.manner d.tally (Ok (Some end)) = rw c.in-Ok-Some.field-0-is at c.in-Ok-Some.ensures.going in
    attendance_end a.manner a.alone.session.spec
    (record { before = j; after = k; unread_before = left; unread_after = rest; written_before = old; written_after = new }) (talk.0 ++ piece) later end took (goes_as b.manner a.manner d.tally (Ok (Some end)) so_far.same.0 goes)
    (listens_then a.manner a.alone.session.spec j i k old mid new talk.0 begun piece later (Ok (Some end)) talk.2
    (listens_as b.manner a.manner b.alone.session.spec a.alone.session.spec i k mid new (begun ++ piece) later (Ok (Some end)) so_far.same.0 so_far.same.1 heard))

pub returns-in-Err-clause-attends : goal.returns-in-Err-clause-attends
returns-in-Err-clause-attends g c =
    let a = c.args.attendant.now in
    let b = c.pieces.attendant in
    let d = c.feed.new.attendant in
    let j = standing a.alone.session.history a.alone.session.failed a.tally a.lines a.whole (g.E.Write.contents c.args.errors.now) in
    let i = standing b.alone.session.history b.alone.session.failed b.tally b.lines b.whole (g.E.Write.contents c.pieces.errors) in
    let k = standing d.alone.session.history d.alone.session.failed d.tally d.lines d.whole (g.E.Write.contents c.feed.new.errors) in
    let left = g.T.Source.left c.args.reader.now in
    let front = g.T.Source.left c.pieces.reader in
    let rest = g.T.Source.left c.read.new.self in
    let old = g.W.Sink.contents c.args.writer.now in
    let mid = g.W.Sink.contents c.pieces.writer in
    let new = g.W.Sink.contents c.feed.new.writer in
    let so_far = c.pieces.invariant in
    let talk = so_far.talk in
    let begun = c.pieces.begun.items in
    let later = c.feed.new.begun.items in
    let piece = take c.in-Ok.count c.read.new.buffer in
    let took = consumes_more left front rest talk.0 piece talk.1 (c.in-Ok.ensures.bytes.0) in
    let fault = c.in-Err.fault in
    attendance_err a.manner a.alone.session.spec
    (record { before = j; after = k; unread_before = left; unread_after = rest; written_before = old; written_after = new }) (talk.0 ++ piece) later fault took
    (listens_then a.manner a.alone.session.spec j i k old mid new talk.0 begun piece later (Err fault) talk.2
    (listens_as b.manner a.manner b.alone.session.spec a.alone.session.spec i k mid new (begun ++ piece) later (Err fault) so_far.same.0 so_far.same.1 c.in-Err.ensures.listens))

pub returns-in_default-clause-attends : goal.returns-in_default-clause-attends
returns-in_default-clause-attends g c =
    let talk = c.pieces.invariant.talk in
    let took = consumes_kept (g.T.Source.left c.args.reader.now) (g.T.Source.left c.pieces.reader) (g.T.Source.left c.read.new.self) talk.0 talk.1 c.in_default.ensures.bytes in
    (talk.0, c.pieces.begun.items, took, talk.2)
