-- A block is heard line by line, and its rest stays begun.
use Rattle.std.proofs.Common.{◌≡◌, ◌≢◌, sym, ap, List, ℕ, ◌∙◌, ◌<◌, ◌++◌, [], ◌∷◌, length, subst, append_assoc, Ok, Err, Some, None, true, false, arith}
use Rattle.std.proofs.lemmas.List.{append-nil, length-append}
use Rattle.wire.specs.Requests.{Lacks}
use Rattle.wire.specs.Talks.{Open, IsShort, joined}
use Rattle.wire.proofs.TalkLemmas.{all_append, all_short, open_then, block_goes, block_whole, block_ends}
use Rattle.attending.specs.Lines.{Attends}
use Rattle.attending.specs.Attendances.{Listens}
use Rattle.attending.specs.Preparing.{GoesOn, standing}
use Rattle.attending.proofs.ListenLemmas.{goes_as, goes_long, listens_as, listens_long, listens_out, listens_then}
use Rattle.attending.proofs.engine.feed.Goals as goal

pub loop-line-preserved : goal.loop-line-preserved
loop-line-preserved g c =
    let a = c.args.attendant.now in
    let b = c.loop-line.attendant in
    let d = c.hear_line.new.attendant in
    let j = standing a.alone.session.history a.alone.session.failed a.tally a.lines a.whole (g.E.Write.contents c.args.errors.now) in
    let i = standing b.alone.session.history b.alone.session.failed b.tally b.lines b.whole (g.E.Write.contents c.loop-line.errors) in
    let k = standing d.alone.session.history d.alone.session.failed d.tally d.lines d.whole (g.E.Write.contents c.hear_line.new.errors) in
    let old = g.W.Sink.contents c.args.writer.now in
    let mid = g.W.Sink.contents c.loop-line.writer in
    let new = g.W.Sink.contents c.hear_line.new.writer in
    let first = c.args.begun.now.items in
    let so_far = c.loop-line.invariant in
    let begun = c.loop-line.begun.items in
    let piece = c.in-Some.line.now ++ 10 ∷ [] in
    let later = c.hear_line.new.begun.items in
    let heard : Listens b.manner b.alone.session.spec i k mid new (begun ++ piece) later (Ok None) = rw c.in-Ok-None.field-0-is at c.in-Ok-None.ensures.listens in
    let goes : GoesOn b.manner d.tally (Ok None) = rw c.in-Ok-None.field-0-is at c.in-Ok-None.ensures.going in
    let talk = open_then (Attends a.manner a.alone.session.spec) j i k old mid new (first ++ so_far.front) begun piece later so_far.talk
    (listens_as b.manner a.manner b.alone.session.spec a.alone.session.spec i k mid new (begun ++ piece) later (Ok None) so_far.same.0 so_far.same.1 heard) in
    record {
      front = so_far.front ++ piece;
      block = block_goes c.args.bytes.now so_far.front c.loop-line.rest.now c.in-Some.line.now c.in-Some.others.now so_far.block c.in-Some.ensures.1;
      talk = subst (λ v. Open (Attends a.manner a.alone.session.spec) j k old new v later) (append_assoc first so_far.front piece) talk;
      ready = c.in-Ok-None.ensures.ready;
      same = (c.in-Ok-None.ensures.same.0 ∙ so_far.same.0, c.in-Ok-None.ensures.same.1 ∙ so_far.same.1);
      going = goes_as b.manner a.manner d.tally (Ok None) so_far.same.0 goes;
      room = c.in-Ok-None.ensures.room;
      begun = talk.5;
      handed_on = λ before. c.in-Ok-None.ensures.handed_on;
      steady = c.in-Ok-None.ensures.steady ∙ so_far.steady;
    }

pub returns-in-Ok-Some-clause-listens : goal.returns-in-Ok-Some-clause-listens
returns-in-Ok-Some-clause-listens g c =
    let a = c.args.attendant.now in
    let b = c.loop-line.attendant in
    let d = c.hear_line.new.attendant in
    let j = standing a.alone.session.history a.alone.session.failed a.tally a.lines a.whole (g.E.Write.contents c.args.errors.now) in
    let i = standing b.alone.session.history b.alone.session.failed b.tally b.lines b.whole (g.E.Write.contents c.loop-line.errors) in
    let k = standing d.alone.session.history d.alone.session.failed d.tally d.lines d.whole (g.E.Write.contents c.hear_line.new.errors) in
    let old = g.W.Sink.contents c.args.writer.now in
    let mid = g.W.Sink.contents c.loop-line.writer in
    let new = g.W.Sink.contents c.hear_line.new.writer in
    let first = c.args.begun.now.items in
    let so_far = c.loop-line.invariant in
    let begun = c.loop-line.begun.items in
    let piece = c.in-Some.line.now ++ 10 ∷ [] in
    let others = c.in-Some.others.now in
    let later = c.hear_line.new.begun.items in
    let end = c.in-Ok-Some.end in
    let heard : Listens b.manner b.alone.session.spec i k mid new (begun ++ piece) later (Ok (Some end)) = rw c.in-Ok-Some.field-0-is at c.in-Ok-Some.ensures.listens in
    listens_out a.manner a.alone.session.spec j i k old mid new (first ++ so_far.front) begun piece later others later (first ++ c.args.bytes.now) (Ok (Some end)) (λ e. cc) so_far.talk
    (listens_as b.manner a.manner b.alone.session.spec a.alone.session.spec i k mid new (begun ++ piece) later (Ok (Some end)) so_far.same.0 so_far.same.1 heard)
    (block_whole first c.args.bytes.now so_far.front c.loop-line.rest.now c.in-Some.line.now others so_far.block c.in-Some.ensures.1)

pub returns-in-Ok-Some-clause-going : goal.returns-in-Ok-Some-clause-going
returns-in-Ok-Some-clause-going g c =
    let b = c.loop-line.attendant in
    let d = c.hear_line.new.attendant in
    let goes : GoesOn b.manner d.tally (Ok (Some c.in-Ok-Some.end)) = rw c.in-Ok-Some.field-0-is at c.in-Ok-Some.ensures.going in
    goes_as b.manner c.args.attendant.now.manner d.tally (Ok (Some c.in-Ok-Some.end)) c.loop-line.invariant.same.0 goes

pub returns-in-Err-clause-listens : goal.returns-in-Err-clause-listens
returns-in-Err-clause-listens g c =
    let a = c.args.attendant.now in
    let b = c.loop-line.attendant in
    let d = c.hear_line.new.attendant in
    let j = standing a.alone.session.history a.alone.session.failed a.tally a.lines a.whole (g.E.Write.contents c.args.errors.now) in
    let i = standing b.alone.session.history b.alone.session.failed b.tally b.lines b.whole (g.E.Write.contents c.loop-line.errors) in
    let k = standing d.alone.session.history d.alone.session.failed d.tally d.lines d.whole (g.E.Write.contents c.hear_line.new.errors) in
    let old = g.W.Sink.contents c.args.writer.now in
    let mid = g.W.Sink.contents c.loop-line.writer in
    let new = g.W.Sink.contents c.hear_line.new.writer in
    let first = c.args.begun.now.items in
    let so_far = c.loop-line.invariant in
    let begun = c.loop-line.begun.items in
    let piece = c.in-Some.line.now ++ 10 ∷ [] in
    let others = c.in-Some.others.now in
    let later = c.hear_line.new.begun.items in
    let fault = c.in-Err.fault in
    listens_out a.manner a.alone.session.spec j i k old mid new (first ++ so_far.front) begun piece later others later (first ++ c.args.bytes.now) (Err fault) (λ e. cc) so_far.talk
    (listens_as b.manner a.manner b.alone.session.spec a.alone.session.spec i k mid new (begun ++ piece) later (Err fault) so_far.same.0 so_far.same.1 c.in-Err.ensures.listens)
    (block_whole first c.args.bytes.now so_far.front c.loop-line.rest.now c.in-Some.line.now others so_far.block c.in-Some.ensures.1)

pub returns-then-rest-len-clause-listens : goal.returns-then-rest-len-clause-listens
returns-then-rest-len-clause-listens g c =
    let a = c.args.attendant.now in
    let b = c.loop-line.attendant in
    let j = standing a.alone.session.history a.alone.session.failed a.tally a.lines a.whole (g.E.Write.contents c.args.errors.now) in
    let i = standing b.alone.session.history b.alone.session.failed b.tally b.lines b.whole (g.E.Write.contents c.loop-line.errors) in
    let old = g.W.Sink.contents c.args.writer.now in
    let mid = g.W.Sink.contents c.loop-line.writer in
    let new = g.W.Sink.contents c.cut_off.new.writer in
    let first = c.args.begun.now.items in
    let so_far = c.loop-line.invariant in
    let begun = c.loop-line.begun.items in
    let rest = c.loop-line.rest.now in
    let r = c.cut_off.result in
    let long : 4096 < length (begun ++ rest) = rw length-append (omega arith) in
    let plain : Lacks 10 (begun ++ rest) = all_append (λ x. x ≢ 10) begun rest so_far.begun.1 c.in_default.ensures in
    let heard : Listens a.manner a.alone.session.spec i i mid new (begun ++ rest) begun r =
    subst (λ v. Listens a.manner a.alone.session.spec i i mid new v begun r) (append-nil (begun ++ rest))
    (listens_long a.manner a.alone.session.spec i mid new (begun ++ rest) [] begun r long plain c.cut_off.ensures.ok c.cut_off.ensures.cut c.cut_off.ensures.end) in
    subst (λ v. Listens a.manner a.alone.session.spec j i old new v begun r) (block_ends first c.args.bytes.now so_far.front rest so_far.block)
    (listens_then a.manner a.alone.session.spec j i i old mid new (first ++ so_far.front) begun rest begun r so_far.talk heard)

pub returns-then-rest-len-clause-going : goal.returns-then-rest-len-clause-going
returns-then-rest-len-clause-going g c =
    goes_long c.args.attendant.now.manner c.loop-line.attendant.tally c.cut_off.result c.loop-line.invariant.going c.cut_off.ensures.end

pub returns-clause-listens : goal.returns-clause-listens
returns-clause-listens g c =
    let first = c.args.begun.now.items in
    let block = c.args.bytes.now in
    let so_far = c.loop-line.invariant in
    let begun = c.loop-line.begun.items in
    let rest = c.loop-line.rest.now in
    let talk = so_far.talk in
    let heard : first ++ block ≡ joined talk.0 ++ c.add.new.text.items =
    sym (block_ends first block so_far.front rest so_far.block) ∙ ap (λ (l : List ℕ). l ++ rest) talk.4 ∙ append_assoc (joined talk.0) begun rest ∙ ap (λ (l : List ℕ). joined talk.0 ++ l) (sym c.add.ensures.items) in
    let short = all_short begun rest so_far.begun c.in_default.ensures (omega arith) in
    (talk.0, talk.1, talk.2, talk.3, heard, subst IsShort (sym c.add.ensures.items) short, talk.6)
