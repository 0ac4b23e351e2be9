-- A line that is whole is answered, and one that is too long ends the conversation.
use Rattle.std.proofs.Common.{◌≡◌, ◌≢◌, ◌+◌, ◌<◌, ◌≤◌, ◌++◌, ◌⊎◌, ◌∙◌, [], ◌∷◌, length, take, arith, sym, ap, subst, append_assoc, codes, inl, inr, true, false}
use Rattle.std.proofs.lemmas.List.{length-append}
use Rattle.wire.specs.Requests.{Lacks}
use Rattle.wire.specs.Talks.{Open, HasQuit, IsCutOff, Hears}
use Rattle.wire.proofs.KnownLemmas.{appends_same}
use Rattle.wire.proofs.TalkLemmas.{all_append, all_short, open_line, has_quit}
use Rattle.attending.specs.Lines.{Attends}
use Rattle.attending.specs.Attendances.{Listens}
use Rattle.attending.specs.Preparing.{standing}
use Rattle.attending.specs.Attendances.{IsStopped}
use Rattle.attending.proofs.AttendLemmas.{same_standing}
use Rattle.attending.proofs.ListenLemmas.{attends_of, cut_line, goes_long, kind_of, listens_long, stopped_line}
use Rattle.attending.proofs.engine.hear_line.Goals as goal

pub returns-then-piece-len-clause-listens : goal.returns-then-piece-len-clause-listens
returns-then-piece-len-clause-listens g c =
    let a = c.args.attendant.now in
    let j = standing a.alone.session.history a.alone.session.failed a.tally a.lines a.whole (g.E.Write.contents c.args.errors.now) in
    let old = g.W.Sink.contents c.args.writer.now in
    let new = g.W.Sink.contents c.cut_off.new.writer in
    let begun = c.args.begun.now.items in
    let piece = c.args.piece.now in
    let long : 4096 < length (begun ++ piece) = rw length-append (omega arith) in
    let plain : Lacks 10 (begun ++ piece) = all_append (λ b. b ≢ 10) begun piece c.requires.begun.1 c.requires.plain in
    subst (λ v. Listens a.manner a.alone.session.spec j j old new v begun c.cut_off.result) (append_assoc begun piece (10 ∷ []))
    (listens_long a.manner a.alone.session.spec j old new (begun ++ piece) (10 ∷ []) begun c.cut_off.result long plain c.cut_off.ensures.ok c.cut_off.ensures.cut c.cut_off.ensures.end)

pub returns-then-piece-len-clause-going : goal.returns-then-piece-len-clause-going
returns-then-piece-len-clause-going g c = goes_long c.args.attendant.now.manner c.args.attendant.now.tally c.cut_off.result c.requires.going c.cut_off.ensures.end

pub returns-in_default-clause-listens : goal.returns-in_default-clause-listens
returns-in_default-clause-listens g c =
    let a = c.args.attendant.now in
    let b = c.take_line-quit.new.attendant in
    let m = a.manner in
    let s = a.alone.session.spec in
    let before = g.E.Write.contents c.args.errors.now in
    let j = standing a.alone.session.history a.alone.session.failed a.tally a.lines a.whole before in
    let old = g.W.Sink.contents c.args.writer.now in
    let new = g.W.Sink.contents c.send.new.writer in
    let begun = c.args.begun.now.items in
    let piece = c.args.piece.now in
    let line = begun ++ piece in
    let text = b.reply.items in
    let n = c.note_whole.new.self in
    let k = standing n.alone.session.history n.alone.session.failed n.tally n.lines n.whole before in
    let first_says = attends_of m s a.alone.session.history b.alone.session.history a.alone.session.failed b.alone.session.failed a.tally b.tally a.lines b.lines a.whole b.whole false before before line text b.said.items
    c.take_line-quit.ensures.prepares (λ is. cc) in
    let al = c.note_whole.ensures.alone.0 in
    let says = subst (λ x. Attends m s j line x text)
    (same_standing b.alone.session.history n.alone.session.history b.alone.session.failed n.alone.session.failed b.tally n.tally b.lines n.lines false n.whole before
    (sym (ap (λ x. x.session.history) al)) (sym (ap (λ x. x.session.failed) al)) (sym c.note_whole.ensures.same.1) (sym c.note_whole.ensures.same.2) (sym c.note_whole.ensures.whole)) first_says in
    let fits : length begun + length piece ≤ 4096 = omega arith in
    let short = all_short begun piece c.requires.begun c.requires.plain fits in
    let cut = c.in_default.ensures.cut in
    let sent = appends_same old new (take cut.0 c.deref.result.now) (take cut.0 text) (ap (λ x. take cut.0 x) c.deref.ensures.value) cut.1 in
    let kind = kind_of c.take_line-quit.result (line ≢ codes "Q") (line ≡ codes "Q") (b.tally ≡ a.tally) c.take_line-quit.ensures.quit c.take_line-quit.ensures.other in
    subst (λ x. IsCutOff (Attends m s) j k old new x) (append_assoc begun piece (10 ∷ [])) (cut_line m s j k old new line text cut.0 short kind says sent)

pub returns-then-quit-clause-listens : goal.returns-then-quit-clause-listens
returns-then-quit-clause-listens g c =
    let a = c.args.attendant.now in
    let b = c.take_line-quit.new.attendant in
    let m = a.manner in
    let s = a.alone.session.spec in
    let before = g.E.Write.contents c.args.errors.now in
    let j = standing a.alone.session.history a.alone.session.failed a.tally a.lines a.whole before in
    let old = g.W.Sink.contents c.args.writer.now in
    let new = g.W.Sink.contents c.send.new.writer in
    let begun = c.args.begun.now.items in
    let piece = c.args.piece.now in
    let line = begun ++ piece in
    let text = b.reply.items in
    let n = c.note_whole-2.new.self in
    let after = g.E.Write.contents c.write_errors-whole.new.errors in
    let k = standing n.alone.session.history n.alone.session.failed n.tally n.lines n.whole after in
    let v = c.write_errors-whole.result in
    let first_says = attends_of m s a.alone.session.history b.alone.session.history a.alone.session.failed b.alone.session.failed a.tally b.tally a.lines b.lines a.whole b.whole v before after line text b.said.items
    c.take_line-quit.ensures.prepares
    (λ is. let w = c.write_errors-whole.ensures is in (w.0, appends_same before after c.deref-2.result.now b.said.items c.deref-2.ensures.value w.1)) in
    let al = c.note_whole-2.ensures.alone.0 in
    let says = subst (λ x. Attends m s j line x text)
    (same_standing b.alone.session.history n.alone.session.history b.alone.session.failed n.alone.session.failed b.tally n.tally b.lines n.lines v n.whole after
    (sym (ap (λ x. x.session.history) al)) (sym (ap (λ x. x.session.failed) al)) (sym c.note_whole-2.ensures.same.1) (sym c.note_whole-2.ensures.same.2) (sym c.note_whole-2.ensures.whole)) first_says in
    let sent = appends_same old new c.deref.result.now text c.deref.ensures.value c.in-Ok.ensures.ok in
    let quit = (c.take_line-quit.ensures.quit c.if-quit.true).0 in
    subst (λ x. HasQuit (Attends m s) j k old new x) (append_assoc begun piece (10 ∷ [])) (has_quit (Attends m s) j k old new line text quit says sent)

pub returns-then-attendant-2-clause-listens : goal.returns-then-attendant-2-clause-listens
returns-then-attendant-2-clause-listens g c =
    let a = c.args.attendant.now in
    let b = c.take_line-quit.new.attendant in
    let m = a.manner in
    let s = a.alone.session.spec in
    let before = g.E.Write.contents c.args.errors.now in
    let j = standing a.alone.session.history a.alone.session.failed a.tally a.lines a.whole before in
    let old = g.W.Sink.contents c.args.writer.now in
    let new = g.W.Sink.contents c.send.new.writer in
    let begun = c.args.begun.now.items in
    let piece = c.args.piece.now in
    let line = begun ++ piece in
    let text = b.reply.items in
    let n = c.note_whole-2.new.self in
    let after = g.E.Write.contents c.write_errors-whole.new.errors in
    let k = standing n.alone.session.history n.alone.session.failed n.tally n.lines n.whole after in
    let v = c.write_errors-whole.result in
    let first_says = attends_of m s a.alone.session.history b.alone.session.history a.alone.session.failed b.alone.session.failed a.tally b.tally a.lines b.lines a.whole b.whole v before after line text b.said.items
    c.take_line-quit.ensures.prepares
    (λ is. let w = c.write_errors-whole.ensures is in (w.0, appends_same before after c.deref-2.result.now b.said.items c.deref-2.ensures.value w.1)) in
    let al = c.note_whole-2.ensures.alone.0 in
    let says = subst (λ x. Attends m s j line x text)
    (same_standing b.alone.session.history n.alone.session.history b.alone.session.failed n.alone.session.failed b.tally n.tally b.lines n.lines v n.whole after
    (sym (ap (λ x. x.session.history) al)) (sym (ap (λ x. x.session.failed) al)) (sym c.note_whole-2.ensures.same.1) (sym c.note_whole-2.ensures.same.2) (sym c.note_whole-2.ensures.whole)) first_says in
    let sent = appends_same old new c.deref.result.now text c.deref.ensures.value c.in-Ok.ensures.ok in
    let fits : length begun + length piece ≤ 4096 = omega arith in
    let short = all_short begun piece c.requires.begun c.requires.plain fits in
    let first : m.first ≡ true = sym (ap (λ x. x.first) (c.note_whole-2.ensures.same.0 ∙ c.take_line-quit.ensures.same.0)) ∙ c.if-attendant.true in
    subst (λ x. IsStopped m s j k old new x) (append_assoc begun piece (10 ∷ []))
    (stopped_line m s j k old new line text short (c.take_line-quit.ensures.other c.if-quit.false) (c.requires.going first) c.if-attendant-2.true says sent)

pub returns-else-attendant-clause-listens : goal.returns-else-attendant-clause-listens
returns-else-attendant-clause-listens g c =
    let a = c.args.attendant.now in
    let b = c.take_line-quit.new.attendant in
    let m = a.manner in
    let s = a.alone.session.spec in
    let before = g.E.Write.contents c.args.errors.now in
    let j = standing a.alone.session.history a.alone.session.failed a.tally a.lines a.whole before in
    let old = g.W.Sink.contents c.args.writer.now in
    let new = g.W.Sink.contents c.send.new.writer in
    let begun = c.args.begun.now.items in
    let piece = c.args.piece.now in
    let line = begun ++ piece in
    let text = b.reply.items in
    let n = c.note_whole-2.new.self in
    let after = g.E.Write.contents c.write_errors-whole.new.errors in
    let k = standing n.alone.session.history n.alone.session.failed n.tally n.lines n.whole after in
    let v = c.write_errors-whole.result in
    let first_says = attends_of m s a.alone.session.history b.alone.session.history a.alone.session.failed b.alone.session.failed a.tally b.tally a.lines b.lines a.whole b.whole v before after line text b.said.items
    c.take_line-quit.ensures.prepares
    (λ is. let w = c.write_errors-whole.ensures is in (w.0, appends_same before after c.deref-2.result.now b.said.items c.deref-2.ensures.value w.1)) in
    let al = c.note_whole-2.ensures.alone.0 in
    let says = subst (λ x. Attends m s j line x text)
    (same_standing b.alone.session.history n.alone.session.history b.alone.session.failed n.alone.session.failed b.tally n.tally b.lines n.lines v n.whole after
    (sym (ap (λ x. x.session.history) al)) (sym (ap (λ x. x.session.failed) al)) (sym c.note_whole-2.ensures.same.1) (sym c.note_whole-2.ensures.same.2) (sym c.note_whole-2.ensures.whole)) first_says in
    let sent = appends_same old new c.deref.result.now text c.deref.ensures.value c.in-Ok.ensures.ok in
    let fits : length begun + length piece ≤ 4096 = omega arith in
    let short = all_short begun piece c.requires.begun c.requires.plain fits in
    let later = c.take_line-quit.new.begun.items in
    let none : [] ≡ later = sym c.take_line-quit.ensures.begun in
    subst (λ x. Open (Attends m s) j k old new x later) (append_assoc begun piece (10 ∷ []))
    (subst (λ x. Open (Attends m s) j k old new (line ++ 10 ∷ []) x) none
    (open_line (Attends m s) j k old new line text short (c.take_line-quit.ensures.other c.if-quit.false) says sent))
