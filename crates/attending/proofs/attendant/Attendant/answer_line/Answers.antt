use Rattle.std.proofs.Common.{◌≡◌, ◌⊎◌, inl, inr, ◌∙◌, ◌&&◌, ap, cond, subst, sym, refl, [], List, ℕ, true, Bool, Option, None, Some}
use Rattle.std.specs.Prelude.{IfSome}
use Rattle.alphabet.specs.Channels.{Channel}
use Rattle.term.specs.Specs.{Specified}
use Rattle.session.specs.Entry.{Entry}
use Rattle.session.specs.Legal.{IsJudged}
use Rattle.session.specs.Monitors.{Monitoring}
use Rattle.alphabet.specs.declared.events.Event.{Event}
use Rattle.session.specs.Entries.{events}
use Rattle.wire.specs.Requests.{Asks}
use Rattle.wire.specs.Replies.{answer_text}
use Rattle.wire.proofs.GroupLemmas.{not_quit}
use Rattle.attending.specs.Lines.{ExplainsIf, is_acceptance}
use Rattle.attending.specs.Preparing.{HasLast}
use Rattle.alphabet.specs.EventSets.{Set}
use Rattle.wire.specs.declared.answer.Answer.{Answer}
use Rattle.wire.specs.declared.answer.Answer.TheVariants as answered
use Rattle.answers.specs.declared.fault.Fault.TheVariants as faults
use Rattle.attending.specs.Standing.{course_of}
use Rattle.attending.proofs.AttendLemmas.{follows, given_as, moves_by, prepares_of, ready_some, some_ready}
use Rattle.attending.proofs.attendant.Attendant.answer_line.Goals as goal

pub note-self-requires-clause-answers : goal.note-self-requires-clause-answers
note-self-requires-clause-answers g c w =
    let s = c.args.self.now in
    let spec = s.alone.session.spec in
    let n = c.answer-answer.new.alone.session in
    let old = course_of s.alone.session.history s.alone.session.failed in
    let new = course_of n.history n.failed in
    let request = c.read_request-request.result in
    let given = c.put_reply-answer.result in
    let goes = given_as spec old new request c.answer-answer.result given c.put_reply-answer.ensures.same c.answer-answer.ensures.answers in
    moves_by s.monitor spec old new request given (ready_some s.monitor spec (events s.alone.session.history) (c.requires.ready.stands w)) goes

judged_by : (o : Option Monitoring) (spec : Specified) (u : List Event) (h : List Entry) → IfSome o (λ m. (m.spec ≡ spec) × (m.trace ≡ u)) → IsJudged spec h → IfSome o (λ m. IsJudged m.spec h)
judged_by None spec u h some judged = tt
judged_by (Some m) spec u h some judged = subst (λ (s : Specified). IsJudged s h) (sym some.0) judged

pub note-self-requires-clause-judged : goal.note-self-requires-clause-judged
note-self-requires-clause-judged g c w =
    let s = c.args.self.now in
    let spec = s.alone.session.spec in
    let n = c.answer-answer.new.alone.session in
    judged_by s.monitor spec (events s.alone.session.history) n.history (ready_some s.monitor spec (events s.alone.session.history) (c.requires.ready.stands w))
    (subst (λ (x : Specified). IsJudged x n.history) c.answer-answer.ensures.spec c.history.ensures.judged)

last_kept : (answer given : Answer) (gone : ℕ) (h : List Entry) → (given ≡ answer) ⊎ ((set : Set) × (answer ≡ answered.Next set) × (given ≡ answered.Fault faults.Memory)) → HasLast answer gone h → HasLast given gone h
last_kept answer given gone h (inl is) has = subst (λ (a : Answer). HasLast a gone h) (sym is) has
last_kept answer given gone h (inr other) has = subst (λ (a : Answer). HasLast a gone h) (sym other.2) tt

pub note-self-requires-clause-last : goal.note-self-requires-clause-last
note-self-requires-clause-last g c =
    let n = c.answer-answer.new.alone.session in
    last_kept c.answer-answer.result c.put_reply-answer.result n.gone n.history c.put_reply-answer.ensures.same c.answer-answer.ensures.last

pub returns-in_default : goal.returns-in_default
returns-in_default g c =
    let s = c.args.self.now in
    let h = s.alone.session.history in
    let spec = s.alone.session.spec in
    let n = c.answer-answer.new.alone.session in
    let old = course_of h s.alone.session.failed in
    let new = course_of n.history n.failed in
    let request = c.read_request-request.result in
    let given = c.put_reply-answer.result in
    let line = c.args.line.now in
    let o = s.monitor in
    let p = c.note-self.new.monitor in
    let goes = given_as spec old new request c.answer-answer.result given c.put_reply-answer.ensures.same c.answer-answer.ensures.answers in
    let asks = subst (λ (cs : List Channel). Asks cs line request) (c.alphabet.ensures ∙ ap (λ (x : Specified). x.alphabet) c.spec.ensures) c.read_request-request.ensures.asks in
    let names = c.alphabet-2.ensures ∙ ap (λ (x : Specified). x.alphabet) c.spec-2.ensures ∙ ap (λ (x : Specified). x.alphabet) c.answer-answer.ensures.spec in
    let text = c.put_reply-answer.ensures.text ∙ ap (λ (cs : List Channel). answer_text cs given) names in
    let reply = c.leave_out.ensures.reply ∙ ap (λ (b : Bool). cond (s.manner.quiet && b) [] c.put_reply-answer.new.reply.items) c.accepts.ensures
    ∙ ap (λ (t : List ℕ). cond (s.manner.quiet && is_acceptance given) [] t) text in
    let stood = λ (w : s.whole ≡ true). ready_some o spec (events h) (c.requires.ready.stands w) in
    record {
      ready = record {
        wanted = c.note-self.ensures.some ∙ c.requires.ready.wanted;
        stands = λ e.
            let w = (c.note-self.ensures.whole e).0 in
            some_ready p n.spec (events n.history)
            (subst (λ (x : Specified). IfSome p (λ m. (m.spec ≡ x) × (m.trace ≡ events n.history))) (sym c.answer-answer.ensures.spec)
            (follows o p spec (events h) (events n.history) (stood w) c.note-self.ensures.some (c.note-self.ensures.stands e)));
      };
      prepares = prepares_of s.manner spec h n.history s.alone.session.failed n.failed s.tally c.after-self.result s.lines c.note-self.new.lines s.whole c.note-self.result line
          c.leave_out.new.reply.items c.note-self.new.said.items request given asks goes reply c.after-self.ensures (λ e. c.note-self.ensures.whole e)
          (λ e. subst (λ (b : Bool). ExplainsIf b spec c.note-self.new.lines h line request given c.note-self.new.said.items) c.requires.ready.wanted
          (c.note-self.ensures.explains spec old new (stood (c.note-self.ensures.whole e).0) refl goes e));
      quit = λ e. cc;
      other = λ e. not_quit spec.alphabet line request asks c.in_default.not-Quit;
      same = (refl, c.answer-answer.ensures.spec);
    }
