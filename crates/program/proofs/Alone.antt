-- A seat of whose reports the final history has no others is answered as the definition answers one who reports alone.
--
-- A seat's own reports begin its calls in what it has seen, from the first line on: so they are no more than that. At the end it has seen
-- no more than its own reports, and each line adds no more to these than to what it has seen: so it never had. What it has seen is
-- its own reports at each moment, and no line finds an entry of another there.
use Rattle.std.proofs.Common.{◌≡◌, ◌≤◌, ℕ, suc, ◌+◌, ◌||◌, List, [], ◌∷◌, ◌++◌, length, length-append, Bool, false, Option, Some, None, Result, Ok, Err, refl, sym, ap, ◌∙◌, subst, arith}
use Rattle.std.specs.Prelude.{IsTrue, ◌↔◌, IsSome, IfSome}
use Rattle.std.proofs.lemmas.List.Sums.{sum_by-cons}
use Rattle.alphabet.specs.declared.events.Event.{Event}
use Rattle.alphabet.specs.declared.events.Report.{Report}
use Rattle.alphabet.specs.EventSets.{Set, member}
use Rattle.term.specs.Proc.{Proc, root, bodies_of}
use Rattle.term.specs.Meaning.{Trace}
use Rattle.term.specs.Specs.{Specified}
use Rattle.term.specs.Verdict.{Verdict}
use Rattle.shared.specs.Entry.{Entry}
use Rattle.shared.specs.Entries.{calls, events}
use Rattle.shared.specs.Beginnings.{StartsWith}
use Rattle.shared.proofs.Beginnings.{begins_self}
use Rattle.attending.proofs.AloneLemmas.{long_of}
use Rattle.shared.proofs.Histories.{calls-le}
use Rattle.shared.specs.SessionFaults.{Fault as SessionFault}
use Rattle.answers.specs.declared.fault.Fault.TheVariants as session
use Rattle.shared.specs.View.{SeatView}
use Rattle.shared.specs.Faults.{Answers as Explains, closes as closing}
use Rattle.shared.specs.Seats.{Answered, Refused, AllTold, answers_to, receipts}
use Rattle.shared.proofs.Calls.{calls_all, calls-longer}
use Rattle.answers.specs.Faults.{plain_of}
use Rattle.seats.specs.Judges as seat
use Rattle.answers.specs.declared.receipt.Receipt.{Receipt}
use Rattle.answers.specs.declared.receipt.Status.{Status}
use Rattle.wire.specs.Faults.{Fault}
use Rattle.wire.specs.declared.answer.Tally.{Tally}
use Rattle.wire.specs.declared.engine.End.{End}
use Rattle.wire.specs.declared.engine.WireError.{WireError}
use Rattle.wire.specs.Replies.{Noted, noted, TakesNoName, LineReplies}
use Rattle.wire.specs.Talks.{Conversation, Serves, with_judge}
use Rattle.wire.proofs.CarryLemmas.{CarriesCalls, lines_carried, serves_on, serves_back}
use Rattle.attending.specs.Courses.{Course, begun, Adds, Leaves, IsWhy, closes, Reports, Statuses, Nexts, status_of}
use Rattle.program.specs.Conversations.{Conversed}

-- what the seat has seen, as a course
abbrev course : SeatView → Course
course s = record { history = s.seen; closed = s.closed }

-- its own reports begin its calls in what it has seen
abbrev IsOwn : SeatView → Type 0
IsOwn s = StartsWith (calls s.seen s.seat) s.mine

-- it has seen no more than its own reports
abbrev IsAlone : SeatView → Type 0
IsAlone s = length s.seen ≤ length s.mine

own_le : (s : SeatView) → IsOwn s → length s.mine ≤ length s.seen
own_le s own = omega (arith, ap length own.1, length-append s.mine own.0, calls-le s.seen s.seat)

own_all : (s : SeatView) → IsOwn s → IsAlone s → calls s.seen s.seat ≡ s.mine
own_all s own alone = calls_all (calls s.seen s.seat) s.mine own (omega (arith, ap length own.1, length-append s.mine own.0, calls-le s.seen s.seat, alone))

-- a list that begins with another and isn't longer is the other
same_as : (whole part : List Entry) → StartsWith whole part → length whole ≤ length part → whole ≡ part
same_as whole part begins le = calls_all whole part begins (omega (arith, ap length begins.1, length-append part begins.0, le))

-- ---- what goes on from each line to the next

looked_on : (old new : SeatView) → StartsWith new.seen old.seen → new.seat ≡ old.seat → new.mine ≡ old.mine → IsOwn old → IsOwn new
looked_on old new begins seat mine own =
    subst (λ (k : ℕ). StartsWith (calls new.seen k) new.mine) (sym seat)
    (subst (λ (l : List Entry). StartsWith (calls new.seen old.seat) l) (sym mine) (calls-longer old.seat new.seen old.seen old.mine begins own))

answered_on : (B : ℕ → Proc) (old new : SeatView) (r : Report) (v : Bool) (p : ℕ) → Answered B old new r v p → IsOwn new
answered_on B old new r v p a =
    subst (λ (k : ℕ). StartsWith (calls new.seen k) new.mine) (sym a.seat)
    (subst (λ (l : List Entry). StartsWith (calls new.seen old.seat) l) a.own (begins_self (calls new.seen old.seat)))

reported_on : (spec : Specified) (old new : SeatView) (r : Report) (answer : Result Receipt Fault) → IsOwn old → seat.Reports spec old r answer new → IsOwn new
reported_on spec old new r (Ok receipt) own h = answered_on (bodies_of spec.bodies) old new r receipt.verdict receipt.place h
reported_on spec old new r (Err fault) own h = let a = h.2 in looked_on old new a.begins a.seat a.same own

-- ---- what holds of each line since it holds at the end

-- what the seat has seen stays where its own reports do
stays : (old new : SeatView) → StartsWith new.seen old.seen → new.mine ≡ old.mine → IsOwn old → IsAlone new → new.seen ≡ old.seen
stays old new begins mine own alone = same_as new.seen old.seen begins (omega (arith, alone, ap length mine, own_le old own))

looked_alone : (old new : SeatView) → StartsWith new.seen old.seen → new.mine ≡ old.mine → IsAlone new → IsAlone old
looked_alone old new begins mine alone = omega (arith, alone, ap length mine, ap length begins.1, length-append old.seen begins.0)

judged_as : (B : ℕ → Proc) (before seen : List Entry) (e : Entry) (r : Report) (v : Bool) → before ≡ seen → e.report ≡ r → e.verdict ≡ v
    → IsTrue e.verdict ↔ Verdict B (events before) e.report → IsTrue v ↔ Verdict B (events seen) r
judged_as B before seen e r v same report verdict h =
    subst (λ (b : Bool). IsTrue b ↔ Verdict B (events seen) r) verdict
    (subst (λ (x : Report). IsTrue e.verdict ↔ Verdict B (events seen) x) report
    (subst (λ (l : List Entry). IsTrue e.verdict ↔ Verdict B (events l) e.report) same h))

answered_back : (B : ℕ → Proc) (old new : SeatView) (r : Report) (receipt : Receipt) → IsOwn old → IsAlone new → Answered B old new r receipt.verdict receipt.place
    → IsAlone old × Adds B (course old) r receipt (course new)
answered_back B old new r receipt own alone a =
    let seen : length new.seen ≡ length a.before + 1 = omega (arith, ap length a.ends, length-append a.before (a.entry ∷ [])) in
    let mine : length new.mine ≡ length old.mine + 1 = omega (arith, ap length a.mine, length-append old.mine (a.entry ∷ [])) in
    let before : length a.before ≡ length old.seen + length a.begins.0 = omega (arith, ap length a.begins.1, length-append old.seen a.begins.0) in
    let less = own_le old own in
    let same : a.before ≡ old.seen = same_as a.before old.seen a.begins (omega (arith, seen, mine, alone, less)) in
    let fits = a.legal a.before a.entry [] a.ends in (
      omega (arith, seen, mine, before, alone),
      record {
        verdict = judged_as B a.before old.seen a.entry r receipt.verdict same a.is_of.report_is a.is_of.verdict_is fits.verdict;
        entry = a.entry;
        report_is = a.is_of.report_is;
        verdict_is = a.is_of.verdict_is;
        appended = a.ends ∙ ap (λ (l : List Entry). l ++ a.entry ∷ []) same;
        place = a.stands;
        same = a.closed;
      },
    )

closes_as : (f : SessionFault) → closing f ≡ closes (plain_of f)
closes_as session.Depth = refl
closes_as session.States = refl
closes_as session.Seats = refl
closes_as session.Reader = refl
closes_as session.Taken = refl
closes_as session.History = refl
closes_as session.Turn = refl
closes_as session.Behind = refl
closes_as (session.Journal e) = refl
closes_as (session.Closed e) = refl
closes_as session.Memory = refl

why_as : (spec : Specified) (h : List Entry) (k : ℕ) (mine : List Entry) (r : Report) (f : SessionFault) → calls h k ≡ mine → Explains spec h k mine r f → IsWhy spec h r (plain_of f)
why_as spec h k mine r session.Depth all e = e
why_as spec h k mine r session.States all e = e
why_as spec h k mine r session.Seats all e = e
why_as spec h k mine r session.Reader all e = e
why_as spec h k mine r session.Taken all e = e
why_as spec h k mine r session.History all e = long_of spec.names h (suc (length mine)) e (omega (arith, ap length all, calls-le h k))
why_as spec h k mine r session.Turn all e = e all
why_as spec h k mine r session.Behind all e = e
why_as spec h k mine r (session.Journal x) all e = tt
why_as spec h k mine r (session.Closed x) all e = tt
why_as spec h k mine r session.Memory all e = tt

refused_back : (spec : Specified) (old new : SeatView) (r : Report) (f : SessionFault) → IsOwn old → IsAlone new → Refused spec old new r f
    → IsAlone old × Leaves spec (course old) r (plain_of f) (course new)
refused_back spec old new r f own alone a =
    let same : new.seen ≡ old.seen = stays old new a.begins a.same own alone in
    let before = looked_alone old new a.begins a.same alone in
    let why : Explains spec old.seen old.seat old.mine r f = subst (λ (l : List Entry). Explains spec l old.seat old.mine r f) same a.why in (
      before,
      record {
        why = why_as spec old.seen old.seat old.mine r f (own_all old own before) why;
        same = same;
        closed = a.closed ∙ ap (λ (b : Bool). b || old.closed) (closes_as f);
      },
    )

reported_back : (spec : Specified) (old new : SeatView) (r : Report) (answer : Result Receipt Fault) → IsOwn old → IsAlone new → seat.Reports spec old r answer new
    → IsAlone old × Reports spec (course old) r answer (course new)
reported_back spec old new r (Ok receipt) own alone h = answered_back (bodies_of spec.bodies) old new r receipt own alone h
reported_back spec old new r (Err fault) own alone h =
    let b = refused_back spec old new r h.0 own alone h.2 in
    (b.0, subst (λ (x : Fault). Leaves spec (course old) r x (course new)) (sym h.1) b.1)

same_course : (old new : SeatView) → new.seen ≡ old.seen → new.closed ≡ old.closed → course new ≡ course old
same_course old new seen closed = λ i. record { history = seen i; closed = closed i }

status_back : (B : ℕ → Proc) (old new : SeatView) (s : Status) → IsOwn old → IsAlone new → seat.Statuses B old s new → IsAlone old × Statuses (course old) s (course new)
status_back B old new s own alone h =
    let l = h.looked in
    let same : new.seen ≡ old.seen = stays old new l.begins l.mine own alone in
    let told : s ≡ status_of new.seen old.closed = λ i. record {
      summary = record { judged = h.judged i; events = h.events_are i; refusals = h.refusals i; rejected = h.rejected i };
      closed = h.closed i;
    } in
    (looked_alone old new l.begins l.mine alone, (same_course old new same l.closed, told ∙ ap (λ (x : List Entry). status_of x old.closed) same))

next_back : (B : ℕ → Proc) (old new : SeatView) (X : Set) → IsOwn old → IsAlone new → seat.Nexts B old X new → IsAlone old × Nexts B (course old) X (course new)
next_back B old new X own alone h =
    let l = h.looked in
    let same : new.seen ≡ old.seen = stays old new l.begins l.mine own alone in (
      looked_alone old new l.begins l.mine alone,
      (same_course old new same l.closed, subst (λ (y : List Entry). (x : Event) → IsTrue (member X x) ↔ Trace B root (events y ++ x ∷ [])) same h.are),
    )

-- ---- the whole of a connection

carried : (spec : Specified) → CarriesCalls (seat.Reports spec) (seat.Statuses (bodies_of spec.bodies)) (seat.Nexts (bodies_of spec.bodies)) TakesNoName (Reports spec) Statuses (Nexts (bodies_of spec.bodies)) TakesNoName course IsOwn IsAlone
carried spec = record {
  report_on = λ j k r a own h. reported_on spec j k r a own h;
  report_back = λ j k r a own alone h. reported_back spec j k r a own alone h;
  status_on = λ j k s own h. let l = h.looked in looked_on j k l.begins l.seat l.mine own;
  status_back = λ j k s own alone h. status_back (bodies_of spec.bodies) j k s own alone h;
  next_on = λ j k x own h. let l = h.looked in looked_on j k l.begins l.seat l.mine own;
  next_back = λ j k x own alone h. next_back (bodies_of spec.bodies) j k x own alone h;
  identify_on = λ j k n a own h. subst IsOwn (sym h.1) own;
  identify_back = λ j k n a own alone h. (subst IsAlone h.1 alone, (h.0, ap course h.1));
}

-- Of a seat that had reported nothing and knew of no closing, where the final history begins with all that it has seen and has as many
-- entries as it has reports.
pub conversed : (spec : Specified) (first last : SeatView) (talked : Conversation Tally) (result : Result End WireError) (h : List Entry)
    → first.mine ≡ [] → first.closed ≡ false → StartsWith h last.seen → length h ≡ length last.mine
    → Serves (seat.SeatReplies spec spec.alphabet) (with_judge talked (noted first talked.before) (noted last talked.after)) result
    → Conversed spec talked result h
conversed spec first last talked result h mine closed begins count serves =
    let B = bodies_of spec.bodies in
    let Says = seat.SeatReplies spec spec.alphabet in
    let Other = LineReplies (Reports spec) Statuses (Nexts B) TakesNoName spec.alphabet in
    let P : Noted SeatView → Type 0 = λ n. IsOwn n.judge in
    let Q : Noted SeatView → Type 0 = λ n. IsAlone n.judge in
    let f : Noted SeatView → Noted Course = λ n. noted (course n.judge) n.tally in
    let by = lines_carried (seat.Reports spec) (seat.Statuses B) (seat.Nexts B) TakesNoName (Reports spec) Statuses (Nexts B) TakesNoName course IsOwn IsAlone (carried spec) spec.alphabet in
    let own : IsOwn first = (calls first.seen first.seat, ap (λ (l : List Entry). l ++ calls first.seen first.seat) (sym mine)) in
    let alone : IsAlone last = omega (arith, ap length begins.1, length-append last.seen begins.0, count) in
    let seated : Conversation (Noted SeatView) = with_judge talked (noted first talked.before) (noted last talked.after) in
    let late : IsOwn last = serves_on Says Other f P Q by seated result own serves in
    let back = serves_back Says Other f P Q by seated result own alone serves in
    let none : first.seen ≡ [] = same_as first.seen [] (first.seen, refl) (let n : length first.seen ≤ length first.mine = back.0 in omega (arith, n, ap length mine)) in
    let start : course first ≡ begun = λ i. record { history = none i; closed = closed i } in
    record {
      last = course last;
      history_is = sym (same_as h last.seen begins (omega (arith, count, own_le last late)));
      serves = subst (λ (c : Course). Serves Other (with_judge talked (noted c talked.before) (noted (course last) talked.after)) result) start back.1;
    }

-- where a number is answered at the end, the only share has all reports
pub told_alone : (answer : Option ℕ) (h opening : List Entry) (ps : List SeatView) (p : SeatView) → ps ≡ p ∷ [] → opening ≡ [] → IsSome answer
    → IfSome answer (λ n. (length h ≡ length opening + n) × (n ≡ receipts ps)) → IfSome answer (λ n. AllTold h ps)
    → StartsWith h p.seen × (length h ≡ length p.mine)
told_alone (Some n) h opening ps p is none some counted told =
    let t : AllTold h (p ∷ []) = subst (λ (l : List SeatView). AllTold h l) is told in
    let all : calls h p.seat ≡ p.mine = t.1 in
    (t.0, omega (arith, counted.0, counted.1, ap length none, ap receipts is, sum_by-cons answers_to p [], ap length all, calls-le h p.seat))
told_alone None h opening ps p is none some counted told = absurd (cc)
