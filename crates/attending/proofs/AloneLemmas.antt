-- A report to a session moves the course of one who reports alone.
use Rattle.std.proofs.Common.{◌≡◌, ◌≤◌, inl, inr, ℕ, suc, ◌||◌, List, [], ◌∷◌, ◌++◌, length, Bool, true, false, Option, Some, None, refl, sym, ap, ◌∙◌, subst, arith}
use Rattle.session.proofs.Histories.{calls-le, full_for, names_below}
use Rattle.std.specs.Prelude.{IsTrue, ◌↔◌, is_some}
use Rattle.std.proofs.lemmas.List.{append-nil}
use Rattle.alphabet.specs.declared.events.Report.{Report}
use Rattle.term.specs.Proc.{Proc, bodies_of}
use Rattle.term.specs.Verdict.{Verdict}
use Rattle.session.specs.Entry.{Entry}
use Rattle.session.specs.Entries.{events, next_number}
use Rattle.session.specs.Legal.{Fits, IsFull}
use Rattle.session.specs.Monitors.{Stops}
use Rattle.session.specs.AfterFault.TheVariants as limit
use Rattle.session.specs.View.{IsOf, SessionView, entries}
use Rattle.session.specs.Faults.{Explains, ExplainsReport}
use Rattle.session.specs.Faults.{Fault as SessionFault}
use Rattle.answers.specs.declared.fault.Fault.TheVariants as session
use Rattle.answers.specs.declared.receipt.Receipt.{Receipt}
use Rattle.attending.specs.Courses.{Adds, IsLong, Leaves}
use Rattle.term.specs.declared.names.Names.{Names}
use Rattle.term.specs.declared.names.Names.TheVariants.{Steps, Bodies}
use Rattle.answers.specs.Faults.{plain_of}
use Rattle.attending.specs.Standing.{course_of}

-- where nothing is offered, a report is judged after the history
all : {D : Type 0} (t : SessionView D) → t.offered ≡ [] → entries t ≡ t.history
all t none = ap (λ (l : List Entry). t.history ++ l) none ∙ append-nil t.history

pub judged : {D : Type 0} (old new : SessionView D) (e : Entry) (seat number place : ℕ) (r : Report) → old.offered ≡ [] →
    IsOf e seat number r → Fits (bodies_of old.spec.bodies) (entries old) e → new.history ≡ entries old ++ e ∷ [] → old.failed ≡ None → new.failed ≡ None → place ≡ length new.history →
    Adds (bodies_of old.spec.bodies) (course_of old.history old.failed) r (record { verdict = e.verdict; place = place }) (course_of new.history new.failed)
judged old new e seat number place r none is fits appended was now stands = record {
  verdict = subst (λ (x : Report). IsTrue e.verdict ↔ Verdict (bodies_of old.spec.bodies) (events old.history) x) is.report_is
      (subst (λ (h : List Entry). Fits (bodies_of old.spec.bodies) h e) (all old none) fits).verdict;
  entry = e;
  report_is = is.report_is;
  verdict_is = refl;
  appended = appended ∙ ap (λ (h : List Entry). h ++ e ∷ []) (all old none);
  place = stands;
  same = ap is_some now ∙ sym (ap is_some was);
}

-- a history that is full for a seat's next report is long
pub long_of : (names : Names) (h : List Entry) (number : ℕ) → IsFull names h number → number ≤ suc (length h) → IsLong names h
long_of Steps h number full le = full
long_of Bodies h number (inl full) le = omega (arith, full)
long_of Bodies h number (inr full) le = omega (arith, full, le)

pub refused : {D : Type 0} (old new : SessionView D) (seat number : ℕ) (r : Report) (fault : SessionFault) →
    (old.failed ≡ None → old.offered ≡ []) → seat ≡ 1 → number ≡ next_number (entries old) seat → new.history ≡ old.history →
    ExplainsReport old new (record { seat = seat; number = number; floor = 0; report = r }) fault →
    Leaves old.spec (course_of old.history old.failed) r (plain_of fault) (course_of new.history new.failed)
refused old new seat number r session.Depth idle one turn same (e, left, now) = record {
  why = subst (λ (h : List Entry). Stops old.spec (events h) r limit.Depth) (all old (idle e.0.is_open)) e.1;
  same = same;
  closed = ap is_some now;
}
refused old new seat number r session.States idle one turn same (e, left, now) = record {
  why = subst (λ (h : List Entry). Stops old.spec (events h) r limit.States) (all old (idle e.0.is_open)) e.1;
  same = same;
  closed = ap is_some now;
}
refused old new seat number r session.Seats idle one turn same (e, left, now) = absurd e
refused old new seat number r session.Reader idle one turn same (e, left, now) = absurd e
refused old new seat number r session.Taken idle one turn same (e, left, now) = absurd e
refused old new seat number r session.History idle one turn same (e, left, now) = record {
  why =
      let is = all old (idle e.0) in
      let number_is : number ≡ next_number old.history seat = turn ∙ ap (λ (h : List Entry). next_number h seat) is in
      long_of old.spec.names old.history number (subst (λ (h : List Entry). IsFull old.spec.names h number) is (full_for old.spec.names (entries old) seat number (omega (arith, one, names_below old.spec.names)) e.3)) (omega (arith, number_is, calls-le old.history seat));
  same = same;
  closed = ap is_some now;
}
refused old new seat number r session.Turn idle one turn same (e, left, now) = absurd (e.1 turn)
refused old new seat number r session.Behind idle one turn same (e, left, now) = absurd (omega (arith, e.2))
refused old new seat number r (session.Journal x) idle one turn same fails = record { why = tt; same = same; closed = ap is_some fails.closed }
refused old new seat number r (session.Closed x) idle one turn same (e, left, now) = record { why = tt; same = same; closed = ap is_some (now ∙ e) }
refused old new seat number r session.Memory idle one turn same (e, left, now) = record { why = tt; same = same; closed = ap is_some now }
