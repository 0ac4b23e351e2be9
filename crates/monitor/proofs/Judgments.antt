-- What is judged of a report after a trace.
use Rattle.std.proofs.Common.{◌≡◌, ℕ, ◌<◌, Bool, Option, Some, None, is_some, IfSome, IfNone, List, [], ◌∷◌, ◌++◌, refl, sym, subst, ◌↔◌, IsTrue, IfOk, Result, Ok, Err}
use Rattle.alphabet.specs.declared.events.Event.{Event}
use Rattle.alphabet.specs.declared.events.Report.{Report}
use Rattle.alphabet.specs.declared.events.Report.TheVariants as report
use Rattle.term.specs.Proc.{Proc, bodies_of, root}
use Rattle.term.specs.Meaning.{Trace}
use Rattle.term.specs.Specs.{Specified}
use Rattle.term.specs.Verdict.{Verdict}
use Rattle.spaces.specs.Spaces.{Spaced, Belongs, GrewFrom}
use Rattle.monitor.specs.Monitors.{Monitoring, Judgment, Follows, IsJudgment, IsOf, space_of}
use Rattle.monitor.specs.TraceAfter.{trace_after}

-- an event is accepted where there are states after it
pub judged-event : (s t : Spaced) (u : List Event) (x : Event) (v : Bool) (next : Option ℕ) → GrewFrom s t → v ≡ is_some next
    → IfNone next (Trace (bodies_of s.spec.bodies) root (u ++ x ∷ []) → ⊥) → IfSome next (λ set. Trace (bodies_of s.spec.bodies) root (u ++ x ∷ []) × Belongs t set (u ++ x ∷ []))
    → IsJudgment t u (report.Event x) (record { report = report.Event x; verdict = v; next = next })
judged-event s t u x v (Some set) g f none some =
    record {
      report = refl;
      verdict = ((λ _. subst (λ (w : Specified). Trace (bodies_of w.bodies) root (u ++ x ∷ [])) (sym g.spec) some.0), (λ _. f));
      follows = (f, some.1);
    }
judged-event s t u x v None g f none some =
    record {
      report = refl;
      verdict = ((λ k. absurd (cc (k, f))), (λ k. absurd (none (subst (λ (w : Specified). Trace (bodies_of w.bodies) root (u ++ x ∷ [])) g.spec k))));
      follows = (f, tt);
    }

-- the states after an accepted event belong to the longer trace
pub follows-event : (s : Spaced) (u : List Event) (r : Report) (v : Bool) (next : Option ℕ) (x : Event) (set : ℕ) → Follows s u r v next → r ≡ report.Event x → next ≡ Some set → Belongs s set (u ++ x ∷ [])
follows-event s u r v next x set f e n =
    let k : Follows s u (report.Event x) v (Some set) = subst (λ w. Follows s u (report.Event x) v w) n (subst (λ w. Follows s u w v next) e f) in
    k.1

pub if-ok : {A E : Type 0} (P Q : A → Type 0) (o : Result A E) → ((a : A) → P a → Q a) → IfOk o P → IfOk o Q
if-ok P Q (Ok a) h p = h a p
if-ok P Q (Err e) h p = tt

-- a judgment is of each monitor with this space, this trace and room for one event more
pub judgment-of : (s : Spaced) (u : List Event) (r : Report) (m : Monitoring) → space_of m ≡ s → m.trace ≡ u → 0 < m.room → (j : Judgment) → IsJudgment s u r j → IsOf m j
judgment-of s u r m e f h j k =
    record {
      verdict = subst (λ (w : Spaced). IsTrue j.verdict ↔ Verdict (bodies_of w.spec.bodies) m.trace j.report) (sym e)
          (subst (λ w. IsTrue j.verdict ↔ Verdict (bodies_of s.spec.bodies) w j.report) (sym f)
          (subst (λ w. IsTrue j.verdict ↔ Verdict (bodies_of s.spec.bodies) u w) (sym k.report) k.verdict));
      follows = subst (λ w. Follows w m.trace j.report j.verdict j.next) (sym e) (subst (λ w. Follows s w j.report j.verdict j.next) (sym f) k.follows);
      room = h;
    }

-- an event with states after it makes the trace longer
pub trace-longer : (s : Spaced) (u : List Event) (r : Report) (v : Bool) (next : Option ℕ) (x : Event) (set : ℕ) → Follows s u r v next → r ≡ report.Event x → next ≡ Some set → trace_after u r v ≡ u ++ x ∷ []
trace-longer s u r v next x set f e n =
    let k : Follows s u (report.Event x) v (Some set) = subst (λ w. Follows s u (report.Event x) v w) n (subst (λ w. Follows s u w v next) e f) in
    subst (λ w. trace_after u w v ≡ u ++ x ∷ []) (sym e) (subst (λ b. trace_after u (report.Event x) b ≡ u ++ x ∷ []) (sym k.0) refl)

-- a refusal leaves the trace
pub trace-refused : (u : List Event) (r : Report) (v : Bool) (event : Option Event) → ((x : Event) → (r ≡ report.Event x) ↔ (event ≡ Some x)) → ((x : Event) → event ≡ Some x → ⊥) → trace_after u r v ≡ u
trace-refused u (report.Event x) v event is none = absurd (none x ((is x).0 refl))
trace-refused u (report.Refusal X) v event is none = refl
