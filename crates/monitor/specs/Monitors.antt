-- What a contract sees of a monitor and of a judgment.
use Rattle.std.specs.Prelude.{◌≡◌, ℕ, ◌<◌, Bool, Option, IfSome, is_some, List, [], ◌∷◌, ◌++◌, ◌↔◌, IsTrue, refl}
use Rattle.std.specs.Coded.{Coded, code_by, coded×, coded_list, coded_option, coded_bool, coded_ℕ}
use Rattle.alphabet.specs.declared.events.Event.{Event}
use Rattle.alphabet.specs.declared.events.Report.{Report}
use Rattle.alphabet.specs.declared.events.Report.TheVariants as report
use Rattle.alphabet.specs.contracts.events.Event as event_type
use Rattle.alphabet.specs.contracts.events.Report as report_type
use Rattle.term.specs.Proc.{Proc, bodies_of}
use Rattle.term.specs.Codes.{proc_code}
use Rattle.term.specs.Specs.{Specified, specified_code}
use Rattle.term.specs.Verdict.{Verdict}
use Rattle.spaces.specs.AfterFault.{AfterFault}
use Rattle.spaces.specs.AfterFault.TheVariants.{Memory}
use Rattle.spaces.specs.Limits.{EventMeets, EventMeetsNone}
use Rattle.spaces.specs.Spaces.{Spaced, Belongs}

-- A monitor: its specification, the events that it accepted, for how many further ones it has room, and the sets of states
-- that it has found, by number.
pub record Monitoring : Type 0 where
  pub spec : Specified
  pub trace : List Event
  pub room : ℕ
  pub sets : List (List Proc)

-- the monitor's space
abbrev pub space_of : Monitoring → Spaced
space_of m = record { spec = m.spec; sets = m.sets }

-- A judgment: the report, whether it is accepted, and the number of the set of states after an accepted event.
pub record Judgment : Type 0 where
  pub report : Report
  pub verdict : Bool
  pub next : Option ℕ

abbrev pub monitoring_code : Coded Monitoring
monitoring_code =
    code_by (Specified × (List Event × (ℕ × List (List Proc))))
    (coded× specified_code (coded× (coded_list event_type.the_row.coded) (coded× coded_ℕ (coded_list (coded_list proc_code)))))
    (λ m. (m.spec, (m.trace, (m.room, m.sets)))) (λ p. record { spec = p.0; trace = p.1.0; room = p.1.1.0; sets = p.1.1.1 }) (λ _. refl)

abbrev pub judgment_code : Coded Judgment
judgment_code =
    code_by (Report × (Bool × Option ℕ)) (coded× report_type.the_row.coded (coded× coded_bool (coded_option coded_ℕ))) (λ j. (j.report, (j.verdict, j.next))) (λ p. record { report = p.0; verdict = p.1.0; next = p.1.1 }) (λ _. refl)

-- An accepted event has a set of states, which belongs to the trace and the event; a rejected one has none. That of a refusal
-- doesn't matter.
abbrev pub Follows : Spaced → List Event → Report → Bool → Option ℕ → Type 0
Follows space u (report.Event x) verdict next = (verdict ≡ is_some next) × IfSome next (λ set. Belongs space set (u ++ x ∷ []))
Follows space u (report.Refusal X) verdict next = Unit {0}

-- The judgment of this report after the trace u: the verdict is that of the definition.
pub record IsJudgment (space : Spaced) (u : List Event) (r : Report) (judgment : Judgment) : Type 0 where
  pub report : judgment.report ≡ r
  pub verdict : IsTrue judgment.verdict ↔ Verdict (bodies_of space.spec.bodies) u r
  pub follows : Follows space u judgment.report judgment.verdict judgment.next

-- The judgment is of this monitor and its present trace, and there is room for one event more.
pub record IsOf (monitor : Monitoring) (judgment : Judgment) : Type 0 where
  pub verdict : IsTrue judgment.verdict ↔ Verdict (bodies_of monitor.spec.bodies) monitor.trace judgment.report
  pub follows : Follows (space_of monitor) monitor.trace judgment.report judgment.verdict judgment.next
  pub room : 0 < monitor.room

-- Judging the report after the trace u meets no limit; a refusal never does.
abbrev pub MeetsNone : Specified → List Event → Report → Type 0
MeetsNone spec u (report.Event x) = EventMeetsNone spec u x
MeetsNone spec u (report.Refusal X) = Unit {0}

-- Why the report can't be judged after the trace u: the limit that the event's levels meet, or out of memory, which
-- says nothing. A refusal meets no limit.
abbrev pub Stops : Specified → List Event → Report → AfterFault → Type 0
Stops spec u (report.Event x) fault = EventMeets spec u x fault
Stops spec u (report.Refusal X) fault = fault ≡ Memory
