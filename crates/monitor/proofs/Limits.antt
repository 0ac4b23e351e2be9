-- What no limit and out of memory say, in each way of keeping names.
use Rattle.std.proofs.Common.{◌≡◌, ℕ, List, refl}
use Rattle.alphabet.specs.declared.events.Event.{Event}
use Rattle.alphabet.specs.declared.events.Report.{Report}
use Rattle.alphabet.specs.declared.events.Report.TheVariants as report
use Rattle.term.specs.Proc.{Proc, bodies_of}
use Rattle.term.specs.Specs.{Specified}
use Rattle.term.specs.declared.names.Names.{Names}
use Rattle.term.specs.declared.names.Names.TheVariants.{Steps, Bodies}
use Rattle.spaces.specs.AfterFault.{AfterFault}
use Rattle.spaces.specs.AfterFault.TheVariants.{Depth, States, Memory}
use Rattle.spaces.specs.Limits.{EventMeetsBy, EventMeetsNoneBy, OpeningMeets, OpeningMeetsBy, OpeningMeetsNone, OpeningMeetsNoneBy}
use Rattle.monitor.specs.Monitors.{MeetsNone, Stops}

-- ---- out of memory says nothing

event_memory_by : (names : Names) (B : ℕ → Proc) (n : ℕ) (u : List Event) (x : Event) → EventMeetsBy names B n u x Memory
event_memory_by Steps B n u x = tt
event_memory_by Bodies B n u x = tt

pub stops-memory : (spec : Specified) (u : List Event) (r : Report) → Stops spec u r Memory
stops-memory spec u (report.Event x) = event_memory_by spec.names (bodies_of spec.bodies) _ u x
stops-memory spec u (report.Refusal X) = refl

-- ---- what meets no limit is refused by memory alone

opening_by : (names : Names) (B : ℕ → Proc) (n : ℕ) (fault : AfterFault) → OpeningMeetsNoneBy names B n → OpeningMeetsBy names B n fault → fault ≡ Memory
opening_by Steps B n Depth below meets = absurd ((below meets.0).0 meets.1)
opening_by Steps B n States below meets = absurd ((below meets.0).1 meets.2)
opening_by Steps B n Memory below meets = refl
opening_by Bodies B n Depth below meets = absurd ((below meets.0).0 meets.1)
opening_by Bodies B n States below meets = absurd ((below meets.0).1 meets.1)
opening_by Bodies B n Memory below meets = refl

event_by : (names : Names) (B : ℕ → Proc) (n : ℕ) (u : List Event) (x : Event) (fault : AfterFault) → EventMeetsNoneBy names B n u x → EventMeetsBy names B n u x fault → fault ≡ Memory
event_by Steps B n u x Depth below meets = absurd ((below meets.0).0 meets.1)
event_by Steps B n u x States below meets = absurd ((below meets.0).1 meets.2)
event_by Steps B n u x Memory below meets = refl
event_by Bodies B n u x Depth below meets = absurd ((below meets.0).0 meets.1)
event_by Bodies B n u x States below meets = absurd ((below meets.0).1 meets.1)
event_by Bodies B n u x Memory below meets = refl

pub opening_refused : (spec : Specified) (fault : AfterFault) → OpeningMeetsNone spec → OpeningMeets spec fault → fault ≡ Memory
opening_refused spec fault below meets = opening_by spec.names (bodies_of spec.bodies) _ fault below meets

pub report_refused : (spec : Specified) (u : List Event) (said : Report) (fault : AfterFault) → MeetsNone spec u said → Stops spec u said fault → fault ≡ Memory
report_refused spec u (report.Event x) fault below stops = event_by spec.names (bodies_of spec.bodies) _ u x fault below stops
report_refused spec u (report.Refusal X) fault below stops = stops
