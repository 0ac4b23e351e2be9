-- What a report adds to the trace.
use Rattle.std.specs.Prelude.{Bool, true, false, List, [], ◌∷◌, ◌++◌}
use Rattle.alphabet.specs.declared.events.Event.{Event}
use Rattle.alphabet.specs.declared.events.Report.{Report}
use Rattle.alphabet.specs.declared.events.Report.TheVariants as report

-- The trace after a report that is accepted or not: an accepted event makes it longer, and nothing else does.
abbrev pub trace_after : List Event → Report → Bool → List Event
trace_after trace (report.Event a) true = trace ++ a ∷ []
trace_after trace (report.Event a) false = trace
trace_after trace (report.Refusal X) verdict = trace
