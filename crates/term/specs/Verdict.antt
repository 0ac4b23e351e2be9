-- What is accepted after a trace.
use Rattle.std.specs.Prelude.{ℕ, List, [], ◌∷◌, ◌++◌}
use Rattle.term.specs.Events.{Event}
use Rattle.alphabet.specs.EventSets.{member}
use Rattle.alphabet.specs.declared.events.Report.{Report}
use Rattle.alphabet.specs.declared.events.Report.TheVariants as report
use Rattle.term.specs.Proc.{Proc, root}
use Rattle.term.specs.Meaning.{Trace, Failure}

-- After the trace u, an event is accepted where u followed by it is a trace of the root, and a refusal where u with it
-- is a failure of the root.
abbrev pub Verdict : (ℕ → Proc) → List Event → Report → Type 0
Verdict B u (report.Event x) = Trace B root (u ++ x ∷ [])
Verdict B u (report.Refusal X) = Failure B root u (member X)
