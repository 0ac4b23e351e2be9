-- Steps by their labels.
use Rattle.std.specs.Prelude.{◌≡◌, ℕ}
use Rattle.alphabet.specs.declared.events.Event.TheVariants.{Tick as tick, Of as ev}
use Rattle.term.specs.Proc.{Proc, stop}
use Rattle.term.specs.Steps.{Act, Hid, Ticks}
use Rattle.targets.specs.declared.labels.Label.{Label}
use Rattle.targets.specs.declared.labels.Label.TheVariants as label

-- P has a step with this label to Q, where B has the bodies.
abbrev pub Step : (ℕ → Proc) → Proc → Label → Proc → Type 0
Step B P label.Tau Q = Hid B P Q
Step B P (label.Event tick) Q = Ticks P × (Q ≡ stop)
Step B P (label.Event (ev a)) Q = Act P a Q
