-- What steps keep: a target lies in the specification, and an event leads to no greater depth.
use Rattle.std.proofs.Common.{ℕ, ◌<◌, ◌≤◌, length, subst, sym}
use Rattle.std.proofs.lemmas.List.Elements.{All-get_or}
use Rattle.alphabet.specs.declared.events.Event.{Event}
use Rattle.alphabet.specs.declared.events.Event.TheVariants.{Tick as tick, Of as ev}
use Rattle.alphabet.specs.Channels.{event_count}
use Rattle.term.specs.Proc.{Proc, bodies_of, stop}
use Rattle.term.specs.Sizes.{depth}
use Rattle.term.specs.Specs.{Specified, LiesIn, IsProcessOf, IsClosed}
use Rattle.term.proofs.Closed.{act-lies, hid-lies}
use Rattle.targets.specs.declared.labels.Label.{Label}
use Rattle.targets.specs.declared.labels.Label.TheVariants as label
use Rattle.targets.specs.Labels.{Step}
use Rattle.targets.proofs.Depths.{act-depth, depth-positive}

-- a step with an event, or with tick, leads to no greater depth
pub event-depth : (B : ℕ → Proc) (P Q : Proc) (x : Event) → Step B P (label.Event x) Q → depth Q ≤ depth P
event-depth B P Q tick d = subst (λ R. depth R ≤ depth P) (sym d.1) (depth-positive P)
event-depth B P Q (ev a) d = act-depth d

bodies-lie : (s : Specified) → IsClosed s → (k : ℕ) → k < length s.bodies → LiesIn (event_count s.alphabet) (length s.bodies) (bodies_of s.bodies k)
bodies-lie s c k h = All-get_or (IsProcessOf s) s.bodies k stop h c.1

-- a step stays in the specification
pub step-lies : (s : Specified) → IsClosed s → (P Q : Proc) (l : Label) → Step (bodies_of s.bodies) P l Q → IsProcessOf s P → IsProcessOf s Q
step-lies s c P Q label.Tau d h = hid-lies (event_count s.alphabet) (length s.bodies) (bodies_of s.bodies) (bodies-lie s c) d h
step-lies s c P Q (label.Event tick) d h = subst (IsProcessOf s) (sym d.1) tt
step-lies s c P Q (label.Event (ev a)) d h = act-lies (event_count s.alphabet) (length s.bodies) d h
