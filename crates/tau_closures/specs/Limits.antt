-- When an opening and an event meet a limit, by how the specification keeps names. These definitions say when a fault comes, and
-- have no part in what is a trace or a failure. All of them are this project's own.
use Rattle.std.specs.Prelude.{ℕ, List}
use Rattle.alphabet.specs.declared.events.Event.{Event}
use Rattle.term.specs.declared.names.Names.{Names}
use Rattle.term.specs.declared.names.Names.TheVariants.{Steps, Bodies}
use Rattle.term.specs.Limits.{Terms, Opening, Advance, NoLimit}
use Rattle.term.specs.Proc.{Proc, bodies_of, root}
use Rattle.term.specs.Specs.{Specified}
use Rattle.tau_closures.specs.declared.fault.AfterFault.{AfterFault}
use Rattle.tau_closures.specs.declared.fault.AfterFault.TheVariants.{Depth, States, Memory}
use Rattle.tau_closures.specs.Belonging.{MeetsLimit}
use Rattle.unfolding.specs.Kept.{HasBroadBy, IsKeptDepth, IsKeptStates, KeptAdvance, KeptAfter, KeptOpening, NoKeptLimit, unfolding_depth}

-- What a fault says of the levels that begin with L, where names are replaced n deep, and M says that a step to level 0 is broad.
abbrev pub MeetsKeptLimit : (ℕ → Proc) → ℕ → Terms → Type 0 → AfterFault → Type 0
MeetsKeptLimit B n L M Depth = IsKeptDepth B n L M
MeetsKeptLimit B n L M States = IsKeptStates B n L M
MeetsKeptLimit B n L M Memory = Unit {0}

-- What a fault says of the opening, where B has the bodies of the names, and names are replaced n deep if at all.
abbrev pub OpeningMeetsBy : Names → (ℕ → Proc) → ℕ → AfterFault → Type 0
OpeningMeetsBy Steps B n fault = MeetsLimit B Opening fault
OpeningMeetsBy Bodies B n fault = MeetsKeptLimit B n (KeptOpening B n) ⊥ fault

-- The same of the event x after the trace u.
abbrev pub EventMeetsBy : Names → (ℕ → Proc) → ℕ → List Event → Event → AfterFault → Type 0
EventMeetsBy Steps B n u x fault = MeetsLimit B (Advance B u x) fault
EventMeetsBy Bodies B n u x fault = MeetsKeptLimit B n (KeptAdvance B n u x) (HasBroadBy (KeptAfter B n root u) x) fault

-- The opening meets no limit.
abbrev pub OpeningMeetsNoneBy : Names → (ℕ → Proc) → ℕ → Type 0
OpeningMeetsNoneBy Steps B n = NoLimit B Opening
OpeningMeetsNoneBy Bodies B n = NoKeptLimit B n (KeptOpening B n) ⊥

-- The event x after the trace u meets no limit.
abbrev pub EventMeetsNoneBy : Names → (ℕ → Proc) → ℕ → List Event → Event → Type 0
EventMeetsNoneBy Steps B n u x = NoLimit B (Advance B u x)
EventMeetsNoneBy Bodies B n u x = NoKeptLimit B n (KeptAdvance B n u x) (HasBroadBy (KeptAfter B n root u) x)

-- The four of a specification.
abbrev pub OpeningMeets : Specified → AfterFault → Type 0
OpeningMeets spec fault = OpeningMeetsBy spec.names (bodies_of spec.bodies) (unfolding_depth spec) fault

abbrev pub EventMeets : Specified → List Event → Event → AfterFault → Type 0
EventMeets spec u x fault = EventMeetsBy spec.names (bodies_of spec.bodies) (unfolding_depth spec) u x fault

abbrev pub OpeningMeetsNone : Specified → Type 0
OpeningMeetsNone spec = OpeningMeetsNoneBy spec.names (bodies_of spec.bodies) (unfolding_depth spec)

abbrev pub EventMeetsNone : Specified → List Event → Event → Type 0
EventMeetsNone spec u x = EventMeetsNoneBy spec.names (bodies_of spec.bodies) (unfolding_depth spec) u x
