-- What a specification is: its alphabet, its bodies by number, and how sets of states keep names.
use Rattle.std.specs.Prelude.{ℕ, ◌<◌, List, length, IsTrue}
use Rattle.std.specs.List.{All}
use Rattle.std.specs.Coded.{Coded, code_by, coded×, coded_list}
use Rattle.std.proofs.Common.{refl}
use Rattle.term.specs.Events.{Event, tick, ev}
use Rattle.alphabet.specs.Channels.{Channel, event_count}
use Rattle.alphabet.specs.EventSets.{Set, member}
use Rattle.term.specs.Traces.{Pairs}
use Rattle.term.specs.Proc.{Proc, stop, skip, prefix, ext, int, seq, par, hide, ren, intr, name}
use Rattle.term.specs.Codes.{proc_code, channel_code}
use Rattle.term.specs.declared.names.Names.{Names}
use Rattle.term.specs.contracts.names.Names as names_type

-- A specification: the channels of its alphabet, its bodies by number, and how sets of states keep names. Its traces and failures
-- are those of its alphabet and bodies.
pub record Specified : Type 0 where
  pub alphabet : List Channel
  pub bodies : List Proc
  pub names : Names

abbrev pub specified_code : Coded Specified
specified_code =
    code_by (List Channel × (List Proc × Names)) (coded× (coded_list channel_code) (coded× (coded_list proc_code) names_type.the_row.coded)) (λ s. (s.alphabet, (s.bodies, s.names))) (λ p. record { alphabet = p.0; bodies = p.1.0; names = p.1.1 }) (λ _. refl)

-- The event is one of the first n: an event of Sigma, where Sigma has n events. Tick isn't one.
abbrev pub InSigma : ℕ → Event → Type 0
InSigma n tick = ⊥
InSigma n (ev a) = a < n

-- All of the set lies in Sigma.
abbrev pub SetInSigma : ℕ → Set → Type 0
SetInSigma n A = (x : Event) → IsTrue (member A x) → InSigma n x

-- Both sides of each pair lie in Sigma.
abbrev pub PairsInSigma : ℕ → Pairs → Type 0
PairsInSigma n R = All (λ p. (p.0 < n) × (p.1 < n)) R

-- Every event, set and pair of the process lies in Sigma, which has n events, and every name is that of one of m bodies.
abbrev pub LiesIn : ℕ → ℕ → Proc → Type 0
LiesIn n m stop = Unit {0}
LiesIn n m skip = Unit {0}
LiesIn n m (prefix a P) = (a < n) × LiesIn n m P
LiesIn n m (ext P Q) = LiesIn n m P × LiesIn n m Q
LiesIn n m (int P Q) = LiesIn n m P × LiesIn n m Q
LiesIn n m (seq P Q) = LiesIn n m P × LiesIn n m Q
LiesIn n m (par A P Q) = SetInSigma n A × LiesIn n m P × LiesIn n m Q
LiesIn n m (hide A P) = SetInSigma n A × LiesIn n m P
LiesIn n m (ren R P) = PairsInSigma n R × LiesIn n m P
LiesIn n m (intr P Q) = LiesIn n m P × LiesIn n m Q
LiesIn n m (name k) = k < m

-- The process is one of the specification's: it lies in its Sigma, and its names have bodies.
abbrev pub IsProcessOf : Specified → Proc → Type 0
IsProcessOf s P = LiesIn (event_count s.alphabet) (length s.bodies) P

-- The specification is closed: there is a body for the root, and each body is one of its processes.
abbrev pub IsClosed : Specified → Type 0
IsClosed s = (0 < length s.bodies) × All (IsProcessOf s) s.bodies
