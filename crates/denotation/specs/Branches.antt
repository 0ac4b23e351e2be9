-- The first branch of a prefix, with the room that is left.
use Rattle.std.specs.Prelude.{ℕ, List, Option, Some, None}
use Rattle.alphabet.specs.Channels.{Parts}
use Rattle.values.specs.Values.{◌>>=◌}
use Rattle.event_phrases.specs.Fitting.{Fitting}
use Rattle.event_phrases.specs.Leading.{Fit, first_fit}
use Rattle.event_phrases.specs.Scopes.{Scope}
use Rattle.denotation.specs.Bodies.{Body, prefix}
use Rattle.denotation.specs.Rooms.{fits}

-- a branch with the number of its event and the events after that one, if there is a branch
abbrev pub Branch : Type 0
Branch = Option (ℕ × Body × List Parts) × ℕ

abbrev pub branch_of : (Scope → Option Body) → ℕ → Option Fit → Option Branch
branch_of next room None = Some (None, room)
branch_of next room (Some f) = fits room (next f.1 >>= λ p. Some (prefix f.0 p)) >>= λ q. Some (Some (f.0, q.0, f.2), q.1)

-- the first branch of these events, where a is the first one's number
abbrev pub first_branch : (Parts → Fitting) → (Scope → Option Body) → ℕ → List Parts → ℕ → Option Branch
first_branch test next a ps room = first_fit test a ps >>= branch_of next room
