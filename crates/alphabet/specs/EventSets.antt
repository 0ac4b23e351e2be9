-- Sets of events.
use Rattle.std.specs.Prelude.{◌≡◌, ℕ, suc, ◌<◌, Bool, true, false, cond, nat_eq, List, [], ◌∷◌, ◌++◌, map, filter}
use Rattle.std.specs.List.{range_with_len}
use Rattle.std.specs.Int.{bit_at}
use Rattle.alphabet.specs.Events.{Event, tick, ev}

-- a set of events and tick, as a number: the lowest bit is tick's, and bit a + 1 is that of event a
abbrev pub Set : Type 0
Set = ℕ

-- whether the event with this number is in the set
abbrev pub has : Set → ℕ → Bool
has A a = nat_eq (bit_at A (suc a)) 1

-- whether the set has this event, or tick
abbrev pub member : Set → Event → Bool
member A tick = nat_eq (bit_at A 0) 1
member A (ev a) = has A a

-- the members in alphabet order: the events with numbers below n, and then tick
unfoldable pub members_below : ℕ → Set → List Event
members_below n A = map ev (filter (has A) (range_with_len 0 n)) ++ cond (member A tick) (tick ∷ []) []

-- all members in alphabet order
abbrev pub members : Set → List Event
members A = members_below 256 A

-- this is the first of the members
abbrev pub IsFirst : Set → Event → Type 0
IsFirst A tick = (member A tick ≡ true) × ((a : ℕ) → has A a ≡ false)
IsFirst A (ev k) = (k < 256) × (has A k ≡ true) × ((a : ℕ) → a < k → has A a ≡ false)
