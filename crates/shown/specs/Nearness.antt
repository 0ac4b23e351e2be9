-- How near an event is to another, by their names.
use Rattle.std.specs.Prelude.{ℕ, Bool, ◌==◌, cond, List, ◌++◌, filter, get_or, drop, nat_eq}
use Rattle.std.specs.List.{list_any, slice_split}
use Rattle.std.specs.Cmp.Lexicographic.{pointwise}
use Rattle.alphabet.specs.declared.events.Event.{Event}
use Rattle.alphabet.specs.Channels.{Channel, name_of}

-- what stands between the dots of a name: its channel, and then each value
abbrev pub parts : List ℕ → List (List ℕ)
parts name = slice_split (λ b. b == 46) name

abbrev pub channel_part : List ℕ → List ℕ
channel_part name = get_or (parts name) 0 name

abbrev pub value_parts : List ℕ → List (List ℕ)
value_parts name = drop 1 (parts name)

-- whether two texts are the same
abbrev pub is_same : List ℕ → List ℕ → Bool
is_same a b = pointwise nat_eq a b

-- whether a part is one of these
abbrev pub has_part : List (List ℕ) → List ℕ → Bool
has_part ps p = list_any (is_same p) ps

-- whether two names have a value in common
abbrev pub shares_value : List ℕ → List ℕ → Bool
shares_value a b = list_any (has_part (value_parts b)) (value_parts a)

-- 0 where both names are of one channel, 1 where they share a value, else 2
abbrev pub nearness : List ℕ → List ℕ → ℕ
nearness a b = cond (is_same (channel_part a) (channel_part b)) 0 (cond (shares_value a b) 1 2)

-- the events that are so near to one with this name
abbrev pub so_near : List Channel → List ℕ → ℕ → List Event → List Event
so_near cs name n xs = filter (λ x. nearness name (name_of cs x) == n) xs

-- the events, the nearest first: those of the channel, then those that share a value, then the others
abbrev pub nearest_first : List Channel → List ℕ → List Event → List Event
nearest_first cs name xs = so_near cs name 0 xs ++ so_near cs name 1 xs ++ so_near cs name 2 xs
