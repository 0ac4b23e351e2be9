-- What an alphabet's tables hold.
use Rattle.std.specs.Prelude.{◌≡◌, ℕ, ◌+◌, List, [], ◌∷◌, map, length}
use Rattle.std.specs.declared.vec.Vec.{Vec}
use Rattle.alphabet.specs.declared.field_value.Value.{Value}
use Rattle.alphabet.specs.Channels.{Channel, names, choices, IsAlphabet}
use Rattle.alphabet.specs.Stored.{channel_of}

-- the channels of the entries
abbrev pub declared_channels : {A : Type 0} → List (Vec ℕ A × Vec (Vec (Value A) A) A) → List Channel
declared_channels = map (λ e. channel_of e.0.items e.1.items)

-- the bytes of the keys
abbrev pub stored_names : {A : Type 0} → List (Vec ℕ A) → List (List ℕ)
stored_names = map (λ key. key.items)

-- the number of each channel's first event, where n events stand before them; that of the next event where a channel has none
abbrev pub first_numbers : ℕ → List Channel → List ℕ
first_numbers n [] = []
first_numbers n (c ∷ cs) = n ∷ first_numbers (n + length (choices c.fields)) cs

-- the tables have the names of the channels' events, and where each channel begins
pub record HasTables (cs : List Channel) (stored : List (List ℕ)) (firsts : List ℕ) : Type 0 where
  pub listed : stored ≡ names cs
  pub begun : firsts ≡ first_numbers 0 cs
  pub sound : IsAlphabet cs
