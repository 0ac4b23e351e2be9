-- What one call of a disk does to its file, and to the files that a crash may leave.
use Rattle.std.specs.Prelude.{◌≡◌, ◌⊎◌, ℕ, ◌+◌, ◌<◌, ◌≤◌, List, [], ◌∷◌, ◌++◌, length, take, drop, Result, IsErr}
use Rattle.disk.specs.State.{DeviceState}

-- the old file, with these bytes at this place
abbrev pub overwritten : ℕ → List ℕ → List ℕ → List ℕ
overwritten at bytes old = take at old ++ bytes ++ drop (at + length bytes) old

-- A write of n bytes of which any part was done: any bytes in the written range and past the old end, all others stay.
pub record Torn (at n : ℕ) (old new : List ℕ) : Type 0 where
  pub over : List ℕ
  pub more : List ℕ
  pub fits : length over ≡ length (take n (drop at old))
  pub is : new ≡ take at old ++ over ++ drop (at + n) old ++ more

-- A cut of which any part was done: after it come any bytes or none.
pub record CutShort (len : ℕ) (old new : List ℕ) : Type 0 where
  pub more : List ℕ
  pub is : new ≡ take len old ++ more

-- what a crash may leave now is what it might have left before, after this step
abbrev pub Follows : {F : Type 0} → (F → F → Type 0) → DeviceState F → DeviceState F → Type 0
Follows {F} step old new = (c : F) → new.leaves c → (d : F) × old.leaves d × step d c

-- a crash leaves nothing that it might not have left before
abbrev pub AddsNone : {F : Type 0} → DeviceState F → DeviceState F → Type 0
AddsNone {F} old new = (c : F) → new.leaves c → old.leaves c

-- a crash leaves what a read gives, and nothing else
abbrev pub IsDurable : {F : Type 0} → DeviceState F → Type 0
IsDurable {F} s = (c : F) → s.leaves c → c ≡ s.bytes

-- Time goes on by one call: a crash since t may have left what it might have left before, or what it may leave now.
pub record Elapses {F : Type 0} (old new : DeviceState F) : Type 0 where
  pub later : old.moment ≤ new.moment
  pub nothing_else : (t : ℕ) (c : F) → t ≤ old.moment → new.left_since t c → old.left_since t c ⊎ new.leaves c
  pub keeps : (t : ℕ) (c : F) → t ≤ old.moment → old.left_since t c → new.left_since t c

-- what any number of calls keeps: the claims, both ways, and the count of failures, which doesn't fall
pub record Continues {F : Type 0} (old new : DeviceState F) : Type 0 where
  pub bytes_claim : new.claims_bytes ≡ old.claims_bytes
  pub files_claim : new.claims_files ≡ old.claims_files
  pub counted : old.failures ≤ new.failures

-- an error comes only where the device has failed in between
abbrev pub HasCause : {F T E : Type 0} → DeviceState F → DeviceState F → Result T E → Type 0
HasCause old new result = IsErr result → old.failures < new.failures

-- this step of the last file, where all others stay
pub record OnLast (step : List ℕ → List ℕ → Type 0) (old new : List (List ℕ)) : Type 0 where
  pub earlier : List (List ℕ)
  pub last : List ℕ
  pub then : List ℕ
  pub old_is : old ≡ earlier ++ last ∷ []
  pub new_is : new ≡ earlier ++ then ∷ []
  pub stepped : step last then

-- A file with these bytes is begun after the first so many, in place of all others, of which any part was done: all is as before, or the
-- others are gone, or a beginning of the bytes is there.
abbrev pub BegunIn : ℕ → List ℕ → List (List ℕ) → List (List ℕ) → Type 0
BegunIn kept bytes old new = (new ≡ old) ⊎ ((new ≡ take kept old) ⊎ ((part : List ℕ) × (rest : List ℕ) × (bytes ≡ part ++ rest) × (new ≡ take kept old ++ part ∷ [])))
