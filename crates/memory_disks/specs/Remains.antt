-- What a crash leaves where each call that no sync has followed is done in one and the same part.
use Rattle.std.specs.Prelude.{◌≡◌, ℕ, ◌+◌, ◌-◌, List, [], ◌∷◌, ◌++◌, length, take, replicate, nat_le, if◌then◌else◌}
use Rattle.disk.specs.Calls.{overwritten}
use Rattle.memory_disks.specs.declared.crash.Call.{Call}
use Rattle.memory_disks.specs.declared.crash.Call.TheVariants.{Write, Cut, Sync}
use Rattle.memory_disks.specs.declared.crash.Part.{Part}
use Rattle.memory_disks.specs.declared.crash.Part.TheVariants.{Nothing, Everything, FirstByte, Plus}
use Rattle.memory_disks.specs.Replay.{Image, Reaches}

-- the bytes that this part of a write puts in place of what was there
abbrev pub part_of : Part → List ℕ → List ℕ
part_of Nothing bytes = []
part_of Everything bytes = bytes
part_of FirstByte bytes = take 1 bytes
part_of Plus bytes = replicate (length bytes) 43

-- the file after this part of a write, which does nothing past the file's end
abbrev pub written_in : Part → ℕ → List ℕ → List ℕ → List ℕ
written_in part at bytes old = if nat_le at (length old) then overwritten at (part_of part bytes) old else old

-- the file after this part of a cut
abbrev pub cut_in : Part → ℕ → List ℕ → List ℕ
cut_in Nothing len old = old
cut_in Everything len old = take len old
cut_in FirstByte len old = take (len + 1) old
cut_in Plus len old = take len old ++ replicate (length old - len) 43

abbrev pub done_in : {A : Type 0} → Part → Call A → List ℕ → List ℕ
done_in part (Write at bytes) old = written_in part at bytes.items old
done_in part (Cut len) old = cut_in part len old
done_in part Sync old = old

-- what is left of a file by these calls, the newest first
abbrev pub remains : {A : Type 0} → Part → List ℕ → List (Call A) → List ℕ
remains part durable [] = durable
remains part durable (call ∷ earlier) = done_in part call (remains part durable earlier)

-- the first list is the file as it reads, the second one what this part of the unsynced calls leaves of it
pub record IsBoth {A : Type 0} (part : Part) (m : Image A) (written left : List ℕ) : Type 0 where
  pub reads : written ≡ m.bytes
  pub reached : Reaches m.durable m.pending left
  pub exact : left ≡ remains part m.durable m.pending
