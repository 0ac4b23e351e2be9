-- What a disk keeps that keeps its calls.
use Rattle.std.specs.Prelude.{ℕ, List}
use Rattle.memory_disks.specs.declared.crash.Call.{Call}
use Rattle.memory_disks.specs.declared.crash.CrashDisk.{CrashDisk}

-- the bytes that it began with
abbrev pub first_bytes : {A : Type 0} → CrashDisk A → List ℕ
first_bytes d = d.first.items

-- its calls that change the file or sync it, the oldest first
abbrev pub calls_of : {A : Type 0} → CrashDisk A → List (Call A)
calls_of d = d.calls.items
