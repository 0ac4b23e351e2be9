-- What a file in memory keeps.
use Rattle.std.specs.Prelude.{ℕ, List}
use Rattle.memory_disks.specs.declared.crash.Call.{Call}
use Rattle.file_disk.specs.declared.memory.MemoryFile.{MemoryFile}

-- its bytes
abbrev pub bytes_of : {A : Type 0} → MemoryFile A → List ℕ
bytes_of f = f.bytes.items

-- its calls that change it or sync it, the oldest first
abbrev pub calls_of : {A : Type 0} → MemoryFile A → List (Call A)
calls_of f = f.calls.items
