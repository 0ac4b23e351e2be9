-- What disks in memory show of themselves.
use Rattle.std.specs.Prelude.{ℕ, List}
use Rattle.memory_disks.specs.declared.memory.MemoryDisk.{MemoryDisk}
use Rattle.memory_disks.specs.declared.fault.Afterwards.{Afterwards}
use Rattle.memory_disks.specs.declared.fault.FaultDisk.{FaultDisk}

abbrev pub memory_bytes : {A : Type 0} → MemoryDisk A → List ℕ
memory_bytes m = m.bytes.items

abbrev pub fault_bytes : {A : Type 0} → FaultDisk A → List ℕ
fault_bytes d = d.inner.bytes.items

-- how many calls it is to the one that fails, itself counted; none fails at 0
abbrev pub calls_to_fault : {A : Type 0} → FaultDisk A → ℕ
calls_to_fault d = d.left

-- what the calls after it do
abbrev pub afterwards_of : {A : Type 0} → FaultDisk A → Afterwards
afterwards_of d = d.afterwards
