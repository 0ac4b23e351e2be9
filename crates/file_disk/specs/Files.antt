-- What is inside a disk on a file.
use Rattle.std.specs.Prelude.{ℕ}
use Rattle.disk.specs.State.{DeviceState, DiskState}
use Rattle.file_disk.specs.declared.FileDisk.{FileDisk}
use Rattle.file_disk.specs.declared.folder.FileFolder.{FileFolder}

abbrev pub file_of : {F : Type 0} → FileDisk F → F
file_of disk = disk.file

-- how often it has failed
abbrev pub failures_of : {F : Type 0} → FileDisk F → ℕ
failures_of disk = disk.failures.n

-- how often a folder has failed
abbrev pub folder_failures_of : {S A : Type 0} → FileFolder S A → ℕ
folder_failures_of folder = folder.failures.n

-- the same device, which has failed so often
abbrev pub counting : DiskState → ℕ → DiskState
counting s failures = record {
  claims_bytes = s.claims_bytes;
  claims_files = s.claims_files;
  bytes = s.bytes;
  leaves = s.leaves;
  moment = s.moment;
  left_since = s.left_since;
  failures = failures;
  as_read = s.as_read;
  counts_now = s.counts_now;
  only_now = s.only_now;
}

-- what a crash might have left it may leave still
abbrev pub MayLeaveStill : {F : Type 0} → DeviceState F → DeviceState F → Type 0
MayLeaveStill {F} old new = (c : F) → old.leaves c → new.leaves c
