-- What a device shows of itself: a disk, which has one file, or a folder, which has files in order.
use Rattle.std.specs.Prelude.{ℕ, ◌≤◌, Bool, IsTrue, false, List}

-- `F` is what it holds: the bytes of a file, or those of each file. A clause on the bytes stands under `claims_bytes`, a
-- clause on a crash under `claims_files`. The count of failures is true of every device.
pub record DeviceState (F : Type 0) : Type 1 where
  pub claims_bytes : Bool
  pub claims_files : Bool
  -- what reads give
  pub bytes : F
  -- what a crash now may leave
  pub leaves : F → Type 0
  -- the present time, as a number that doesn't fall
  pub moment : ℕ
  -- what a crash at some moment from that time on, up to now, may have left
  pub left_since : ℕ → F → Type 0
  -- how often the device has failed
  pub failures : ℕ
  -- what reads give is one of those that a crash may leave
  pub as_read : IsTrue claims_bytes → IsTrue claims_files → leaves bytes
  -- the present moment is one of those since an earlier time
  pub counts_now : IsTrue claims_files → (t : ℕ) (c : F) → t ≤ moment → leaves c → left_since t c
  -- since the present moment there is no other
  pub only_now : IsTrue claims_files → (c : F) → left_since moment c → leaves c

-- of a disk: the bytes of its file
abbrev pub DiskState : Type 1
DiskState = DeviceState (List ℕ)

-- of a folder: the bytes of each of its files, in their order
abbrev pub FolderState : Type 1
FolderState = DeviceState (List (List ℕ))

-- a device that says nothing of a crash, and of what it holds only where it claims that
abbrev pub silent_on_crashes : {F : Type 0} → Bool → F → ℕ → DeviceState F
silent_on_crashes claims bytes failures = record {
  claims_bytes = claims;
  claims_files = false;
  bytes = bytes;
  leaves = λ c. Unit {0};
  moment = 0;
  left_since = λ t c. Unit {0};
  failures = failures;
  as_read = λ b f. tt;
  counts_now = λ f t c le left. tt;
  only_now = λ f c left. tt;
}

-- a disk that says nothing of a crash, and of its bytes only where it claims them
abbrev pub of_bytes : Bool → List ℕ → ℕ → DiskState
of_bytes claims bytes failures = silent_on_crashes claims bytes failures
