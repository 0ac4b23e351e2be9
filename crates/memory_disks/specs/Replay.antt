-- A disk that keeps its calls: what reads give at each moment, and what a crash then may leave.
use Rattle.std.specs.Prelude.{◌≡◌, ◌⊎◌, ℕ, ◌≤◌, true, List, [], ◌∷◌, length, take, refl}
use Rattle.std.proofs.Common.{inl, arith, take_all, subst, sym}
use Rattle.disk.specs.State.{DiskState}
use Rattle.disk.specs.Calls.{Torn, CutShort, overwritten}
use Rattle.memory_disks.specs.declared.crash.Call.{Call}
use Rattle.memory_disks.specs.declared.crash.Call.TheVariants.{Write, Cut, Sync}

-- a file at some moment: as it reads, as the last sync left it, and the calls since then, the newest first
pub record Image (A : Type 0) : Type 0 where
  pub bytes : List ℕ
  pub durable : List ℕ
  pub pending : List (Call A)

abbrev pub after_call : {A : Type 0} → Image A → Call A → Image A
after_call m (Write at bytes) = record { bytes = overwritten at bytes.items m.bytes; durable = m.durable; pending = Write at bytes ∷ m.pending }
after_call m (Cut len) = record { bytes = take len m.bytes; durable = m.durable; pending = Cut len ∷ m.pending }
after_call m Sync = record { bytes = m.bytes; durable = m.bytes; pending = [] }

abbrev pub replay : {A : Type 0} → Image A → List (Call A) → Image A
replay m [] = m
replay m (call ∷ calls) = replay (after_call m call) calls

-- what a crash may make of a call that no sync has followed
abbrev pub Takes : {A : Type 0} → Call A → List ℕ → List ℕ → Type 0
Takes (Write at bytes) old new = Torn at (length bytes.items) old new
Takes (Cut len) old new = CutShort len old new
Takes Sync old new = ⊥

-- the files that a crash makes of these calls, each done in any part
abbrev pub Reaches : {A : Type 0} → List ℕ → List (Call A) → List ℕ → Type 0
Reaches durable [] c = c ≡ durable
Reaches durable (call ∷ earlier) c = (d : List ℕ) × Reaches durable earlier d × Takes call d c

abbrev pub Leaves : {A : Type 0} → Image A → List ℕ → Type 0
Leaves m c = (c ≡ m.bytes) ⊎ Reaches m.durable m.pending c

-- all of it is on the disk
abbrev pub start : {A : Type 0} → List ℕ → Image A
start bytes = record { bytes = bytes; durable = bytes; pending = [] }

-- the file after the first so many calls
abbrev pub image_at : {A : Type 0} → List ℕ → List (Call A) → ℕ → Image A
image_at first calls k = replay (start first) (take k calls)

abbrev pub LeftSince : {A : Type 0} → List ℕ → List (Call A) → ℕ → List ℕ → Type 0
LeftSince first calls t c = (k : ℕ) × (t ≤ k) × (k ≤ length calls) × Leaves (image_at first calls k) c

pub counts_now : {A : Type 0} (first : List ℕ) (calls : List (Call A)) (t : ℕ) (c : List ℕ) → t ≤ length calls → Leaves (replay (start first) calls) c → LeftSince first calls t c
counts_now {A} first calls t c le left = (length calls, le, omega arith, subst (λ (l : List (Call A)). Leaves (replay (start first) l) c) (sym (take_all (length calls) calls (omega arith))) left)

pub only_now : {A : Type 0} (first : List ℕ) (calls : List (Call A)) (c : List ℕ) → LeftSince first calls (length calls) c → Leaves (replay (start first) calls) c
only_now {A} first calls c left = subst (λ (l : List (Call A)). Leaves (replay (start first) l) c) (take_all left.0 calls (omega (arith, left.1, left.2))) left.3

-- the moments of such a disk are its calls; it claims both its bytes and its files
abbrev pub of_calls : {A : Type 0} → List ℕ → List (Call A) → ℕ → DiskState
of_calls first calls failures = record {
  claims_bytes = true;
  claims_files = true;
  bytes = (replay (start first) calls).bytes;
  leaves = Leaves (replay (start first) calls);
  moment = length calls;
  left_since = LeftSince first calls;
  failures = failures;
  as_read = λ b f. inl refl;
  counts_now = λ f t c le left. counts_now first calls t c le left;
  only_now = λ f c left. only_now first calls c left;
}
