use Rattle.std.proofs.Common.{◌≡◌, ℕ, List, IsTrue, true, Result, Ok, Err, OnErr, sym, subst}
use Rattle.disk.specs.Calls.{Torn}
use Rattle.disk.proofs.Parts.{torn_none}
use Rattle.memory_disks.proofs.memory.MemoryDiskDisk.write_at.Goals as goal

none_done : {T E : Type 0} (r : Result T E) (at n : ℕ) (old new : List ℕ) → OnErr r (new ≡ old) → OnErr r (IsTrue true → Torn at n old new)
none_done (Ok x) at n old new same = same
none_done (Err e) at n old new same = λ claims. subst (λ (l : List ℕ). Torn at n old l) (sym same) (torn_none at n old)

pub returns-then-is_err-clause-part : goal.returns-then-is_err-clause-part
returns-then-is_err-clause-part g c = none_done c.overwrite-done.result _ _ _ _ c.overwrite-done.ensures.same
