use Rattle.std.proofs.Common.{◌≡◌, List, length, ℕ, sym, ◌∙◌, ap, subst}
use Rattle.disk.specs.Calls.{Torn, Elapses, Follows, overwritten}
use Rattle.memory_disks.specs.declared.crash.Call.{Call}
use Rattle.memory_disks.specs.declared.crash.Call.TheVariants.{Write}
use Rattle.memory_disks.specs.Replay.{Image, Leaves, replay, start, of_calls}
use Rattle.disk.proofs.Parts.{torn_none}
use Rattle.memory_disks.proofs.Crashing.{replay_push, elapses_push, write_files}
use Rattle.memory_disks.proofs.crash.CrashDiskDisk.write_at.Goals as goal

pub invariant_of-self : goal.invariant_of-self
invariant_of-self g c =
    let first = c.args.self.now.first.items in
    let calls = c.args.self.now.calls.items in
    let noted = c.in-Ok.ensures.noted in
    let was : (replay (start first) calls).bytes ≡ c.args.self.now.bytes.items = sym c.args.self.now.is in
    let now : (replay (start first) c.add_write.new.calls.items).bytes ≡ overwritten c.args.at c.args.bytes.now c.args.self.now.bytes.items =
    ap (λ (l : List (Call _)). (replay (start first) l).bytes) noted.2 ∙ ap (λ (m : Image _). m.bytes) (replay_push (start first) calls (Write c.args.at noted.0))
    ∙ (λ i. overwritten c.args.at (noted.1 i) (was i)) in
    record { is = c.in-Ok.ensures.done ∙ sym now }

pub returns-in-Ok-clause-time : goal.returns-in-Ok-clause-time
returns-in-Ok-clause-time g c claims =
    let first = c.args.self.now.first.items in
    let calls = c.args.self.now.calls.items in
    let n = c.args.self.now.failed.n in
    let noted = c.in-Ok.ensures.noted in
    subst (λ (l : List (Call _)). Elapses (of_calls first calls n) (of_calls first l n)) (sym noted.2) (elapses_push first calls n n (Write c.args.at noted.0))

pub returns-in-Ok-clause-files : goal.returns-in-Ok-clause-files
returns-in-Ok-clause-files g c claims =
    let first = c.args.self.now.first.items in
    let calls = c.args.self.now.calls.items in
    let n = c.args.self.now.failed.n in
    let noted = c.in-Ok.ensures.noted in
    let files = subst (λ (l : List (Call _)). Follows (Torn c.args.at (length noted.0.items)) (of_calls first calls n) (of_calls first l n)) (sym noted.2) (write_files first calls n n c.args.at noted.0) in
    subst (λ (l : List ℕ). Follows (Torn c.args.at (length l)) (of_calls first calls n) (of_calls first c.add_write.new.calls.items n)) noted.1 files

pub returns-in-Err-clause-part : goal.returns-in-Err-clause-part
returns-in-Err-clause-part g c claims =
    let file : List (Call _) → List ℕ = λ l. (replay (start c.args.self.now.first.items) l).bytes in
    subst (λ (l : List (Call _)). Torn c.args.at (length c.args.bytes.now) (file c.args.self.now.calls.items) (file l)) (sym c.in-Err.ensures.same_calls) (torn_none c.args.at (length c.args.bytes.now) (file c.args.self.now.calls.items))

pub returns-in-Err-clause-files : goal.returns-in-Err-clause-files
returns-in-Err-clause-files g c claims f left =
    (f, subst (λ (l : List (Call _)). Leaves (replay (start c.args.self.now.first.items) l) f) c.in-Err.ensures.same_calls left, torn_none c.args.at (length c.args.bytes.now) f)
