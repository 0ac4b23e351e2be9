use Rattle.std.proofs.Common.{◌≤◌, List, length, ℕ, take, sym, ap, subst, arith}
use Rattle.std.proofs.lemmas.List.{length-take}
use Rattle.disk.specs.Calls.{Torn, Elapses, Follows}
use Rattle.memory_disks.specs.declared.crash.Call.{Call}
use Rattle.memory_disks.specs.declared.crash.Call.TheVariants.{Write}
use Rattle.memory_disks.specs.Replay.{Leaves, replay, start, of_calls}
use Rattle.disk.proofs.Parts.{torn_none}
use Rattle.memory_disks.proofs.Crashing.{elapses_push}
use Rattle.file_disk.specs.Files.{MayLeaveStill}
use Rattle.file_disk.proofs.Crashing.{write_kept, some_part, some_files, write_still}
use Rattle.file_disk.proofs.memory.MemoryFilePlacedFile.write_some.Goals as goal

pub invariant_of-self : goal.invariant_of-self
invariant_of-self g c =
    let wrote = c.add_write.ensures in
    record {
      is = write_kept c.add_write.result c.args.self.now.first.items c.args.self.now.calls.items c.add_write.new.calls.items c.args.at
          (take c.min-count.result c.args.bytes.now) c.args.self.now.bytes.items c.add_write.new.file.items wrote.done wrote.noted wrote.same wrote.same_calls c.args.self.now.is;
    }

pub returns-in-Ok-clause-time : goal.returns-in-Ok-clause-time
returns-in-Ok-clause-time g c claims =
    let first = c.args.self.now.first.items in
    let calls = c.args.self.now.calls.items in
    let noted = c.in-Ok.ensures.noted in
    subst (λ (l : List (Call _)). Elapses (of_calls first calls 0) (of_calls first l 0)) (sym noted.2) (elapses_push first calls 0 0 (Write c.args.at noted.0))

pub returns-in-Ok-clause-part : goal.returns-in-Ok-clause-part
returns-in-Ok-clause-part g c claims =
    let first = c.args.self.now.first.items in
    let calls = c.args.self.now.calls.items in
    let noted = c.in-Ok.ensures.noted in
    let le : length noted.0.items ≤ length c.args.bytes.now = omega (arith, ap length noted.1, length-take c.min-count.result c.args.bytes.now) in
    subst (λ (l : List (Call _)). Torn c.args.at (length c.args.bytes.now) (replay (start first) calls).bytes (replay (start first) l).bytes) (sym noted.2)
    (some_part first calls 0 0 c.args.at (length c.args.bytes.now) noted.0 le)

pub returns-in-Ok-clause-files : goal.returns-in-Ok-clause-files
returns-in-Ok-clause-files g c claims =
    let first = c.args.self.now.first.items in
    let calls = c.args.self.now.calls.items in
    let noted = c.in-Ok.ensures.noted in
    let le : length noted.0.items ≤ length c.args.bytes.now = omega (arith, ap length noted.1, length-take c.min-count.result c.args.bytes.now) in
    subst (λ (l : List (Call _)). Follows (Torn c.args.at (length c.args.bytes.now)) (of_calls first calls 0) (of_calls first l 0)) (sym noted.2)
    (some_files first calls 0 0 c.args.at (length c.args.bytes.now) noted.0 le)

pub returns-in-Ok-clause-still : goal.returns-in-Ok-clause-still
returns-in-Ok-clause-still g c claims =
    let first = c.args.self.now.first.items in
    let calls = c.args.self.now.calls.items in
    let noted = c.in-Ok.ensures.noted in
    subst (λ (l : List (Call _)). MayLeaveStill (of_calls first calls 0) (of_calls first l 0)) (sym noted.2) (write_still first calls 0 0 c.args.at noted.0)

pub returns-in-Err-clause-part : goal.returns-in-Err-clause-part
returns-in-Err-clause-part g c claims =
    let file : List (Call _) → List ℕ = λ l. (replay (start c.args.self.now.first.items) l).bytes in
    subst (λ (l : List (Call _)). Torn c.args.at (length c.args.bytes.now) (file c.args.self.now.calls.items) (file l)) (sym c.in-Err.ensures.same_calls)
    (torn_none c.args.at (length c.args.bytes.now) (file c.args.self.now.calls.items))

pub returns-in-Err-clause-files : goal.returns-in-Err-clause-files
returns-in-Err-clause-files g c claims f left =
    (f, subst (λ (l : List (Call _)). Leaves (replay (start c.args.self.now.first.items) l) f) c.in-Err.ensures.same_calls left, torn_none c.args.at (length c.args.bytes.now) f)
