use Rattle.std.proofs.Common.{◌≡◌, List, [], ◌∷◌, ◌++◌, sym, ◌∙◌, ap, subst}
use Rattle.disk.specs.Calls.{Elapses, AddsNone, IsDurable}
use Rattle.memory_disks.specs.declared.crash.Call.{Call}
use Rattle.memory_disks.specs.declared.crash.Call.TheVariants.{Sync}
use Rattle.memory_disks.specs.Replay.{Image, replay, start, of_calls}
use Rattle.memory_disks.proofs.Crashing.{replay_push, elapses_push, sync_files, sync_durable}
use Rattle.memory_disks.proofs.crash.CrashDiskDisk.sync.Goals as goal

pub invariant_of-self-2 : goal.invariant_of-self-2
invariant_of-self-2 g c =
    let first = c.args.self.now.first.items in
    let calls = c.args.self.now.calls.items in
    let noted : c.note.new.calls.items ≡ calls ++ Sync ∷ [] = c.note.ensures ∙ ap (λ (l : List (Call _)). l ++ Sync ∷ []) c.reserve.ensures.items in
    record { is = c.args.self.now.is ∙ sym (ap (λ (l : List (Call _)). (replay (start first) l).bytes) noted ∙ ap (λ (m : Image _). m.bytes) (replay_push (start first) calls Sync)) }

pub returns-clause-time : goal.returns-clause-time
returns-clause-time g c claims =
    let first = c.args.self.now.first.items in
    let calls = c.args.self.now.calls.items in
    let n = c.args.self.now.failed.n in
    let noted : c.note.new.calls.items ≡ calls ++ Sync ∷ [] = c.note.ensures ∙ ap (λ (l : List (Call _)). l ++ Sync ∷ []) c.reserve.ensures.items in
    subst (λ (l : List (Call _)). Elapses (of_calls first calls n) (of_calls first l n)) (sym noted) (elapses_push first calls n n Sync)

pub returns-clause-files : goal.returns-clause-files
returns-clause-files g c claims =
    let first = c.args.self.now.first.items in
    let calls = c.args.self.now.calls.items in
    let n = c.args.self.now.failed.n in
    let noted : c.note.new.calls.items ≡ calls ++ Sync ∷ [] = c.note.ensures ∙ ap (λ (l : List (Call _)). l ++ Sync ∷ []) c.reserve.ensures.items in
    subst (λ (l : List (Call _)). AddsNone (of_calls first calls n) (of_calls first l n)) (sym noted) (sync_files first calls n n)

pub returns-clause-durable : goal.returns-clause-durable
returns-clause-durable g c b claims =
    let first = c.args.self.now.first.items in
    let calls = c.args.self.now.calls.items in
    let n = c.args.self.now.failed.n in
    let noted : c.note.new.calls.items ≡ calls ++ Sync ∷ [] = c.note.ensures ∙ ap (λ (l : List (Call _)). l ++ Sync ∷ []) c.reserve.ensures.items in
    subst (λ (l : List (Call _)). IsDurable (of_calls first l n)) (sym noted) (sync_durable first calls n n)
