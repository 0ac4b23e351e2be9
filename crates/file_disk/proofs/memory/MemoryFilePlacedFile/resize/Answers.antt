use Rattle.std.proofs.Common.{◌≡◌, List, [], ◌∷◌, ◌++◌, ℕ, take, sym, ◌∙◌, ap, subst}
use Rattle.disk.specs.Calls.{CutShort, Elapses, Follows}
use Rattle.memory_disks.specs.declared.crash.Call.{Call}
use Rattle.memory_disks.specs.declared.crash.Call.TheVariants.{Cut}
use Rattle.memory_disks.specs.Replay.{Image, Leaves, replay, start, of_calls}
use Rattle.disk.proofs.Parts.{cut_none}
use Rattle.memory_disks.proofs.Crashing.{replay_push, elapses_push, cut_files}
use Rattle.file_disk.specs.Files.{MayLeaveStill}
use Rattle.file_disk.proofs.Crashing.{cut_still}
use Rattle.file_disk.proofs.memory.MemoryFilePlacedFile.resize.Goals as goal

pub returns-then-is_err-clause-part : goal.returns-then-is_err-clause-part
returns-then-is_err-clause-part g c claims =
    let file : List (Call _) → List ℕ = λ l. (replay (start c.args.self.now.first.items) l).bytes in
    subst (λ (l : List (Call _)). CutShort c.args.len (file c.args.self.now.calls.items) (file l)) (sym c.reserve.ensures.items) (cut_none c.args.len (file c.args.self.now.calls.items))

pub returns-then-is_err-clause-files : goal.returns-then-is_err-clause-files
returns-then-is_err-clause-files g c claims f left =
    (f, subst (λ (l : List (Call _)). Leaves (replay (start c.args.self.now.first.items) l) f) c.reserve.ensures.items left, cut_none c.args.len f)

pub invariant_of-self-2 : goal.invariant_of-self-2
invariant_of-self-2 g c =
    let first = c.args.self.now.first.items in
    let calls = c.args.self.now.calls.items in
    let noted : c.note.new.calls.items ≡ calls ++ Cut c.args.len ∷ [] = c.note.ensures ∙ ap (λ (l : List (Call _)). l ++ Cut c.args.len ∷ []) c.reserve.ensures.items in
    record { is = c.truncate.ensures.items ∙ ap (λ (l : List ℕ). take c.args.len l) c.args.self.now.is ∙ sym (ap (λ (l : List (Call _)). (replay (start first) l).bytes) noted ∙ ap (λ (m : Image _). m.bytes) (replay_push (start first) calls (Cut c.args.len))) }

pub returns-clause-time : goal.returns-clause-time
returns-clause-time g c claims =
    let first = c.args.self.now.first.items in
    let calls = c.args.self.now.calls.items in
    let noted : c.note.new.calls.items ≡ calls ++ Cut c.args.len ∷ [] = c.note.ensures ∙ ap (λ (l : List (Call _)). l ++ Cut c.args.len ∷ []) c.reserve.ensures.items in
    subst (λ (l : List (Call _)). Elapses (of_calls first calls 0) (of_calls first l 0)) (sym noted) (elapses_push first calls 0 0 (Cut c.args.len))

pub returns-clause-files : goal.returns-clause-files
returns-clause-files g c claims =
    let first = c.args.self.now.first.items in
    let calls = c.args.self.now.calls.items in
    let noted : c.note.new.calls.items ≡ calls ++ Cut c.args.len ∷ [] = c.note.ensures ∙ ap (λ (l : List (Call _)). l ++ Cut c.args.len ∷ []) c.reserve.ensures.items in
    subst (λ (l : List (Call _)). Follows (CutShort c.args.len) (of_calls first calls 0) (of_calls first l 0)) (sym noted) (cut_files first calls 0 0 c.args.len)

pub returns-clause-still : goal.returns-clause-still
returns-clause-still g c claims =
    let first = c.args.self.now.first.items in
    let calls = c.args.self.now.calls.items in
    let noted : c.note.new.calls.items ≡ calls ++ Cut c.args.len ∷ [] = c.note.ensures ∙ ap (λ (l : List (Call _)). l ++ Cut c.args.len ∷ []) c.reserve.ensures.items in
    subst (λ (l : List (Call _)). MayLeaveStill (of_calls first calls 0) (of_calls first l 0)) (sym noted) (cut_still first calls 0 0 c.args.len)
