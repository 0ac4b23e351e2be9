use Rattle.std.proofs.Common.{rules, ◌≡◌, List, [], ◌∷◌, ◌++◌, ◌∙◌, ap}
use Rattle.memory_disks.specs.declared.crash.Call.{Call}
use Rattle.memory_disks.specs.declared.crash.Call.TheVariants.{Write}
use Rattle.file_disk.proofs.memory.add_write.Goals as goal

pub returns-in-Ok-overwrite-clause-noted : goal.returns-in-Ok-overwrite-clause-noted
returns-in-Ok-overwrite-clause-noted g c =
    let same : c.in-Ok-to_vec.copy.items ≡ c.args.bytes.now = search rules in
    (c.in-Ok-to_vec.copy, same, c.note.ensures ∙ ap (λ (l : List (Call _)). l ++ Write c.args.at c.in-Ok-to_vec.copy ∷ []) c.reserve.ensures.items)
