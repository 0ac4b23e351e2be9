use Rattle.std.proofs.Common.{[], ◌∷◌, ◌++◌}
use Rattle.part_scenarios.proofs.remembering.after.Goals as goal

-- the set belongs to a trace, and what comes of it to that trace and the event
pub returns-in-Ok-Some : goal.returns-in-Ok-Some
returns-in-Ok-Some c =
    let u = c.requires.0 in
    let belongs = rw (c.in-Ok-Some.field-0-is) at c.in-Ok-Some.ensures.some u c.requires.1 in
    (u ++ c.in-Some.event ∷ [], belongs.1)
