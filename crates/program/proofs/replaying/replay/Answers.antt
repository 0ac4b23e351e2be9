use Rattle.program.proofs.replaying.replay.Goals as goal

pub returns-in-Ok-summary_line-clause-only : goal.returns-in-Ok-summary_line-clause-only
returns-in-Ok-summary_line-clause-only g c claims script root spec h is =
    let same = c.in-Ok.ensures.only claims script root spec h is in
    let begun = same.2 in
    (begun.spec_is, begun.history_is)
