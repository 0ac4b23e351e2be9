-- The next event is one of two, and tick is one anyway.
use Rattle.alphabet.specs.declared.events.Event.TheVariants.{Tick}
use Rattle.wire.proofs.RefusalLemmas.{below_more}
use Rattle.part_scenarios.proofs.turns.TurnsJudge.next.Goals as goal

pub returns-clause-members : goal.returns-clause-members
returns-clause-members c =
    below_more 2 c.with-one.result c.with.result Tick
    (below_more 2 c.empty-none.result c.with-one.result c.next_event.result (λ x is. cc (c.empty-none.ensures x)) c.next_event.ensures c.with-one.ensures)
    tt c.with.ensures
