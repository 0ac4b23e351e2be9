use Rattle.std.proofs.Common.{sym, subst}
use Rattle.alphabet.specs.EventSets.{Set}
use Rattle.syntax.specs.View.{shape}
use Rattle.values.specs.Tables.{table}
use Rattle.values.specs.View.{Gives}
use Rattle.declared_names.specs.View.{entries}
use Rattle.script.specs.Tables.{said}
use Rattle.event_phrases.specs.Events.{masked}
use Rattle.script.specs.Standing.{events_by, next_events}
use Rattle.syntax.proofs.Failing.{fails_none}
use Rattle.script.proofs.Learning.{next_is, next_not}
use Rattle.script.proofs.standing.next_set.Goals as goal

pub returns-in-Some : goal.returns-in-Some
returns-in-Some g c =
    subst (Gives (λ (s : Set). s) c.set_of_body.result)
    (sym (next_is c.args.names.now.sigma.alphabet (table c.args.names.now.known) (entries c.args.names.now.entries) (said c.args.sets.now) c.args.name.now (shape c.in-Some.body.now) c.in-Some.ensures)) c.set_of_body.ensures

pub returns-in-None : goal.returns-in-None
returns-in-None g c =
    let n = c.args.names.now in
    let f = said c.args.sets.now in
    fails_none c.fault.result (masked n.sigma.alphabet (next_events n.sigma.alphabet (table n.known) (entries n.entries) (events_by f) c.args.name.now))
    (next_not n.sigma.alphabet (table n.known) (entries n.entries) f c.args.name.now c.in-None.ensures)
