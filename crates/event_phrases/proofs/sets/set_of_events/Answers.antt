use Rattle.std.proofs.Common.{map, ap, subst}
use Rattle.syntax.specs.View.{shape}
use Rattle.values.specs.Tables.{input}
use Rattle.values.specs.View.{Gives}
use Rattle.event_phrases.specs.Events.{masked}
use Rattle.event_phrases.specs.Scopes.{Scope, events_by}
use Rattle.event_phrases.proofs.Scopes.{no_inputs}
use Rattle.event_phrases.proofs.sets.set_of_events.Goals as goal

pub returns : goal.returns
returns g c =
    let s = g.G.GlobalScope.scope c.args.global.now in
    subst (λ (s : Scope). Gives (λ x. x) c.event_set.result (masked s.channels (events_by s (shape c.args.tree.now)))) (no_inputs s (map input c.new.result.items) (ap (map input) c.new.ensures.items)) c.event_set.ensures
