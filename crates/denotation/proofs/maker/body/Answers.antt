use Rattle.std.proofs.Common.{List, ℕ, nat_eq, ap, ap₂, sym, subst, ◌∙◌}
use Rattle.alphabet.specs.Channels.{Values}
use Rattle.values.specs.Names.{meaning}
use Rattle.values.specs.View.{Gives}
use Rattle.event_phrases.specs.View.{listed}
use Rattle.denotation.specs.Denotes.{called_by}
use Rattle.denotation.specs.Rooms.{within_limits}
use Rattle.denotation.specs.View.{body}
use Rattle.denotation.proofs.Definitions.{with_values}
use Rattle.denotation.proofs.maker.body.Goals as goal

pub returns-else-is_empty : goal.returns-else-is_empty
returns-else-is_empty g c =
    let s = g.G.GlobalScope.scope c.args.global.now in
    let k = c.args.call.now in
    subst (λ o. Gives (λ b. (body b, c.called_body.new.room)) c.called_body.result (within_limits c.args.room.now o))
    (ap₂ (λ (n : List ℕ) (vs : Values). called_by s (meaning s.entries n) vs) c.deref-else-is_empty.ensures.value (ap listed c.deref-else-is_empty-2.ensures.value)
    ∙ sym (with_values s k.name.items k.arguments.items (ap (λ n. nat_eq n 0) (sym k.arguments.ok.0) ∙ sym c.is_empty.ensures ∙ c.if-is_empty.false))) c.called_body.ensures
