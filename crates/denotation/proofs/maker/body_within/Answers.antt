use Rattle.std.proofs.Common.{map, subst, sym}
use Rattle.syntax.specs.View.{shape}
use Rattle.values.specs.Tables.{input}
use Rattle.values.specs.View.{Gives}
use Rattle.event_phrases.specs.Scopes.{within}
use Rattle.event_phrases.proofs.Options.{step}
use Rattle.denotation.specs.Phrases.{phrase_of, denoted}
use Rattle.denotation.specs.Rooms.{fits, shallow}
use Rattle.denotation.specs.View.{body}
use Rattle.denotation.proofs.maker.body_within.Goals as goal

pub returns : goal.returns
returns g c =
    let s = within (g.G.GlobalScope.scope c.args.scope.now.global.now) (map input c.args.scope.now.inputs.items) in
    subst (λ o. Gives (λ b. (body b, c.process.new.room)) c.unless_deep.result o)
    (sym (step (fits c.args.room.now (denoted (phrase_of (shape c.args.tree.now)) s)) shallow (body c.in_ok-draft.draft, c.process.new.room) c.in_ok-draft.ensures)) (c.unless_deep.ensures c.process.new.room)
