use Rattle.std.proofs.Common.{map, ap, subst}
use Rattle.syntax.specs.View.{shape}
use Rattle.values.specs.Tables.{input}
use Rattle.values.specs.View.{Gives}
use Rattle.event_phrases.specs.Scopes.{Scope}
use Rattle.event_phrases.proofs.Scopes.{no_inputs}
use Rattle.denotation.specs.Rooms.{within_limits}
use Rattle.denotation.specs.Phrases.{phrase_of, denoted}
use Rattle.denotation.specs.View.{body}
use Rattle.denotation.proofs.maker.phrase_body.Goals as goal

pub returns : goal.returns
returns g c =
    let s = g.G.GlobalScope.scope c.args.global.now in
    let t = shape c.args.phrase.now in
    let inner = no_inputs s (map input c.new.result.items) (ap (map input) c.new.ensures.items) in
    subst (λ (s : Scope). Gives (λ b. (body b, c.body_within.new.room)) c.body_within.result (within_limits c.args.room.now (denoted (phrase_of t) s))) inner c.body_within.ensures
