use Rattle.std.proofs.Common.{map, sym, subst, ap₂, ◌∙◌}
use Rattle.syntax.specs.Parsing.{syntaxes}
use Rattle.syntax.specs.View.{shapes}
use Rattle.term.specs.Traces.{Pairs}
use Rattle.alphabet.specs.Channels.{event_count}
use Rattle.values.specs.Tables.{input}
use Rattle.values.specs.View.{Gives}
use Rattle.event_phrases.specs.Scopes.{within}
use Rattle.event_phrases.specs.Events.{pairs_of}
use Rattle.event_phrases.proofs.EventSetLaws.{count_is}
use Rattle.event_phrases.proofs.Options.{step}
use Rattle.denotation.specs.Phrases.{renamed}
use Rattle.denotation.specs.Rooms.{renaming_nodes, spare}
use Rattle.denotation.specs.View.{body}
use Rattle.denotation.proofs.joining.renamed_by.Goals as goal

pub returns : goal.returns
returns g c =
    let s = g.G.GlobalScope.scope c.args.scope.now.global.now in
    let known = (within s (map input c.args.scope.now.inputs.items)).known in
    let n = event_count s.channels in
    let p = body c.args.draft in
    let room = c.args.room.now in
    subst (λ o. Gives (λ b. (body b, c.renamed.new.room)) c.renamed.result o)
    (sym (step (pairs_of s.channels known (syntaxes (shapes c.args.pairs.now))) (λ R. spare (renaming_nodes R) (renamed n R p) room) c.in_ok-pairs.pairs.items c.in_ok-pairs.ensures
    ∙ ap₂ (λ n (R : Pairs). spare (renaming_nodes R) (renamed n R p) room) (sym (count_is s.channels c.events-events.result.now c.events-events.ensures.rows)) (sym c.deref.ensures.value))) c.renamed.ensures
