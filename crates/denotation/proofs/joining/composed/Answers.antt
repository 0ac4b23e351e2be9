use Rattle.std.proofs.Common.{sym, subst}
use Rattle.values.specs.View.{Gives}
use Rattle.denotation.specs.Phrases.{composed}
use Rattle.denotation.specs.Rooms.{operation_nodes, spare}
use Rattle.denotation.specs.View.{body}
use Rattle.denotation.proofs.joining.composed.Goals as goal

pub returns-in-Joint : goal.returns-in-Joint
unfolding operation_nodes composed
returns-in-Joint g c =
    let s = g.G.GlobalScope.scope c.args.scope.now.global.now in
    subst (λ o. Gives (λ b. (body b, c.joined_within.new.room)) c.joined_within.result (spare (operation_nodes o) (composed s o (body c.args.first) (body c.args.second)) c.args.room.now))
    (sym c.in-Joint.is) c.joined_within.ensures

pub returns-in-Alphabetised : goal.returns-in-Alphabetised
unfolding operation_nodes composed
returns-in-Alphabetised g c =
    let s = g.G.GlobalScope.scope c.args.scope.now.global.now in
    subst (λ o. Gives (λ b. (body b, c.alphabetised_within.new.room)) c.alphabetised_within.result (spare (operation_nodes o) (composed s o (body c.args.first) (body c.args.second)) c.args.room.now))
    (sym c.in-Alphabetised.is) c.alphabetised_within.ensures
