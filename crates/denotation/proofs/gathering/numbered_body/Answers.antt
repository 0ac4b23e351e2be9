use Rattle.std.proofs.Common.{subst, sym}
use Rattle.values.specs.View.{Gives}
use Rattle.denotation.specs.Bodies.{Key}
use Rattle.denotation.specs.Denotes.{body_under}
use Rattle.denotation.specs.Rooms.{within_limits}
use Rattle.denotation.specs.View.{body, root as root_view}
use Rattle.denotation.proofs.Seen.{seen_key}
use Rattle.denotation.proofs.gathering.numbered_body.Goals as goal

pub returns : goal.returns
returns g c = λ d.
    let s = g.G.GlobalScope.scope c.args.global.now in
    subst (λ (k : Key). Gives (λ b. (body b, c.body_under.new.room)) c.body_under.result (within_limits c.args.room.now (body_under (root_view c.args.root.now) s k)))
    (sym (seen_key c.args.met.now.keys c.args.number c.index.result.now d c.index.ensures)) c.body_under.ensures
