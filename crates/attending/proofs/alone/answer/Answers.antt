use Rattle.std.proofs.Common.{subst}
use Rattle.term.specs.Specs.{IsClosed, Specified}
use Rattle.session.specs.Entries.{events}
use Rattle.attending.proofs.SigmaLemmas.{set_below}
use Rattle.attending.proofs.alone.answer.Goals as goal

pub returns-in-Next-clause-below : goal.returns-in-Next-clause-below
returns-in-Next-clause-below g c =
    let s = c.args.alone.now.session in
    set_below s.spec (subst (λ (x : Specified). IsClosed x) c.spec.ensures c.bodies.ensures.closed) (events s.history) c.next.result c.next.ensures
