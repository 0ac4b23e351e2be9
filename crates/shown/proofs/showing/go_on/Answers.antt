use Rattle.std.proofs.Common.{subst, sym}
use Rattle.term.specs.Specs.{Specified}
use Rattle.shown.specs.Steps.{IsAt, IsAtWhereBegun}
use Rattle.shown.proofs.showing.go_on.Goals as goal

pub see-requires-clause-at : goal.see-requires-clause-at
see-requires-clause-at g c =
    let options = c.args.options in
    let at = c.in_ok-begin.ensures.at options (subst (λ (s : Specified). IsAtWhereBegun options s c.args.progress.now) (sym c.spec.ensures) c.requires.at) in
    subst (λ (s : Specified). IsAt options s c.in-Some.known) c.spec.ensures (subst (IsAtWhereBegun options c.spec.result.now) c.in-Some.is at)
