use Rattle.std.proofs.Common.{subst, arith}
use Rattle.term.specs.Proc.{bodies_of}
use Rattle.nodes.specs.Tables.{IsNumber}
use Rattle.transitions.specs.Numbered.{Numbered}
use Rattle.transitions.proofs.Remembering.{body-number}
use Rattle.transitions.proofs.transitions.Transitions.body.Goals as goal

pub returns-clause-within : goal.returns-clause-within
returns-clause-within g c =
    subst (λ (s : Numbered). IsNumber s.table c.index.result.now (bodies_of s.bodies c.args.body)) c.self.view_is
    (body-number c.self.inside.table c.self.inside.bodies.items c.args.body c.index.result.now c.index.result.now c.self.invariant.here (omega arith) c.index.ensures)
