use Rattle.std.proofs.Common.{◌≡◌, ◌<◌, false, length, sym, subst, arith}
use Rattle.term.specs.Proc.{bodies_of}
use Rattle.nodes.specs.Shapes.{at}
use Rattle.nodes.specs.Tables.{IsNumber}
use Rattle.unfolding.specs.Unfolded.{unfolded}
use Rattle.keeping.specs.Guarding.{Guarding, StaysFound, says, stands_so_far}
use Rattle.keeping.proofs.Finding.{found-next, says-at}
use Rattle.keeping.proofs.guarding.Guarding.guard.Goals as goal

pub invariant_of-self : goal.invariant_of-self
invariant_of-self g c =
    let s = c.args.self.now in
    let k = c.args.name in
    let gs = c.self.inside.guards.items in
    let r : Guarding = record { all = c.self-2.inside.all; guards = c.self-2.inside.guards.items } in
    let here : k < length gs = omega (arith, c.if-name-len.false, c.len.ensures) in
    found-next s r c.self-2.inside.stands.items
    (subst (λ (x : Guarding). StaysFound s x) (sym c.self-2.view_is) c.replaced.ensures.kept)
    c.self-2.invariant k c.in-Some.body c.in_ok-number.number
    (subst (λ (x : Guarding). k < length x.guards) c.self.view_is here)
    (subst (λ (x : Guarding). says x.guards k ≡ false) c.self.view_is (says-at gs k c.index.result.now c.index.ensures c.if-index.false))
    (subst (λ (x : Guarding). IsNumber x.all.table c.in-Some.body (bodies_of x.all.bodies k)) c.self.view_is c.in-Some.ensures.within)
    (c.unguarded.ensures.none c.in_default-unguarded.is)
    (subst (λ (x : Guarding). IsNumber x.all.table c.in_ok-number.number (unfolded (stands_so_far s) (at s.all.table.processes c.in-Some.body))) (sym c.self-2.view_is) c.in_ok-number.ensures.number)
