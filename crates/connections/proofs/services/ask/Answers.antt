use Rattle.std.proofs.Common.{◌≤◌, inl, inr, length, refl, rules, subst, sym}
use Rattle.connections.specs.Visiting.{promises}
use Rattle.connections.proofs.SoFar.{promises_long}
use Rattle.connections.proofs.services.ask.Goals as goal

pub returns-then-len-from-clause-refused : goal.returns-then-len-from-clause-refused
returns-then-len-from-clause-refused g c =
    let all : c.args.threads ≤ length c.join_ended.new.hall.running.items = search rules in
    inr (refl, inl (subst (λ n. c.args.threads ≤ n) (sym (promises_long c.join_ended.new.hall.running.items)) all))
