use Rattle.std.proofs.Common.{◌≡◌, ◌∷◌, ◌++◌, suc, take, drop, sym, ap, subst, ◌∙◌}
use Rattle.std.proofs.Math.Seq.{split_at}
use Rattle.connections.specs.Services.{Without}
use Rattle.connections.specs.Visiting.{promises}
use Rattle.connections.proofs.SoFar.{without_promise}
use Rattle.connections.proofs.visits.taken_out.Goals as goal

pub returns-clause-out : goal.returns-clause-out
returns-clause-out g c =
    let xs = c.args.running.now.items in
    let i = c.args.index in
    let x = c.remove-one.result in
    let cut : xs ≡ take i xs ++ x ∷ drop (suc i) xs = split_at xs i x c.requires ∙ ap (λ y. take i xs ++ y ∷ drop (suc i) xs) (sym c.remove-one.ensures.value) in
    subst (λ old. Without x.thread.promise (promises old) (promises c.remove-one.new.self.items)) (sym cut)
    (subst (λ new. Without x.thread.promise (promises (take i xs ++ x ∷ drop (suc i) xs)) (promises new)) (sym c.remove-one.ensures.items)
    (without_promise x (take i xs) (drop (suc i) xs)))
