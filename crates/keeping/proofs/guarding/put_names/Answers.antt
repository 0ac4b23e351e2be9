use Rattle.std.proofs.Common.{List, ℕ, length, ap, sym, subst, arith, length-append, [], ◌∷◌}
use Rattle.transitions.proofs.Keeping.{kept-on}
use Rattle.keeping.specs.Guarding.{AreNames}
use Rattle.keeping.proofs.Finding.{names-more}
use Rattle.keeping.proofs.guarding.put_names.Goals as goal

pub loop-name-preserved : goal.loop-name-preserved
loop-name-preserved g c =
    let l = c.loop-name.all in
    let u = c.put.new.self in
    let ns = c.loop-name.numbers.items in
    let inv = c.loop-name.invariant in
    record {
      kept = kept-on c.args.all.now l u inv.kept c.put.ensures.kept;
      names = subst (λ (ms : List ℕ). AreNames u.table ms) (sym c.in_ok-push.ensures.items)
          (names-more l.table u.table ns c.in_ok-number.number c.loop-name.name c.put.ensures.kept.table inv.names inv.count c.in_ok-number.ensures.number);
      count = omega (arith, ap (λ (ms : List ℕ). length ms) c.in_ok-push.ensures.items, length-append ns (c.in_ok-number.number ∷ []), inv.count);
    }
