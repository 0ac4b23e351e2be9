use Rattle.std.proofs.Common.{List, ℕ, length, sym, ap, ◌∙◌, subst, arith}
use Rattle.std.proofs.lemmas.List.{take_all}
use Rattle.nodes.specs.Looks.{look, AllBelow}
use Rattle.nodes.proofs.Looking.{below-push}
use Rattle.nodes.proofs.Copying.{look-push}
use Rattle.nodes.proofs.table.Table.numbers_at.Goals as goal

pub loop-number-preserved : goal.loop-number-preserved
loop-number-preserved g c =
    let t = c.args.self.now in
    let ns = c.loop-number.found.items in
    let n = c.in-Some.place in
    record {
      below = λ ps a.
          subst (λ (l : List ℕ). AllBelow (length t.processes) l) (sym c.in_ok-push.ensures.items)
          (below-push (length t.processes) ns n (c.loop-number.invariant.below ps a) (c.in-Some.ensures t ps a).within);
      same = λ ps a.
          ap (look t.processes) c.in_ok-push.ensures.items
          ∙ look-push ps t.processes ns c.args.numbers.now c.loop-number.number-index n c.loop-number-test.true (c.loop-number.invariant.same ps a) (c.in-Some.ensures t ps a).is;
    }

pub returns-clause-same : goal.returns-clause-same
returns-clause-same g c = λ ps a. c.loop-number.invariant.same ps a ∙ ap (look ps) (take_all c.loop-number.number-index c.args.numbers.now (omega arith))
