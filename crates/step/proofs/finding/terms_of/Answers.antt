use Rattle.std.proofs.Common.{◌≡◌, List, ℕ, length, map, subst, arith}
use Rattle.std.proofs.lemmas.List.{take_all}
use Rattle.term.specs.Proc.{proc}
use Rattle.nodes.specs.Looks.{look}
use Rattle.nodes.proofs.Looking.{below-at}
use Rattle.step.proofs.Whole.{terms-more}
use Rattle.step.proofs.finding.terms_of.Goals as goal

pub term-requires : goal.term-requires
term-requires g c = below-at (length c.args.all.now.table.processes) c.args.numbers.now c.loop-number.number-index 0 c.requires c.loop-number-test.true

pub loop-number-preserved : goal.loop-number-preserved
loop-number-preserved g c =
    terms-more c.args.all.now.table.processes c.args.numbers.now c.loop-number.number-index c.loop-number.found.items c.push.new.self.items c.in_ok-term.term c.loop-number-test.true c.loop-number.invariant
    c.in_ok-term.ensures c.in_ok-push.ensures.items

pub returns : goal.returns
returns g c =
    subst (λ (ns : List ℕ). map proc c.loop-number.found.items ≡ look c.args.all.now.table.processes ns) (take_all c.loop-number.number-index c.args.numbers.now (omega arith)) c.loop-number.invariant
