use Rattle.std.proofs.Common.{◌↔◌, ◌∙◌, IsTrue, List, ℕ, length, take, get_or, sym, subst, true≢false, arith}
use Rattle.std.proofs.lemmas.List.{take_all}
use Rattle.alphabet.specs.EventSets.{member}
use Rattle.tau_closures.specs.Shapes.{at}
use Rattle.tau_closures.specs.Looks.{look}
use Rattle.tau_closures.proofs.Looking.{below-at}
use Rattle.term.specs.Proc.{Proc}
use Rattle.term.specs.Traces.{In}
use Rattle.tau_closures.specs.Closing.{Takes}
use Rattle.tau_closures.proofs.NumberPutting.{look-more}
use Rattle.spaces.proofs.Offering.{next-more}
use Rattle.spaces.proofs.facts.next_of.Goals as goal

pub loop-number-init : goal.loop-number-init
loop-number-init g c = λ x. ((λ t. absurd (true≢false (sym t ∙ c.empty-next.ensures x))), (λ (Q, i, k). elim i [ ]))

pub facts-requires : goal.facts-requires
facts-requires g c = below-at (length c.args.all.now.table.processes) c.args.numbers.now c.loop-number.number-index 0 c.requires c.loop-number-test.true

pub loop-number-preserved : goal.loop-number-preserved
loop-number-preserved g c =
    λ x.
    let ps = c.args.all.now.table.processes in
    let ns = c.args.numbers.now in
    let i = c.loop-number.number-index in
    let n = get_or ns i 0 in
    subst (λ (l : List Proc). IsTrue (member c.union-next.result x) ↔ ((Q : Proc) × In Q l × Takes Q x)) (sym (look-more ps ns i 0 c.loop-number-test.true))
    (next-more (look ps (take i ns)) (at ps n) c.loop-number.next c.events_of.result c.union-next.result x (c.loop-number.invariant x) (c.events_of.ensures (at ps n) c.facts.ensures x) (c.union-next.ensures x))

pub returns : goal.returns
returns g c =
    λ x.
    let ns = c.args.numbers.now in
    let i = c.loop-number.number-index in
    subst (λ (l : List ℕ). IsTrue (member c.loop-number.next x) ↔ ((Q : Proc) × In Q (look c.args.all.now.table.processes l) × Takes Q x)) (take_all i ns (omega arith)) (c.loop-number.invariant x)
