use Rattle.std.proofs.Common.{◌||◌, Bool, ◌+◌, drop, get_or, length, sym, ap, ◌∙◌}
use Rattle.nodes.specs.Shapes.{at}
use Rattle.nodes.specs.Looks.{look}
use Rattle.nodes.proofs.Looking.{below-at}
use Rattle.step.specs.Labels.{some_deep}
use Rattle.step.proofs.Whole.{deep-next}
use Rattle.step.proofs.finding.any_deep.Goals as goal

pub facts-requires : goal.facts-requires
facts-requires g c = below-at (length c.args.all.now.table.processes) c.args.numbers.now c.loop-number.number-index 0 c.requires c.loop-number-test.true

pub returns-then-is_deep : goal.returns-then-is_deep
returns-then-is_deep g c =
    let ps = c.args.all.now.table.processes in
    let ns = c.args.numbers.now in
    let i = c.loop-number.number-index in
    let next = deep-next ps ns i 0 c.is_deep.result c.loop-number-test.true (c.is_deep.ensures (at ps (get_or ns i 0)) c.facts.ensures) in
    sym (sym c.loop-number.invariant ∙ next ∙ ap (λ (b : Bool). b || some_deep (look ps (drop (i + 1) ns))) c.if-is_deep.true)

pub loop-number-preserved : goal.loop-number-preserved
loop-number-preserved g c =
    let ps = c.args.all.now.table.processes in
    let ns = c.args.numbers.now in
    let i = c.loop-number.number-index in
    let next = deep-next ps ns i 0 c.is_deep.result c.loop-number-test.true (c.is_deep.ensures (at ps (get_or ns i 0)) c.facts.ensures) in
    ap (λ (b : Bool). b || some_deep (look ps (drop (i + 1) ns))) (sym c.if-is_deep.false) ∙ sym next ∙ c.loop-number.invariant
