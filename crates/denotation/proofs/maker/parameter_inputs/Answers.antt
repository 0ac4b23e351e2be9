use Rattle.std.proofs.Common.{rules, ◌≡◌, ◌++◌, ◌∷◌, [], map, List, ℕ, ap, ap₂, ◌∙◌, arith}
use Rattle.std.proofs.lemmas.List.{map-append}
use Rattle.values.specs.Tables.{input}
use Rattle.values.specs.View.{value}
use Rattle.denotation.proofs.Arguments.{unpaired, pair_so, pair_last}
use Rattle.denotation.proofs.maker.parameter_inputs.Goals as goal

pub returns-then-parameters-arguments : goal.returns-then-parameters-arguments
returns-then-parameters-arguments g c = unpaired c.args.parameters.now c.args.arguments.now c.if-parameters-arguments.true

pub loop-number-preserved : goal.loop-number-preserved
loop-number-preserved g c =
    let front = map input c.loop-number.inputs.items in
    let same : value c.in_ok-clone.field-0 ≡ value c.index-arguments-number.result = search rules in
    pair_so c.args.parameters.now c.args.arguments.now c.loop-number.number front c.loop-number.invariant c.index-parameters-number.result c.index-arguments-number.result (map input c.push.new.self.items) (omega arith) c.index-parameters-number.is (omega (arith, c.if-parameters-arguments.false)) c.index-arguments-number.is
    (ap (map input) c.in_ok-push.ensures.items ∙ map-append input c.loop-number.inputs.items _
    ∙ ap₂ (λ (n : List ℕ) v. front ++ (n, v) ∷ []) (c.in_ok-from_slice.ensures.items ∙ c.deref.ensures.value) same)

pub returns : goal.returns
returns g c = pair_last c.args.parameters.now c.args.arguments.now c.loop-number.number (map input c.loop-number.inputs.items) c.loop-number.invariant (omega arith) (omega (arith, c.if-parameters-arguments.false))
