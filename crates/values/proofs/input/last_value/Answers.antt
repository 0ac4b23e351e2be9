use Rattle.std.proofs.Common.{◌≡◌, suc, ◌-◌, map, take, true, false, sym, ap, ◌∙◌, arith}
use Rattle.values.specs.Names.{same_name}
use Rattle.values.specs.Tables.{input, last_of}
use Rattle.values.proofs.Inputs.{last_found, last_before}
use Rattle.values.proofs.input.last_value.Goals as goal

pub returns-then-eq : goal.returns-then-eq
returns-then-eq g c =
    let k = c.loop-left.left - 1 in
    let on : suc k ≡ c.loop-left.left = omega (arith, c.loop-left-test.true) in
    let all = last_of (map input c.args.inputs.now) c.args.name.now in
    let front : last_of (map input (take (suc k) c.args.inputs.now)) c.args.name.now ≡ all = ap (λ k. last_of (map input (take k c.args.inputs.now)) c.args.name.now) on ∙ c.loop-left.invariant.0 in
    let is : same_name c.args.name.now (input c.index-inputs-left.result).0 ≡ true = ap (same_name c.args.name.now) (sym c.as_slice.ensures.value) ∙ sym c.eq.ensures ∙ c.if-eq.true in
    last_found input c.args.inputs.now c.args.name.now k c.index-inputs-left.result (omega (arith, on, c.loop-left.invariant.1)) c.index-inputs-left.is all front is

pub loop-left-preserved : goal.loop-left-preserved
loop-left-preserved g c =
    let k = c.loop-left.left - 1 in
    let on : suc k ≡ c.loop-left.left = omega (arith, c.loop-left-test.true) in
    let all = last_of (map input c.args.inputs.now) c.args.name.now in
    let front : last_of (map input (take (suc k) c.args.inputs.now)) c.args.name.now ≡ all = ap (λ k. last_of (map input (take k c.args.inputs.now)) c.args.name.now) on ∙ c.loop-left.invariant.0 in
    let is : same_name c.args.name.now (input c.index-inputs-left.result).0 ≡ false = ap (same_name c.args.name.now) (sym c.as_slice.ensures.value) ∙ sym c.eq.ensures ∙ c.if-eq.false in
    (last_before input c.args.inputs.now c.args.name.now k c.index-inputs-left.result (omega (arith, on, c.loop-left.invariant.1)) c.index-inputs-left.is all front is, omega (arith, on, c.loop-left.invariant.1))
