use Rattle.std.proofs.Common.{◌++◌, ◌∷◌, [], List, ℕ, map, ap, ap₂, ◌∙◌, arith}
use Rattle.std.proofs.lemmas.List.{map-append}
use Rattle.values.specs.Tables.{input}
use Rattle.event_phrases.proofs.CopiedInputs.{copied_more, copied_all}
use Rattle.event_phrases.proofs.scope.copies.Goals as goal

pub loop-input-init : goal.loop-input-init
loop-input-init g c = ap (map input) c.new-copies.ensures.items

pub loop-input-preserved : goal.loop-input-preserved
loop-input-preserved g c =
    let front = map input c.loop-input.copies.items in
    copied_more input c.args.inputs.now c.loop-input.input-index front c.loop-input.invariant c.input-item.result (map input c.push.new.self.items) (omega arith) c.input-item.is
    (ap (map input) c.in_ok-push.ensures.items ∙ map-append input c.loop-input.copies.items _
    ∙ ap₂ (λ (n : List ℕ) v. front ++ (n, v) ∷ []) (c.in_ok-from_slice.ensures.items ∙ c.deref.ensures.value) c.in_ok-clone.ensures.cases)

pub returns : goal.returns
returns g c = copied_all input c.args.inputs.now c.loop-input.input-index (map input c.loop-input.copies.items) c.loop-input.invariant (omega arith)
