use Rattle.std.proofs.Common.{◌++◌, ◌∷◌, [], sym, ap, ◌∙◌, arith, append-nil}
use Rattle.std.proofs.lemmas.List.{map-append}
use Rattle.values.specs.View.{value}
use Rattle.event_phrases.specs.View.{listed}
use Rattle.event_phrases.proofs.CopiedInputs.{added_more, added_all}
use Rattle.event_phrases.proofs.row.extended.Goals as goal

pub loop-value-init : goal.loop-value-init
loop-value-init g c = sym (append-nil (listed c.args.values.items))

pub loop-value-preserved : goal.loop-value-preserved
loop-value-preserved g c =
    let now = listed c.loop-value.values.items in
    added_more value c.args.more.now c.loop-value.value-index (listed c.args.values.items) now c.loop-value.invariant c.value-item.result (listed c.push.new.self.items) (omega arith) c.value-item.is
    (ap (λ xs. listed xs) c.in_ok-push.ensures.items ∙ map-append value c.loop-value.values.items (c.in_ok-clone.field-0 ∷ []) ∙ ap (λ v. now ++ v ∷ []) c.in_ok-clone.ensures.cases)

pub returns : goal.returns
returns g c = added_all value c.args.more.now c.loop-value.value-index (listed c.args.values.items) (listed c.loop-value.values.items) c.loop-value.invariant (omega arith)
