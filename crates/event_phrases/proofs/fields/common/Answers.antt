use Rattle.std.proofs.Common.{◌++◌, ◌∷◌, [], sym, ap, ◌∙◌, arith}
use Rattle.std.proofs.lemmas.List.{map-append}
use Rattle.alphabet.specs.Channels.{FieldValue}
use Rattle.values.specs.Values.{is_among}
use Rattle.values.specs.View.{value, values}
use Rattle.event_phrases.specs.View.{listed}
use Rattle.event_phrases.proofs.CopiedInputs.{kept_more, kept_less, kept_all}
use Rattle.event_phrases.proofs.fields.common.Goals as goal
use Rattle.event_phrases.proofs.fields.common.Goals.{then-has_value+in_ok-clone+in_ok-push, else-has_value}

pub loop-value-init : goal.loop-value-init
loop-value-init g c = ap (λ xs. listed xs) c.new-common.ensures.items

pub loop-value-preserved : goal.loop-value-preserved
loop-value-preserved g c =
    let test = λ (v : FieldValue). is_among v (values c.args.part.now) in
    let now = listed c.loop-value.common.items in
    let new = listed c.if-has_value.common.items in
    elim c.if-has_value.branch [
      | then-has_value+in_ok-clone+in_ok-push w ↦
          kept_more value test c.args.all.now c.loop-value.value-index now c.loop-value.invariant c.value-item.result new (omega arith) c.value-item.is (sym c.has_value.ensures ∙ w.if-has_value.true)
          (ap (λ v. listed v.items) w.common-is ∙ ap (λ xs. listed xs) w.in_ok-push.ensures.items ∙ map-append value c.loop-value.common.items (w.in_ok-clone.field-0 ∷ []) ∙ ap (λ v. now ++ v ∷ []) w.in_ok-clone.ensures.cases)
      | else-has_value w ↦
          kept_less value test c.args.all.now c.loop-value.value-index now c.loop-value.invariant c.value-item.result new (omega arith) c.value-item.is (sym c.has_value.ensures ∙ w.if-has_value.false) (ap (λ v. listed v.items) w.common-is)
    ]

pub returns : goal.returns
returns g c = kept_all value (λ v. is_among v (values c.args.part.now)) c.args.all.now c.loop-value.value-index (listed c.loop-value.common.items) c.loop-value.invariant (omega arith)
