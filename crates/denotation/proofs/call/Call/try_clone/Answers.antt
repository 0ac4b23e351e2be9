use Rattle.std.proofs.Common.{◌++◌, ◌∷◌, [], List, ℕ, take, get_or, ◌+◌, sym, ap, ap₂, ◌∙◌, arith}
use Rattle.std.proofs.lemmas.List.{map-append, take_more}
use Rattle.alphabet.specs.Channels.{Values}
use Rattle.values.specs.View.{value}
use Rattle.event_phrases.specs.View.{listed}
use Rattle.event_phrases.proofs.Scopes.{take_whole}
use Rattle.denotation.proofs.call.Call.try_clone.Goals as goal

pub loop-value-preserved : goal.loop-value-preserved
loop-value-preserved g c =
    let vs = c.deref-value-items.result.now in
    let i = c.loop-value.value-index in
    let x = c.value-item.result in
    ap listed c.in_ok-push.ensures.items ∙ map-append value c.loop-value.arguments.items _
    ∙ ap₂ (λ (us : Values) v. us ++ v ∷ []) (c.loop-value.invariant ∙ ap (λ vs. listed (take i vs)) (sym c.deref-value-items.ensures.value)) (c.in_ok-clone.ensures.cases ∙ ap value c.value-item.is)
    ∙ sym (map-append value (take i vs) (get_or vs i x ∷ [])) ∙ ap listed (sym (take_more vs i x (omega arith))) ∙ ap (λ vs. listed (take (i + 1) vs)) c.deref-value-items.ensures.value

pub returns : goal.returns
returns g c =
    ap₂ (λ (n : List ℕ) (vs : Values). (n, vs)) (c.in_ok-from_slice.ensures.items ∙ c.deref.ensures.value)
    (c.loop-value.invariant ∙ ap (λ vs. listed (take c.loop-value.value-index vs)) (sym c.deref-value-items.ensures.value)
    ∙ ap listed (take_whole c.loop-value.value-index c.deref-value-items.result.now (omega arith) ∙ c.deref-value-items.ensures.value))
