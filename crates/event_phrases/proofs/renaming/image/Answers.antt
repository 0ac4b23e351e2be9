use Rattle.std.proofs.Common.{◌≡◌, ◌++◌, drop, ap, ap₂, ◌∙◌}
use Rattle.event_phrases.specs.View.{listed}
use Rattle.event_phrases.proofs.Rows.{drop_view}
use Rattle.event_phrases.proofs.renaming.image.Goals as goal

pub returns : goal.returns
returns g c =
    let a : listed c.in_ok-values.values.items ≡ listed c.args.right.now.values.items = c.in_ok-values.ensures ∙ ap (λ xs. listed xs ++ listed c.deref.result.now) c.new.ensures.items ∙ ap (λ xs. listed xs) c.deref.ensures.value in
    let b : listed c.in_ok-values-2.values.items ≡ listed c.args.right.now.values.items ++ drop c.args.count (listed c.args.event.now.values.items) =
    c.in_ok-values-2.ensures ∙ ap₂ (λ xs ys. xs ++ ys) a (ap (λ xs. listed xs) (c.behind.ensures ∙ ap (λ xs. drop c.args.count xs) c.deref-2.ensures.value) ∙ drop_view c.args.event.now.values.items c.args.count) in
    let n : c.in_ok-from_slice.field-0.items ≡ c.args.right.now.channel.items = c.in_ok-from_slice.ensures.items ∙ c.deref-3.ensures.value in
    λ i. (n i, b i)
