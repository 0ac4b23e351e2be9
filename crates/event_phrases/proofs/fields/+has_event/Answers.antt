use Rattle.std.proofs.Common.{◌≡◌, length, true, false, not, nat_eq, sym, ap, ◌∙◌}
use Rattle.std.proofs.lemmas.List.{length-map}
use Rattle.values.specs.View.{value}
use Rattle.event_phrases.specs.View.{listed}
use Rattle.event_phrases.proofs.FieldSteps.{event_next}
use Rattle.event_phrases.proofs.fields.+has_event.Goals as goal

pub returns-then-not-is_empty : goal.returns-then-not-is_empty
returns-then-not-is_empty g t c =
    let set = c.set-item.result in
    let n : nat_eq (length (listed set.items)) 0 ≡ false = ap (λ n. nat_eq n 0) (length-map set.items value ∙ sym set.ok.0) ∙ sym c.is_empty.ensures ∙ c.if-not-is_empty.true in
    c.has_event.ensures ∙ sym (event_next (λ v. listed v.items) c.args.sets.now set false c.in-len1-up.len_at_least c.set-item.is n)

pub returns-else-not-is_empty : goal.returns-else-not-is_empty
returns-else-not-is_empty g t c =
    let set = c.set-item.result in
    let n : nat_eq (length (listed set.items)) 0 ≡ true = ap (λ n. nat_eq n 0) (length-map set.items value ∙ sym set.ok.0) ∙ sym c.is_empty.ensures ∙ c.if-not-is_empty.false in
    ap not c.if-not-is_empty.false ∙ sym (event_next (λ v. listed v.items) c.args.sets.now set true c.in-len1-up.len_at_least c.set-item.is n)
