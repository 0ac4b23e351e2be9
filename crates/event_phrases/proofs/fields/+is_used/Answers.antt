use Rattle.std.proofs.Common.{◌≡◌, length, true, false, not, nat_eq, sym, ap, ◌∙◌}
use Rattle.std.proofs.lemmas.List.{length-map}
use Rattle.syntax.specs.View.{shape}
use Rattle.values.specs.View.{value}
use Rattle.event_phrases.specs.View.{listed}
use Rattle.event_phrases.proofs.FieldSteps.{used_here, used_next, used_no_fields, used_no_sets}
use Rattle.event_phrases.proofs.fields.+is_used.Goals as goal

pub returns-in-empty : goal.returns-in-empty
returns-in-empty g t c = used_no_fields shape (λ v. listed v.items) c.args.name.now c.args.fields.now c.args.sets.now c.in-empty.len_below

pub returns-in-empty-sets : goal.returns-in-empty-sets
returns-in-empty-sets g t c = used_no_sets shape (λ v. listed v.items) c.args.name.now c.args.fields.now c.args.sets.now c.in-len1-up.len_at_least c.in-empty-sets.len_below

pub returns-then-is_within : goal.returns-then-is_within
returns-then-is_within g t c = c.if-is_within.true ∙ used_here shape (λ v. listed v.items) c.args.name.now c.args.fields.now c.args.sets.now c.field-item.result c.in-len1-up.len_at_least c.in-len1-up-sets.len_at_least c.field-item.is (sym c.is_within.ensures ∙ c.if-is_within.true)

pub returns-then-not-is_empty : goal.returns-then-not-is_empty
returns-then-not-is_empty g t c =
    let set = c.set-item.result in
    let n : nat_eq (length (listed set.items)) 0 ≡ false = ap (λ n. nat_eq n 0) (length-map set.items value ∙ sym set.ok.0) ∙ sym c.is_empty.ensures ∙ c.if-not-is_empty.true in
    c.is_used.ensures ∙ sym (used_next shape (λ v. listed v.items) c.args.name.now c.args.fields.now c.args.sets.now c.field-item.result set false c.in-len1-up.len_at_least c.in-len1-up-sets.len_at_least c.field-item.is c.set-item.is (sym c.is_within.ensures ∙ c.if-is_within.false) n)

pub returns-else-not-is_empty : goal.returns-else-not-is_empty
returns-else-not-is_empty g t c =
    let set = c.set-item.result in
    let n : nat_eq (length (listed set.items)) 0 ≡ true = ap (λ n. nat_eq n 0) (length-map set.items value ∙ sym set.ok.0) ∙ sym c.is_empty.ensures ∙ c.if-not-is_empty.false in
    ap not c.if-not-is_empty.false ∙ sym (used_next shape (λ v. listed v.items) c.args.name.now c.args.fields.now c.args.sets.now c.field-item.result set true c.in-len1-up.len_at_least c.in-len1-up-sets.len_at_least c.field-item.is c.set-item.is (sym c.is_within.ensures ∙ c.if-is_within.false) n)
