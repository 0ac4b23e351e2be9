use Rattle.std.proofs.Common.{◌≡◌, ◌∷◌, [], ◌++◌, ◌-◌, length, map, take, drop, subst, sym, ap, ◌∙◌}
use Rattle.std.specs.Option.{option_map}
use Rattle.std.proofs.lemmas.List.{map-append}
use Rattle.syntax.specs.View.{shape, shapes}
use Rattle.values.specs.Tables.{behind, input, table}
use Rattle.values.specs.View.{Gives, value}
use Rattle.event_phrases.specs.Forms.{field_of}
use Rattle.event_phrases.specs.Leading.{leading}
use Rattle.event_phrases.specs.View.{listed}
use Rattle.event_phrases.proofs.FieldSteps.{leading_ends, leading_goes_on, leading_no_fields, leading_no_sets, some_found, some_values}
use Rattle.event_phrases.proofs.leading.+more_leading.Goals as goal

pub returns-in-empty : goal.returns-in-empty
returns-in-empty g t c =
    let known = behind (table c.args.known.now) (map input c.args.inputs.now) in
    leading_no_fields shape (λ v. listed v.items) known (listed c.args.values.now.items) c.args.fields.now c.args.sets.now c.in-empty.len_below

pub returns-in-empty-sets : goal.returns-in-empty-sets
returns-in-empty-sets g t c =
    let known = behind (table c.args.known.now) (map input c.args.inputs.now) in
    leading_no_sets shape (λ v. listed v.items) known (listed c.args.values.now.items) c.args.fields.now c.args.sets.now c.in-len1-up.len_at_least c.in-empty-sets.len_below

pub returns-in-None : goal.returns-in-None
returns-in-None g t c =
    let known = behind (table c.args.known.now) (map input c.args.inputs.now) in
    leading_ends shape (λ v. listed v.items) known (listed c.args.values.now.items) c.args.fields.now c.args.sets.now c.field-item.result c.set-item.result c.in-len1-up.len_at_least c.in-len1-up-sets.len_at_least c.field-item.is c.set-item.is (c.in_ok-leading_value-in-len1-up-sets.ensures ∙ ap (λ o. some_found (option_map value o)) c.in-None.is)

pub returns-in_ok-push-in-Some : goal.returns-in_ok-push-in-Some
returns-in_ok-push-in-Some g t c =
    let known = behind (table c.args.known.now) (map input c.args.inputs.now) in
    let front = listed c.args.values.now.items in
    let v = value c.in-Some.value in
    let rest = leading known (map field_of (shapes (take (length c.args.fields.now - 1) (drop 1 c.args.fields.now)))) (map (λ v. listed v.items) (take (length c.args.sets.now - 1) (drop 1 c.args.sets.now))) in
    let new : listed c.push.new.self.items ≡ front ++ v ∷ [] = ap (λ xs. listed xs) c.in_ok-push-in-Some.ensures.items ∙ map-append value c.args.values.now.items (c.in-Some.value ∷ []) in
    let same = leading_goes_on shape (λ v. listed v.items) known front c.args.fields.now c.args.sets.now c.field-item.result c.set-item.result v c.in-len1-up.len_at_least c.in-len1-up-sets.len_at_least c.field-item.is c.set-item.is (c.in_ok-leading_value-in-len1-up-sets.ensures ∙ ap (λ o. some_found (option_map value o)) c.in-Some.is) ∙ ap (λ front. some_values (front ++ rest)) (sym new) in
    subst (λ o. Gives (λ u. listed c.more_leading.new.values.items) c.more_leading.result o) (sym same) c.more_leading.ensures
