use Rattle.std.proofs.Common.{◌++◌, map, sym, ap, ◌∙◌, ◌≤◌, length, arith}
use Rattle.std.proofs.lemmas.List.{length-map}
use Rattle.syntax.specs.View.{shapes}
use Rattle.values.specs.View.{value}
use Rattle.event_phrases.specs.Forms.{field_of}
use Rattle.event_phrases.specs.Prefixes.{all_pass, fields_pass}
use Rattle.event_phrases.specs.Scopes.{with_input}
use Rattle.event_phrases.specs.Uses.{passes_after}
use Rattle.event_phrases.specs.View.{listed}
use Rattle.event_phrases.proofs.Scopes.{no_items}
use Rattle.event_phrases.proofs.Unused.{each_of, without_values}
use Rattle.event_phrases.proofs.fields.looked_at.Goals as goal

pub returns-in-empty : goal.returns-in-empty
unfolding passes_after
returns-in-empty g c = λ s.
    let test = fields_pass (map field_of (shapes c.args.rest.0.now)) (map (λ v. listed v.items) c.args.rest.1.now) in
    each_of test s c.args.name.now (listed c.args.values.now)
    ∙ ap (λ vs. all_pass (λ v. test (with_input s c.args.name.now v)) (listed vs)) (no_items c.args.values.now c.in-empty.len_below ∙ sym c.new.ensures.items)

pub returns-in_ok-extended-in-len1-up : goal.returns-in_ok-extended-in-len1-up
unfolding passes_after
returns-in_ok-extended-in-len1-up g c = λ s.
    let test = fields_pass (map field_of (shapes c.args.rest.0.now)) (map (λ v. listed v.items) c.args.rest.1.now) in
    each_of test s c.args.name.now (listed c.args.values.now) ∙ ap (all_pass (λ v. test (with_input s c.args.name.now v))) (sym (c.in_ok-extended-in-len1-up.ensures ∙ ap (λ vs. listed vs ++ listed c.args.values.now) c.new-then-is_used.ensures.items))

pub returns-else-is_used : goal.returns-else-is_used
unfolding passes_after
returns-else-is_used g c = λ s.
    let sets = map (λ v. listed v.items) c.args.rest.1.now in
    let n = length-map c.args.values.now value in
    let l : 1 ≤ length (listed c.args.values.now) = omega (arith, n, c.in-len1-up.len_at_least) in
    without_values c.args.name.now (map field_of (shapes c.args.rest.0.now)) sets s (listed c.args.values.now) l (sym c.is_used.ensures ∙ c.if-is_used.false)
