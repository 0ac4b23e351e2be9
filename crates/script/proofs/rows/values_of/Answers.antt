use Rattle.std.proofs.Common.{◌≡◌, length, is_some, sym, ap, ◌∙◌, arith}
use Rattle.alphabet.specs.EventParts.{parts_of, value_in}
use Rattle.alphabet.specs.Stored.{value_of}
use Rattle.event_phrases.specs.View.{listed}
use Rattle.script.proofs.Copies.{first_more, first_all}
use Rattle.script.proofs.rows.values_of.Goals as goal

pub loop-value-preserved : goal.loop-value-preserved
loop-value-preserved g c =
    let e : length c.loop-value.values.items ≡ c.len.result = omega (arith, c.len.ensures, c.loop-value.values.ok.0) in
    first_more (parts_of c.args.alphabet.now c.args.event) c.loop-value.values.items c.push.new.self.items c.in_ok-copy_of.field-0 (value_of c.in-Some.value.now) c.loop-value.invariant
    (ap (value_in c.args.alphabet.now c.args.event) e ∙ c.in-Some.ensures.value) c.in_ok-copy_of.ensures c.in_ok-push.ensures.items

pub returns : goal.returns
returns g c =
    let e : length c.loop-value.values.items ≡ c.len.result = omega (arith, c.len.ensures, c.loop-value.values.ok.0) in
    first_all (parts_of c.args.alphabet.now c.args.event) (length c.loop-value.values.items) (listed c.loop-value.values.items) c.loop-value.invariant
    (λ h. c.in_default.ensures.found.1 (sym (ap (λ n. is_some (value_in c.args.alphabet.now c.args.event n)) e) ∙ h))
