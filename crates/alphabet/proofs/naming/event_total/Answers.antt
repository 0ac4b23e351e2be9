use Rattle.std.proofs.Common.{map, min, ap, ◌∙◌, sym, arith}
use Rattle.std.proofs.lemmas.List.{length-map, take_all}
use Rattle.alphabet.specs.Stored.{value_of, field_of}
use Rattle.alphabet.proofs.Choices.{ways, total_step, length-choices}
use Rattle.alphabet.proofs.naming.event_total.Goals as goal

pub loop-field-preserved : goal.loop-field-preserved
loop-field-preserved g c =
    total_step field_of c.args.fields.now c.loop-field.field-index c.field-item.result (omega arith) c.field-item.is
    c.loop-field.total c.len.result c.saturating_mul.result c.min-total.result
    c.loop-field.invariant (omega (arith, c.len.ensures, length-map c.field-item.result.items value_of)) c.saturating_mul.ensures c.min-total.ensures

pub returns : goal.returns
returns g c =
    c.loop-field.invariant
    ∙ ap (λ y. min (ways y) 257) (take_all c.loop-field.field-index (map field_of c.args.fields.now) (omega (arith, length-map c.args.fields.now field_of)))
    ∙ ap (λ y. min y 257) (sym (length-choices (map field_of c.args.fields.now)))
