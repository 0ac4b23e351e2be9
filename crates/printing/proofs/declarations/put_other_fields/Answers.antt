use Rattle.std.proofs.Common.{◌++◌, map, codes, ap, ◌∙◌, arith}
use Rattle.alphabet.specs.Stored.{value_of, field_of}
use Rattle.printing.specs.Printed.{field_text}
use Rattle.printing.proofs.Lists.{behind_item, none_yet, all_put}
use Rattle.printing.proofs.declarations.put_other_fields.Goals as goal

pub loop-field-preserved : goal.loop-field-preserved
loop-field-preserved g c =
    behind_item (codes ".") (λ f. field_text (field_of f)) c.args.text.now.items c.loop-field.text.items c.put_field.new.text.items c.args.fields.now c.loop-field.field-index c.field-item.result c.field-item.result
    (omega arith) c.field-item.is c.loop-field.invariant (c.in_ok-put_field.ensures ∙ ap (λ t. t ++ field_text (map value_of c.deref.result.now)) c.in_ok-extend_from_slice.ensures.items ∙ ap (λ vs. (c.loop-field.text.items ++ codes ".") ++ field_text (map value_of vs)) c.deref.ensures.value)

pub loop-field-init : goal.loop-field-init
loop-field-init g c = none_yet (λ f. codes "." ++ field_text (field_of f)) c.args.text.now.items c.args.fields.now

pub returns : goal.returns
returns g c = all_put (λ f. codes "." ++ field_text (field_of f)) c.args.text.now.items c.loop-field.text.items c.args.fields.now c.loop-field.field-index (omega arith) c.loop-field.invariant
