use Rattle.std.proofs.Common.{refl, arith, map, ap, ◌∙◌}
use Rattle.std.specs.List.{flat_map}
use Rattle.alphabet.specs.Stored.{value_of, field_of}
use Rattle.printing.specs.Names.{constant_in, with_names}
use Rattle.printing.specs.View.{bytes}
use Rattle.printing.proofs.NameLists.{names_item}
use Rattle.printing.proofs.names.put_fields.Goals as goal

pub loop-field-init : goal.loop-field-init
unfolding with_names
loop-field-init g c = refl

pub loop-field-preserved : goal.loop-field-preserved
loop-field-preserved g c =
    names_item field_of (flat_map constant_in) (bytes c.args.names.now.keys) (bytes c.loop-field.names.keys) (bytes c.put_field.new.names.keys) c.args.fields.now c.loop-field.field-index c.field-item.result
    (omega arith) c.field-item.is c.loop-field.invariant
    (c.in_ok-put_field.ensures ∙ ap (λ vs. with_names (bytes c.loop-field.names.keys) (flat_map constant_in (map value_of vs))) c.deref.ensures.value)
