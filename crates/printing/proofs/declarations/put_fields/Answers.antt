use Rattle.std.proofs.Common.{◌++◌, map, length, codes, ap, ◌∙◌, arith}
use Rattle.std.proofs.lemmas.List.{length-map}
use Rattle.alphabet.specs.Stored.{value_of, field_of}
use Rattle.printing.specs.Printed.{joined, field_text}
use Rattle.printing.proofs.Lists.{on_ok, first_and_others, map_seen, fields_put}
use Rattle.printing.proofs.declarations.put_fields.Goals as goal

pub returns-in_ok-put_field-in-len1-up : goal.returns-in_ok-put_field-in-len1-up
returns-in_ok-put_field-in-len1-up g c =
    on_ok c.put_other_fields.result _ _ c.put_other_fields.ensures
    (λ e. first_and_others (codes ".") (λ f. field_text (field_of f)) (c.args.text.now.items ++ codes " : ") c.put_field.new.text.items c.put_other_fields.new.text.items c.args.fields.now
    c.first-item.result c.first-item.result c.in-len1-up.len_at_least c.first-item.is
    (c.in_ok-put_field-in-len1-up.ensures ∙ ap (λ t. t ++ field_text (map value_of c.deref.result.now)) c.in_ok-extend_from_slice-in-len1-up.ensures.items
    ∙ ap (λ vs. (c.args.text.now.items ++ codes " : ") ++ field_text (map value_of vs)) c.deref.ensures.value) e
    ∙ ap (λ ts. (c.args.text.now.items ++ codes " : ") ++ joined (codes ".") ts) (map_seen field_of field_text c.args.fields.now)
    ∙ fields_put c.args.text.now.items (map field_of c.args.fields.now) (omega (arith, length-map c.args.fields.now field_of, c.in-len1-up.len_at_least)))
