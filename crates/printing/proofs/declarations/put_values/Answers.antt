use Rattle.std.proofs.Common.{◌++◌, codes, ap, ◌∙◌}
use Rattle.alphabet.specs.Channels.{value_text}
use Rattle.alphabet.specs.Stored.{value_of}
use Rattle.printing.specs.Printed.{joined}
use Rattle.printing.proofs.Lists.{on_ok, first_and_others, map_seen}
use Rattle.printing.proofs.declarations.put_values.Goals as goal

pub returns-in_ok-put_value-in-len1-up : goal.returns-in_ok-put_value-in-len1-up
returns-in_ok-put_value-in-len1-up g c =
    on_ok c.put_other_values.result _ _ c.put_other_values.ensures
    (λ e. first_and_others (codes ", ") (λ v. value_text (value_of v)) c.args.text.now.items c.put_value.new.text.items c.put_other_values.new.text.items c.args.values.now c.first-item.result
    c.first-item.result c.in-len1-up.len_at_least c.first-item.is c.in_ok-put_value-in-len1-up.ensures e
    ∙ ap (λ ts. c.args.text.now.items ++ joined (codes ", ") ts) (map_seen value_of value_text c.args.values.now))
