use Rattle.std.proofs.Common.{◌++◌, codes, ap, ◌∙◌, arith}
use Rattle.alphabet.specs.Channels.{value_text}
use Rattle.alphabet.specs.Stored.{value_of}
use Rattle.printing.proofs.Lists.{behind_item, none_yet, all_put}
use Rattle.printing.proofs.declarations.put_other_values.Goals as goal

pub loop-value-preserved : goal.loop-value-preserved
loop-value-preserved g c =
    behind_item (codes ", ") (λ v. value_text (value_of v)) c.args.text.now.items c.loop-value.text.items c.put_value.new.text.items c.args.values.now c.loop-value.value-index c.value-item.result c.value-item.result
    (omega arith) c.value-item.is c.loop-value.invariant (c.in_ok-put_value.ensures ∙ ap (λ t. t ++ value_text (value_of c.value-item.result)) c.in_ok-extend_from_slice.ensures.items)

pub loop-value-init : goal.loop-value-init
loop-value-init g c = none_yet (λ v. codes ", " ++ value_text (value_of v)) c.args.text.now.items c.args.values.now

pub returns : goal.returns
returns g c = all_put (λ v. codes ", " ++ value_text (value_of v)) c.args.text.now.items c.loop-value.text.items c.args.values.now c.loop-value.value-index (omega arith) c.loop-value.invariant
