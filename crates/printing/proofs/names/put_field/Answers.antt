use Rattle.std.proofs.Common.{refl, arith}
use Rattle.alphabet.specs.Stored.{value_of}
use Rattle.printing.specs.Names.{constant_in, with_names}
use Rattle.printing.specs.View.{bytes}
use Rattle.printing.proofs.NameLists.{names_item}
use Rattle.printing.proofs.names.put_field.Goals as goal

pub loop-value-init : goal.loop-value-init
unfolding with_names
loop-value-init g c = refl

pub loop-value-preserved : goal.loop-value-preserved
loop-value-preserved g c =
    names_item value_of constant_in (bytes c.args.names.now.keys) (bytes c.loop-value.names.keys) (bytes c.put_value.new.names.keys) c.args.field.now c.loop-value.value-index c.value-item.result
    (omega arith) c.value-item.is c.loop-value.invariant c.in_ok-put_value.ensures
