use Rattle.std.proofs.Common.{ap, []}
use Rattle.printing.specs.Names.{constants_in, with_names}
use Rattle.printing.specs.View.{bytes}
use Rattle.printing.proofs.NameLists.{names_next}
use Rattle.printing.proofs.names.constants.Goals as goal

pub loop-number-init : goal.loop-number-init
unfolding with_names
loop-number-init g c = ap bytes c.new-names.ensures.empty

pub loop-number-preserved : goal.loop-number-preserved
loop-number-preserved g c =
    names_next constants_in [] (bytes c.loop-number.names.keys) (bytes c.put_fields.new.names.keys) c.args.alphabet.now c.loop-number.number _ c.channel_at-channel.ensures c.loop-number.invariant
    c.in_ok-put_fields.ensures
