use Rattle.std.proofs.Common.{[]}
use Rattle.std.specs.List.{flat_map}
use Rattle.printing.specs.Names.{constants_in}
use Rattle.printing.specs.View.{bytes}
use Rattle.printing.proofs.NameLists.{name_next}
use Rattle.printing.proofs.names.taken.Goals as goal

pub loop-number-preserved : goal.loop-number-preserved
loop-number-preserved g c =
    name_next (λ c. c.name) [] (flat_map constants_in c.args.alphabet.now) (bytes c.loop-number.names.keys) (bytes c.put.new.names.keys) c.args.alphabet.now c.loop-number.number _ c.channel_at-channel.ensures
    c.loop-number.invariant c.in_ok-put.ensures
