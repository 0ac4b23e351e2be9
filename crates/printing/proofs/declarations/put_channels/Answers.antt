use Rattle.std.proofs.Common.{arith}
use Rattle.printing.specs.Printed.{channel_line}
use Rattle.printing.proofs.Lists.{next_item, none_yet, all_put}
use Rattle.printing.proofs.declarations.put_channels.Goals as goal

pub loop-number-preserved : goal.loop-number-preserved
loop-number-preserved g c =
    next_item channel_line c.args.text.now.items c.loop-number.text.items c.put_channel.new.text.items c.args.alphabet.now c.loop-number.number _ c.channel_at-channel.ensures c.loop-number.invariant
    c.in_ok-put_channel.ensures

pub loop-number-init : goal.loop-number-init
loop-number-init g c = none_yet channel_line c.args.text.now.items c.args.alphabet.now

pub returns : goal.returns
returns g c = all_put channel_line c.args.text.now.items c.loop-number.text.items c.args.alphabet.now c.loop-number.number (omega arith) c.loop-number.invariant
