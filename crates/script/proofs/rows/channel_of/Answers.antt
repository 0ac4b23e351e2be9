use Rattle.alphabet.specs.Stored.{channel_of}
use Rattle.script.proofs.Copies.{channel_is, channel_there}
use Rattle.script.proofs.rows.channel_of.Goals as goal

pub returns-in-Some-channel : goal.returns-in-Some-channel
returns-in-Some-channel g c = λ p h. channel_is c.args.alphabet.now c.args.event c.in-Some.channel c.in-Some.field-0-1 (channel_of c.in-Some-channel.name.now c.in-Some-channel.field-0-1.now) p c.in-Some.ensures.parts c.in-Some-channel.ensures.value h

pub returns-in-None-channel : goal.returns-in-None-channel
returns-in-None-channel g c = λ p h. absurd (channel_there c.args.alphabet.now c.args.event c.in-Some.channel c.in-Some.field-0-1 p c.in-Some.ensures.parts c.in-None-channel.ensures.found.1 h)
