use Rattle.std.proofs.Common.{map}
use Rattle.alphabet.specs.Stored.{field_of}
use Rattle.syntax.specs.View.{shape}
use Rattle.declarations.proofs.Parted.{new_channel, named_one}
use Rattle.declarations.proofs.sigma.add_channel_of.Goals as goal

pub add_channel-requires-clause-named : goal.add_channel-requires-clause-named
add_channel-requires-clause-named g c = (new_channel c.args.alphabet.now (shape c.args.name.now) c.in-Name.text.now (map field_of c.args.fields.now) c.requires c.in-Name.ensures).named

pub add_channel-requires-clause-in_order : goal.add_channel-requires-clause-in_order
add_channel-requires-clause-in_order g c = (new_channel c.args.alphabet.now (shape c.args.name.now) c.in-Name.text.now (map field_of c.args.fields.now) c.requires c.in-Name.ensures).in_order

pub add_channel-requires-clause-apart : goal.add_channel-requires-clause-apart
add_channel-requires-clause-apart g c = (new_channel c.args.alphabet.now (shape c.args.name.now) c.in-Name.text.now (map field_of c.args.fields.now) c.requires c.in-Name.ensures).apart

pub returns-in-Name : goal.returns-in-Name
returns-in-Name g c = rw (named_one c.args.alphabet.now (shape c.args.name.now) c.in-Name.text.now (map field_of c.args.fields.now) c.requires c.in-Name.ensures) c.add_channel.ensures
