use Rattle.printing.proofs.Parts.{parts_put}
use Rattle.printing.proofs.whole.text_of.Goals as goal

pub returns : goal.returns
returns g c =
    parts_put c.args.spec.now c.alphabet-alphabet.result.now c.bodies-bodies.result c.in_ok-for_datatype.for_datatype c.in_ok-for_datatype.for_bodies c.new-text.result.items
    c.put_constants.new.text.items c.put_channels.new.text.items c.put_bodies.new.text.items c.alphabet-alphabet.ensures c.bodies-bodies.ensures.count c.in_ok-for_datatype.ensures.0
    c.in_ok-for_datatype.ensures.1 c.new-text.ensures.items c.in_ok-put_constants.ensures c.in_ok-put_channels.ensures c.in_ok-put_bodies.ensures
