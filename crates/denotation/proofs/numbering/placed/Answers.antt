use Rattle.std.proofs.Common.{map, sym, ap, ◌∙◌}
use Rattle.denotation.specs.View.{key}
use Rattle.denotation.proofs.FirstPlaces.{met_keys, met_place}
use Rattle.denotation.proofs.numbering.placed.Goals as goal

pub returns-clause-keys : goal.returns-clause-keys
returns-clause-keys g c = met_keys c.args.met.now.keys c.args.call ∙ ap (map key) (sym c.in_ok-number.ensures.keys)

pub returns-clause-number : goal.returns-clause-number
returns-clause-number g c = met_place c.args.met.now.keys c.args.call ∙ sym c.in_ok-number.ensures.index
