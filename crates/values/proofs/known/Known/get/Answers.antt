use Rattle.std.proofs.Common.{ap, ◌∙◌}
use Rattle.std.specs.Option.{option_map}
use Rattle.values.specs.View.{worth}
use Rattle.values.proofs.Lists.{looked_up, copied}
use Rattle.values.proofs.known.Known.get.Goals as goal

pub returns : goal.returns
returns g c = copied worth c.get.result ∙ ap (option_map worth) c.get.ensures.value ∙ looked_up c.args.self.now.worths.entries c.args.name.now
