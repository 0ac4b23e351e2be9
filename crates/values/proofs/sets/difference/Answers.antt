use Rattle.std.proofs.Common.{rules}
use Rattle.std.proofs.lemmas.Fn.{filter_same}
use Rattle.values.proofs.ValueSets.{difference_view}
use Rattle.values.proofs.sets.difference.Goals as goal

pub returns : goal.returns
returns g c = difference_view c.args.first.keys c.args.second.now.keys c.retain.new.self.keys (filter_same _ _ _ (λ x b f' k. search rules) _ _ c.retain.ensures.filtered)
