use Rattle.std.proofs.Common.{rules}
use Rattle.std.proofs.lemmas.Fn.{filter_same}
use Rattle.values.proofs.ValueSets.{intersection_view}
use Rattle.values.proofs.sets.intersection.Goals as goal

pub returns : goal.returns
returns g c = intersection_view c.args.first.keys c.args.second.now.keys c.retain.new.self.keys (filter_same _ _ _ (λ x b f' k. search rules) _ _ c.retain.ensures.filtered)
