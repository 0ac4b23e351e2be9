use Rattle.std.proofs.Common.{◌∙◌}
use Rattle.syntax.specs.View.{shape}
use Rattle.values.specs.Tables.{table}
use Rattle.declared_names.proofs.Shapes.{alone}
use Rattle.declared_names.proofs.part.worth_alone.Goals as goal

pub returns : goal.returns
returns g c = rw (← alone (table c.args.known.now) c.deref.result.now (shape c.args.phrase.now) (c.deref.ensures.value ∙ c.new-none.ensures.items)) c.stands_for.ensures
