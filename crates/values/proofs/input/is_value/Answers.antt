use Rattle.std.proofs.Common.{map, sym, ap}
use Rattle.values.specs.View.{value}
use Rattle.values.specs.Tables.{input, names_value, table}
use Rattle.values.proofs.Inputs.{by_input}
use Rattle.values.proofs.input.is_value.Goals as goal

pub returns-in-Some : goal.returns-in-Some
unfolding names_value
returns-in-Some g c = sym (ap names_value (by_input (table c.args.known.now) (map input c.args.inputs.now) c.args.name.now (value c.in-Some.field-0.now) (sym c.in-Some.ensures)))
