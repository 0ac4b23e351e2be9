use Rattle.std.proofs.Common.{Option, Some, map, sym, ap, ◌∙◌}
use Rattle.values.specs.Worths.{Worth, one}
use Rattle.values.specs.View.{value}
use Rattle.values.specs.Tables.{input, table}
use Rattle.values.proofs.Inputs.{by_input}
use Rattle.values.proofs.input.worth_behind.Goals as goal

pub returns-in_ok-clone-in-Some : goal.returns-in_ok-clone-in-Some
returns-in_ok-clone-in-Some g c =
    by_input (table c.args.known.now) (map input c.args.inputs.now) c.args.name.now (value c.in-Some.value.now) (sym c.in-Some.ensures)
    ∙ ap (λ v. let w : Option Worth = Some (one v) in w) (sym c.in_ok-clone-in-Some.ensures.cases)
