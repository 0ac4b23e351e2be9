use Rattle.std.proofs.Common.{arith, sym, ap, subst, ◌∙◌}
use Rattle.syntax.specs.Parsing.{syntaxes}
use Rattle.syntax.specs.View.{shape, shapes}
use Rattle.values.specs.View.{Gives}
use Rattle.declared_names.specs.Stored.{listed}
use Rattle.declared_names.specs.Entering.{put_channels, put_form}
use Rattle.declared_names.proofs.Shapes.{one_tree, two_trees, three_trees}
use Rattle.declared_names.proofs.Forms.{in_channels, in_parametric, not_channels, not_parametric, other_number}
use Rattle.declared_names.proofs.entering.enter_form.Goals as goal

pub returns-in-Channels : goal.returns-in-Channels
returns-in-Channels g c =
    let es = listed c.args.table.now.entries in
    let names = shape c.names-item.result in
    let whole = ap (put_form es c.args.form) (one_tree c.args.parts.now c.names-item.result (omega arith) c.names-item.is)
    ∙ in_channels es c.args.form names c.in-Channels.is
    ∙ ap (λ ts. put_channels es names (syntaxes (shapes ts))) (sym c.no_parts.ensures) in
    subst (Gives (λ _. listed c.enter_channels.new.table.entries) c.enter_channels.result) (sym whole) c.enter_channels.ensures

pub returns-in_default-form : goal.returns-in_default-form
returns-in_default-form g c =
    let es = listed c.args.table.now.entries in
    rw c.fault.ensures (ap (put_form es c.args.form) (one_tree c.args.parts.now c.names-item.result (omega arith) c.names-item.is) ∙ not_channels es c.args.form (shape c.names-item.result) c.in_default-form.not-Channels)

pub returns-in-len2 : goal.returns-in-len2
returns-in-len2 g c =
    let es = listed c.args.table.now.entries in
    subst (Gives (λ _. listed c.enter_two.new.table.entries) c.enter_two.result) (sym (ap (put_form es c.args.form) (two_trees c.args.parts.now c.first-item.result c.second-item.result (omega arith) c.first-item.is c.second-item.is))) c.enter_two.ensures

pub returns-in-DefinitionWithParameters : goal.returns-in-DefinitionWithParameters
returns-in-DefinitionWithParameters g c =
    let es = listed c.args.table.now.entries in
    let whole = ap (put_form es c.args.form) (three_trees c.args.parts.now c.name-item.result c.parameters-item.result c.body-item.result (omega arith) c.name-item.is c.parameters-item.is c.body-item.is)
    ∙ in_parametric es c.args.form (shape c.name-item.result) (shape c.parameters-item.result) (shape c.body-item.result) c.in-DefinitionWithParameters.is in
    subst (Gives (λ _. listed c.enter_parametric.new.table.entries) c.enter_parametric.result) (sym whole) c.enter_parametric.ensures

pub returns-in_default-form-2 : goal.returns-in_default-form-2
returns-in_default-form-2 g c =
    let es = listed c.args.table.now.entries in
    rw c.fault-in_default-form-2.ensures (ap (put_form es c.args.form) (three_trees c.args.parts.now c.name-item.result c.parameters-item.result c.body-item.result (omega arith) c.name-item.is c.parameters-item.is c.body-item.is)
    ∙ not_parametric es c.args.form (shape c.name-item.result) (shape c.parameters-item.result) (shape c.body-item.result) c.in_default-form-2.not-DefinitionWithParameters)

pub returns-in_default : goal.returns-in_default
returns-in_default g c =
    rw c.fault-in_default.ensures (other_number (listed c.args.table.now.entries) c.args.form c.args.parts.now (grind arith) (grind arith) (grind arith))
