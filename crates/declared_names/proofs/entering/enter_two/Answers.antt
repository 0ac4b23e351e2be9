use Rattle.std.proofs.Common.{sym, subst}
use Rattle.syntax.specs.View.{shape}
use Rattle.values.specs.View.{Gives}
use Rattle.declared_names.specs.Stored.{listed}
use Rattle.declared_names.proofs.Forms.{in_fielded, in_datatype, in_definition, none_of_two}
use Rattle.declared_names.proofs.entering.enter_two.Goals as goal

pub returns-in-ChannelsWithFields : goal.returns-in-ChannelsWithFields
returns-in-ChannelsWithFields g c =
    subst (Gives (λ _. listed c.enter_fielded.new.table.entries) c.enter_fielded.result) (sym (in_fielded (listed c.args.table.now.entries) c.args.form (shape c.args.first.now) (shape c.args.second.now) c.in-ChannelsWithFields.is)) c.enter_fielded.ensures

pub returns-in-Datatype : goal.returns-in-Datatype
returns-in-Datatype g c =
    subst (Gives (λ _. listed c.enter_typed.new.table.entries) c.enter_typed.result) (sym (in_datatype (listed c.args.table.now.entries) c.args.form (shape c.args.first.now) (shape c.args.second.now) c.in-Datatype.is)) c.enter_typed.ensures

pub returns-in-Definition : goal.returns-in-Definition
returns-in-Definition g c =
    subst (Gives (λ _. listed c.enter_defined.new.table.entries) c.enter_defined.result) (sym (in_definition (listed c.args.table.now.entries) c.args.form (shape c.args.first.now) (shape c.args.second.now) c.in-Definition.is)) c.enter_defined.ensures

pub returns-in_default : goal.returns-in_default
returns-in_default g c =
    rw c.fault.ensures (none_of_two (listed c.args.table.now.entries) c.args.form (shape c.args.first.now) (shape c.args.second.now) c.in_default.not-ChannelsWithFields c.in_default.not-Datatype c.in_default.not-Definition)
