use Rattle.values.specs.Tables.{table}
use Rattle.values.specs.View.{values}
use Rattle.declared_names.proofs.Tables.{datatype_worth}
use Rattle.declared_names.proofs.standing.worth_of_entry.Goals as goal

pub returns-in_ok-constant_set-in-Datatype : goal.returns-in_ok-constant_set-in-Datatype
returns-in_ok-constant_set-in-Datatype g c =
    datatype_worth (table c.args.known.now) c.args.name.now c.args.entry.now.meaning c.in-Datatype.constants c.deref.result.now (values c.in_ok-constant_set-in-Datatype.field-0) c.in-Datatype.is c.deref.ensures.value c.in_ok-constant_set-in-Datatype.ensures
