use Rattle.std.proofs.Common.{ap, ◌∙◌}
use Rattle.std.specs.BTreeSet.{insert_key}
use Rattle.printing.specs.Names.{byte_order}
use Rattle.printing.specs.View.{bytes}
use Rattle.printing.proofs.NameLists.{insert_view}
use Rattle.printing.proofs.names.put.Goals as goal

pub returns : goal.returns
returns g c =
    ap bytes c.in_ok-insert.ensures.keys ∙ insert_view c.args.names.now.keys c.in_ok-from_slice.field-0
    ∙ ap (insert_key byte_order (bytes c.args.names.now.keys)) c.in_ok-from_slice.ensures.items
