use Rattle.std.proofs.Common.{◌≡◌, length, sym, ◌∙◌, subst}
use Rattle.std.proofs.lemmas.List.{length-map}
use Rattle.std.specs.Map.{keys_of}
use Rattle.nodes.specs.declared.node.Node.{Node}
use Rattle.nodes.specs.declared.facts.Facts.{Facts}
use Rattle.nodes.specs.Tables.{Tabled, parameters_of}
use Rattle.nodes.proofs.Putting.{count}
use Rattle.nodes.proofs.table.Table.len.Goals as goal

pub returns : goal.returns
returns g c =
    let es = c.self.inside.nodes.entries in
    let S = parameters_of c.self.inside.sets.items c.self.inside.relations.items in
    subst (λ (t : Tabled). c.len.result ≡ length t.processes) c.self.view_is
    (c.len.ensures.len ∙ sym (length-map es (λ (e : Node × Facts). e.0)) ∙ sym (count S (keys_of es)))
