use Rattle.std.proofs.Common.{◌≡◌, ◌<◌, length, sym, subst, arith}
use Rattle.std.proofs.lemmas.List.{length-map}
use Rattle.std.specs.Map.{keys_of, values_of}
use Rattle.nodes.specs.declared.node.Node.{Node}
use Rattle.nodes.specs.declared.facts.Facts.{Facts}
use Rattle.nodes.specs.Shapes.{at, shape, IsWithin}
use Rattle.nodes.specs.Tables.{Tabled, parameters_of}
use Rattle.nodes.proofs.Putting.{count, key-at, node-within-at, node-shape-at}
use Rattle.nodes.proofs.table.Table.node.Goals as goal

pub returns-in-Some-clause-within : goal.returns-in-Some-clause-within
returns-in-Some-clause-within g c =
    let S = parameters_of c.self.inside.sets.items c.self.inside.relations.items in
    let es = c.self.inside.nodes.entries in
    let k = key-at es c.args.number (c.in-Some.node.now, c.in-Some.field-0-1.now) (rw c.in-Some.is at c.get_index.ensures.entry) in
    subst (λ (t : Tabled). IsWithin t.parameters c.args.number c.in-Some.node.now) c.self.view_is
    (node-within-at S (keys_of es) (values_of es) c.args.number c.in-Some.node.now c.self.invariant k)

pub returns-in-Some-clause-shape : goal.returns-in-Some-clause-shape
returns-in-Some-clause-shape g c =
    let S = parameters_of c.self.inside.sets.items c.self.inside.relations.items in
    let es = c.self.inside.nodes.entries in
    let k = key-at es c.args.number (c.in-Some.node.now, c.in-Some.field-0-1.now) (rw c.in-Some.is at c.get_index.ensures.entry) in
    subst (λ (t : Tabled). at t.processes c.args.number ≡ shape t.parameters t.processes c.in-Some.node.now) c.self.view_is
    (node-shape-at S (keys_of es) (values_of es) c.args.number c.in-Some.node.now c.self.invariant k)

pub returns-in-None-clause-shape : goal.returns-in-None-clause-shape
returns-in-None-clause-shape g c =
    let S = parameters_of c.self.inside.sets.items c.self.inside.relations.items in
    let es = c.self.inside.nodes.entries in
    let h = subst (λ (t : Tabled). c.args.number < length t.processes) (sym c.self.view_is) c.requires in
    let n = count S (keys_of es) in
    let l = length-map es (λ (e : Node × Facts). e.0) in
    let some = c.get_index.ensures.found.1 (omega (arith, h, n, l)) in
    let none = rw c.in-None.is at some in
    absurd (cc)
