use Rattle.std.proofs.Common.{◌<◌, length, sym, subst, arith}
use Rattle.std.proofs.lemmas.List.{length-map}
use Rattle.std.proofs.lemmas.Option.{get_or_from_slice_get}
use Rattle.std.specs.Map.{keys_of, values_of}
use Rattle.nodes.specs.declared.node.Node.{Node}
use Rattle.nodes.specs.declared.facts.Facts.{Facts}
use Rattle.nodes.specs.Shapes.{at, processes}
use Rattle.nodes.specs.Known.{IsKnown}
use Rattle.nodes.specs.Tables.{Tabled, parameters_of}
use Rattle.nodes.proofs.Putting.{count}
use Rattle.nodes.proofs.table.Table.facts.Goals as goal

pub index-requires : goal.index-requires
index-requires g c =
    let es = c.self.inside.nodes.entries in
    let h = subst (λ (t : Tabled). c.args.number < length t.processes) (sym c.self.view_is) c.requires in
    let n = count (parameters_of c.self.inside.sets.items c.self.inside.relations.items) (keys_of es) in
    let l = length-map es (λ (e : Node × Facts). e.0) in
    omega (arith, h, n, l)

pub returns : goal.returns
returns g c =
    let S = parameters_of c.self.inside.sets.items c.self.inside.relations.items in
    let es = c.self.inside.nodes.entries in
    let h = subst (λ (t : Tabled). c.args.number < length t.processes) (sym c.self.view_is) c.requires in
    let n = count S (keys_of es) in
    let l : c.args.number < length (values_of es) = omega (arith, h, n, c.self.invariant.count) in
    subst (λ (t : Tabled). IsKnown c.index.result.now (at t.processes c.args.number)) c.self.view_is
    (subst (λ (f : Facts). IsKnown f (at (processes S (keys_of es)) c.args.number))
    (get_or_from_slice_get (values_of es) c.args.number c.index.result.now c.index.result.now c.index.ensures)
    (c.self.invariant.known c.args.number c.index.result.now l))
