use Rattle.refinement.specs.declared.reached.Node.{Node}
use Rattle.refinement.proofs.KeepingNodes.{first-full, first-sound}
use Rattle.refinement.proofs.reached.Nodes.begin.Goals as goal

pub returns-clause-sound : goal.returns-clause-sound
returns-clause-sound g c =
    let s = c.args.self.now in
    let n = c.put.new.self in
    let p : Node = record { set = c.in-Ok.set; parent = 0; event = 0 } in
    first-sound c.start.new.space s.nodes.items s.places.entries p c.requires c.in-Ok.ensures.belongs c.put.result n.space n.nodes.items n.places.entries s.most n.most c.put.ensures.space c.put.ensures.most c.put.ensures.put c.put.ensures.placed c.put.ensures.few

pub returns-clause-fault : goal.returns-clause-fault
returns-clause-fault g c =
    let s = c.args.self.now in
    let p : Node = record { set = c.in-Ok.set; parent = 0; event = 0 } in
    first-full c.start.new.space s.nodes.items s.places.entries p c.requires c.in-Ok.ensures.belongs c.put.result s.space.spec s.most c.start.ensures.space.spec c.put.ensures.full
