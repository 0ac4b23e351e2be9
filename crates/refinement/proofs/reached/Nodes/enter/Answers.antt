use Rattle.std.proofs.Common.{sym, ◌∙◌, true≢false}
use Rattle.refinement.proofs.KeepingNodes.{unsettled-if}
use Rattle.refinement.proofs.NodesGrowing.{among-put, grew-put, nodes-put}
use Rattle.refinement.proofs.reached.Nodes.enter.Goals as goal

pub put-requires-clause-fresh : goal.put-requires-clause-fresh
put-requires-clause-fresh g c = λ h. true≢false (sym (c.has.ensures.1 h) ∙ c.if-has.false)

pub returns-clause-sound : goal.returns-clause-sound
returns-clause-sound g c =
    let s = c.args.self.now in
    let n = c.put.new.self in
    nodes-put c.put.result s.space n.space s.nodes.items n.nodes.items s.places.entries n.places.entries s.most n.most c.args.node
    c.put.ensures.space c.put.ensures.most c.put.ensures.put c.put.ensures.placed c.put.ensures.few c.requires.sound c.requires.tied

pub returns-clause-fault : goal.returns-clause-fault
returns-clause-fault g c =
    let s = c.args.self.now in
    unsettled-if s.nodes.items s.places.entries c.requires.sound.placed c.args.node (λ h. true≢false (sym (c.has.ensures.1 h) ∙ c.if-has.false)) s.space c.requires.sound.tied c.requires.tied c.put.result s.most c.put.ensures.full

pub returns-clause-found : goal.returns-clause-found
returns-clause-found g c =
    let n = c.put.new.self in
    among-put c.put.result n.space c.args.self.now.nodes.items n.nodes.items c.args.node c.put.ensures.put

pub returns-clause-grown : goal.returns-clause-grown
returns-clause-grown g c =
    let s = c.args.self.now in
    let n = c.put.new.self in
    grew-put c.put.result s.space n.space s.nodes.items n.nodes.items c.args.node c.put.ensures.space c.put.ensures.put
