use Rattle.std.proofs.Common.{subst}
use Rattle.transitions.specs.Memory.{Kept}
use Rattle.transitions.specs.Memory.{MayRecall}
use Rattle.transitions.proofs.Remembering.{hidden-more, acts-more}
use Rattle.transitions.proofs.memory.Memory.put.Goals as goal

pub returns-in-Tau : goal.returns-in-Tau
returns-in-Tau g c =
    let m = c.self.inside in
    subst (λ (old : Kept). MayRecall old (m.acts, c.put.new.self) c.args.number c.args.label c.args.list.now) c.self.view_is
    (hidden-more m.acts m.hids c.put.new.self c.args.number c.args.label c.args.list.now c.in-Tau.is c.put.ensures)

pub returns-in-Event : goal.returns-in-Event
returns-in-Event g c =
    let m = c.self.inside in
    subst (λ (old : Kept). MayRecall old (c.put-in-Event.new.self, m.hids) c.args.number c.args.label c.args.list.now) c.self.view_is
    (acts-more m.acts c.put-in-Event.new.self m.hids c.key_of.result c.args.number c.args.label c.args.list.now c.key_of.ensures.key c.key_of.ensures.small c.put-in-Event.ensures)
