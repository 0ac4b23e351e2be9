use Rattle.std.proofs.Common.{◌≡◌}
use Rattle.std.proofs.lemmas.List.{get_or_read}
use Rattle.alphabet.specs.declared.events.Event.TheVariants.{Tick as tick}
use Rattle.refinement.specs.Pairs.{no_step, step_at}
use Rattle.refinement.proofs.Expanding.{beyond-back, next-here, next-on, none-left, taken-all}
use Rattle.refinement.proofs.Following.{at-none}
use Rattle.refinement.proofs.pairs.Pairs.expand.Goals as goal

pub take_named-requires-clause-next : goal.take_named-requires-clause-next
take_named-requires-clause-next g c =
    let s = c.args.self.now in
    let is : c.index.result.now ≡ step_at s.steps.items c.args.at = get_or_read s.steps.items c.args.at c.index.result.now c.requires.here c.index.ensures no_step in
    next-here s.spec s.made s.steps.items c.args.at c.requires.here c.requires.sound c.next-next.result c.index.result.now is c.next-next.ensures

pub take-requires-clause-next : goal.take-requires-clause-next
take-requires-clause-next g c =
    let s = c.args.self.now in
    let l = c.take_named.new.self in
    let is : c.index.result.now ≡ step_at s.steps.items c.args.at = get_or_read s.steps.items c.args.at c.index.result.now c.requires.here c.index.ensures no_step in
    next-on s.spec s.made s.steps.items c.args.at c.requires.here c.requires.sound l.spec l.made l.steps.items c.in_ok-event.ensures.grown c.next-next.result
    (next-here s.spec s.made s.steps.items c.args.at c.requires.here c.requires.sound c.next-next.result c.index.result.now is c.next-next.ensures)

pub returns-then-branch-clause-taken : goal.returns-then-branch-clause-taken
returns-then-branch-clause-taken g c =
    let s = c.args.self.now in
    let l = c.take_named.new.self in
    let n = c.take.new.self in
    taken-all s.spec s.made s.steps.items c.args.at c.requires.here c.requires.sound l.spec l.made l.steps.items c.in_ok-event.ensures.grown n.spec n.made n.steps.items c.in_ok-take.ensures.grown
    (at-none c.in_ok-event.field-0 (none-left c.in_ok-event.field-0 c.in_default.not-Some) c.in_ok-event.ensures.taken) (c.in_ok-take.ensures.taken c.if-branch.true)

pub returns-else-branch-clause-breaks : goal.returns-else-branch-clause-breaks
returns-else-branch-clause-breaks g c =
    let s = c.args.self.now in
    let l = c.take_named.new.self in
    beyond-back s.spec s.made s.steps.items c.args.at c.requires.here c.requires.sound l.spec l.made l.steps.items c.in_ok-event.ensures.grown tick (c.in_ok-take.ensures.beyond c.if-branch.false)
