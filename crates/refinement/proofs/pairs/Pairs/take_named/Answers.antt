use Rattle.std.proofs.Common.{◌≡◌, ℕ, ap, ◌∙◌, arith}
use Rattle.alphabet.specs.Channels.{event_count}
use Rattle.alphabet.specs.declared.events.Event.TheVariants.{Of as ev}
use Rattle.term.specs.Specs.{Specified}
use Rattle.refinement.specs.Pairs.{step_at}
use Rattle.refinement.proofs.Growing.{on}
use Rattle.refinement.proofs.Expanding.{beyond-back, next-on, taken-named, taken-more}
use Rattle.refinement.proofs.pairs.Pairs.take_named.Goals as goal

pub take-requires-clause-next : goal.take-requires-clause-next
take-requires-clause-next g c =
    let s = c.args.self.now in
    let l = c.loop-number.self in
    next-on s.spec s.made s.steps.items c.args.at c.requires.here c.requires.sound l.spec l.made l.steps.items c.loop-number.invariant.grown c.args.next.now c.requires.next

pub returns-then-not-branch-clause-breaks : goal.returns-then-not-branch-clause-breaks
returns-then-not-branch-clause-breaks g c =
    let s = c.args.self.now in
    let l = c.loop-number.self in
    beyond-back s.spec s.made s.steps.items c.args.at c.requires.here c.requires.sound l.spec l.made l.steps.items c.loop-number.invariant.grown (ev c.loop-number.number) (c.in_ok-take.ensures.beyond c.if-not-branch.true)

pub loop-number-preserved : goal.loop-number-preserved
loop-number-preserved g c =
    let s = c.args.self.now in
    let l = c.loop-number.self in
    let n = c.take.new.self in
    record {
      most = c.take.ensures.most ∙ c.loop-number.invariant.most;
      sound = c.in_ok-take.ensures.sound;
      grown = on s.spec s.made s.steps.items l.spec l.made l.steps.items n.spec n.made n.steps.items c.loop-number.invariant.grown c.in_ok-take.ensures.grown;
      taken = taken-more s.spec s.made s.steps.items c.args.at c.requires.here c.requires.sound l.spec l.made l.steps.items c.loop-number.invariant.grown n.spec n.made n.steps.items c.in_ok-take.ensures.grown c.loop-number.number c.loop-number.invariant.taken
          (c.in_ok-take.ensures.taken c.if-not-branch.false);
    }

pub returns-clause-taken : goal.returns-clause-taken
returns-clause-taken g c =
    let s = c.args.self.now in
    let l = c.loop-number.self in
    let e : c.len-count.result ≡ event_count s.made.spec.alphabet = c.len-count.ensures.count ∙ ap event_count (c.alphabet.ensures ∙ ap (λ (w : Specified). w.alphabet) c.spec.ensures.spec) in
    taken-named s.spec s.made s.steps.items c.args.at c.requires.here c.requires.sound l.spec l.made l.steps.items c.loop-number.invariant.grown c.loop-number.number c.spec.ensures.closed (omega (arith, e, c.loop-number-test.false)) c.loop-number.invariant.taken
