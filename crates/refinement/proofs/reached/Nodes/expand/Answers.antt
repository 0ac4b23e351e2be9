use Rattle.std.proofs.Common.{◌≡◌, ap, ◌∙◌, arith}
use Rattle.std.proofs.lemmas.List.{get_or_read}
use Rattle.alphabet.specs.Channels.{event_count}
use Rattle.term.specs.Specs.{Specified}
use Rattle.refinement.specs.Nodes.{no_node, node_at}
use Rattle.refinement.proofs.NodesGrowing.{led-all, led-more, next-on, nodes-on}
use Rattle.refinement.proofs.reached.Nodes.expand.Goals as goal

pub take-requires-clause-next : goal.take-requires-clause-next
take-requires-clause-next g c =
    let s = c.args.self.now in
    let l = c.loop-number.self in
    let is : c.index-node.result.now ≡ node_at s.nodes.items c.args.at = get_or_read s.nodes.items c.args.at c.index-node.result.now c.requires.here c.index-node.ensures no_node in
    next-on s.space s.nodes.items c.args.at c.requires.here c.requires.sound l.space l.nodes.items c.loop-number.invariant.grown c.next-next.result c.index-node.result.now is c.next-next.ensures c.loop-number.number

pub loop-number-preserved : goal.loop-number-preserved
loop-number-preserved g c =
    let s = c.args.self.now in
    let l = c.loop-number.self in
    let n = c.take.new.self in
    record {
      most = c.take.ensures.most ∙ c.loop-number.invariant.most;
      sound = c.in_ok-take.ensures.sound;
      grown = nodes-on s.space s.nodes.items l.space l.nodes.items n.space n.nodes.items c.loop-number.invariant.grown c.in_ok-take.ensures.grown;
      led = led-more s.space s.nodes.items c.args.at c.requires.here c.requires.sound l.space l.nodes.items c.loop-number.invariant.grown n.space n.nodes.items c.in_ok-take.ensures.grown c.loop-number.number c.loop-number.invariant.led c.in_ok-take.ensures.led;
    }

pub returns-clause-led : goal.returns-clause-led
returns-clause-led g c =
    let s = c.args.self.now in
    let l = c.loop-number.self in
    let e : c.len-count.result ≡ event_count s.space.spec.alphabet = c.len-count.ensures.count ∙ ap event_count (c.alphabet.ensures ∙ ap (λ (w : Specified). w.alphabet) c.spec.ensures.spec) in
    led-all s.space s.nodes.items c.args.at c.requires.here c.requires.sound l.space l.nodes.items c.loop-number.invariant.grown c.loop-number.number c.spec.ensures.closed (omega (arith, e, c.loop-number-test.false)) c.loop-number.invariant.led
