use Rattle.std.proofs.Common.{◌≡◌, ◌<◌, ◌∙◌, length, subst, arith}
use Rattle.term.specs.Proc.{bodies_of}
use Rattle.term.specs.Specs.{Specified}
use Rattle.refinement.specs.Properties.{Has}
use Rattle.refinement.proofs.Expanding.{none-left}
use Rattle.refinement.proofs.Following.{at-none}
use Rattle.refinement.proofs.Having.{has-it}
use Rattle.refinement.proofs.NodesGrowing.{node-first, nodes-more, still-here}
use Rattle.refinement.proofs.reached.Nodes.seek.Goals as goal

pub loop-at-preserved : goal.loop-at-preserved
loop-at-preserved g c =
    let l = c.loop-at.self in
    let n = c.expand.new.self in
    let inv = c.loop-at.invariant in
    let grown = c.in_ok-expand.ensures.grown in
    let here : c.loop-at.at < length l.nodes.items = omega (arith, c.len.ensures, c.loop-at-test.true) in
    let there : c.loop-at.at < length n.nodes.items = still-here l.space l.nodes.items c.loop-at.at here inv.sound n.space n.nodes.items grown in
    record {
      sound = c.in_ok-expand.ensures.sound;
      most = c.expand.ensures.most ∙ inv.most;
      some = omega (arith, there);
      spec = grown.space.spec ∙ inv.spec;
      here = omega (arith, there);
      done = nodes-more c.args.property l.space l.nodes.items n.space n.nodes.items grown inv.sound c.loop-at.at here inv.done
          (at-none c.lack.result (none-left c.lack.result c.in_default.not-Some) c.lack.ensures.well) c.in_ok-expand.ensures.led;
    }

pub returns-clause-has : goal.returns-clause-has
returns-clause-has g c =
    let l = c.loop-at.self in
    let inv = c.loop-at.invariant in
    subst (λ (w : Specified). Has c.args.property (bodies_of w.bodies)) inv.spec
    (has-it c.args.property l.space l.nodes.items (λ i h. inv.done i (omega (arith, h, c.len.ensures, c.loop-at-test.false))) (0, inv.some, node-first l.space l.nodes.items inv.sound.tied inv.some))
