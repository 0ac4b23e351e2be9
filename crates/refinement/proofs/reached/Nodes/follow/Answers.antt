use Rattle.std.proofs.Common.{◌≡◌, ◌<◌, IfErr, inr, length, subst}
use Rattle.std.proofs.lemmas.List.{get_or_read}
use Rattle.spaces.proofs.Growing.{grew-same}
use Rattle.alphabet.specs.declared.events.Event.TheVariants.{Of as ev}
use Rattle.term.specs.Specs.{Specified}
use Rattle.refinement.specs.Nodes.{no_node, node_at}
use Rattle.refinement.specs.Properties.{IsUnsettled}
use Rattle.refinement.proofs.NodesGrowing.{led-next, none-led, set-reached, sound-grown, tied-next}
use Rattle.refinement.proofs.reached.Nodes.follow.Goals as goal

pub returns-in-Ok-None-clause-sound : goal.returns-in-Ok-None-clause-sound
returns-in-Ok-None-clause-sound g c =
    let s = c.args.self.now in
    let is : c.index-node.result.now ≡ node_at s.nodes.items c.args.at = get_or_read s.nodes.items c.args.at c.index-node.result.now c.requires.here c.index-node.ensures no_node in
    sound-grown s.space c.advance.new.space s.nodes.items c.args.at c.args.event c.index-node.result.now c.requires.here is c.requires.sound c.advance.ensures.space

pub returns-in-Ok-None-clause-led : goal.returns-in-Ok-None-clause-led
returns-in-Ok-None-clause-led g c =
    let s = c.args.self.now in
    let is : c.index-node.result.now ≡ node_at s.nodes.items c.args.at = get_or_read s.nodes.items c.args.at c.index-node.result.now c.requires.here c.index-node.ensures no_node in
    none-led s.space c.advance.new.space s.nodes.items c.args.at c.args.event c.index-node.result.now c.requires.here is c.requires.sound c.advance.ensures.space c.in-Ok-None.field-0 c.in-Ok-None.field-0-is c.in-Ok-None.ensures.none

pub returns-in-Err-clause-fault : goal.returns-in-Err-clause-fault
returns-in-Err-clause-fault g c =
    let s = c.args.self.now in
    let is : c.index-node.result.now ≡ node_at s.nodes.items c.args.at = get_or_read s.nodes.items c.args.at c.index-node.result.now c.requires.here c.index-node.ensures no_node in
    let (u, b) = set-reached s.space s.space s.nodes.items c.args.at c.args.event c.index-node.result.now c.requires.here is c.requires.sound (grew-same s.space) in
    inr (u, ev c.args.event, c.in-Err.ensures.limit u b)

pub enter-requires-clause-sound : goal.enter-requires-clause-sound
enter-requires-clause-sound g c =
    let s = c.args.self.now in
    let is : c.index-node.result.now ≡ node_at s.nodes.items c.args.at = get_or_read s.nodes.items c.args.at c.index-node.result.now c.requires.here c.index-node.ensures no_node in
    sound-grown s.space c.advance.new.space s.nodes.items c.args.at c.args.event c.index-node.result.now c.requires.here is c.requires.sound c.advance.ensures.space

pub enter-requires-clause-tied : goal.enter-requires-clause-tied
enter-requires-clause-tied g c =
    let s = c.args.self.now in
    let is : c.index-node.result.now ≡ node_at s.nodes.items c.args.at = get_or_read s.nodes.items c.args.at c.index-node.result.now c.requires.here c.index-node.ensures no_node in
    tied-next s.space c.advance.new.space s.nodes.items c.args.at c.args.event c.index-node.result.now c.requires.here is c.requires.sound c.advance.ensures.space c.in-Ok-Some.field-0 c.in-Ok-Some.set c.in-Ok-Some.field-0-is c.in-Ok-Some.ensures.some

pub returns-clause-led : goal.returns-clause-led
returns-clause-led g c =
    let s = c.args.self.now in
    let is : c.index-node.result.now ≡ node_at s.nodes.items c.args.at = get_or_read s.nodes.items c.args.at c.index-node.result.now c.requires.here c.index-node.ensures no_node in
    led-next s.space c.advance.new.space s.nodes.items c.args.at c.args.event c.index-node.result.now c.requires.here is c.requires.sound c.advance.ensures.space c.in-Ok-Some.field-0 c.in-Ok-Some.set c.in-Ok-Some.field-0-is c.in-Ok-Some.ensures.some
    c.enter.result c.enter.new.self.space c.enter.new.self.nodes.items c.enter.ensures.space c.enter.ensures.found

pub returns-clause-fault : goal.returns-clause-fault
returns-clause-fault g c = subst (λ (w : Specified). IfErr c.enter.result (IsUnsettled c.args.self.now.most w)) c.advance.ensures.space.spec c.enter.ensures.fault
