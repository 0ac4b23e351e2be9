use Rattle.std.proofs.Common.{◌≡◌, ◌<◌, ◌≤◌, length, arith}
use Rattle.declared_names.specs.View.{entries}
use Rattle.declared_names.proofs.ProcessNames.{follows_none, follows_more, follows_known, follows_all}
use Rattle.declared_names.proofs.entries.Entries.is_process_at_last.Goals as goal

pub loop-init : goal.loop-init
loop-init g c = follows_none (entries c.args.self.now) c.args.name.now

pub returns-in-Known : goal.returns-in-Known
returns-in-Known g c =
    let within : c.loop.counter ≤ length (entries c.args.self.now) = omega (arith, c.len-end.ensures) in
    follows_known (entries c.args.self.now) c.args.name.now c.loop.counter c.loop.followed.now c.in-Known.answer within c.loop.invariant c.in-Known.ensures

pub loop-preserved : goal.loop-preserved
loop-preserved g c =
    let within : c.loop.counter < length (entries c.args.self.now) = omega (arith, c.len-end.ensures) in
    follows_more (entries c.args.self.now) c.args.name.now c.loop.counter c.loop.followed.now c.in-SameAs.next.now within c.loop.invariant c.in-SameAs.ensures

pub returns-in-Known-answer : goal.returns-in-Known-answer
returns-in-Known-answer g c =
    let within : c.loop.counter ≤ length (entries c.args.self.now) = omega (arith, c.len-end.ensures) in
    follows_known (entries c.args.self.now) c.args.name.now c.loop.counter c.loop.followed.now c.in-Known-answer.answer within c.loop.invariant c.in-Known-answer.ensures

pub returns-in-SameAs-answer : goal.returns-in-SameAs-answer
returns-in-SameAs-answer g c =
    let all : c.loop.counter ≡ length (entries c.args.self.now) = omega (arith, c.len-end.ensures) in
    follows_all (entries c.args.self.now) c.args.name.now c.loop.counter c.loop.followed.now c.in-SameAs-answer.field-0.now all c.loop.invariant c.in-SameAs-answer.ensures
