use Rattle.std.proofs.Common.{◌≤◌, length, arith}
use Rattle.std.proofs.lemmas.List.{length-map}
use Rattle.term.specs.Limits.{Advance, most_states}
use Rattle.term.specs.Proc.{bodies_of}
use Rattle.nodes.specs.Shapes.{at}
use Rattle.nodes.specs.Looks.{look}
use Rattle.keeping.proofs.Growing.{stays-on}
use Rattle.tau_closures.proofs.Advances.{first-closure, first-limit, first-opens, nothing-within, nowhere, set-lies}
use Rattle.tau_closures.proofs.Belongings.{advance-belongs, advance-fro, advance-limit, advance-within, target-trace, trace-target}
use Rattle.tau_closures.proofs.KeptBelongings.{empty-look, some-look}
use Rattle.tau_closures.proofs.plain_sets.plain_advance.Goals as goal

pub first_level-requires-clause-lies : goal.first_level-requires-clause-lies
first_level-requires-clause-lies g c = set-lies c.args.spec.now c.requires.closed (look c.args.states.now.all.table.processes c.args.set.now) c.requires.set

pub returns-in-Err-clause-limit : goal.returns-in-Err-clause-limit
returns-in-Err-clause-limit g c =
    let qs = look c.args.states.now.all.table.processes c.args.set.now in
    λ u b. advance-limit c.args.spec.now u qs b c.args.event c.in-Err.fault c.in-Err.ensures.err

pub returns-then-is_empty-clause-none : goal.returns-then-is_empty-clause-none
returns-then-is_empty-clause-none g c =
    let s = c.args.spec.now in
    let qs = look c.args.states.now.all.table.processes c.args.set.now in
    let ms = c.first_level.new.states.all.table.processes in
    let ps = look ms c.in-Ok.first in
    let few : length ps ≤ most_states = omega (arith, c.in-Ok.ensures.few, length-map c.in-Ok.first (at ms)) in
    let none = empty-look ms c.in-Ok.first c.is_empty.result c.is_empty.ensures c.if-is_empty.true in
    λ u b t. let (Q, h) = trace-target s u qs b c.args.event t in nowhere s qs c.args.event ps c.in-Ok.ensures.all few none Q h

pub returns-then-is_empty-clause-within : goal.returns-then-is_empty-clause-within
returns-then-is_empty-clause-within g c =
    let s = c.args.spec.now in
    let B = bodies_of s.bodies in
    let qs = look c.args.states.now.all.table.processes c.args.set.now in
    let ms = c.first_level.new.states.all.table.processes in
    let ps = look ms c.in-Ok.first in
    let few : length ps ≤ most_states = omega (arith, c.in-Ok.ensures.few, length-map c.in-Ok.first (at ms)) in
    let none = empty-look ms c.in-Ok.first c.is_empty.result c.is_empty.ensures c.if-is_empty.true in
    λ u b. nothing-within B (Advance B u c.args.event) (λ Q h. nowhere s qs c.args.event ps c.in-Ok.ensures.all few none Q (advance-fro s u qs b c.args.event Q h))

pub close-requires-clause-first : goal.close-requires-clause-first
close-requires-clause-first g c =
    let s = c.args.spec.now in
    let qs = look c.args.states.now.all.table.processes c.args.set.now in
    let ms = c.first_level.new.states.all.table.processes in
    let ps = look ms c.in-Ok.first in
    let few : length ps ≤ most_states = omega (arith, c.in-Ok.ensures.few, length-map c.in-Ok.first (at ms)) in
    first-opens s qs c.args.event ps c.in-Ok.ensures.all few c.requires.closed (set-lies s c.requires.closed qs c.requires.set) c.requires.shallow

pub returns-in-Ok-close-clause-shallow : goal.returns-in-Ok-close-clause-shallow
returns-in-Ok-close-clause-shallow g c = c.in-Ok-close.ensures.ok.shallow

pub returns-in-Ok-close-clause-some : goal.returns-in-Ok-close-clause-some
returns-in-Ok-close-clause-some g c =
    let s = c.args.spec.now in
    let x = c.args.event in
    let qs = look c.args.states.now.all.table.processes c.args.set.now in
    let ms = c.first_level.new.states.all.table.processes in
    let ps = look ms c.in-Ok.first in
    let all = look c.close.new.states.all.table.processes c.in-Ok-close.next.items in
    let few : length ps ≤ most_states = omega (arith, c.in-Ok.ensures.few, length-map c.in-Ok.first (at ms)) in
    let closed = first-closure s qs x ps c.in-Ok.ensures.all few all c.in-Ok-close.ensures.ok in
    let (Q, i) = some-look ms c.in-Ok.first c.is_empty.result c.is_empty.ensures c.if-is_empty.false in
    λ u b. (target-trace s u qs b x Q (c.in-Ok.ensures.all.only Q i), advance-belongs s u qs b x all closed)

pub returns-in-Ok-close-clause-within : goal.returns-in-Ok-close-clause-within
returns-in-Ok-close-clause-within g c =
    let s = c.args.spec.now in
    let x = c.args.event in
    let qs = look c.args.states.now.all.table.processes c.args.set.now in
    let ms = c.first_level.new.states.all.table.processes in
    let ps = look ms c.in-Ok.first in
    let all = look c.close.new.states.all.table.processes c.in-Ok-close.next.items in
    let few : length ps ≤ most_states = omega (arith, c.in-Ok.ensures.few, length-map c.in-Ok.first (at ms)) in
    let closed = first-closure s qs x ps c.in-Ok.ensures.all few all c.in-Ok-close.ensures.ok in
    λ u b. advance-within s u qs b x all closed

pub returns-in-Ok-close-clause-kept : goal.returns-in-Ok-close-clause-kept
returns-in-Ok-close-clause-kept g c = stays-on c.args.states.now c.first_level.new.states c.close.new.states c.first_level.ensures.kept c.close.ensures.kept

pub returns-in-Err-close-clause-limit : goal.returns-in-Err-close-clause-limit
returns-in-Err-close-clause-limit g c =
    let s = c.args.spec.now in
    let x = c.args.event in
    let f = c.in-Err-close.fault in
    let qs = look c.args.states.now.all.table.processes c.args.set.now in
    let ms = c.first_level.new.states.all.table.processes in
    let ps = look ms c.in-Ok.first in
    let few : length ps ≤ most_states = omega (arith, c.in-Ok.ensures.few, length-map c.in-Ok.first (at ms)) in
    λ u b. advance-limit s u qs b x f (first-limit s qs x ps c.in-Ok.ensures.all few f c.in-Err-close.ensures.err)

pub returns-in-Err-close-clause-kept : goal.returns-in-Err-close-clause-kept
returns-in-Err-close-clause-kept g c = stays-on c.args.states.now c.first_level.new.states c.close.new.states c.first_level.ensures.kept c.close.ensures.kept
