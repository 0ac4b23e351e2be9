use Rattle.std.proofs.Common.{◌≡◌, Some, None, map, ap, sym, subst, ◌∙◌}
use Rattle.std.specs.Option.{option_map}
use Rattle.syntax.specs.View.{shape}
use Rattle.values.specs.Names.{meaning}
use Rattle.values.specs.Tables.{input}
use Rattle.values.specs.View.{Gives}
use Rattle.event_phrases.specs.View.{listed}
use Rattle.denotation.specs.Denotes.{paired, called_by}
use Rattle.denotation.specs.Rooms.{within_limits}
use Rattle.denotation.specs.View.{body}
use Rattle.denotation.proofs.Arguments.{bytes}
use Rattle.denotation.proofs.Definitions.{no_call, unmatched, matched}
use Rattle.denotation.proofs.Progress.{nothing_within}
use Rattle.syntax.proofs.Failing.{fails_none}
use Rattle.denotation.proofs.maker.called_body.Goals as goal

pub returns-in-None : goal.returns-in-None
returns-in-None g c =
    let s = g.G.GlobalScope.scope c.args.global.now in
    let o = called_by s (meaning s.entries c.args.name.now) (listed c.args.arguments.now) in
    fails_none c.fault.result (within_limits c.args.room.now o) (nothing_within c.args.room.now o (no_call s (meaning s.entries c.args.name.now) (listed c.args.arguments.now) c.in-None.ensures))

pub returns-in-None-2 : goal.returns-in-None-2
returns-in-None-2 g c =
    let s = g.G.GlobalScope.scope c.args.global.now in
    let m = meaning s.entries c.args.name.now in
    let vs = listed c.args.arguments.now in
    let none : paired (bytes c.in-Some.parameters.now) vs ≡ None = sym c.in_ok-parameter_inputs-in-Some.ensures ∙ ap (option_map (λ v. map input v.items)) c.in-None-2.is in
    fails_none c.fault-in-None-2.result (within_limits c.args.room.now (called_by s m vs)) (nothing_within c.args.room.now (called_by s m vs) (unmatched s m vs (bytes c.in-Some.parameters.now) (shape c.in-Some.tree.now) c.in-Some.ensures none))

pub returns-in-Some-2 : goal.returns-in-Some-2
returns-in-Some-2 g c =
    let s = g.G.GlobalScope.scope c.args.global.now in
    let m = meaning s.entries c.args.name.now in
    let vs = listed c.args.arguments.now in
    let is = map input c.in-Some-2.inputs.items in
    let some : paired (bytes c.in-Some.parameters.now) vs ≡ Some is = sym c.in_ok-parameter_inputs-in-Some.ensures ∙ ap (option_map (λ v. map input v.items)) c.in-Some-2.is in
    subst (λ o. Gives (λ b. (body b, c.body_within.new.room)) c.body_within.result (within_limits c.args.room.now o))
    (sym (matched s m vs (bytes c.in-Some.parameters.now) (shape c.in-Some.tree.now) c.in-Some.ensures is some)) c.body_within.ensures
