use Rattle.std.proofs.Common.{[], map, ap, sym, subst, ◌∙◌}
use Rattle.syntax.specs.View.{shape}
use Rattle.values.specs.Tables.{input}
use Rattle.values.specs.View.{Gives}
use Rattle.event_phrases.specs.Scopes.{Scope}
use Rattle.event_phrases.proofs.Scopes.{no_inputs}
use Rattle.denotation.specs.Denotes.{body_of}
use Rattle.denotation.specs.Rooms.{within_limits}
use Rattle.denotation.specs.Phrases.{phrase_of, denoted}
use Rattle.denotation.specs.View.{body}
use Rattle.denotation.proofs.Definitions.{no_process, no_definition, body_from}
use Rattle.denotation.proofs.Progress.{nothing_within}
use Rattle.syntax.proofs.Failing.{fails_none}
use Rattle.denotation.proofs.maker.plain_body.Goals as goal

pub returns-then-not-is_process : goal.returns-then-not-is_process
returns-then-not-is_process g c =
    let s = g.G.GlobalScope.scope c.args.global.now in
    let o = body_of s (c.args.name.now, []) in
    fails_none c.fault.result (within_limits c.args.room.now o) (nothing_within c.args.room.now o (no_process s c.args.name.now (sym c.is_process.ensures ∙ c.if-not-is_process.true)))

pub returns-in-None : goal.returns-in-None
returns-in-None g c =
    let s = g.G.GlobalScope.scope c.args.global.now in
    let o = body_of s (c.args.name.now, []) in
    fails_none c.fault-in-None.result (within_limits c.args.room.now o) (nothing_within c.args.room.now o (no_definition s c.args.name.now (sym c.is_process.ensures ∙ c.if-not-is_process.false) c.in-None.ensures))

pub returns-in-Some : goal.returns-in-Some
returns-in-Some g c =
    let s = g.G.GlobalScope.scope c.args.global.now in
    let t = shape c.in-Some.tree.now in
    let inner = no_inputs s (map input c.new.result.items) (ap (map input) c.new.ensures.items) in
    subst (λ o. Gives (λ b. (body b, c.body_within.new.room)) c.body_within.result (within_limits c.args.room.now o))
    (ap (λ (s : Scope). denoted (phrase_of t) s) inner ∙ sym (body_from s c.args.name.now (sym c.is_process.ensures ∙ c.if-not-is_process.false) t c.in-Some.ensures)) c.body_within.ensures
