use Rattle.std.proofs.Common.{◌≡◌, true, false, ap, sym, subst, ◌∙◌}
use Rattle.syntax.specs.View.{shape}
use Rattle.values.specs.View.{Gives}
use Rattle.denotation.specs.Denotes.{is_nameless, body_under}
use Rattle.denotation.specs.Rooms.{within_limits}
use Rattle.denotation.specs.View.{body, key, root as root_view}
use Rattle.denotation.proofs.Roots.{nameless, below_phrase, below_others}
use Rattle.denotation.proofs.maker.body_under.Goals as goal

pub returns-in-Named : goal.returns-in-Named
unfolding body_under
returns-in-Named g c =
    let s = g.G.GlobalScope.scope c.args.global.now in
    let k = key c.args.call.now in
    subst (λ o. Gives (λ b. (body b, c.body.new.room)) c.body.result (within_limits c.args.room.now o)) (sym (ap (λ r. body_under (root_view r) s k) c.in-Named.is)) c.body.ensures

pub returns-then-is_nameless : goal.returns-then-is_nameless
returns-then-is_nameless g c =
    let s = g.G.GlobalScope.scope c.args.global.now in
    let k = c.args.call.now in
    let none : is_nameless (key k) ≡ true = sym (nameless k.name.items k.arguments.items) ∙ sym c.is_nameless.ensures ∙ c.if-is_nameless.true in
    subst (λ o. Gives (λ b. (body b, c.phrase_body.new.room)) c.phrase_body.result (within_limits c.args.room.now o))
    (sym (ap (λ r. body_under (root_view r) s (key k)) c.in-Phrase.is ∙ below_phrase (shape c.in-Phrase.phrase.now) s (key k) none)) c.phrase_body.ensures

pub returns-else-is_nameless : goal.returns-else-is_nameless
returns-else-is_nameless g c =
    let s = g.G.GlobalScope.scope c.args.global.now in
    let k = c.args.call.now in
    let some : is_nameless (key k) ≡ false = sym (nameless k.name.items k.arguments.items) ∙ sym c.is_nameless.ensures ∙ c.if-is_nameless.false in
    subst (λ o. Gives (λ b. (body b, c.body-else-is_nameless.new.room)) c.body-else-is_nameless.result (within_limits c.args.room.now o))
    (sym (ap (λ r. body_under (root_view r) s (key k)) c.in-Phrase.is ∙ below_others (shape c.in-Phrase.phrase.now) s (key k) some)) c.body-else-is_nameless.ensures
