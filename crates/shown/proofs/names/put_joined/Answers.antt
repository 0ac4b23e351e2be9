use Rattle.std.proofs.Common.{◌≡◌, ◌∷◌, sym, ap, ◌∙◌}
use Rattle.alphabet.specs.EventSets.{members}
use Rattle.shown.specs.Names.{between, name_text}
use Rattle.shown.proofs.Texts.{first_of_joined}
use Rattle.shown.proofs.names.put_joined.Goals as goal

pub loop-event-init : goal.loop-event-init
loop-event-init g c =
    let format = c.args.format in
    let cs = c.args.alphabet.now in
    let left = c.into_iter-event-iterator.result in
    let same : left ≡ c.next.new.self = c.into_iter-event-iterator.ensures.into_iter_gives in
    let all : members c.args.set ≡ c.in-Some.first ∷ members left = ap members (sym c.iter-events.ensures) ∙ c.in-Some.ensures.steps ∙ ap (λ X. c.in-Some.first ∷ members X) (sym same) in
    first_of_joined (between format) (name_text format cs) c.args.text.now.items c.put_name.new.text.items (members c.args.set) (members left) c.in-Some.first all c.in_ok-put_name.ensures
