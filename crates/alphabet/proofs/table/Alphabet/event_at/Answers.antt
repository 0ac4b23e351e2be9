use Rattle.std.proofs.Common.{◌+◌, ◌<◌, ◌≤◌, refl, sym, ap, ◌∙◌, subst, is_some, length, arith}
use Rattle.std.proofs.lemmas.Bool.{false≢true}
use Rattle.alphabet.specs.Channels.{event_count}
use Rattle.alphabet.proofs.ChannelPlaces.{next_count, nothing_behind, parts_here, is_made, count_within}
use Rattle.alphabet.proofs.EventValues.{entries_counted}
use Rattle.alphabet.proofs.table.Alphabet.event_at.Goals as goal

pub overflow_sub-first_of : goal.overflow_sub-first_of
overflow_sub-first_of g c =
    let here : c.args.channel < length c.args.self.now = omega (arith, c.len.ensures.len, entries_counted c.self.inside.channels.entries c.args.self.now c.self.view_is) in
    omega (arith, c.first_of-first.ensures, c.first_of.ensures, next_count c.args.self.now c.args.channel here)

pub returns-then-place-first_of-clause-found : goal.returns-then-place-first_of-clause-found
returns-then-place-first_of-clause-found g c =
    let here : c.args.channel < length c.args.self.now = omega (arith, c.len.ensures.len, entries_counted c.self.inside.channels.entries c.args.self.now c.self.view_is) in
    let none = nothing_behind c.args.self.now c.args.channel here c.args.place (omega (arith, c.first_of-first.ensures, c.first_of.ensures, c.if-place-first_of.true)) in
    ((λ e. absurd (false≢true e)), (λ made. ap is_some (sym none) ∙ made))

pub overflow_cast-result : goal.overflow_cast-result
overflow_cast-result g c =
    let small : event_count c.args.self.now ≤ 256 = subst (λ cs. event_count cs ≤ 256) c.self.view_is c.self.invariant.sound.small in
    omega (arith, c.first_of-first.ensures, c.first_of.ensures, c.if-place-first_of.false, count_within c.args.self.now (c.args.channel + 1), small)

pub returns-clause-found : goal.returns-clause-found
returns-clause-found g c =
    let here : c.args.channel < length c.args.self.now = omega (arith, c.len.ensures.len, entries_counted c.self.inside.channels.entries c.args.self.now c.self.view_is) in
    let made = parts_here c.args.self.now c.args.channel here c.args.place (c.first_of-first.result + c.args.place) (omega (arith, c.first_of-first.ensures))
    (omega (arith, c.first_of-first.ensures, c.first_of.ensures, c.if-place-first_of.false)) in
    let some = is_made c.args.self.now (c.first_of-first.result + c.args.place) (omega (arith, c.first_of-first.ensures, c.first_of.ensures, c.if-place-first_of.false, count_within c.args.self.now (c.args.channel + 1))) in
    ((λ _. ap is_some made ∙ some), (λ _. refl))

pub returns-clause-parts : goal.returns-clause-parts
returns-clause-parts g c =
    let here : c.args.channel < length c.args.self.now = omega (arith, c.len.ensures.len, entries_counted c.self.inside.channels.entries c.args.self.now c.self.view_is) in
    sym (parts_here c.args.self.now c.args.channel here c.args.place (c.first_of-first.result + c.args.place) (omega (arith, c.first_of-first.ensures))
    (omega (arith, c.first_of-first.ensures, c.first_of.ensures, c.if-place-first_of.false)))
