use Rattle.std.proofs.Common.{◌-◌, ◌<◌, refl, sym, ap, ◌∙◌, subst, is_some, arith}
use Rattle.alphabet.specs.Channels.{event_count, IsEvent}
use Rattle.alphabet.specs.EventParts.{parts_of}
use Rattle.alphabet.proofs.ChannelPlaces.{parts_here, is_made, named_by_parts}
use Rattle.alphabet.proofs.table.Alphabet.channel_of.Goals as goal

pub returns-in-Of-clause-found : goal.returns-in-Of-clause-found
returns-in-Of-clause-found g c =
    let some : c.in-Of.number < event_count c.args.self.now = subst (IsEvent c.args.self.now) c.in-Of.is c.requires in
    ((λ _. ap (λ e. is_some (parts_of c.args.self.now e)) c.in-Of.is ∙ is_made c.args.self.now c.in-Of.number some), (λ _. refl))

pub returns-in-Of-clause-parts : goal.returns-in-Of-clause-parts
returns-in-Of-clause-parts g c =
    parts_here c.args.self.now c.holder-channel.result c.holder-channel.ensures.there (c.in-Of.number - c.first_of.result) c.in-Of.number
    (omega (arith, c.first_of.ensures, c.holder-channel.ensures.first)) c.holder-channel.ensures.next
    ∙ ap (parts_of c.args.self.now) (sym c.in-Of.is)

pub returns-in-Of-clause-text : goal.returns-in-Of-clause-text
returns-in-Of-clause-text g c = named_by_parts c.args.self.now c.args.event
