use Rattle.std.proofs.Common.{◌≡◌, take, ap, sym, ◌∙◌, arith}
use Rattle.alphabet.specs.Channels.{event_count}
use Rattle.alphabet.specs.Tables.{declared_channels, first_numbers}
use Rattle.alphabet.proofs.ChannelPlaces.{as_many, first_is, first_behind}
use Rattle.alphabet.proofs.table.Alphabet.first_of.Goals as goal

pub returns-in-Some : goal.returns-in-Some
returns-in-Some g c =
    let cs = declared_channels c.self.inside.channels.entries in
    let begun : c.deref.result.now ≡ first_numbers 0 cs = c.deref.ensures.value ∙ c.self.invariant.begun in
    c.in-Some.ensures.lookup.3.1 0
    ∙ first_is cs c.deref.result.now begun c.args.channel 0 (omega (arith, as_many cs c.deref.result.now begun, c.in-Some.ensures.lookup.3.0))
    ∙ ap (λ ds. event_count (take c.args.channel ds)) c.self.view_is

pub returns-in-None : goal.returns-in-None
returns-in-None g c =
    let cs = declared_channels c.self.inside.channels.entries in
    let begun : c.deref.result.now ≡ first_numbers 0 cs = c.deref.ensures.value ∙ c.self.invariant.begun in
    c.len.ensures.count ∙ ap event_count (sym c.self.view_is)
    ∙ first_behind cs c.deref.result.now begun c.args.channel c.in-None.ensures.lookup.3
    ∙ ap (λ ds. event_count (take c.args.channel ds)) c.self.view_is
