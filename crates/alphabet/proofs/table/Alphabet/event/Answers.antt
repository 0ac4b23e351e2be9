use Rattle.std.proofs.Common.{sym, ◌∙◌}
use Rattle.std.specs.Cmp.Lexicographic.{bytes_decides}
use Rattle.alphabet.specs.Names.{tick_name}
use Rattle.alphabet.specs.Tables.{declared_channels}
use Rattle.alphabet.proofs.Lookups.{event_is_tick, looked_up, not_looked_up}
use Rattle.alphabet.proofs.table.Alphabet.event.Goals as goal

pub returns-then-eq : goal.returns-then-eq
returns-then-eq g c =
    let cs = declared_channels c.self.inside.channels.entries in
    rw (← c.self.view_is) (event_is_tick cs c.self.invariant.sound c.args.name.now ((bytes_decides c.args.name.now tick_name).0 (sym c.if-eq.ensures)))

pub returns-in-None : goal.returns-in-None
returns-in-None g c =
    let cs = declared_channels c.self.inside.channels.entries in
    rw (← c.self.view_is) (not_looked_up cs c.self.invariant.sound c.args.name.now (λ key. key.items) c.self.inside.names.keys c.self.invariant.listed c.in-None.ensures.found (sym c.eq.ensures ∙ c.if-eq.false))

pub returns-in-Some : goal.returns-in-Some
returns-in-Some g c =
    let cs = declared_channels c.self.inside.channels.entries in
    rw (← c.self.view_is) (looked_up cs c.self.invariant.sound c.args.name.now (λ key. key.items) c.self.inside.names.keys c.in-Some.number c.self.invariant.listed c.in-Some.ensures.index)
