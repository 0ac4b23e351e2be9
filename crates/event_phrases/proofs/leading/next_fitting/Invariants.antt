use Rattle.std.proofs.Common.{◌≡◌, ◌≤◌, ◌-◌, length, drop, map}
use Rattle.alphabet.specs.Channels.{events}
use Rattle.syntax.specs.View.{shapes}
use Rattle.values.specs.Tables.{input}
use Rattle.event_phrases.specs.Forms.{field_of}
use Rattle.event_phrases.specs.Leading.{first_fit, led_fits}
use Rattle.event_phrases.specs.Scopes.{within}
use Rattle.event_phrases.specs.View.{listed, row}
use Rattle.event_phrases.proofs.leading.next_fitting.Given as goal

abbrev pub invariant-loop-number : goal.invariant-loop-number
invariant-loop-number g l =
    let s = g.G.GlobalScope.scope l.scope.global.now in
    let test = led_fits l.prefix.channel.now (listed l.prefix.leading.items) (map field_of (shapes l.prefix.fields.now)) (map (λ v. listed v.items) l.prefix.sets.now) (within s (map input l.scope.inputs.items)) in
    (l.fn.from ≤ l.number) × (first_fit test l.fn.from (drop l.fn.from (events s.channels)) ≡ first_fit test l.number (map row (drop l.number l.events)))

abbrev pub decreases-loop-number : goal.decreases-loop-number
decreases-loop-number g l = length l.events - l.number
