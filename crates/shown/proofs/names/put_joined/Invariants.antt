use Rattle.std.proofs.Common.{◌≡◌, ◌++◌, map}
use Rattle.std.specs.List.{flat_map}
use Rattle.alphabet.specs.EventSets.{members}
use Rattle.shown.specs.Names.{between, joined, name_text}
use Rattle.shown.proofs.names.put_joined.Given as goal

abbrev pub invariant-loop-event : goal.invariant-loop-event
invariant-loop-event g l =
    l.text.items ++ flat_map (λ x. between l.format ++ name_text l.format l.alphabet x) (members l.event-iterator)
    ≡ l.fn.text.items ++ joined (between l.format) (map (name_text l.format l.alphabet) (members l.fn.set))
