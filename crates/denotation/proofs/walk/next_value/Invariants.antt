use Rattle.std.proofs.Common.{◌≡◌, map, length}
use Rattle.values.specs.Tables.{input}
use Rattle.event_phrases.specs.Scopes.{Scope}
use Rattle.denotation.specs.Places.{waiting, innermost_first}
use Rattle.denotation.specs.Walks.{visits_from}
use Rattle.denotation.proofs.walk.next_value.Given as goal

abbrev pub invariant-loop-value : goal.invariant-loop-value
invariant-loop-value g l =
    (s : Scope) →
    visits_from s (map input l.inputs.items) (waiting l.generator) (innermost_first l.outer.items)
    ≡ visits_from s (map input l.fn.inputs.items) (waiting l.fn.generator) (innermost_first l.fn.outer.items)

abbrev pub decreases-loop-value : goal.decreases-loop-value
decreases-loop-value g l = length l.outer.items
