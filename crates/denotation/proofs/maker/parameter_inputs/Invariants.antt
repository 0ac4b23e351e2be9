use Rattle.std.proofs.Common.{◌≡◌, map, drop}
use Rattle.values.specs.Tables.{input}
use Rattle.event_phrases.specs.View.{listed}
use Rattle.denotation.specs.Denotes.{paired}
use Rattle.denotation.proofs.Arguments.{after}
use Rattle.denotation.proofs.maker.parameter_inputs.Given as goal

abbrev pub invariant-loop-number : goal.invariant-loop-number
invariant-loop-number g l =
    after (map input l.inputs.items) (paired (map (λ x. x.items) (drop l.number l.parameters)) (listed (drop l.number l.arguments))) ≡ paired (map (λ x. x.items) l.parameters) (listed l.arguments)
