use Rattle.std.proofs.Common.{◌≡◌, map}
use Rattle.values.specs.Names.{are_parameters}
use Rattle.declared_names.specs.View.{entries}
use Rattle.declared_names.proofs.ParameterNames.{left_behind}
use Rattle.declared_names.proofs.parameters.put_parameters.Given as goal

abbrev pub invariant-loop-name : goal.invariant-loop-name
invariant-loop-name g l = left_behind (entries l.entries) l.earlier.keys l.names l.name-index ≡ are_parameters (entries l.entries) (map (λ n. n.items) l.names)
