use Rattle.std.proofs.Common.{◌≡◌, drop}
use Rattle.std.specs.List.{list_all}
use Rattle.values.specs.Names.{have_parameters}
use Rattle.declared_names.specs.View.{entries}
use Rattle.declared_names.proofs.parameters.parameters_fit.Given as goal

abbrev pub invariant-loop-place : goal.invariant-loop-place
invariant-loop-place g l =
    list_all (λ e. have_parameters (entries l.entries) e.1) (drop l.place (entries l.entries)) ≡ list_all (λ e. have_parameters (entries l.entries) e.1) (entries l.entries)
