-- The names of a script whose parameters are in order, as the program finds them.
use Rattle.std.specs.Prelude.{List, Option, Some, None, if◌then◌else◌}
use Rattle.std.specs.List.{list_all}
use Rattle.syntax.specs.Grammar.{Syntax}
use Rattle.values.specs.Values.{◌>>=◌}
use Rattle.values.specs.Names.{Entry, have_parameters}
use Rattle.declared_names.specs.Entering.{distinct_entries}

-- the names, if the parameters are in order
unfoldable pub fitting : List Entry → Option (List Entry)
fitting es = if list_all (λ e. have_parameters es e.1) es then Some es else None

-- the names of a script, if none is there twice and the parameters are in order
unfoldable pub fitting_entries : Syntax → Option (List Entry)
fitting_entries t = distinct_entries t >>= λ es. fitting es
