-- What tables of names say.
use Rattle.std.specs.Prelude.{Option}
use Rattle.std.specs.Map.{lookup}
use Rattle.values.specs.Values.{Name}
use Rattle.values.specs.Names.{same_name}
use Rattle.script.specs.declared.table.Table.{Table}

-- what the name means
abbrev pub said : {V A : Type 0} → Table V A → Name → Option V
said t n = lookup (λ k. same_name n k.items) t.entries.entries
