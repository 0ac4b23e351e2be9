-- Names in memory as plain values.
use Rattle.std.specs.Prelude.{ℕ, List, map}
use Rattle.std.specs.declared.vec.Vec.{Vec}
use Rattle.printing.specs.Names.{Name}

abbrev pub bytes : {B : Type 0} → List (Vec ℕ B) → List Name
bytes = map (λ name. name.items)
