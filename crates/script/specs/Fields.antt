-- The fields of a channel in memory as plain values.
use Rattle.std.specs.Prelude.{List, map}
use Rattle.std.specs.declared.vec.Vec.{Vec}
use Rattle.alphabet.specs.Channels.{Values}
use Rattle.values.specs.declared.value.Value.{Value}
use Rattle.event_phrases.specs.View.{listed}

abbrev pub field_lists : {A : Type 0} → Vec (Vec (Value A) A) A → List Values
field_lists f = map (λ v. listed v.items) f.items
