-- Values in memory as plain values, and what calls answer.
use Rattle.std.specs.Prelude.{◌≡◌, List, map, Result, Ok, Err}
use Rattle.cspm_values.specs.declared.stop.Stop.{Stop}
use Rattle.cspm_values.specs.declared.stop.Stop.TheVariants as stops
use Rattle.cspm_values.specs.declared.value.Head.{Head}
use Rattle.cspm_values.specs.declared.value.Head.TheVariants as heads
use Rattle.cspm_values.specs.declared.value.Value.{Value, Row_of-Value, end_of-Value, more_of-Value}
use Rattle.cspm_values.specs.declared.value.Value.TheVariants.{Plain, Of'}
use Rattle.cspm_values.specs.Answers.{Answer, gives, fault, beyond}
use Rattle.cspm_values.specs.Values as plain
use Rattle.cspm_values.specs.Values.{Values, none, more}

abbrev pub head : {A : Type 0} → Head A → plain.Head
head (heads.Number z) = plain.number z
head (heads.Truth b) = plain.truth b
head (heads.Constructor n k) = plain.constructor n.items k
head heads.Tuple = plain.tuple
head heads.Sequence = plain.sequence
head heads.Set = plain.set

abbrev mutual
  pub value : {A : Type 0} → Value A → plain.Value
  value (Plain h) = plain.value (head h) none
  value (Of' h n ps) = plain.value (head h) (row_values ps)

  pub row_values : {A : Type 0} {m : _} → Row_of-Value A m → Values
  row_values end_of-Value = none
  row_values (more_of-Value v rest) = more (value v) (row_values rest)

abbrev pub values : {A : Type 0} → List (Value A) → List plain.Value
values vs = map value vs

-- a fault is answered only where there is one, and a limit where something is beyond it; memory may run out anywhere
abbrev pub Fails : {Y : Type 0} → Stop → Answer Y → Type 0
Fails (stops.Fault f p) wanted = wanted ≡ fault
Fails (stops.Beyond l p) wanted = wanted ≡ beyond l
Fails stops.Memory wanted = Unit {0}

-- what a call returned, seen by view, is what is wanted, unless memory ran out
abbrev pub Gives : {X Y : Type 0} → (X → Y) → Result X Stop → Answer Y → Type 0
Gives view (Ok x) wanted = wanted ≡ gives (view x)
Gives view (Err stop) wanted = Fails stop wanted

-- a fault, whatever its kind
abbrev pub IsFault : Stop → Type 0
IsFault (stops.Fault f p) = Unit {0}
IsFault (stops.Beyond l p) = ⊥
IsFault stops.Memory = ⊥
