-- What calls that read answer.
use Rattle.std.specs.Prelude.{◌≡◌, Option, Some, None, Result, Ok, Err}
use Rattle.tokens.specs.declared.read_error.ReadError.{ReadError}
use Rattle.tokens.specs.declared.read_error.ReadError.TheVariants.{Fault, Memory}

-- a fault is answered only where nothing is wanted; memory may run out anywhere
abbrev pub Fails : {Y : Type 0} → ReadError → Option Y → Type 0
Fails (Fault error) wanted = wanted ≡ None
Fails Memory wanted = Unit {0}

-- what a call returned, seen by view, is what is wanted, unless memory ran out
abbrev pub Gives : {X Y : Type 0} → (X → Y) → Result X ReadError → Option Y → Type 0
Gives view (Ok x) wanted = wanted ≡ Some (view x)
Gives view (Err read_error) wanted = Fails read_error wanted
