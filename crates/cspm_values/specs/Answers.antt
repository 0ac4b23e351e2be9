-- What there is at the end of an evaluation.
use Rattle.std.specs.Prelude.{Option, Some, None}
use Rattle.cspm_values.specs.declared.stop.Limit.{Limit}

-- something, a fault, or more than a limit allows
pub data Answer (X : Type 0) : Type 0 where
  gives : X → Answer X
  fault : Answer X
  beyond : Limit → Answer X

infixl 10 ◌>>=◌
-- what the second makes of what the first gives
abbrev pub ◌>>=◌ : {X Y : Type 0} → Answer X → (X → Answer Y) → Answer Y
(gives x) >>= f = f x
fault >>= f = fault
(beyond l) >>= f = beyond l

-- what is wanted, and a fault where it isn't there
abbrev pub wanted : {X : Type 0} → Option X → Answer X
wanted (Some x) = gives x
wanted None = fault
