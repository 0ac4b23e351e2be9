-- How a run of a server ends.
use Rattle.std.proofs.Common.{◌≡◌, refl, IsTrue}
use Rattle.std.specs.Prelude.{◌↔◌, Bool, true, false, Option, None, Some, IsSome, is_some}

-- whether there is something, told in two ways
pub some_is : {X : Type 0} (b : Bool) (o : Option X) → IsTrue b ↔ IsSome o → b ≡ is_some o
some_is true (Some x) same = refl
some_is false None same = refl
some_is true None same = absurd (let bad = same.0 refl in cc bad)
some_is false (Some x) same = absurd (let bad = same.1 refl in cc bad)
