-- The alphabet without channels.
use Rattle.std.proofs.Common.{◌≡◌, ℕ, List, [], refl, arith}
use Rattle.std.specs.declared.vec.Vec.{Vec}
use Rattle.alphabet.specs.declared.field_value.Value.{Value}
use Rattle.alphabet.specs.Channels.{names, IsAlphabet}
use Rattle.alphabet.specs.Tables.{declared_channels, stored_names, HasTables}

no_channels : IsAlphabet []
unfolding names
no_channels = record { named = refl; distinct = refl; fielded = refl; ranged = refl; apart = refl; small = omega arith }

no_names : HasTables [] [] []
unfolding names
no_names = record { listed = refl; begun = refl; sound = no_channels }

pub nothing_named : {A : Type 0} (es : List (Vec ℕ A × Vec (Vec (Value A) A) A)) (ks : List (Vec ℕ A)) (firsts : List ℕ) → es ≡ [] → ks ≡ [] → firsts ≡ [] → HasTables (declared_channels es) (stored_names ks) firsts
nothing_named es ks firsts e f h = rw (e, f, h) no_names
