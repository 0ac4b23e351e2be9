use Rattle.std.proofs.Common.{rules, arith, FitsSigned, ◌-ℤ◌, pos, to_z, of_z}
use Rattle.std.specs.Int.{w64}
use Rattle.std.proofs.lemmas.Int.{ints}
use Rattle.cspm_values.proofs.Bounds.{remainder_up, remainder_down}
use Rattle.cspm_values.proofs.number.remainder.Goals as goal

pub returns-then-second-gt0 : goal.returns-then-second-gt0
returns-then-second-gt0 c =
    let k : FitsSigned w64 c.rem_euclid.result = search rules in
    remainder_up c.args.first c.args.second c.requires.0 c.requires.1 c.requires.2 c.requires.3 c.rem_euclid.result k c.rem_euclid.ensures.value (grind (arith, ints))

pub returns-else-second-gt0 : goal.returns-else-second-gt0
returns-else-second-gt0 c =
    let k : FitsSigned w64 c.rem_euclid-else-second-gt0.result = search rules in
    remainder_down c.args.first c.args.second c.requires.0 c.requires.1 c.requires.2 c.requires.3 c.rem_euclid-else-second-gt0.result
    (to_z w64 (of_z w64 (pos 0 -ℤ to_z w64 (of_z w64 c.rem_euclid-else-second-gt0.result)))) c.rem_euclid-else-second-gt0.ensures.value (omega (arith, ints, c.rem_euclid-else-second-gt0.ensures.lower_bound)) (grind (arith, ints))
