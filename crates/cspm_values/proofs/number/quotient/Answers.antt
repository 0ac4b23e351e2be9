use Rattle.std.proofs.Common.{rules, arith, FitsSigned}
use Rattle.std.specs.Int.{w64}
use Rattle.std.proofs.lemmas.Int.{ints}
use Rattle.cspm_values.proofs.Bounds.{quotient_up, quotient_down}
use Rattle.cspm_values.proofs.number.quotient.Goals as goal

pub returns-then-second-gt0 : goal.returns-then-second-gt0
returns-then-second-gt0 c =
    let k : FitsSigned w64 c.div_euclid.result = search rules in
    quotient_up c.args.first c.args.second c.requires.0 c.requires.1 c.requires.2 c.requires.3 c.div_euclid.result k c.div_euclid.ensures (grind (arith, ints))

pub returns-else-second-gt0 : goal.returns-else-second-gt0
returns-else-second-gt0 c =
    let k : FitsSigned w64 c.div_euclid-else-second-gt0.result = search rules in
    quotient_down c.args.first c.args.second c.requires.0 c.requires.1 c.requires.2 c.requires.3 c.div_euclid-else-second-gt0.result k c.div_euclid-else-second-gt0.ensures (grind (arith, ints))
