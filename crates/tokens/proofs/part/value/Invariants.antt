use Rattle.std.proofs.Common.{◌≡◌, ◌≤◌, drop}
use Rattle.tokens.specs.Scanning.{value_from}
use Rattle.tokens.proofs.part.value.Given as goal

abbrev pub invariant-loop-digit : goal.invariant-loop-digit
invariant-loop-digit l = record { low : l.number ≤ 1000000; left : value_from l.number (drop l.digit-index l.digits) ≡ value_from 0 l.digits }
