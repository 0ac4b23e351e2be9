use Rattle.std.proofs.Common.{◌≡◌, length}
use Rattle.shown.specs.Nearness.{has_part, parts}
use Rattle.shown.proofs.nearness.has.Given as goal

abbrev pub invariant-loop-first : goal.invariant-loop-first
invariant-loop-first l = has_part (parts l.rest) l.part ≡ has_part (parts l.text) l.part

abbrev pub decreases-loop-first : goal.decreases-loop-first
decreases-loop-first l = length l.rest
