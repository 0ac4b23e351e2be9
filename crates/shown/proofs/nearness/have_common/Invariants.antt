use Rattle.std.proofs.Common.{◌≡◌, length}
use Rattle.std.specs.List.{list_any}
use Rattle.shown.specs.Nearness.{has_part, parts}
use Rattle.shown.proofs.nearness.have_common.Given as goal

abbrev pub invariant-loop-first : goal.invariant-loop-first
invariant-loop-first l = list_any (has_part (parts l.other)) (parts l.rest) ≡ list_any (has_part (parts l.other)) (parts l.text)

abbrev pub decreases-loop-first : goal.decreases-loop-first
decreases-loop-first l = length l.rest
