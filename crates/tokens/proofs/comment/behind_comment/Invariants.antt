use Rattle.std.proofs.Common.{◌≡◌, ◌+◌, ◌≤◌, length}
use Rattle.tokens.specs.Scanning.{behind_comments}
use Rattle.tokens.proofs.comment.behind_comment.Given as goal

abbrev pub invariant-loop-depth : goal.invariant-loop-depth
invariant-loop-depth l = record { few : l.depth + length l.rest ≤ length l.text + 1; left : behind_comments l.rest l.depth ≡ behind_comments l.text 1 }

abbrev pub decreases-loop-depth : goal.decreases-loop-depth
decreases-loop-depth l = length l.rest
