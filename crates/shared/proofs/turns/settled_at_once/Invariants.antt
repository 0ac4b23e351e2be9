use Rattle.std.proofs.Common.{◌≡◌, length}
use Rattle.shared.proofs.turns.settled_at_once.Given as goal

-- the entries stay
abbrev pub invariant-loop : goal.invariant-loop
invariant-loop g l = (l.locked.value.entries ≡ l.fn.locked.value.entries) × (length l.verdicts ≡ length l.fn.verdicts)
