use Rattle.std.specs.Prelude.{◌≡◌, ◌≤◌, ◌+◌, ◌++◌, length, vec_capacity}
use Rattle.std.specs.Vec.Iter.{into_iter_items, into_iter_len}
use Rattle.connections.specs.Starting.{Each, IsJoined}
use Rattle.connections.proofs.threads.join_all.Given as goal

abbrev pub invariant-loop-taken : goal.invariant-loop-taken
invariant-loop-taken g l = (l.yielded ++ into_iter_items l.taken-iterator ≡ into_iter_items l.initial.taken-iterator)
    × Each (IsJoined g.P.Promise.kept_by) l.yielded l.outcomes.items
    × (into_iter_len l.taken-iterator ≡ length (into_iter_items l.taken-iterator))
    × (length l.outcomes.items + into_iter_len l.taken-iterator ≤ vec_capacity l.outcomes)
