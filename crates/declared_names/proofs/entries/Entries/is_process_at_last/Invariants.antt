use Rattle.declared_names.specs.View.{entries}
use Rattle.declared_names.specs.Processes.{Follows}
use Rattle.declared_names.proofs.entries.Entries.is_process_at_last.Given as goal

abbrev pub invariant-loop : goal.invariant-loop
invariant-loop g l = Follows (entries l.self) l.fn.name l.counter l.followed
