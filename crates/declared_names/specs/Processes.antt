-- What is seen at once of whether a phrase is a process.
use Rattle.std.specs.Prelude.{◌≡◌, ℕ, suc, ◌+◌, List, length, Bool}
use Rattle.values.specs.Values.{Name}
use Rattle.values.specs.Names.{Entry, is_process_in, is_process}
use Rattle.declared_names.specs.declared.processes.Answer.{Answer}
use Rattle.declared_names.specs.declared.processes.Answer.TheVariants as answers

-- the answer, where this says so of a name
abbrev pub says : (Name → Bool) → Answer → Bool
says name (answers.Known b) = b
says name (answers.SameAs n) = name n.now

-- After so many bare names this one has been met, and says what the first does.
abbrev pub Follows : List Entry → Name → ℕ → Name → Type 0
Follows es first i n = (k : ℕ) × (k + i ≡ suc (length es)) × (is_process_in es k n ≡ is_process es first)
