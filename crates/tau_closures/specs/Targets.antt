-- Targets that are put after others.
use Rattle.std.specs.Prelude.{List}
use Rattle.term.specs.Proc.{Proc}
use Rattle.term.specs.Limits.{Terms, most_states}
use Rattle.targets.specs.Cuts.{CutOf}
use Rattle.tau_closures.specs.Closing.{HasPut}

-- The list grew at its end by those members of the set that it hadn't: by all of them, or by those of more than a set of
-- states may have.
abbrev pub HasPutTargets : Terms → List Proc → List Proc → Type 0
HasPutTargets S old new = (found : List Proc) × CutOf S most_states found × HasPut found old new
