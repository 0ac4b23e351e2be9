use Rattle.std.proofs.Common.{◌≡◌, take}
use Rattle.alphabet.proofs.copying.copy_of.Given as goal

abbrev pub invariant-loop-index : goal.invariant-loop-index
invariant-loop-index g l = l.copy ≡ take l.index l.alphabet
