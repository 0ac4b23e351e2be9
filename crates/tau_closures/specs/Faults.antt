-- The numbers and words of the faults.
use Rattle.std.specs.Prelude.{ℕ, List, codes}
use Rattle.tau_closures.specs.declared.fault.AfterFault.{AfterFault}
use Rattle.tau_closures.specs.declared.fault.AfterFault.TheVariants.{Depth, States, Memory}

abbrev pub code_of : AfterFault → ℕ
code_of Depth = 20
code_of States = 21
code_of Memory = 40

abbrev pub word_of : AfterFault → List ℕ
word_of Depth = codes "depth"
word_of States = codes "states"
word_of Memory = codes "memory"
