-- The numbers and words of the faults.
use Rattle.std.specs.Prelude.{ℕ, List, codes}
use Rattle.step.specs.declared.fault.StepFault.{StepFault}
use Rattle.step.specs.declared.fault.StepFault.TheVariants.{Depth, Memory}

abbrev pub code_of : StepFault → ℕ
code_of Depth = 20
code_of Memory = 40

abbrev pub word_of : StepFault → List ℕ
word_of Depth = codes "depth"
word_of Memory = codes "memory"
