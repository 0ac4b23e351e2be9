-- Sets of processes by which the parts of a step are given.
use Rattle.std.specs.Prelude.{◌≡◌, ℕ, true, ◌⊎◌, List}
use Rattle.alphabet.specs.EventSets.{Set, has}
use Rattle.term.specs.Traces.{In}
use Rattle.term.specs.Proc.{Proc, par}
use Rattle.term.specs.Steps.{Act}
use Rattle.term.specs.Limits.{Terms, Distinct}
use Rattle.targets.specs.Cuts.{CutOf}

-- The targets of the steps from P with an event of S.
abbrev pub ActsIn : Set → Proc → Terms
ActsIn S P Q = (a : ℕ) × (has S a ≡ true) × Act P a Q

-- The parallels over A that P and Q become by the event a, which both take.
abbrev pub Joint : Set → Proc → Proc → ℕ → Terms
Joint A P Q a R = (P' Q' : Proc) × Act P a P' × Act Q a Q' × (R ≡ par A P' Q')

-- What stands in one of the lists.
abbrev pub InEither : List Proc → List Proc → Terms
InEither ps qs Q = In Q ps ⊎ In Q qs

-- What stands in one of two lists, neither with repeats, as far as the bound.
abbrev pub Joined : ℕ → List Proc → List Proc → List Proc → Type 0
Joined most ps qs found = Distinct ps → Distinct qs → CutOf (InEither ps qs) most found
