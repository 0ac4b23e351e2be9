-- Places on a walk as plain values.
use Rattle.std.specs.Prelude.{List, [], ◌∷◌, ◌++◌, map, Option, Some, None}
use Rattle.syntax.specs.View.{shapes}
use Rattle.values.specs.Tables.{input}
use Rattle.values.specs.View.{values}
use Rattle.event_phrases.specs.Scopes.{Scope, within}
use Rattle.denotation.specs.declared.walk.Opened.{Opened}
use Rattle.denotation.specs.declared.walk.Place.{Place}
use Rattle.denotation.specs.Walks.{Visit, stands, visits, Waiting, last_first, visits_after}

-- a generator that has a value
abbrev pub waiting : {A : Type 0} → Opened A → Waiting
waiting g = (g.name.now, values g.left, shapes g.inner.now)

abbrev pub innermost_first : {A : Type 0} → List (Opened A) → List Waiting
innermost_first gs = last_first waiting gs

-- what is met later than in this place
abbrev pub after_place : {A : Type 0} → Scope → Place A → List Visit
after_place s p = visits_after s (map input p.inputs.items) (innermost_first p.outer.items)

-- what is met from this place on
abbrev pub from_place : {A : Type 0} → Scope → Place A → List Visit
from_place s p = visits (shapes p.inner.now) (within s (map input p.inputs.items)) ++ after_place s p

-- the same, where there may be no place left
abbrev pub from_next : {A : Type 0} → Scope → Option (Place A) → List Visit
from_next s None = []
from_next s (Some p) = from_place s p

-- the same of a place after a value of each generator
abbrev pub from_scope : {A : Type 0} → Scope → Option (Place A) → List Visit
from_scope s None = []
from_scope s (Some p) = stands (within s (map input p.inputs.items)) ∷ after_place s p
