-- The walk through the values of a replicated form's generators, of which the last is the fastest.
use Rattle.std.specs.Prelude.{List, [], ◌∷◌, ◌++◌, Option, Some, None}
use Rattle.alphabet.specs.Channels.{FieldValue, Values}
use Rattle.syntax.specs.Grammar.{Syntax}
use Rattle.values.specs.Values.{◌>>=◌, Name}
use Rattle.event_phrases.specs.Scopes.{Scope, with_input, within}
use Rattle.denotation.specs.Bodies.{Body}
use Rattle.denotation.specs.Phrases.{generator_of, generator_values}

-- what a walk meets
pub data Visit : Type 0 where
  -- a generator that has a set; its values are met next
  opens : Visit
  -- a generator without a set of values
  fails : Visit
  -- the scope after a value of each generator
  stands : Scope → Visit

-- what is met after an input with each of these values
unfoldable pub behind_each : (Scope → List Visit) → Scope → Name → Values → List Visit
behind_each next s x [] = []
behind_each next s x (v ∷ vs) = next (with_input s x v) ++ behind_each next s x vs

-- the name and the values of a generator
abbrev pub found_generator : Scope → Syntax → Option (Name × Values)
found_generator s g = generator_of g >>= λ p. generator_values s p.0 p.1 >>= λ vs. Some (p.0, vs)

unfoldable pub behind_found : (Scope → List Visit) → Scope → Option (Name × Values) → List Visit
behind_found next s None = fails ∷ []
behind_found next s (Some p) = opens ∷ behind_each next s p.0 p.1

-- what is met from the first of these generators on
unfoldable pub visits : List Syntax → Scope → List Visit
visits [] s = stands s ∷ []
visits (g ∷ gs) s = behind_found (visits gs) s (found_generator s g)

-- what there is in the scopes that are met
unfoldable pub on_visits : (Scope → Option Body) → List Visit → Option (List Body)
on_visits next [] = Some []
on_visits next (opens ∷ vs) = on_visits next vs
on_visits next (fails ∷ vs) = None
on_visits next (stands s ∷ vs) = next s >>= λ p. on_visits next vs >>= λ ps. Some (p ∷ ps)

-- what is met from the first scope on, where nothing fails before it
unfoldable pub first_scope : List Visit → Option (List Visit)
first_scope [] = Some []
first_scope (opens ∷ vs) = first_scope vs
first_scope (fails ∷ vs) = None
first_scope (stands s ∷ vs) = Some (stands s ∷ vs)

-- ---- in the middle of a walk

-- a generator that has a value: its name, the values that come later, and the generators after it
abbrev pub Waiting : Type 0
Waiting = Name × Values × List Syntax

unfoldable pub all_but_last : {X : Type 0} → List X → List X
all_but_last [] = []
all_but_last (x ∷ []) = []
all_but_last (x ∷ y ∷ xs) = x ∷ all_but_last (y ∷ xs)

-- these as they are seen, the last one first
unfoldable pub last_first : {A X : Type 0} → (A → X) → List A → List X
last_first view [] = []
last_first view (x ∷ xs) = last_first view xs ++ view x ∷ []

-- What is met later by the generators that have a value, the innermost first. The last of the inputs are theirs, one each.
unfoldable pub visits_after : Scope → List (Name × FieldValue) → List Waiting → List Visit
visits_after s is [] = []
visits_after s is (g ∷ gs) = behind_each (visits g.2) (within s (all_but_last is)) g.0 g.1 ++ visits_after s (all_but_last is) gs

-- the same with a generator inside of these, which has no input yet
abbrev pub visits_from : Scope → List (Name × FieldValue) → Waiting → List Waiting → List Visit
visits_from s is g gs = behind_each (visits g.2) (within s is) g.0 g.1 ++ visits_after s is gs

-- what is met once this generator is found, which has these generators after it
abbrev pub once_found : Scope → List (Name × FieldValue) → List Waiting → List Syntax → Syntax → Option (List Visit)
once_found s is gs inner g = found_generator (within s is) g >>= λ p. Some (visits_from s is (p.0, p.1, inner) gs)
