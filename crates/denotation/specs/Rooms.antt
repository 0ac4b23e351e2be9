-- Room for nodes, and the limit of depth.
use Rattle.std.specs.Prelude.{ℕ, ◌-◌, List, [], ◌∷◌, ◌++◌, length, nat_lt, Option, Some, None, if◌then◌else◌}
use Rattle.values.specs.Values.{◌>>=◌}
use Rattle.denotation.specs.Bodies.{Body, size, sizes, depth, halved}
use Rattle.denotation.specs.Phrases.{join_of, none_of, renamed}
use Rattle.term.specs.Traces.{Pairs}
use Rattle.denotation.specs.declared.draft.Operation.{Operation}
use Rattle.denotation.specs.declared.draft.Operation.TheVariants as operations
use Rattle.denotation.specs.declared.forms.Join.{Join}
use Rattle.denotation.specs.declared.forms.Join.TheVariants as joins

-- what is left of the room for nodes
unfoldable pub room_left : ℕ → ℕ → Option ℕ
room_left n room = if nat_lt room n then None else Some (room - n)

-- this with what is left of the room after so many nodes
abbrev pub spare : {X : Type 0} → ℕ → X → ℕ → Option (X × ℕ)
spare n x room = room_left n room >>= λ left. Some (x, left)

-- what there is, if there is room for its nodes, with the room that is left
unfoldable pub fit : {X : Type 0} → (X → ℕ) → ℕ → Option X → Option (X × ℕ)
fit nodes room None = None
fit nodes room (Some x) = spare (nodes x) x room

abbrev pub fits : ℕ → Option Body → Option (Body × ℕ)
fits room o = fit size room o

abbrev pub all_fit : ℕ → Option (List Body) → Option (List Body × ℕ)
all_fit room o = fit sizes room o

-- a body that isn't too deep
abbrev pub shallow : Body × ℕ → Option (Body × ℕ)
shallow x = if nat_lt 200 (depth x.0) then None else Some x

-- a body that isn't too deep, if there is room for its nodes, with the room that is left
abbrev pub within_limits : ℕ → Option Body → Option (Body × ℕ)
within_limits room o = fits room o >>= shallow

-- with these in front
abbrev pub behind : List Body → Option (List Body × ℕ) → Option (List Body × ℕ)
behind front o = o >>= λ x. Some (front ++ x.0, x.1)

-- with one more
abbrev pub with_one : List Body → Option (Body × ℕ) → Option (List Body × ℕ)
with_one front o = o >>= λ p. Some (front ++ p.0 ∷ [], p.1)

-- how many nodes joining these takes itself
unfoldable pub halved_nodes : {A : Type 0} → List A → ℕ
halved_nodes [] = 1
halved_nodes (p ∷ ps) = length ps

-- all of these joined so, where that is a replicated form, with what is left of the room after the nodes of this
unfoldable pub spare_joined : Join → List Body → ℕ → Option (Body × ℕ)
spare_joined joins.Sequence ps room = None
spare_joined joins.Interrupt ps room = None
spare_joined joins.Internal [] room = None
spare_joined j ps room = spare (halved_nodes ps) (halved (join_of j) (none_of j) ps) room

-- how many nodes what stands between two bodies takes itself
unfoldable pub operation_nodes : Operation → ℕ
operation_nodes (operations.Joint k) = 1
operation_nodes (operations.Alphabetised A B) = 5

-- how many nodes a renaming takes itself
unfoldable pub renaming_nodes : {A : Type 0} → List A → ℕ
renaming_nodes [] = 0
renaming_nodes (r ∷ R) = 1

-- the body renamed by the pairs, if there are some, with what is left of the room
abbrev pub renamed_within : ℕ → Option Pairs → Body → ℕ → Option (Body × ℕ)
renamed_within n o p room = o >>= λ R. spare (renaming_nodes R) (renamed n R p) room
