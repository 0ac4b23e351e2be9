-- Sets of states, each reached by a trace of events of Sigma.
use Rattle.std.specs.Prelude.{◌≡◌, ℕ, ◌<◌, ◌≤◌, ◌⊎◌, List, [], ◌∷◌, ◌++◌, length, get_or, map}
use Rattle.alphabet.specs.declared.events.Event.{Event}
use Rattle.alphabet.specs.declared.events.Event.TheVariants.{Tick as tick, Of as ev}
use Rattle.term.specs.Proc.{Proc, bodies_of, root}
use Rattle.term.specs.Meaning.{Trace}
use Rattle.spaces.specs.Spaces.{Spaced, Belongs, GrewFrom}
use Rattle.refinement.specs.declared.reached.Node.{Node}
use Rattle.refinement.specs.declared.property.Property.{Property}
use Rattle.refinement.specs.declared.property.Lack.{Lack}
use Rattle.refinement.specs.Places.{ArePlaced}
use Rattle.refinement.specs.Properties.{Shows}

-- The node at this place; another one where there is none.
abbrev pub no_node : Node
no_node = record { set = 0; parent = 0; event = 0 }

abbrev pub node_at : List Node → ℕ → Node
node_at ps i = get_or ps i no_node

-- The node's set belongs to the trace of these events of Sigma.
abbrev pub Is : Spaced → Node → List ℕ → Type 0
Is T p vs = Belongs T p.set (map ev vs)

-- How the node at place i came: it is the first, or it comes of an earlier one by its event.
abbrev pub ComesOf : Spaced → List Node → ℕ → Node → Type 0
ComesOf T ps i p = ((i ≡ 0) × Is T p []) ⊎ ((p.parent < i) × ((vs : List ℕ) → Is T (node_at ps p.parent) vs → Is T p (vs ++ p.event ∷ [])))

pub record IsTied (T : Spaced) (ps : List Node) (i : ℕ) (p : Node) : Type 0 where
  pub reached : (vs : List ℕ) × Is T p vs
  pub traced : Trace (bodies_of T.spec.bodies) root (map ev reached.0)
  pub comes : ComesOf T ps i p

abbrev pub AllTied : Spaced → List Node → Type 0
AllTied T ps = (i : ℕ) → i < length ps → IsTied T ps i (node_at ps i)

-- The number by which the node is found.
abbrev pub node_key : Node → ℕ
node_key p = p.set

-- What always holds of the nodes, where es has their places, and so many are kept at most.
pub record AreSoundNodes (T : Spaced) (ps : List Node) (es : List (ℕ × ℕ)) (most : ℕ) : Type 0 where
  pub tied : AllTied T ps
  pub placed : ArePlaced node_key no_node ps es
  pub few : length ps ≤ most

-- Some node belongs to the trace of these events.
abbrev pub IsAmong : Spaced → List Node → List ℕ → Type 0
IsAmong T ps vs = (j : ℕ) × (j < length ps) × Is T (node_at ps j) vs

-- Where the event a goes on from the node, the node to which it leads is found.
abbrev pub IsLed : Spaced → List Node → Node → ℕ → Type 0
IsLed T ps p a = (vs : List ℕ) → Is T p vs → Trace (bodies_of T.spec.bodies) root (map ev (vs ++ a ∷ [])) → IsAmong T ps (vs ++ a ∷ [])

-- Nothing is wrong at the node.
abbrev pub IsWell : Property → Spaced → Node → Type 0
IsWell property T p = (vs : List ℕ) → Is T p vs → (lack : Lack) → Shows property (bodies_of T.spec.bodies) (map ev vs) lack → ⊥

pub record GrewNodes (T : Spaced) (ps : List Node) (T' : Spaced) (ps' : List Node) : Type 0 where
  pub space : GrewFrom T T'
  pub nodes : (more : List Node) × (ps' ≡ ps ++ more)

-- A node of this set is among them.
abbrev pub HasSet : List Node → ℕ → Type 0
HasSet ps s = (j : ℕ) × (j < length ps) × ((node_at ps j).set ≡ s)

pub record IsNodeDone (property : Property) (T : Spaced) (ps : List Node) (p : Node) : Type 0 where
  pub led : (a : ℕ) → IsLed T ps p a
  pub well : IsWell property T p
