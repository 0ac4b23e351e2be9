-- What a table of nodes is.
use Rattle.std.specs.Prelude.{◌≡◌, ℕ, Bool, ◌<◌, ◌^◌, List, [], ◌++◌, length, get_or, map}
use Rattle.std.specs.Coded.{Coded, code_by, coded×, coded_list, coded_ℕ}
use Rattle.std.specs.declared.vec.Vec.{Vec}
use Rattle.std.proofs.Common.{refl}
use Rattle.alphabet.specs.EventSets.{Set}
use Rattle.term.specs.Traces.{Pairs}
use Rattle.term.specs.Proc.{Proc, stop}
use Rattle.term.specs.Codes.{proc_code}
use Rattle.term.specs.Same.{same_pairs}
use Rattle.nodes.specs.declared.node.Node.{Node}
use Rattle.nodes.specs.declared.facts.Facts.{Facts}
use Rattle.nodes.specs.Known.{AllKnown}
use Rattle.nodes.specs.Shapes.{Parameters, at, processes as all_processes, AllWithin}

-- What contracts see of a table: its sets of events and relations, and its processes, each by its place.
pub record Tabled : Type 0 where
  pub parameters : Parameters
  pub processes : List Proc

abbrev pub tabled_code : Coded Tabled
tabled_code =
    code_by
    ((List Set × List Pairs) × List Proc)
    (coded× (coded× (coded_list coded_ℕ) (coded_list (coded_list (coded× coded_ℕ coded_ℕ)))) (coded_list proc_code))
    (λ t. ((t.parameters.sets, t.parameters.relations), t.processes))
    (λ p. record { parameters = record { sets = p.0.0; relations = p.0.1 }; processes = p.1 })
    (λ _. refl)

-- What is stored is this relation.
abbrev pub is_relation : {A : Type 0} → Pairs → Vec (ℕ × ℕ) A → Bool
is_relation R r = same_pairs R r.items

-- The relations that are stored.
abbrev pub relations_of : {A : Type 0} → List (Vec (ℕ × ℕ) A) → List Pairs
relations_of {A} rs = map (λ (r : Vec (ℕ × ℕ) A). r.items) rs

-- These sets, and the relations that are stored.
abbrev pub parameters_of : {A : Type 0} → List Set → List (Vec (ℕ × ℕ) A) → Parameters
parameters_of sets rs = record { sets = sets; relations = relations_of rs }

-- The table of these parameters and nodes.
abbrev pub tabled : Parameters → List Node → Tabled
tabled S xs = record { parameters = S; processes = all_processes S xs }

-- Nothing stands twice in the list, by places.
pub record NoneTwice {X : Type 0} (d : X) (xs : List X) : Type 0 where
  pub same : (i j : ℕ) → i < length xs → j < length xs → get_or xs i d ≡ get_or xs j d → i ≡ j

-- The new list begins with the old one.
abbrev pub Begins : {X : Type 0} → List X → List X → Type 0
Begins {X} old new = (more : List X) × (new ≡ old ++ more)

-- There are only more of them: each number keeps its set or relation.
pub record HasMore (old new : Parameters) : Type 0 where
  pub sets : Begins old.sets new.sets
  pub relations : Begins old.relations new.relations

-- The table only grew: each number keeps its set, relation or process.
pub record HasGrown (old new : Tabled) : Type 0 where
  pub parameters : HasMore old.parameters new.parameters
  pub processes : Begins old.processes new.processes

-- P has the number n.
pub record IsNumber (t : Tabled) (n : ℕ) (P : Proc) : Type 0 where
  pub within : n < length t.processes
  pub is : at t.processes n ≡ P

-- No set and no relation has two numbers, and they are few enough for numbers of 32 bits.
pub record AreParameters (S : Parameters) : Type 0 where
  pub once_set : NoneTwice 0 S.sets
  pub once_relation : NoneTwice [] S.relations
  pub few_sets : length S.sets < 2 ^ 32
  pub few_relations : length S.relations < 2 ^ 32

-- What always holds of a table's parameters, nodes and facts.
pub record IsTable (S : Parameters) (xs : List Node) (fs : List Facts) : Type 0 where
  pub parameters : AreParameters S
  pub within : AllWithin S 0 xs
  pub once : NoneTwice stop (all_processes S xs)
  pub few : length xs < 2 ^ 32
  pub count : length fs ≡ length xs
  pub known : AllKnown fs (all_processes S xs)
