-- What is kept with a set of states, and what always holds of the sets found so far.
use Rattle.std.specs.Prelude.{◌≡◌, ◌↔◌, ℕ, ◌<◌, ◌^◌, IsTrue, List, length, map}
use Rattle.std.specs.List.{All}
use Rattle.std.specs.declared.vec.Vec.{Vec}
use Rattle.alphabet.specs.declared.events.Event.{Event}
use Rattle.alphabet.specs.EventSets.{member}
use Rattle.term.specs.Proc.{Proc}
use Rattle.term.specs.Specs.{Specified, IsClosed}
use Rattle.term.specs.Traces.{In}
use Rattle.tau_closures.specs.Looks.{look, AllBelow}
use Rattle.tau_closures.specs.Keepings.{Keeping}
use Rattle.tau_closures.specs.Unfolding.{unfolding_depth}
use Rattle.tau_closures.specs.Closing.{AllShallow, Takes}
use Rattle.spaces.specs.declared.facts.SetFacts.{SetFacts}
use Rattle.spaces.specs.Found.{Found}
use Rattle.spaces.specs.Offers.{AreOffers}

-- The facts are those of a set with these members.
pub record AreFactsOf {A : Type 0} (facts : SetFacts A) (ps : List Proc) : Type 0 where
  pub next_is : (x : Event) → IsTrue (member facts.next x) ↔ ((Q : Proc) × In Q ps × Takes Q x)
  pub offers_are : AreOffers facts.offers.items ps

-- What is stored of a set: the numbers of its members, none of which is too deep, and its facts.
pub record IsStored {A : Type 0} (ps : List Proc) (e : Vec ℕ A × SetFacts A) : Type 0 where
  pub below : AllBelow (length ps) e.0.items
  pub shallow : AllShallow (look ps e.0.items)
  pub facts : AreFactsOf e.1 (look ps e.0.items)

-- The numbers of the stored sets' members.
abbrev pub lists_of : {A : Type 0} → List (Vec ℕ A × SetFacts A) → List (List ℕ)
lists_of {A} es = map (λ (e : Vec ℕ A × SetFacts A). e.0.items) es

-- These stored sets, of this specification and with these processes.
abbrev pub found : {A : Type 0} → Specified → Keeping → List (Vec ℕ A × SetFacts A) → Found
found spec kept es = record { spec = spec; table = kept.all.table; bodies = kept.all.bodies; deep = kept.deep; sets = lists_of es }

-- The processes have the bodies of the specification among them, and names are replaced as it says.
abbrev pub AreOf : Specified → Keeping → Type 0
AreOf spec kept = (kept.all.bodies ≡ spec.bodies) × (kept.deep ≡ unfolding_depth spec)

-- What always holds: the specification is closed, the processes are of it where there is a set, and what is stored is so.
pub record IsSound {A : Type 0} (spec : Specified) (kept : Keeping) (es : List (Vec ℕ A × SetFacts A)) : Type 0 where
  pub closed : IsClosed spec
  pub begun : 0 < length es → AreOf spec kept
  pub few : length es < 2 ^ 32
  pub stored : All (IsStored kept.all.table.processes) es
