-- The sets of states found so far, as numbers of a table.
use Rattle.std.specs.Prelude.{◌≡◌, ℕ, ◌<◌, List, [], length, get_or, map}
use Rattle.std.specs.Coded.{Coded, code_by, coded×, coded_list, coded_ℕ}
use Rattle.std.proofs.Common.{refl}
use Rattle.term.specs.Codes.{proc_code}
use Rattle.term.specs.Proc.{Proc}
use Rattle.term.specs.Specs.{Specified, specified_code}
use Rattle.tau_closures.specs.Looks.{look}
use Rattle.tau_closures.specs.Tables.{Tabled, tabled_code}
use Rattle.tau_closures.specs.Unfolding.{unfolding_depth}
use Rattle.spaces.specs.Spaces.{Spaced, states}

-- A specification, the table of its processes, the bodies that have numbers there, how deep names are replaced, and the sets of
-- states: each the numbers of its members, by its place.
pub record Found : Type 0 where
  pub spec : Specified
  pub table : Tabled
  pub bodies : List Proc
  pub deep : ℕ
  pub sets : List (List ℕ)

abbrev pub found_code : Coded Found
found_code =
    code_by
    ((Specified × Tabled) × (List Proc × (ℕ × List (List ℕ))))
    (coded× (coded× specified_code tabled_code) (coded× (coded_list proc_code) (coded× coded_ℕ (coded_list (coded_list coded_ℕ)))))
    (λ s. ((s.spec, s.table), (s.bodies, (s.deep, s.sets))))
    (λ p. record { spec = p.0.0; table = p.0.1; bodies = p.1.0; deep = p.1.1.0; sets = p.1.1.1 })
    (λ _. refl)

-- The table has the bodies of the specification, and names are replaced as it says.
abbrev pub HasBegun : Found → Type 0
HasBegun f = (f.bodies ≡ f.spec.bodies) × (f.deep ≡ unfolding_depth f.spec)

-- The space of these sets.
abbrev pub shown : Found → Spaced
shown f = record { spec = f.spec; sets = map (look f.table.processes) f.sets }

-- The numbers of the set's members.
abbrev pub members : Found → ℕ → List ℕ
members f set = get_or f.sets set []

-- The set is the list of these processes.
pub record HasList (space : Spaced) (ps : List Proc) (set : ℕ) : Type 0 where
  pub within : set < length space.sets
  pub is : states space set ≡ ps
