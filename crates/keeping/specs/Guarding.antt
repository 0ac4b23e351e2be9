-- What is found of names on the way to the depth at which no more are guarded.
use Rattle.std.specs.Prelude.{◌≡◌, ℕ, suc, ◌<◌, Bool, true, false, List, [], ◌∷◌, length, get_or}
use Rattle.std.specs.Coded.{Coded, code_by, coded×, coded_list, coded_bool}
use Rattle.std.proofs.Common.{refl}
use Rattle.term.specs.Proc.{Proc, name, bodies_of}
use Rattle.nodes.specs.Tables.{Tabled, IsNumber}
use Rattle.transitions.specs.Numbered.{Numbered, numbered_code, KeepsNumbers}
use Rattle.unfolding.specs.Unfolded.{either, exposes_only, guarded, stands_for}

-- What contracts see: the processes by number with the bodies, and by name which are known to be guarded.
pub record Guarding : Type 0 where
  pub all : Numbered
  pub guards : List Bool

abbrev pub guarding_code : Coded Guarding
guarding_code = code_by (Numbered × List Bool) (coded× numbered_code (coded_list coded_bool)) (λ s. (s.all, s.guards)) (λ p. record { all = p.0; guards = p.1 }) (λ _. refl)

-- How many there are of which the list says so.
abbrev pub count_of : List Bool → ℕ
count_of [] = 0
count_of (true ∷ gs) = suc (count_of gs)
count_of (false ∷ gs) = count_of gs

-- What the list says of a name.
abbrev pub says : List Bool → ℕ → Bool
says gs k = get_or gs k false

-- What stands for a name so far: where it is known to be guarded, what does at as great a depth as there are such names; else
-- the name.
abbrev pub stands_so_far : Guarding → ℕ → Proc
stands_so_far s k = either (says s.guards k) (stands_for (bodies_of s.all.bodies) (count_of s.guards) k) (name k)

-- These are the numbers of what stands for the names so far, and what is said to be guarded is so.
pub record AreFound (s : Guarding) (ns : List ℕ) : Type 0 where
  pub count : length ns ≡ length s.guards
  pub sure : (k : ℕ) → says s.guards k ≡ true → guarded (bodies_of s.all.bodies) (count_of s.guards) k ≡ true
  pub each : (k d : ℕ) → k < length ns → IsNumber s.all.table (get_or ns k d) (stands_so_far s k)

-- There are only more numbers, and as much is known of the names.
pub record StaysFound (old new : Guarding) : Type 0 where
  pub all : KeepsNumbers old.all new.all
  pub guards : new.guards ≡ old.guards

-- It goes on with the same bodies.
pub record GoesOn (old new : Guarding) : Type 0 where
  pub bodies : new.all.bodies ≡ old.all.bodies
  pub count : length new.guards ≡ length old.guards

-- Each name that isn't known to be guarded has a body that exposes such a name.
abbrev pub IsSettled : Guarding → Type 0
IsSettled s = (k : ℕ) → k < length s.guards → says s.guards k ≡ false → exposes_only (says s.guards) (bodies_of s.all.bodies k) ≡ false

-- These are the numbers of the first names.
abbrev pub AreNames : Tabled → List ℕ → Type 0
AreNames t ns = (k d : ℕ) → k < length ns → IsNumber t (get_or ns k d) (name k)
