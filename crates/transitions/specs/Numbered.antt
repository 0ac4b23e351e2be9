-- Processes by number, with a specification's bodies among them.
use Rattle.std.specs.Prelude.{◌≡◌, ℕ, List}
use Rattle.std.specs.Coded.{Coded, code_by, coded×, coded_list}
use Rattle.std.proofs.Common.{refl}
use Rattle.term.specs.Codes.{proc_code}
use Rattle.term.specs.Proc.{Proc, bodies_of}
use Rattle.term.specs.Limits.{most_states}
use Rattle.targets.specs.declared.labels.Label.{Label}
use Rattle.targets.specs.HiddenSets.{SetsBelow}
use Rattle.targets.specs.Labels.{Step}
use Rattle.nodes.specs.Shapes.{at}
use Rattle.nodes.specs.Tables.{Tabled, tabled_code, HasGrown}
use Rattle.nodes.specs.Looks.{look, IsCutIn}

-- What contracts see: the processes by number, and the bodies.
pub record Numbered : Type 0 where
  pub table : Tabled
  pub bodies : List Proc

abbrev pub numbered_code : Coded Numbered
numbered_code = code_by (Tabled × List Proc) (coded× tabled_code (coded_list proc_code)) (λ s. (s.table, s.bodies)) (λ p. record { table = p.0; bodies = p.1 }) (λ _. refl)

-- The bodies have these numbers in the table.
abbrev pub numbered : Tabled → List ℕ → Numbered
numbered t ns = record { table = t; bodies = look t.processes ns }

-- There are only more numbers: each keeps what it is of, and the bodies stay.
pub record KeepsNumbers (old new : Numbered) : Type 0 where
  pub table : HasGrown old.table new.table
  pub bodies : new.bodies ≡ old.bodies

-- The numbers of what the process with this number becomes by a step with this label, none twice: of all of it, or of
-- more than this many.
abbrev pub AreCutTargets : Numbered → ℕ → Label → ℕ → List ℕ → Type 0
AreCutTargets s n l most ns = IsCutIn s.table (Step (bodies_of s.bodies) (at s.table.processes n) l) most ns

-- The same as far as the bound of a set of states.
abbrev pub AreTargets : Numbered → ℕ → Label → List ℕ → Type 0
AreTargets s n l ns = AreCutTargets s n l most_states ns

-- All events that the process with this number hides are among the 256 that there can be.
abbrev pub HidesEvents : Numbered → ℕ → Type 0
HidesEvents s n = SetsBelow 256 (at s.table.processes n)
