-- How many entries are let go.
use Rattle.std.specs.Prelude.{ℕ, suc, ◌-◌, max, min, List, [], ◌∷◌, ◌==◌, if◌then◌else◌}
use Rattle.term.specs.declared.names.Names.{Names}
use Rattle.term.specs.declared.names.Names.TheVariants.{Steps, Bodies}

-- the least of a place and those that are waited for, where 0 is none
abbrev pub first_place : ℕ → List ℕ → ℕ
first_place place [] = place
first_place place (w ∷ ws) = first_place (if w == 0 then place else min place w) ws

-- How many entries are let go, by how many were, how many are settled, and for which places seats wait: none more where names are kept as
-- steps. Otherwise those that are settled and stand before each place for which a seat waits.
abbrev pub gone_after : Names → ℕ → ℕ → List ℕ → ℕ
gone_after Steps gone settled waiting = gone
gone_after Bodies gone settled waiting = max gone (first_place (suc settled) waiting - 1)
