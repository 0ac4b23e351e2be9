-- What contracts see of a space, and to which traces its sets belong.
use Rattle.std.specs.Prelude.{◌≡◌, ℕ, ◌<◌, List, [], ◌++◌, length, get_or}
use Rattle.std.specs.Coded.{Coded, code_by, coded×, coded_list}
use Rattle.std.proofs.Common.{refl}
use Rattle.alphabet.specs.declared.events.Event.{Event}
use Rattle.term.specs.Codes.{proc_code}
use Rattle.term.specs.Proc.{Proc}
use Rattle.term.specs.Specs.{Specified, specified_code}
use Rattle.tau_closures.specs.KeptBelonging.{KeptBelongs}
use Rattle.tau_closures.specs.Unfolding.{unfolding_depth}

-- A specification, and the sets of states found so far, by number: each the list of its members.
pub record Spaced : Type 0 where
  pub spec : Specified
  pub sets : List (List Proc)

abbrev pub spaced_code : Coded Spaced
spaced_code = code_by (Specified × List (List Proc)) (coded× specified_code (coded_list (coded_list proc_code))) (λ s. (s.spec, s.sets)) (λ p. record { spec = p.0; sets = p.1 }) (λ _. refl)

-- The members of the set with this number.
abbrev pub states : Spaced → ℕ → List Proc
states space set = get_or space.sets set []

-- There are only more sets: each number keeps what it is of. The specification stays.
pub record GrewFrom (old new : Spaced) : Type 0 where
  pub spec : new.spec ≡ old.spec
  pub sets : (more : List (List Proc)) × (new.sets ≡ old.sets ++ more)

-- The set belongs to the trace u in this space: its members are just the processes that u reaches from the root, with
-- hidden steps anywhere, also at the end, each with its exposed names replaced as the specification says.
pub record Belongs (space : Spaced) (set : ℕ) (u : List Event) : Type 0 where
  pub within : set < length space.sets
  pub exact : KeptBelongs space.spec (unfolding_depth space.spec) (states space set) u

-- The set is one of this space: it belongs to some trace.
abbrev pub IsSetOf : Spaced → ℕ → Type 0
IsSetOf space set = (u : List Event) × Belongs space set u

-- The most answers that are remembered.
abbrev pub most_remembered : ℕ
most_remembered = 65536
