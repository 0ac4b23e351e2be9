-- What files give a session of a script whose journal is in parts.
use Rattle.std.specs.Prelude.{◌≡◌, ◌⊎◌, ℕ, List, [], ◌∷◌, IsTrue}
use Rattle.disk.specs.State.{FolderState}
use Rattle.term.specs.Specs.{Specified}
use Rattle.term.specs.declared.names.Names.TheVariants.{Bodies}
use Rattle.shared.specs.Entry.{Entry}
use Rattle.shared.specs.SessionError.TheVariants.{Device}
use Rattle.shared.specs.SessionFaults.{IsMemory}
use Rattle.shared.specs.Replays.{IsUnopened}
use Rattle.shared.specs.Scripts.{IsReadAs, IsUnbegun}
use Rattle.large_sessions.specs.PartsError.{PartsError}
use Rattle.large_sessions.specs.Sessions.{AreRefusedFor, AreReplayOf, HaveNoSession}
use Rattle.serving.specs.declared.opening.OpenError.{OpenError}
use Rattle.serving.specs.declared.opening.OpenError.TheVariants.{Begin, Replay, OtherSpecification}
use Rattle.serving.specs.Held.{IsOutside}

-- nothing is there but an empty file
abbrev pub AreNew : List (List ℕ) → Type 0
AreNew files = (files ≡ []) ⊎ (files ≡ [] ∷ [])

-- The history that the files hold for this script and root, of which the script denotes the specification, where names are kept as their
-- bodies: none where the files are new, else that of the journal.
abbrev pub HoldSession : ℕ → List (List ℕ) → List ℕ → List ℕ → Specified → List Entry → Type 0
HoldSession size files script root spec h = (AreNew files × IsReadAs Bodies script root spec × (h ≡ [])) ⊎ (AreReplayOf size files script root spec h × (spec.names ≡ Bodies))

-- the files are a journal of another script or root, or one where names are kept in another way
pub record AreOfAnother (size : ℕ) (files : List (List ℕ)) (script root : List ℕ) : Type 0 where
  pub script_there : List ℕ
  pub root_there : List ℕ
  pub spec : Specified
  pub history : List Entry
  pub hold : AreReplayOf size files script_there root_there spec history
  pub other : (script_there ≡ script) × (root_there ≡ root) × (spec.names ≡ Bodies) → ⊥

-- Why there is no session: the files are new, and none of this script begins; or they aren't, and give none; or they are a journal of another
-- script or root, or with names kept in another way. Where the device failed, nothing is said of the files.
abbrev pub AreUnheld : ℕ → FolderState → List ℕ → List ℕ → OpenError → Type 0
AreUnheld size s script root (Begin error) = IsUnbegun Bodies script root error × (IsTrue s.claims_bytes → AreNew s.bytes)
AreUnheld size s script root (Replay error) = IsTrue s.claims_bytes → HaveNoSession size s.bytes error × ((AreNew s.bytes → ⊥) ⊎ (error ≡ Device))
AreUnheld size s script root OtherSpecification = IsTrue s.claims_bytes → AreOfAnother size s.bytes script root

-- files that aren't new, and have this fault, give no session for it
abbrev pub AreUnheldFor : ℕ → List (List ℕ) → PartsError → OpenError → Type 0
AreUnheldFor size files fault (Begin error) = ⊥
AreUnheldFor size files fault (Replay error) = AreRefusedFor size files fault error
AreUnheldFor size files fault OtherSpecification = ⊥

-- what may come in place of the session of this specification that the files hold: the device failed, or memory ran out; or the files are
-- new, and the opening of the specification meets this limit
abbrev pub IsInPlace : List (List ℕ) → Specified → OpenError → Type 0
IsInPlace files spec (Begin error) = AreNew files × (IsMemory error ⊎ (IsUnopened spec error ⊎ (error ≡ Device)))
IsInPlace files spec error = IsOutside error

-- both hold the same history
pub record HoldAlike (size : ℕ) (files others : List (List ℕ)) : Type 0 where
  pub script : List ℕ
  pub root : List ℕ
  pub spec : Specified
  pub history : List Entry
  pub old : AreReplayOf size files script root spec history
  pub new : AreReplayOf size others script root spec history
