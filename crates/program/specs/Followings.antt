-- What is shown of a history that goes on.
use Rattle.std.specs.Prelude.{◌≡◌, ◌≢◌, ℕ, List, Option, ◌++◌, IsTrue}
use Rattle.std.specs.Io.KnownBytes.{Appends}
use Rattle.disk.specs.State.{DiskState}
use Rattle.term.specs.Specs.{Specified}
use Rattle.shared.specs.Entry.{Entry}
use Rattle.shared.specs.Scripts.{HasNoSession, IsReplayOf}
use Rattle.shown.specs.declared.options.Options.{Options}
use Rattle.shown.specs.Shows.{Shows}
use Rattle.program.specs.declared.following.FollowError.{FollowError}
use Rattle.program.specs.declared.following.FollowError.TheVariants.{Session, Output, Changed}

-- The text is that of the history that the disk holds, as asked for.
pub record IsTextOf (s : DiskState) (options : Options) (text : List ℕ) : Type 0 where
  pub script : List ℕ
  pub root : List ℕ
  pub spec : Specified
  pub history : List Entry
  pub replayed : IsTrue s.claims_bytes → IsReplayOf s.bytes script root spec history
  pub shows : Shows options spec history text

-- The text goes on from what was shown before, and the writer, which had the bytes `old`, was written the rest.
abbrev pub WritesOn : List ℕ → List ℕ → Option (List ℕ) → Option (List ℕ) → Type 0
WritesOn before text old new = (rest : List ℕ) × (text ≡ before ++ rest) × Appends old new rest

-- The text doesn't begin with what was shown before.
abbrev pub IsAnother : List ℕ → List ℕ → Type 0
IsAnother before text = (rest : List ℕ) → text ≢ before ++ rest

-- The text is that of the history that the disk holds, and was written as far as it wasn't shown before.
pub record Follows (s : DiskState) (options : Options) (before text : List ℕ) (old new : Option (List ℕ)) : Type 0 where
  pub text_is : IsTextOf s options text
  pub written : WritesOn before text old new

-- Why the rest of this text wasn't written: the output failed, or the text doesn't begin with what was shown before.
abbrev pub IsUnwritten : List ℕ → List ℕ → FollowError → Type 0
IsUnwritten before text (Session error) = ⊥
IsUnwritten before text Output = Unit {0}
IsUnwritten before text Changed = IsAnother before text

-- Why nothing further is shown of the journal on this disk: it has no session for this reason, the output failed, or the text of its history
-- doesn't begin with what was shown before.
abbrev pub IsNotFollowed : DiskState → Options → List ℕ → FollowError → Type 0
IsNotFollowed s options before (Session error) = IsTrue s.claims_bytes → HasNoSession s.bytes error
IsNotFollowed s options before Output = Unit {0}
IsNotFollowed s options before Changed = (text : List ℕ) × IsTextOf s options text × IsAnother before text
