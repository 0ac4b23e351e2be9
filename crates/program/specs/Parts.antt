-- What is shown of a journal in parts.
use Rattle.std.specs.Prelude.{ℕ, List, Option, IsTrue}
use Rattle.disk.specs.State.{FolderState}
use Rattle.term.specs.Specs.{Specified}
use Rattle.shared.specs.Entry.{Entry}
use Rattle.large_sessions.specs.PartsError.{PartsError}
use Rattle.large_sessions.specs.Sessions.{AreRefusedFor, AreReplayOf, HaveNoSession}
use Rattle.shown.specs.declared.options.Options.{Options}
use Rattle.shown.specs.Shows.{Shows}
use Rattle.program.specs.declared.showing.DisplayError.{DisplayError}
use Rattle.program.specs.declared.showing.DisplayError.TheVariants.{Session, Output}
use Rattle.program.specs.declared.following.FollowError.{FollowError}
use Rattle.program.specs.declared.following.FollowError.TheVariants as follow
use Rattle.program.specs.Followings.{IsAnother, WritesOn}

-- Why the journal in these files isn't displayed: they have no session for this reason, or the output failed.
abbrev pub HaveNoDisplay : ℕ → List (List ℕ) → DisplayError → Type 0
HaveNoDisplay size files (Session error) = HaveNoSession size files error
HaveNoDisplay size files Output = Unit {0}

-- why a journal in files that have this fault isn't displayed: for that, or the output failed
abbrev pub HaveNoDisplayFor : ℕ → List (List ℕ) → PartsError → DisplayError → Type 0
HaveNoDisplayFor size files fault (Session error) = AreRefusedFor size files fault error
HaveNoDisplayFor size files fault Output = Unit {0}

-- The text is that of the history that the folder's files hold, as asked for.
pub record AreTextOf (size : ℕ) (s : FolderState) (options : Options) (text : List ℕ) : Type 0 where
  pub script : List ℕ
  pub root : List ℕ
  pub spec : Specified
  pub history : List Entry
  pub replayed : IsTrue s.claims_bytes → AreReplayOf size s.bytes script root spec history
  pub shows : Shows options spec history text

-- The text is that of the history that the folder's files hold, and was written as far as it wasn't shown before.
pub record AreFollowed (size : ℕ) (s : FolderState) (options : Options) (before text : List ℕ) (old new : Option (List ℕ)) : Type 0 where
  pub text_is : AreTextOf size s options text
  pub written : WritesOn before text old new

-- why nothing further is shown of it
abbrev pub AreNotFollowed : ℕ → FolderState → Options → List ℕ → FollowError → Type 0
AreNotFollowed size s options before (follow.Session error) = IsTrue s.claims_bytes → HaveNoSession size s.bytes error
AreNotFollowed size s options before follow.Output = Unit {0}
AreNotFollowed size s options before follow.Changed = (text : List ℕ) × AreTextOf size s options text × IsAnother before text
