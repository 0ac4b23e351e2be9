-- A session that is opened, served and given back, as its calls say.
use Rattle.std.specs.Prelude.{◌≡◌, ℕ, List}
use Rattle.term.specs.declared.names.Names.{Names}
use Rattle.shared.specs.Lasting.{Lasts}
use Rattle.shared.specs.Recorder.{Recording}
use Rattle.shared.specs.Records.{names_of}
use Rattle.shared.specs.Scripts.{IsReadAs}
use Rattle.shared.specs.SessionView.{SessionView, IsRecorded}

-- The script denotes the specification of the session that was opened, whose journal is one for that script and root, and what stays of a session
-- stayed until it was given back. That is what `open` and `serve_session` say, or `open_parts` and `serve_service`; and `history` that names are
-- kept as the journal's version has them.
pub record WasServed {J : Type 0} (r : Recording J) (names : Names) (script root : List ℕ) (opened closed : SessionView J) : Type 0 where
  pub read : IsReadAs names script root opened.spec
  pub kept : IsRecorded r script root opened
  pub names_are : opened.spec.names ≡ names_of (r.version opened.journal)
  pub lasts : Lasts r opened closed
