-- What `show` writes of a history.
use Rattle.std.specs.Prelude.{◌≡◌, ℕ, List, Option, ◌++◌, codes, decimal, false}
use Rattle.std.specs.Io.KnownBytes.{Appends}
use Rattle.term.specs.Specs.{Specified}
use Rattle.shared.specs.Entry.{Entry}
use Rattle.shared.specs.Entries.{summary_of}
use Rattle.shared.specs.Scripts.{HasNoSession, IsOutside}
use Rattle.shared.specs.Summary.{Summary}
use Rattle.wire.specs.Replies.{status_text}
use Rattle.shown.specs.declared.options.Format.{Format}
use Rattle.shown.specs.declared.options.Format.TheVariants.{Text, Json}
use Rattle.shown.specs.declared.options.Options.{Options}
use Rattle.shown.specs.Shows.{Shows}
use Rattle.attending.specs.Courses.{status_by}
use Rattle.program.specs.declared.showing.DisplayError.{DisplayError}
use Rattle.program.specs.declared.showing.DisplayError.TheVariants.{Session, Output}

-- The counts of a history that may go on: as `S` is answered, or as a JSON object.
abbrev pub summary_text : Format → Summary → List ℕ
summary_text Text counts = status_text (status_by counts false)
summary_text Json counts =
    codes "{\"judged\":" ++ decimal counts.judged ++ codes ",\"events\":" ++ decimal counts.events
    ++ codes ",\"refusals\":" ++ decimal counts.refusals ++ codes ",\"rejected\":" ++ decimal counts.rejected ++ codes ",\"closed\":false}\n"

-- The text has the lines that are asked for of this history, judged by this specification, and then its counts.
pub record Displays (spec : Specified) (history : List Entry) (options : Options) (text : List ℕ) : Type 0 where
  pub lines : List ℕ
  pub shows : Shows options spec history lines
  pub text_is : text ≡ lines ++ summary_text options.format (summary_of history)

-- where the writer had the bytes `old`, such a text was written
abbrev pub WritesAll : Specified → List Entry → Options → Option (List ℕ) → Option (List ℕ) → Type 0
WritesAll spec history options old new = (text : List ℕ) × Displays spec history options text × Appends old new text

-- The output failed, or the journal's device, or memory was refused: of the file that says nothing.
abbrev pub IsBeyond : DisplayError → Type 0
IsBeyond (Session error) = IsOutside error
IsBeyond Output = Unit {0}

-- Why the journal in this file isn't displayed: the file has no session for this reason, or the output failed.
abbrev pub HasNoDisplay : List ℕ → DisplayError → Type 0
HasNoDisplay file (Session error) = HasNoSession file error
HasNoDisplay file Output = Unit {0}
