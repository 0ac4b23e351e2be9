-- A conversation that is attended line by line.
use Rattle.std.specs.Prelude.{◌≡◌, ℕ, List, [], ◌∷◌, ◌++◌, true, false, Option, Some, None, Result, Ok, Err}
use Rattle.std.specs.List.{AllByRecursion}
use Rattle.std.specs.Io.KnownBytes.{Appends, Consumes}
use Rattle.term.specs.Specs.{Specified}
use Rattle.wire.specs.Talks.{Conversation, IsHeard, Talk, Hears, Serves, joined}
use Rattle.wire.specs.declared.engine.WireError.{WireError}
use Rattle.attending.specs.Standing.{Standing}
use Rattle.attending.specs.Lines.{Attends}
use Rattle.attending.specs.declared.manner.Manner.{Manner}
use Rattle.attending.specs.declared.manner.Ending.{Ending}
use Rattle.attending.specs.declared.manner.Ending.TheVariants.{By, Rejected}

-- The heard bytes begin with lines that were all answered, of which the last was the first whose report was rejected.
pub record IsStopped (manner : Manner) (spec : Specified) (j k : Standing) (old new : Option (List ℕ)) (heard : List ℕ) : Type 0 where
  pub lines : List (List ℕ)
  pub mid : Standing
  pub text : List ℕ
  pub talk : Talk (Attends manner spec) j lines mid text
  pub none : mid.tally.rejected ≡ false
  pub last : List ℕ
  pub reply : List ℕ
  pub attends : Attends manner spec mid last k reply
  pub rejected : k.tally.rejected ≡ true
  pub all : AllByRecursion IsHeard (lines ++ last ∷ [])
  pub unused : List ℕ
  pub heard_is : heard ≡ joined (lines ++ last ∷ []) ++ unused
  pub sent : Appends old new (text ++ reply)

-- what a piece of input came to, with the line that stays begun
abbrev pub Listens : Manner → Specified → Standing → Standing → Option (List ℕ) → Option (List ℕ) → List ℕ → List ℕ → Result (Option Ending) WireError → Type 0
Listens manner spec j k old new heard begun (Ok None) = Hears (Attends manner spec) j k old new heard begun (Ok None)
Listens manner spec j k old new heard begun (Ok (Some (By end))) = Hears (Attends manner spec) j k old new heard begun (Ok (Some end))
Listens manner spec j k old new heard begun (Ok (Some Rejected)) = IsStopped manner spec j k old new heard
Listens manner spec j k old new heard begun (Err error) = Hears (Attends manner spec) j k old new heard begun (Err error)

-- The whole of a conversation, by the bytes that reader and writer know. With --first it ends after the first rejected report, and so no
-- other end comes where a report was rejected.
abbrev pub Attendance : Manner → Specified → Conversation Standing → Result Ending WireError → Type 0
Attendance manner spec conversation (Ok (By end)) =
    Serves (Attends manner spec) conversation (Ok end) × (manner.first ≡ true → conversation.after.tally.rejected ≡ false)
Attendance manner spec conversation (Ok Rejected) =
    (heard : List ℕ) × Consumes conversation.unread_before conversation.unread_after heard × (manner.first ≡ true)
    × IsStopped manner spec conversation.before conversation.after conversation.written_before conversation.written_after heard
Attendance manner spec conversation (Err error) = Serves (Attends manner spec) conversation (Err error)
