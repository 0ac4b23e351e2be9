-- A conversation of one who reports alone, from the first line on.
use Rattle.std.specs.Prelude.{◌≡◌, List, false, Result}
use Rattle.term.specs.Proc.{bodies_of}
use Rattle.term.specs.Specs.{Specified}
use Rattle.shared.specs.Entry.{Entry}
use Rattle.wire.specs.Replies.{LineReplies, TakesNoName, noted}
use Rattle.wire.specs.Talks.{Conversation, Serves, with_judge}
use Rattle.wire.specs.declared.answer.Tally.{Tally}
use Rattle.wire.specs.declared.engine.End.{End}
use Rattle.wire.specs.declared.engine.WireError.{WireError}
use Rattle.attending.specs.Courses.{Course, begun, Reports, Statuses, Nexts}

-- no line was answered yet
abbrev pub no_answers : Tally
no_answers = record { begun = false; rejected = false; unjudged = 0; limit = false }

-- What was read is answered by the definition, line by line, from the empty history to this one, with these tallies of the answers before
-- and after it.
pub record Conversed (spec : Specified) (conversation : Conversation Tally) (result : Result End WireError) (history : List Entry) : Type 0 where
  pub last : Course
  pub history_is : last.history ≡ history
  pub serves : Serves (LineReplies (Reports spec) Statuses (Nexts (bodies_of spec.bodies)) TakesNoName spec.alphabet)
      (with_judge conversation (noted begun conversation.before) (noted last conversation.after)) result
