-- Where a check line by line stands.
use Rattle.std.specs.Prelude.{ℕ, List, Bool, true, false, Option, is_some}
use Rattle.session.specs.Entry.{Entry}
use Rattle.wire.specs.declared.answer.Tally.{Tally}
use Rattle.attending.specs.Courses.{Course, begun}

-- The course, the tally of the answers, how many lines were answered, whether all that is wanted on the errors was written there, and what
-- these hold.
pub record Standing : Type 0 where
  pub course : Course
  pub tally : Tally
  pub lines : ℕ
  pub whole : Bool
  pub errors : Option (List ℕ)

-- the course of a session with this history, and the entry that closed it, if one has
abbrev pub course_of : List Entry → Option Entry → Course
course_of h failed = record { history = h; closed = is_some failed }

-- before the first line
abbrev pub unattended : Option (List ℕ) → Standing
unattended errors = record { course = begun; tally = record { begun = false; rejected = false; unjudged = 0; limit = false }; lines = 0; whole = true; errors = errors }
