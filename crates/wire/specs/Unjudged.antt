-- The lines of a connection that weren't judged.
use Rattle.std.specs.Prelude.{ℕ, Result, Ok}
use Rattle.wire.specs.declared.answer.Tally.{Tally}
use Rattle.wire.specs.declared.engine.End.{End}
use Rattle.wire.specs.declared.engine.End.TheVariants.{Line}
use Rattle.wire.specs.declared.engine.WireError.{WireError}
use Rattle.wire.specs.Replies.{one_more}

-- How many there were by the end: those that asked for nothing or named no event, and one that was too long.
abbrev pub unjudged_lines : Result End WireError → Tally → ℕ
unjudged_lines (Ok Line) tally = one_more tally.unjudged
unjudged_lines end tally = tally.unjudged
