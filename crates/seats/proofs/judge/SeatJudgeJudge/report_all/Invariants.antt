use Rattle.std.proofs.Common.{◌≡◌, ◌≤◌, ◌++◌, List, length}
use Rattle.std.specs.Prelude.{vec_len, vec_capacity}
use Rattle.alphabet.specs.declared.events.Report.{Report}
use Rattle.wire.specs.Groups.{AllReported}
use Rattle.seats.specs.Judges.{Reports}
use Rattle.seats.proofs.judge.SeatJudgeJudge.report_all.Given as goal

-- the front of the group was judged, and the rest is still to come
abbrev pub invariant-loop-rest : goal.invariant-loop-rest
invariant-loop-rest g l = record {
  front : List Report;
  cut : l.group ≡ front ++ l.rest;
  judged : AllReported (Reports g.N.Naming.spec) l.fn.self.seat.share front l.answers.items l.self.seat.share;
  many : vec_len l.answers ≡ length front;
  room : vec_capacity l.fn.answers ≤ vec_capacity l.answers;
}

abbrev pub decreases-loop-rest : goal.decreases-loop-rest
decreases-loop-rest g l = length l.rest
