use Rattle.term.proofs.SoundTraces.{run-Tr}
use Rattle.term.proofs.SoundFailures.{run-Fl}
use Rattle.term.proofs.CompleteTraces.{trace-run}
use Rattle.term.proofs.CompleteFailures.{failure-run}
use Rattle.term.proofs.laws.runs_are_the_meaning.Goals as goal

pub returns : goal.returns
returns c = record {
  traces = λ B P u. (run-Tr B, trace-run B P u);
  failures = λ B P u X. (run-Fl B X, failure-run B P u X);
}
