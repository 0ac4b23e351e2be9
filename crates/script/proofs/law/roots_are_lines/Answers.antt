use Rattle.script.proofs.Lines.{some_byte, no_line_feed}
use Rattle.script.proofs.law.roots_are_lines.Goals as goal

pub returns-clause-some : goal.returns-clause-some
returns-clause-some c = λ text root spec r. some_byte root r.written.line

pub returns-clause-line : goal.returns-clause-line
returns-clause-line c = λ text root spec r. no_line_feed root r.written.line

pub returns-clause-small : goal.returns-clause-small
returns-clause-small c = λ text root spec r. r.reads.read.0
