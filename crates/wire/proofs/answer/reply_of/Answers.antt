-- Each literal is the number and the word of its fault.
use Rattle.std.proofs.Common.{refl}
use Rattle.std.specs.Fmt.{digits}
use Rattle.wire.proofs.answer.reply_of.Goals as goal

pub returns-in-Depth-clause-text : goal.returns-in-Depth-clause-text
unfolding digits
returns-in-Depth-clause-text c = rw c.in-Depth.is refl

pub returns-in-States-clause-text : goal.returns-in-States-clause-text
unfolding digits
returns-in-States-clause-text c = rw c.in-States.is refl

pub returns-in-Seats-clause-text : goal.returns-in-Seats-clause-text
unfolding digits
returns-in-Seats-clause-text c = rw c.in-Seats.is refl

pub returns-in-History-clause-text : goal.returns-in-History-clause-text
unfolding digits
returns-in-History-clause-text c = rw c.in-History.is refl

pub returns-in-Turn-clause-text : goal.returns-in-Turn-clause-text
unfolding digits
returns-in-Turn-clause-text c = rw c.in-Turn.is refl

pub returns-in-Behind-clause-text : goal.returns-in-Behind-clause-text
unfolding digits
returns-in-Behind-clause-text c = rw c.in-Behind.is refl

pub returns-in-Reader-clause-text : goal.returns-in-Reader-clause-text
unfolding digits
returns-in-Reader-clause-text c = rw c.in-Reader.is refl

pub returns-in-Taken-clause-text : goal.returns-in-Taken-clause-text
unfolding digits
returns-in-Taken-clause-text c = rw c.in-Taken.is refl

pub returns-in-Journal-clause-text : goal.returns-in-Journal-clause-text
unfolding digits
returns-in-Journal-clause-text c = rw c.in-Journal.is refl

pub returns-in-Closed-clause-text : goal.returns-in-Closed-clause-text
unfolding digits
returns-in-Closed-clause-text c = rw c.in-Closed.is refl

pub returns-in-Memory-clause-text : goal.returns-in-Memory-clause-text
unfolding digits
returns-in-Memory-clause-text c = rw c.in-Memory.is refl
