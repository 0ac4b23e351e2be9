use Rattle.connections.proofs.Telling.{told_of}
use Rattle.connections.proofs.threads.take.Goals as goal

pub returns-in-Ok-place-clause-taken : goal.returns-in-Ok-place-clause-taken
returns-in-Ok-place-clause-taken g c =
    let connection = c.in-Ok.connection in
    (connection.0, connection.1, c.in-Ok.ensures.taken, c.start.ensures)

pub returns-in-Err-place-clause-taken : goal.returns-in-Err-place-clause-taken
returns-in-Err-place-clause-taken g c =
    let connection = c.in-Ok.connection in
    let told = told_of g.A.Writer.Sink.contents g.A.Writer.Sink.has_handed_on g.A.Writer.Sink.failures connection.1 c.refuse.new.writer c.in-Err-place.fault c.refuse.result
    c.refuse.ensures.ok c.refuse.ensures.handed_on c.refuse.ensures.failed in
    (connection.0, connection.1, c.in-Ok.ensures.taken, (c.in-Err-place.ensures.refused, told))
