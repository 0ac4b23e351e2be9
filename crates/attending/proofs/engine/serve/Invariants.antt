use Rattle.std.proofs.Common.{◌≡◌, ◌≤◌, List, ℕ, true, false, vec_capacity}
use Rattle.std.specs.Io.KnownBytes.{Consumes}
use Rattle.wire.specs.Talks.{Open, IsShort}
use Rattle.attending.specs.Lines.{Attends}
use Rattle.attending.specs.Preparing.{IsReady, standing}
use Rattle.attending.proofs.engine.serve.Given as goal

abbrev pub invariant-pieces : goal.invariant-pieces
invariant-pieces g l = record {
  talk : (heard : List ℕ) × (Consumes (g.T.Source.left l.fn.reader) (g.T.Source.left l.reader) heard) ×
      (Open (Attends l.fn.attendant.manner l.fn.attendant.alone.session.spec)
      (standing l.fn.attendant.alone.session.history l.fn.attendant.alone.session.failed l.fn.attendant.tally l.fn.attendant.lines l.fn.attendant.whole (g.E.Write.contents l.fn.errors))
      (standing l.attendant.alone.session.history l.attendant.alone.session.failed l.attendant.tally l.attendant.lines l.attendant.whole (g.E.Write.contents l.errors))
      (g.W.Sink.contents l.fn.writer) (g.W.Sink.contents l.writer) heard l.begun.items);
  ready : IsReady l.attendant.manner l.attendant.alone.session.spec l.attendant.alone.session.history l.attendant.monitor l.attendant.whole;
  same : (l.attendant.manner ≡ l.fn.attendant.manner) × (l.attendant.alone.session.spec ≡ l.fn.attendant.alone.session.spec);
  going : l.fn.attendant.manner.first ≡ true → l.attendant.tally.rejected ≡ false;
  room : 4096 ≤ vec_capacity l.begun;
  begun : IsShort l.begun.items;
  handed_on : g.W.Sink.has_handed_on l.fn.writer → g.W.Sink.has_handed_on l.writer;
  reader_steady : g.T.Source.failures l.reader ≡ g.T.Source.failures l.fn.reader;
  writer_steady : g.W.Sink.failures l.writer ≡ g.W.Sink.failures l.fn.writer;
}
