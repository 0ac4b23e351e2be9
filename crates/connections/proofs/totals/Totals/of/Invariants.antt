use Rattle.std.specs.Prelude.{take}
use Rattle.connections.specs.Services.{IsSum}
use Rattle.connections.proofs.totals.Totals.of.Given as goal

abbrev pub invariant-loop-ending : goal.invariant-loop-ending
invariant-loop-ending l = IsSum (take l.ending-index l.endings) l.totals
