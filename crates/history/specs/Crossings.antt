-- What may go to another thread.
use Rattle.std.specs.Thread.{IsSend}
use Rattle.std.specs.contracts.alloc.Global as Global
use Rattle.std.specs.contracts.impls.GlobalAllocator.TheImpl.{ghosts}
use Rattle.history.specs.contracts.legal.LegalHistory as Legal

-- a legal history
abbrev pub LegalCrosses : Type 0
LegalCrosses = IsSend (Legal.the_row Global.the_row ghosts)
