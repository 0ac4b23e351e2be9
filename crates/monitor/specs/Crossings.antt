-- What may go to another thread.
use Rattle.std.specs.Thread.{IsSend}
use Rattle.std.specs.contracts.alloc.Global as Global
use Rattle.std.specs.contracts.impls.GlobalAllocator.TheImpl.{ghosts}
use Rattle.monitor.specs.contracts.monitor.Monitor as Monitor

-- a monitor
abbrev pub MonitorCrosses : Type 0
MonitorCrosses = IsSend (Monitor.the_row Global.the_row ghosts)
