-- What may go to another thread.
use Rattle.std.specs.Thread.{IsSend}
use Rattle.std.specs.contracts.alloc.Global as Global
use Rattle.std.specs.contracts.impls.GlobalAllocator.TheImpl.{ghosts}
use Rattle.memory_disks.specs.contracts.fault.FaultDisk as FaultDisk
use Rattle.server_rows.specs.contracts.folder.MemoryFolder as MemoryFolder
use Rattle.server_rows.specs.contracts.clients.Client as Client

-- a disk in memory
abbrev pub DiskCrosses : Type 0
DiskCrosses = IsSend (FaultDisk.the_row Global.the_row ghosts)

-- a folder in memory
abbrev pub FolderCrosses : Type 0
FolderCrosses = IsSend MemoryFolder.the_row

-- an end of a connection
abbrev pub ClientCrosses : Type 0
ClientCrosses = IsSend Client.the_row
