-- What may go to another thread.
use Rattle.std.specs.Thread.{IsSend}
use Rattle.std.specs.contracts.fs.File as File
use Rattle.file_disk.specs.contracts.FileDisk as FileDisk

-- a disk on a file
abbrev pub DiskCrosses : Type 0
DiskCrosses = IsSend (FileDisk.the_row File.the_row)
