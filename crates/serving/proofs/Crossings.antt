-- Threads may share an alphabet.
use denote.Param.Send.{IsSync, sendable}
use Rattle.std.proofs.Crossing.{crosses}
use Rattle.std.specs.contracts.alloc.Global as Global
use Rattle.std.specs.contracts.impls.GlobalAllocator.TheImpl.{ghosts}
use Rattle.alphabet.specs.contracts.table.Alphabet as Alphabet

pub alphabet_sync : IsSync (Alphabet.the_row Global.the_row ghosts)
alphabet_sync = search (sendable, crosses) depth 60 fits 20000
