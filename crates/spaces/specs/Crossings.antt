-- What may go to another thread.
use Rattle.std.specs.Thread.{IsSend}
use Rattle.std.specs.contracts.alloc.Global as Global
use Rattle.std.specs.contracts.impls.GlobalAllocator.TheImpl.{ghosts}
use Rattle.tau_closures.specs.TableContracts as Table
use Rattle.tau_closures.specs.TransitionsContracts as Transitions
use Rattle.tau_closures.specs.StatesContracts as States
use Rattle.spaces.specs.contracts.found.FoundSets as FoundSets
use Rattle.spaces.specs.contracts.space.Space as Space

-- a table of nodes
abbrev pub TableCrosses : Type 0
TableCrosses = IsSend (Table.the_row Global.the_row ghosts)

-- the steps of its nodes
abbrev pub TransitionsCross : Type 0
TransitionsCross = IsSend (Transitions.the_row Global.the_row ghosts)

-- these with what processes are kept as
abbrev pub StatesCross : Type 0
StatesCross = IsSend (States.the_row Global.the_row ghosts)

-- the sets of states found for a specification
abbrev pub SetsCross : Type 0
SetsCross = IsSend (FoundSets.the_row Global.the_row ghosts)

-- these with the answers that are remembered
abbrev pub SpaceCrosses : Type 0
SpaceCrosses = IsSend (Space.the_row Global.the_row ghosts)
