-- To believe.
pub mod Limits
pub mod KeptBelonging
pub mod Belonging
pub mod Faults
-- Steps of the program.
pub mod Targets
pub mod Kept
pub mod Closing
-- Of the layers below, for those above.
pub use Rattle.keeping.specs.Kept as Keepings
pub use Rattle.keeping.specs.contracts.states.States as StatesContracts
pub use Rattle.nodes.specs.Known
pub use Rattle.nodes.specs.Looks
pub use Rattle.nodes.specs.Shapes
pub use Rattle.nodes.specs.Tables
pub use Rattle.nodes.specs.contracts.table.Table as TableContracts
pub use Rattle.nodes.specs.declared.facts.Facts
pub use Rattle.targets.specs.Offers
pub use Rattle.targets.specs.Resting
pub use Rattle.targets.specs.declared.labels.Label
pub use Rattle.targets.specs.Cuts
pub use Rattle.transitions.specs.Memory
pub use Rattle.transitions.specs.Numbered
pub use Rattle.transitions.specs.contracts.transitions.Transitions as TransitionsContracts
pub use Rattle.unfolding.specs.Kept as Unfolding
