-- What stands in a trace: an event of Sigma by its number, or termination.
pub use Rattle.alphabet.specs.declared.events.Event.{Event}
pub use Rattle.alphabet.specs.declared.events.Event.TheVariants.{Tick as tick, Of as ev}
