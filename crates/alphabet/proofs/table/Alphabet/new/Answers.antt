use Rattle.alphabet.proofs.Empty.{nothing_named}
use Rattle.alphabet.proofs.table.Alphabet.new.Goals as goal

pub invariant_of-result : goal.invariant_of-result
invariant_of-result g c = nothing_named c.new.result.entries c.new-2.result.keys c.new-3.result.items c.new.ensures.empty c.new-2.ensures.empty c.new-3.ensures.items
