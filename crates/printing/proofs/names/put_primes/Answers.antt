use Rattle.printing.proofs.Lists.{one_more_prime}
use Rattle.printing.proofs.names.put_primes.Goals as goal

pub loop-preserved : goal.loop-preserved
loop-preserved g c = one_more_prime c.args.text.now.items c.loop.text.items c.push.new.self.items c.loop.counter c.loop.invariant c.in_ok-push.ensures.items
