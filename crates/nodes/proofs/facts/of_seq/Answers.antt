use Rattle.std.proofs.Common.{refl, arith}
use Rattle.targets.proofs.Settling.{no_tick}
use Rattle.nodes.proofs.Knowing.{and-says}
use Rattle.nodes.proofs.facts.of_seq.Goals as goal

pub returns : goal.returns
returns c =
    λ P Q p q.
    record {
      depth_is = omega (arith, p.depth_is, q.depth_is);
      offers_are = p.offers_are;
      no_tick = p.no_tick;
      rests_is = and-says _ _ p.rests_is (no_tick P c.args.first.ticks p.ticks_is);
      ticks_is = refl;
      skip_is = refl;
    }
