use Rattle.std.proofs.Common.{refl, arith}
use Rattle.alphabet.specs.declared.events.Event.TheVariants.{Tick as tick, Of as ev}
use Rattle.nodes.proofs.facts.of_int.Goals as goal

pub returns : goal.returns
returns c =
    λ P Q p q.
    record {
      depth_is = omega (arith, p.depth_is, q.depth_is);
      offers_are = λ a. c.empty.ensures (ev a);
      no_tick = c.empty.ensures tick;
      rests_is = ((λ e. absurd (cc)), (λ b. absurd b));
      ticks_is = refl;
      skip_is = refl;
    }
