use Rattle.std.proofs.Common.{nat_eq, refl, ◌∙◌, arith}
use Rattle.alphabet.specs.EventSets.{member}
use Rattle.alphabet.specs.declared.events.Event.TheVariants.{Tick as tick, Of as ev}
use Rattle.targets.proofs.Renamed.{or-last}
use Rattle.nodes.proofs.facts.of_prefix.Goals as goal

pub returns : goal.returns
returns c =
    λ P p.
    record {
      depth_is = omega (arith, p.depth_is);
      offers_are = λ a. c.with.ensures (ev a) ∙ or-last (nat_eq c.args.event a) (member c.empty.result (ev a)) (c.empty.ensures (ev a));
      no_tick = c.with.ensures tick ∙ c.empty.ensures tick;
      rests_is = ((λ _. tt), (λ _. refl));
      ticks_is = refl;
      skip_is = refl;
    }
