use Rattle.std.proofs.Common.{◌||◌, refl, ◌∙◌, arith}
use Rattle.alphabet.specs.declared.events.Event.TheVariants.{Tick as tick, Of as ev}
use Rattle.nodes.proofs.Knowing.{and-says, alike}
use Rattle.nodes.proofs.facts.of_intr.Goals as goal

pub returns : goal.returns
returns c =
    λ P Q p q.
    record {
      depth_is = omega (arith, p.depth_is, q.depth_is);
      offers_are = λ a. c.union.ensures (ev a) ∙ alike (λ x y. x || y) _ _ _ _ (p.offers_are a) (q.offers_are a);
      no_tick = c.union.ensures tick ∙ alike (λ x y. x || y) _ _ _ _ p.no_tick q.no_tick;
      rests_is = and-says c.args.left.rests c.args.by.rests p.rests_is q.rests_is;
      ticks_is = alike (λ x y. x || y) _ _ _ _ p.ticks_is q.ticks_is;
      skip_is = refl;
    }
