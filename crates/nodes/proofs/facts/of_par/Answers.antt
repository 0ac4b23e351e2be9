use Rattle.std.proofs.Common.{◌&&◌, refl, ◌∙◌, arith}
use Rattle.alphabet.specs.EventSets.{has, member}
use Rattle.alphabet.specs.declared.events.Event.TheVariants.{Tick as tick, Of as ev}
use Rattle.targets.specs.Offers.{both_or_one}
use Rattle.targets.proofs.Renamed.{joined-none}
use Rattle.nodes.proofs.Knowing.{and-says, settled-says, alike}
use Rattle.nodes.proofs.facts.of_par.Goals as goal

pub returns : goal.returns
returns c =
    λ P Q p q.
    record {
      depth_is = omega (arith, p.depth_is, q.depth_is);
      offers_are = λ a. c.joined.ensures (ev a) ∙ alike (both_or_one (has c.args.set a)) _ _ _ _ (p.offers_are a) (q.offers_are a);
      no_tick = c.joined.ensures tick ∙ joined-none (member c.args.set tick) (member c.args.left.offers tick) (member c.args.right.offers tick) p.no_tick q.no_tick;
      rests_is = and-says _ _ (and-says _ _ p.rests_is (settled-says P c.args.left.skip c.args.left.ticks p.skip_is p.ticks_is)) (and-says _ _ q.rests_is (settled-says Q c.args.right.skip c.args.right.ticks q.skip_is q.ticks_is));
      ticks_is = alike (λ x y. x && y) _ _ _ _ p.skip_is q.skip_is;
      skip_is = refl;
    }
