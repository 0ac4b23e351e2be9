use Rattle.std.proofs.Common.{not, ◌&&◌, refl, ap, sym, ◌∙◌, arith}
use Rattle.alphabet.specs.EventSets.{has, member}
use Rattle.alphabet.specs.declared.events.Event.TheVariants.{Tick as tick, Of as ev}
use Rattle.targets.proofs.Renamed.{and-none}
use Rattle.nodes.proofs.Knowing.{and-says}
use Rattle.nodes.proofs.facts.of_hide.Goals as goal

pub returns : goal.returns
returns c =
    λ P p.
    let apart = c.are_apart.ensures p.no_tick in
    record {
      depth_is = omega (arith, p.depth_is);
      offers_are = λ a. c.minus.ensures (ev a) ∙ ap (λ b. b && not (has c.args.set a)) (p.offers_are a);
      no_tick = c.minus.ensures tick ∙ and-none (member c.args.part.offers tick) (not (member c.args.set tick)) p.no_tick;
      rests_is = and-says _ _ p.rests_is (
        (λ t a y z. apart.0 t a y (p.offers_are a ∙ z)),
        (λ n. apart.1 (λ a y z. n a y (sym (p.offers_are a) ∙ z))),
      );
      ticks_is = p.ticks_is;
      skip_is = refl;
    }
