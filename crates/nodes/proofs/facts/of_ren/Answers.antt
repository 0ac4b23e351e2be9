use Rattle.std.proofs.Common.{refl, ◌∙◌, arith}
use Rattle.alphabet.specs.EventSets.{has}
use Rattle.targets.specs.Offers.{offered}
use Rattle.targets.specs.Targets.{sources}
use Rattle.targets.proofs.Renamed.{passes-same}
use Rattle.nodes.proofs.facts.of_ren.Goals as goal

pub returns : goal.returns
returns c =
    λ P p.
    record {
      depth_is = omega (arith, p.depth_is);
      offers_are = λ a. c.renamed.ensures.events a ∙ passes-same (has c.args.part.offers) (offered P) p.offers_are (sources c.args.pairs.now a);
      no_tick = c.renamed.ensures.tick ∙ p.no_tick;
      rests_is = p.rests_is;
      ticks_is = p.ticks_is;
      skip_is = refl;
    }
