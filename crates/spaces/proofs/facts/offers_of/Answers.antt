use Rattle.std.proofs.Common.{List, [], ℕ, length, take, get_or, sym, subst, arith}
use Rattle.std.proofs.lemmas.List.{take_all}
use Rattle.alphabet.specs.EventSets.{Set}
use Rattle.tau_closures.specs.Shapes.{at}
use Rattle.tau_closures.specs.Looks.{look}
use Rattle.tau_closures.proofs.Looking.{below-at}
use Rattle.term.specs.Proc.{Proc}
use Rattle.tau_closures.proofs.NumberPutting.{look-more}
use Rattle.spaces.specs.Offers.{AreOffers}
use Rattle.spaces.proofs.Offering.{offers-none}
use Rattle.spaces.proofs.facts.offers_of.Goals as goal

pub loop-number-init : goal.loop-number-init
loop-number-init g c = subst (λ (l : List Set). AreOffers l []) (sym c.new-offers.ensures.items) offers-none

pub facts-requires : goal.facts-requires
facts-requires g c = below-at (length c.args.all.now.table.processes) c.args.numbers.now c.loop-number.number-index 0 c.requires c.loop-number-test.true

pub loop-number-preserved : goal.loop-number-preserved
loop-number-preserved g c =
    let ps = c.args.all.now.table.processes in
    let ns = c.args.numbers.now in
    let i = c.loop-number.number-index in
    let n = get_or ns i 0 in
    subst (λ (l : List Proc). AreOffers c.put_offers.new.into.items l) (sym (look-more ps ns i 0 c.loop-number-test.true))
    (c.in_ok-put_offers.ensures (at ps n) (look ps (take i ns)) c.facts.ensures c.loop-number.invariant)

pub returns : goal.returns
returns g c =
    subst (λ (l : List ℕ). AreOffers c.loop-number.offers.items (look c.args.all.now.table.processes l)) (take_all c.loop-number.number-index c.args.numbers.now (omega arith)) c.loop-number.invariant
