use Rattle.std.proofs.Common.{not, ◌&&◌, ap, ◌∙◌}
use Rattle.alphabet.specs.EventSets.{member}
use Rattle.targets.proofs.Renamed.{apart-says}
use Rattle.nodes.proofs.Knowing.{not-back}
use Rattle.nodes.proofs.offers.are_apart.Goals as goal

pub returns : goal.returns
returns c =
    λ t.
    let o = member c.args.offered in
    let says = apart-says o (member c.args.hidden) (member c.minus-2.result) c.is_empty.result (λ x. c.minus-2.ensures x ∙ ap (λ b. o x && not b) (c.minus.ensures x)) t c.is_empty.ensures in
    ((λ e. says.0 (ap not e)), (λ n. not-back c.is_empty.result (says.1 n)))
