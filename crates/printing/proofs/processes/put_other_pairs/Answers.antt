use Rattle.std.proofs.Common.{◌++◌, codes, get_or, refl, ap, ◌∙◌, arith}
use Rattle.printing.specs.Printed.{pair_text}
use Rattle.printing.proofs.Lists.{behind_item, none_yet, all_put}
use Rattle.printing.proofs.processes.put_other_pairs.Goals as goal

pub loop-pair-preserved : goal.loop-pair-preserved
loop-pair-preserved g c =
    let p = get_or c.args.pairs.now c.loop-pair.pair-index (0, 0) in
    behind_item (codes ", ") (pair_text c.args.alphabet.now) c.args.text.now.items c.loop-pair.text.items c.put_pair.new.text.items c.args.pairs.now c.loop-pair.pair-index p (0, 0)
    (omega arith) refl c.loop-pair.invariant (c.in_ok-put_pair.ensures ∙ ap (λ t. t ++ pair_text c.args.alphabet.now p) c.in_ok-extend_from_slice.ensures.items)

pub loop-pair-init : goal.loop-pair-init
loop-pair-init g c = none_yet (λ p. codes ", " ++ pair_text c.args.alphabet.now p) c.args.text.now.items c.args.pairs.now

pub returns : goal.returns
returns g c = all_put (λ p. codes ", " ++ pair_text c.args.alphabet.now p) c.args.text.now.items c.loop-pair.text.items c.args.pairs.now c.loop-pair.pair-index (omega arith) c.loop-pair.invariant

pub put_pair-requires : goal.put_pair-requires
put_pair-requires g c = let within = c.requires c.loop-pair.pair-index (0, 0) (omega arith) in record { left = within.0; right = within.1 }
