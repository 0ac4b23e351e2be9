use Rattle.std.proofs.Common.{codes, get_or, refl, arith}
use Rattle.alphabet.specs.Channels.{event_count}
use Rattle.printing.specs.Printed.{pair_text}
use Rattle.printing.proofs.Lists.{on_ok, first_and_others, others_within}
use Rattle.printing.proofs.processes.put_pairs.Goals as goal

pub returns-in_ok-put_pair-in-len1-up : goal.returns-in_ok-put_pair-in-len1-up
returns-in_ok-put_pair-in-len1-up g c =
    on_ok c.put_other_pairs.result _ _ c.put_other_pairs.ensures
    (λ e. first_and_others (codes ", ") (pair_text c.args.alphabet.now) c.args.text.now.items c.put_pair.new.text.items c.put_other_pairs.new.text.items c.args.pairs.now
    (get_or c.args.pairs.now 0 (0, 0)) (0, 0) c.in-len1-up.len_at_least refl c.in_ok-put_pair-in-len1-up.ensures e)

pub put_pair-requires : goal.put_pair-requires
put_pair-requires g c = let within = c.requires 0 (0, 0) (omega arith) in record { left = within.0; right = within.1 }

pub put_other_pairs-requires : goal.put_other_pairs-requires
put_other_pairs-requires g c = others_within (event_count c.args.alphabet.now) c.args.pairs.now c.in-len1-up.len_at_least c.requires
