use Rattle.std.proofs.Common.{codes}
use Rattle.shown.specs.Names.{set_text}
use Rattle.shown.specs.declared.options.Format.TheVariants.{Json}
use Rattle.shown.proofs.Texts.{joined_from}
use Rattle.shown.proofs.lines.put_list.Goals as goal

pub returns-in_ok-put_set-in-len1-up : goal.returns-in_ok-put_set-in-len1-up
returns-in_ok-put_set-in-len1-up g c =
    joined_from c.put_sets.result (codes ",") (set_text Json c.args.alphabet.now) c.args.text.now.items c.put_set.new.text.items c.put_sets.new.text.items c.args.sets.now c.first-item.result c.first-item.result
    c.in-len1-up.len_at_least c.first-item.is c.in_ok-put_set-in-len1-up.ensures c.put_sets.ensures
