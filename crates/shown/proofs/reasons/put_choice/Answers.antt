use Rattle.std.proofs.Common.{refl}
use Rattle.shown.proofs.ReasonLines.{choice_from}
use Rattle.shown.proofs.reasons.put_choice.Goals as goal

pub returns-in_ok-put_name-in-len1-up : goal.returns-in_ok-put_name-in-len1-up
returns-in_ok-put_name-in-len1-up g c =
    choice_from c.put_others.result c.args.alphabet.now c.args.text.now.items c.put_name.new.text.items c.put_others.new.text.items c.args.events.now _ _
    c.in-len1-up.len_at_least refl c.in_ok-put_name-in-len1-up.ensures c.put_others.ensures
