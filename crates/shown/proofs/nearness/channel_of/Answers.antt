use Rattle.std.proofs.Common.{ap, sym, ℕ, List, get_or}
use Rattle.shown.proofs.Parting.{parts_cut, parts_none}
use Rattle.shown.proofs.nearness.channel_of.Goals as goal

pub returns-in-Some : goal.returns-in-Some
returns-in-Some c = sym (ap (λ (ps : List (List ℕ)). get_or ps 0 c.args.name.now) (parts_cut c.args.name.now c.in-Some.channel.now c.in-Some.field-0-1.now c.in-Some.ensures.0 c.in-Some.ensures.1))

pub returns-in-None : goal.returns-in-None
returns-in-None c = sym (ap (λ (ps : List (List ℕ)). get_or ps 0 c.args.name.now) (parts_none c.args.name.now c.in-None.ensures))
