use Rattle.std.proofs.Common.{map, subst, sym, ap}
use Rattle.syntax.specs.View.{shape}
use Rattle.values.specs.Tables.{behind, input, table}
use Rattle.values.specs.View.{Gives, value}
use Rattle.event_phrases.specs.Events.{field_value}
use Rattle.event_phrases.specs.Forms.{field_of}
use Rattle.syntax.proofs.Failing.{fails_none}
use Rattle.event_phrases.proofs.beginning.given.Goals as goal

pub returns-in-Some : goal.returns-in-Some
returns-in-Some g c =
    let known = behind (table c.args.known.now) (map input c.args.inputs.now) in
    subst (λ f. Gives value c.given_by.result (field_value known f)) c.in-Some.ensures c.given_by.ensures

pub returns-in-None : goal.returns-in-None
unfolding field_value
returns-in-None g c =
    let known = behind (table c.args.known.now) (map input c.args.inputs.now) in
    fails_none c.fault.result (field_value known (field_of (shape c.args.tree.now))) (ap (field_value known) (sym c.in-None.ensures))
