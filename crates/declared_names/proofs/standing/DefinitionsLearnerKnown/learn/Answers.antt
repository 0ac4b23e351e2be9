use Rattle.std.proofs.Common.{Some, cond, refl, sym, ap, ◌∙◌}
use Rattle.syntax.proofs.Failing.{none_wanted}
use Rattle.values.specs.Names.{next_known, same_name}
use Rattle.values.specs.Values.{Name}
use Rattle.values.specs.Tables.{table}
use Rattle.values.specs.View.{worth}
use Rattle.declared_names.specs.View.{entries}
use Rattle.declared_names.proofs.Learning.{reached_more, settled_known, settled_none}
use Rattle.declared_names.proofs.Searching.{added, kept}
use Rattle.declared_names.proofs.standing.DefinitionsLearnerKnown.learn.Goals as goal

pub returns-then-has : goal.returns-then-has
returns-then-has g c = (refl, settled_known (entries c.args.self.now.entries.now) (table c.args.known.now) c.args.name.now c.requires (sym c.has.ensures ∙ c.if-has.true))

pub returns-in_ok-insert-in-Ok : goal.returns-in_ok-insert-in-Ok
returns-in_ok-insert-in-Ok g c =
    let es = entries c.args.self.now.entries.now in
    let f = table c.args.known.now in
    let h = table c.insert.new.self in
    let n = c.args.name.now in
    let w = worth c.in-Ok.worth in
    let is = λ (m : Name). c.in_ok-insert-in-Ok.ensures.inserted m ∙ ap (λ x. cond (same_name m x) (Some w) (f m)) c.in_ok-from_slice-in-Ok.ensures.items in
    (reached_more es f h n w c.requires c.in-Ok.ensures is, kept f h n w is, sym c.has.ensures ∙ c.if-has.false, added f h n w is)

pub returns-in-Err-Fault : goal.returns-in-Err-Fault
returns-in-Err-Fault g c =
    let es = entries c.args.self.now.entries.now in
    let f = table c.args.known.now in
    (refl, settled_none es f c.args.name.now (none_wanted c.in-Err-Fault.field-0 c.in-Err-Fault.field-0-0 (next_known es f c.args.name.now) c.in-Err-Fault.field-0-is c.in-Err-Fault.ensures))
