use Rattle.std.proofs.Common.{refl, sym, ◌∙◌}
use Rattle.syntax.proofs.Failing.{none_wanted}
use Rattle.values.specs.Tables.{table}
use Rattle.event_phrases.specs.Events.{masked}
use Rattle.declared_names.specs.View.{entries}
use Rattle.declared_names.proofs.Searching.{added, kept}
use Rattle.script.specs.Standing.{events_by, next_events}
use Rattle.script.specs.Tables.{said}
use Rattle.script.proofs.Learning.{reached_more, settled_known, settled_none}
use Rattle.script.proofs.standing.DefinitionsLearnerTableEventSet.learn.Goals as goal

pub returns-then-has : goal.returns-then-has
returns-then-has g c =
    let n = c.args.self.now.names.now in
    (refl, settled_known n.sigma.alphabet (table n.known) (entries n.entries) (said c.args.sets.now) c.args.name.now c.requires (sym c.has.ensures ∙ c.if-has.true))

pub returns-in_ok-insert-in-Ok : goal.returns-in_ok-insert-in-Ok
returns-in_ok-insert-in-Ok g c =
    let n = c.args.self.now.names.now in
    let f = said c.args.sets.now in
    let h = said c.insert.new.self in
    let is = c.in_ok-insert-in-Ok.ensures in
    (reached_more n.sigma.alphabet (table n.known) (entries n.entries) f h c.args.name.now c.in-Ok.set c.requires c.in-Ok.ensures is, kept f h c.args.name.now c.in-Ok.set is, sym c.has.ensures ∙ c.if-has.false, added f h c.args.name.now c.in-Ok.set is)

pub returns-in-Err-Fault : goal.returns-in-Err-Fault
returns-in-Err-Fault g c =
    let n = c.args.self.now.names.now in
    let f = said c.args.sets.now in
    let cs = n.sigma.alphabet in (
      refl,
      settled_none cs (table n.known) (entries n.entries) f c.args.name.now
          (none_wanted c.in-Err-Fault.field-0 c.in-Err-Fault.field-0-0 (masked cs (next_events cs (table n.known) (entries n.entries) (events_by f) c.args.name.now)) c.in-Err-Fault.field-0-is c.in-Err-Fault.ensures),
    )
