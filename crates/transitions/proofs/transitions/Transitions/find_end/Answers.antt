use Rattle.std.proofs.Common.{◌≡◌, sym, ap, ◌∙◌}
use Rattle.term.specs.Proc.{stop}
use Rattle.term.specs.Steps.{Ticks}
use Rattle.targets.specs.Targets.{ticks}
use Rattle.nodes.specs.Shapes.{at}
use Rattle.transitions.proofs.Keeping.{at-kept}
use Rattle.transitions.proofs.Asking.{none-in, single-in, no-end, one-end, not-on, not-off}
use Rattle.transitions.proofs.transitions.Transitions.find_end.Goals as goal

pub returns-then-not-facts-clause-targets : goal.returns-then-not-facts-clause-targets
returns-then-not-facts-clause-targets g c =
    let P = at c.args.self.now.table.processes c.args.number in
    λ most.
    none-in c.args.self.now.table (λ Q. Ticks P × (Q ≡ stop)) most c.args.into.now.items c.requires.empty (no-end P c.facts.result.ticks c.facts.ensures.ticks_is (not-on c.facts.result.ticks c.if-not-facts.true))

pub returns-clause-targets : goal.returns-clause-targets
returns-clause-targets g c =
    let s = c.args.self.now in
    let r = c.put.new.self in
    let P = at r.table.processes c.args.number in
    let e = c.facts.ensures.ticks_is ∙ ap ticks (sym (at-kept s r c.put.ensures.kept c.args.number c.requires.number)) in
    λ most.
    single-in r.table (λ Q. Ticks P × (Q ≡ stop)) most c.in_ok-stop.stop stop c.args.into.now.items c.push.new.self.items c.in_ok-stop.ensures.number (one-end P c.facts.result.ticks e (not-off c.facts.result.ticks c.if-not-facts.false)) c.requires.empty c.in_ok-push.ensures.items
