use Rattle.std.proofs.Common.{◌≡◌, sym, ◌∙◌, subst}
use Rattle.alphabet.specs.EventSets.{has}
use Rattle.alphabet.specs.declared.events.Event.{Event}
use Rattle.alphabet.specs.declared.events.Event.TheVariants.{Tick as tick, Of as ev}
use Rattle.term.specs.Proc.{bodies_of}
use Rattle.targets.specs.Labels.{Step}
use Rattle.targets.specs.declared.labels.Label.{Label}
use Rattle.targets.specs.declared.labels.Label.TheVariants as label
use Rattle.nodes.specs.Shapes.{at}
use Rattle.transitions.proofs.Asking.{no-act, no-hidden, no-end, not-off}
use Rattle.transitions.proofs.transitions.Transitions.may_step.Goals as goal

pub returns-in-Tau : goal.returns-in-Tau
returns-in-Tau g c =
    let B = bodies_of c.args.self.now.bodies in
    let P = at c.args.self.now.table.processes c.args.number in
    λ f Q d.
    no-hidden B P c.facts-facts.result.rests c.facts-facts.ensures.rests_is (not-off c.facts-facts.result.rests f) Q
    (subst (λ (l : Label). Step B P l Q) c.in-Tau.is d)

pub returns-in-Event-Of : goal.returns-in-Event-Of
returns-in-Event-Of g c =
    let B = bodies_of c.args.self.now.bodies in
    let P = at c.args.self.now.table.processes c.args.number in
    let a = c.in-Event-Of.event in
    let first : c.in-Event-Of.field-0 ≡ ev a = rw c.in-Event-Of.is at c.in-Event-Of.field-0-is in
    λ f Q d.
    no-act P a (has c.facts-facts.result.offers a) (c.facts-facts.ensures.offers_are a) (sym c.contains.ensures ∙ f) Q
    (subst (λ (x : Event). Step B P (label.Event x) Q) first (subst (λ (l : Label). Step B P l Q) c.in-Event-Of.is d))

pub returns-in-Event-Tick : goal.returns-in-Event-Tick
returns-in-Event-Tick g c =
    let B = bodies_of c.args.self.now.bodies in
    let P = at c.args.self.now.table.processes c.args.number in
    let first : c.in-Event-Tick.field-0 ≡ tick = rw c.in-Event-Tick.is at c.in-Event-Tick.field-0-is in
    λ f Q d.
    no-end P c.facts-facts.result.ticks c.facts-facts.ensures.ticks_is f Q
    (subst (λ (x : Event). Step B P (label.Event x) Q) first (subst (λ (l : Label). Step B P l Q) c.in-Event-Tick.is d))
