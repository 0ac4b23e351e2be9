use Rattle.std.proofs.Common.{ℕ, List, length, sym, ap, ◌∙◌, subst}
use Rattle.term.specs.Proc.{Proc, proc, bodies_of}
use Rattle.nodes.specs.Looks.{look, AllBelow}
use Rattle.step.specs.Labels.{AreAllTargets, some_deep}
use Rattle.step.proofs.Whole.{has-deep, no-deep}
use Rattle.step.proofs.finding.shallow_among.Goals as goal

pub any_deep-requires : goal.any_deep-requires
any_deep-requires g c = subst (λ (ns : List ℕ). AllBelow (length c.put_all.new.all.table.processes) ns) (sym c.deref.ensures.value) c.in_ok-put_all.ensures.here

pub terms_of-requires : goal.terms_of-requires
terms_of-requires g c = subst (λ (ns : List ℕ). AllBelow (length c.put_all.new.all.table.processes) ns) (sym c.deref-2.ensures.value) c.in_ok-put_all.ensures.here

pub returns-then-any_deep-clause-depth : goal.returns-then-any_deep-clause-depth
returns-then-any_deep-clause-depth g c =
    λ _.
    let ps = c.put_all.new.all.table.processes in
    let ns = c.put_all.new.numbers.items in
    has-deep (bodies_of c.args.all.now.bodies) (proc c.args.term.now) c.args.label (look ps ns) c.in_ok-put_all.ensures.targets (sym (ap (λ (l : List ℕ). some_deep (look ps l)) c.deref.ensures.value) ∙ sym c.any_deep.ensures ∙ c.if-any_deep.true)

pub returns-clause-targets : goal.returns-clause-targets
returns-clause-targets g c =
    let ps = c.put_all.new.all.table.processes in
    subst (λ (qs : List Proc). AreAllTargets (bodies_of c.args.all.now.bodies) (proc c.args.term.now) c.args.label qs) (sym (c.in_ok-found.ensures ∙ ap (look ps) c.deref-2.ensures.value)) c.in_ok-put_all.ensures.targets

pub returns-clause-within : goal.returns-clause-within
returns-clause-within g c =
    let ps = c.put_all.new.all.table.processes in
    let ns = c.put_all.new.numbers.items in
    no-deep (bodies_of c.args.all.now.bodies) (proc c.args.term.now) c.args.label (look ps ns) c.in_ok-put_all.ensures.targets (sym (ap (λ (l : List ℕ). some_deep (look ps l)) c.deref.ensures.value) ∙ sym c.any_deep.ensures ∙ c.if-any_deep.false)
