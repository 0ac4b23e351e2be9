use Rattle.std.proofs.Common.{sym, ◌∙◌}
use Rattle.term.specs.Proc.{proc}
use Rattle.targets.proofs.Ticking.{ticks-Ticks, Ticks-ticks}
use Rattle.step.proofs.looks.can_tick.Goals as goal

pub returns : goal.returns
returns g c =
    let e = c.facts_of_term.ensures.ticks_is in
    ((λ t. ticks-Ticks (proc c.args.term.now) (sym e ∙ t)), (λ t. e ∙ Ticks-ticks t))
