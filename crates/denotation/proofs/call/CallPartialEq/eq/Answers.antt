use Rattle.std.proofs.Common.{◌&&◌, sym, ap, ◌∙◌}
use Rattle.std.specs.Cmp.Lexicographic.{pointwise}
use Rattle.std.specs.Ordering.{on, eq_by_cmp}
use Rattle.values.specs.Values.{value_cmp}
use Rattle.values.specs.View.{value}
use Rattle.denotation.proofs.CallTests.{call_test}
use Rattle.denotation.proofs.call.CallPartialEq.eq.Goals as goal

pub returns-then-eq : goal.returns-then-eq
returns-then-eq g c =
    c.eq-then-eq.ensures
    ∙ ap (λ b. b && pointwise (eq_by_cmp (on value value_cmp)) c.args.self.now.arguments.items c.args.other.now.arguments.items) (sym c.if-eq.true ∙ c.eq.ensures)
    ∙ call_test c.args.self.now c.args.other.now

pub returns-else-eq : goal.returns-else-eq
returns-else-eq g c =
    c.if-eq.false
    ∙ ap (λ b. b && pointwise (eq_by_cmp (on value value_cmp)) c.args.self.now.arguments.items c.args.other.now.arguments.items) (sym c.if-eq.false ∙ c.eq.ensures)
    ∙ call_test c.args.self.now c.args.other.now
