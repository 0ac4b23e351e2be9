use Rattle.std.proofs.Common.{map, length, ap, subst, ◌∙◌}
use Rattle.syntax.specs.View.{shapes}
use Rattle.values.specs.Tables.{input}
use Rattle.values.specs.View.{Gives}
use Rattle.denotation.specs.Places.{waiting, innermost_first, from_scope}
use Rattle.denotation.specs.Walks.{first_scope}
use Rattle.denotation.proofs.Places.{none_last, started}
use Rattle.denotation.proofs.walk.first_place.Goals as goal

pub returns : goal.returns
returns g c =
    let s = g.G.GlobalScope.scope c.args.scope.now.global.now in
    subst (λ o. Gives (from_scope s) c.descended.result o)
    (ap first_scope (started s (map input c.args.scope.now.inputs.items) (map input c.in_ok-copies.field-0.items) (innermost_first c.new.result.items) (shapes c.args.generators.now) (c.in_ok-copies.ensures ∙ ap (map input) c.deref.ensures.value) (none_last waiting c.new.result.items (ap length c.new.ensures.items))))
    c.descended.ensures
