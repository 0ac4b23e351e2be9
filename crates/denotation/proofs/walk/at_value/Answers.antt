use Rattle.std.proofs.Common.{ℕ, List, [], ◌∷◌, ◌++◌, map, ap, ◌∙◌}
use Rattle.std.proofs.lemmas.List.{map-append}
use Rattle.syntax.specs.View.{shapes}
use Rattle.values.specs.Tables.{input}
use Rattle.values.specs.View.{value, values}
use Rattle.denotation.specs.Places.{waiting, innermost_first}
use Rattle.denotation.proofs.Places.{value_taken, by_last}
use Rattle.denotation.proofs.walk.at_value.Goals as goal

pub returns : goal.returns
returns g c =
    let is = map input c.args.inputs.items in
    λ s. value_taken s is (map input c.push.new.self.items) c.args.generator.name.now (value c.args.value) (values c.args.generator.left) (shapes c.args.generator.inner.now) (innermost_first c.args.outer.items) (innermost_first c.push-2.new.self.items)
    (ap (map input) c.in_ok-push.ensures.items ∙ map-append input c.args.inputs.items _ ∙ ap (λ (n : List ℕ). is ++ (n, value c.args.value) ∷ []) c.in_ok-name.ensures.items)
    (by_last waiting c.push-2.new.self.items c.args.outer.items c.args.generator c.in_ok-push-2.ensures.items)
