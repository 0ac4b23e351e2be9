use Rattle.std.proofs.Common.{◌++◌, ◌∷◌, [], map, ap, ◌∙◌}
use Rattle.values.specs.Tables.{input}
use Rattle.values.specs.View.{value}
use Rattle.event_phrases.proofs.Scopes.{behind_input}
use Rattle.event_phrases.proofs.scope.behind_input.Goals as goal

pub returns : goal.returns
returns g c =
    let x = c.args.name.now in
    let v = value c.args.value.now in
    behind_input (g.G.GlobalScope.scope c.args.scope.now.global.now) (map input c.args.scope.now.inputs.items) (map input c.push_input.new.inputs.items) x v
    (c.in_ok-push_input.ensures ∙ ap (λ is. is ++ (x, v) ∷ []) (c.in_ok-inputs.ensures ∙ ap (map input) c.deref.ensures.value))
