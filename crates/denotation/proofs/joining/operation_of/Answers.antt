use Rattle.std.proofs.Common.{◌≡◌, map, Some, sym, ap, subst, ◌∙◌}
use Rattle.std.proofs.lemmas.Result.{err_from_is_err_and}
use Rattle.syntax.specs.View.{shape}
use Rattle.tokens.specs.declared.read_error.ReadError.{ReadError}
use Rattle.values.specs.Values.{◌>>=◌}
use Rattle.values.specs.Tables.{input}
use Rattle.values.specs.View.{Fails}
use Rattle.event_phrases.specs.Scopes.{Scope, within}
use Rattle.event_phrases.proofs.Options.{fails_at}
use Rattle.denotation.specs.declared.draft.Joint.TheVariants as joints
use Rattle.denotation.specs.declared.draft.Operation.TheVariants as operations
use Rattle.denotation.specs.Phrases.{Between, with_set, with_sets, operation_of}
use Rattle.denotation.specs.Shapes.{plain_between}
use Rattle.denotation.proofs.joining.operation_of.Goals as goal

fails_so : (s : Scope) (m is : Between) → m ≡ is → (k : ReadError) → Fails k (operation_of s is) → Fails k (operation_of s m)
fails_so s m is h k f = subst (λ m. Fails k (operation_of s m)) (sym h) f

pub returns-in_err-set-in-Sharing : goal.returns-in_err-set-in-Sharing
unfolding operation_of
returns-in_err-set-in-Sharing g c =
    let s = within (g.G.GlobalScope.scope c.args.scope.now.global.now) (map input c.args.scope.now.inputs.items) in
    let p = err_from_is_err_and c.from_residual.result c.from_residual.ensures.1 in
    rw (p.1, p.2) (fails_so s (plain_between c.args.between) (with_set (shape c.in-Sharing.set.now)) (ap plain_between c.in-Sharing.is) c.in_err-set-in-Sharing.field-0.0 (fails_at c.in_err-set-in-Sharing.field-0.0 _ (λ A. Some (operations.Joint (joints.Sharing A))) c.in_err-set-in-Sharing.ensures))

pub returns-in_err-left-in-Alphabetised : goal.returns-in_err-left-in-Alphabetised
unfolding operation_of
returns-in_err-left-in-Alphabetised g c =
    let s = within (g.G.GlobalScope.scope c.args.scope.now.global.now) (map input c.args.scope.now.inputs.items) in
    let p = err_from_is_err_and c.from_residual-in_err-left-in-Alphabetised.result c.from_residual-in_err-left-in-Alphabetised.ensures.1 in
    rw (p.1, p.2) (fails_so s (plain_between c.args.between) (with_sets (shape c.in-Alphabetised.left.now) (shape c.in-Alphabetised.right.now)) (ap plain_between c.in-Alphabetised.is) c.in_err-left-in-Alphabetised.field-0.0 (fails_at c.in_err-left-in-Alphabetised.field-0.0 _ (λ S. Some (operations.Alphabetised S.0 S.1)) c.in_err-left-in-Alphabetised.ensures))

pub returns-in-Join : goal.returns-in-Join
unfolding operation_of
returns-in-Join g c =
    let s = within (g.G.GlobalScope.scope c.args.scope.now.global.now) (map input c.args.scope.now.inputs.items) in
    ap (λ m. operation_of s (plain_between m)) c.in-Join.is

pub returns-in_ok-set-in-Sharing : goal.returns-in_ok-set-in-Sharing
unfolding operation_of
returns-in_ok-set-in-Sharing g c =
    let s = within (g.G.GlobalScope.scope c.args.scope.now.global.now) (map input c.args.scope.now.inputs.items) in
    ap (λ m. operation_of s (plain_between m)) c.in-Sharing.is ∙ ap (λ o. o >>= λ A. Some (operations.Joint (joints.Sharing A))) c.in_ok-set-in-Sharing.ensures

pub returns-in_ok-left-in-Alphabetised : goal.returns-in_ok-left-in-Alphabetised
unfolding operation_of
returns-in_ok-left-in-Alphabetised g c =
    let s = within (g.G.GlobalScope.scope c.args.scope.now.global.now) (map input c.args.scope.now.inputs.items) in
    ap (λ m. operation_of s (plain_between m)) c.in-Alphabetised.is ∙ ap (λ o. o >>= λ S. Some (operations.Alphabetised S.0 S.1)) c.in_ok-left-in-Alphabetised.ensures
