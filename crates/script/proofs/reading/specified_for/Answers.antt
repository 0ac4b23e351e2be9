use Rattle.std.proofs.Common.{◌≡◌, ap, sym, subst, ◌∙◌}
use Rattle.std.proofs.lemmas.Result.{err_from_is_err_and, IfOk-weaker}
use Rattle.tokens.specs.declared.read_error.ReadError.{ReadError}
use Rattle.tokens.specs.Unreads.{reported}
use Rattle.syntax.specs.Grammar.{Syntax}
use Rattle.syntax.specs.View.{shape}
use Rattle.term.specs.Specs.{Specified}
use Rattle.values.specs.Tables.{table}
use Rattle.declared_names.specs.View.{entries}
use Rattle.denotation.specs.Denotes.{Root, root_of}
use Rattle.denotation.specs.View.{root as root_view}
use Rattle.script.specs.Reading.{AreBodies}
use Rattle.script.proofs.Denoting.{kept_memory}
use Rattle.script.proofs.reading.specified_for.Goals as goal

pub returns-in_err-phrase-clause-only : goal.returns-in_err-phrase-clause-only
returns-in_err-phrase-clause-only g c = λ spec u h _ _ _.
    let p = err_from_is_err_and c.from_residual.result c.from_residual.ensures.1 in
    rw (p.1, p.2) (c.in_err-phrase.ensures.only u h)

pub returns-clause-found : goal.returns-clause-found
returns-clause-found g c =
    let n = c.args.names in
    IfOk-weaker c.specified.result _ _
    (λ spec a. (a.0, a.1, (shape c.in_ok-phrase.phrase, c.in_ok-phrase.ensures.found, subst (λ (r : Root). AreBodies n.sigma.alphabet (table n.known) (entries n.entries) r spec.bodies) c.of.ensures a.2))) c.specified.ensures.found

pub returns-clause-only : goal.returns-clause-only
returns-clause-only g c = λ spec u h same steps a.
    let n = c.args.names in
    let root : root_view c.of.result ≡ root_of u = c.of.ensures ∙ ap root_of (c.in_ok-phrase.ensures.only u h) in
    kept_memory c.specified.result spec (c.specified.ensures.only spec same steps (subst (λ (r : Root). AreBodies n.sigma.alphabet (table n.known) (entries n.entries) r spec.bodies) (sym root) a))
