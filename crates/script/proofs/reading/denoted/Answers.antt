use Rattle.std.proofs.Common.{ap, refl}
use Rattle.std.proofs.lemmas.Result.{err_from_is_err_and, IfOk-weaker}
use Rattle.syntax.specs.Grammar.{Syntax}
use Rattle.syntax.specs.Script.{HasPhrase}
use Rattle.syntax.specs.View.{shape}
use Rattle.term.specs.Specs.{Specified}
use Rattle.tokens.specs.Unreads.{reported}
use Rattle.tokens.specs.declared.read_error.ReadError.{ReadError}
use Rattle.values.specs.Channels.{Declares}
use Rattle.values.specs.Tables.{table}
use Rattle.declared_names.specs.View.{entries}
use Rattle.denotation.specs.Denotes.{Denotes, Root, root_of}
use Rattle.script.specs.Reading.{AreBodies}
use Rattle.script.proofs.Denoting.{bodies_denote, denoted_bodies, declares_so}
use Rattle.syntax.proofs.Failing.{only_memory}
use Rattle.script.proofs.reading.denoted.Goals as goal

pub returns-in_err-declared-clause-only : goal.returns-in_err-declared-clause-only
returns-in_err-declared-clause-only g c = λ spec u h d _.
    let p = err_from_is_err_and c.from_residual.result c.from_residual.ensures.1 in
    rw (p.1, p.2) (ap (λ (e : ReadError). (reported e).kind) (only_memory c.in_err-declared.field-0.0 (d.entries, d.known, spec.alphabet) (c.in_err-declared.ensures.only d.entries d.known spec.alphabet d.declares)))

pub returns-clause-found : goal.returns-clause-found
returns-clause-found g c =
    let n = c.in_ok-names.names in
    let t = shape c.args.tree.now in
    let so : Declares t (entries n.entries) (table n.known) n.sigma.alphabet =
    declares_so t (entries c.in_ok-declared.declared.entries) (table c.in_ok-declared.declared.known) c.in_ok-declared.declared.alphabet c.in_ok-declared.ensures.found (entries n.entries) (table n.known) n.sigma.alphabet
    (ap entries c.in_ok-names.ensures.entries) (ap table c.in_ok-names.ensures.known) c.in_ok-names.ensures.alphabet in
    IfOk-weaker c.specified_for.result _ (λ spec. (u : Syntax) × HasPhrase c.args.root.now u × Denotes t (root_of u) spec)
    (λ spec a. (a.2.0, a.2.1, bodies_denote t (root_of a.2.0) (entries n.entries) (table n.known) n.sigma.alphabet so spec spec.bodies a.2.2 a.0 refl)) c.specified_for.ensures.found

pub returns-clause-only : goal.returns-clause-only
returns-clause-only g c = λ spec u h d steps.
    let n = c.in_ok-names.names in
    let t = shape c.args.tree.now in
    let so : Declares t (entries n.entries) (table n.known) n.sigma.alphabet =
    declares_so t (entries c.in_ok-declared.declared.entries) (table c.in_ok-declared.declared.known) c.in_ok-declared.declared.alphabet c.in_ok-declared.ensures.found (entries n.entries) (table n.known) n.sigma.alphabet
    (ap entries c.in_ok-names.ensures.entries) (ap table c.in_ok-names.ensures.known) c.in_ok-names.ensures.alphabet in
    let parts = denoted_bodies t (root_of u) (entries n.entries) (table n.known) n.sigma.alphabet so spec d in
    c.specified_for.ensures.only spec u h parts.0 steps parts.1
