use Rattle.std.proofs.Common.{sym, subst}
use Rattle.std.proofs.lemmas.Result.{err_from_is_err_and, IfOk-weaker}
use Rattle.syntax.specs.Grammar.{Syntax}
use Rattle.syntax.specs.View.{shape}
use Rattle.denotation.specs.Denotes.{Denotes, root_of}
use Rattle.script.proofs.reading.read.Goals as goal

pub returns-in_err-tree-clause-only : goal.returns-in_err-tree-clause-only
returns-in_err-tree-clause-only g c = λ spec r _.
    let p = err_from_is_err_and c.from_residual.result c.from_residual.ensures.1 in
    rw (p.1, p.2) (c.in_err-tree.ensures.only r.tree r.reads)

pub returns-in_err-denoted-clause-only : goal.returns-in_err-denoted-clause-only
returns-in_err-denoted-clause-only g c = λ spec r steps.
    let p = err_from_is_err_and c.from_residual-in_err-denoted.result c.from_residual-in_err-denoted.ensures.1 in
    rw (p.1, p.2) (c.in_err-denoted.ensures.only spec r.phrase r.written (subst (λ (t : Syntax). Denotes t (root_of r.phrase) spec) (sym (c.in_ok-tree.ensures.only r.tree r.reads)) r.denotes) steps)

pub returns-clause-found : goal.returns-clause-found
returns-clause-found g c =
    let d = c.in_ok-denoted.ensures.found in
    record { tree = shape c.in_ok-tree.tree; reads = c.in_ok-tree.ensures.found; phrase = d.0; written = d.1; denotes = d.2 }

pub returns-clause-only : goal.returns-clause-only
returns-clause-only g c = λ spec r steps.
    c.in_ok-denoted.ensures.only spec r.phrase r.written (subst (λ (t : Syntax). Denotes t (root_of r.phrase) spec) (sym (c.in_ok-tree.ensures.only r.tree r.reads)) r.denotes) steps
