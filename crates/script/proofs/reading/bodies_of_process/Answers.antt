use Rattle.std.proofs.Common.{◌≡◌, List, subst, sym, ◌∙◌}
use Rattle.term.specs.Proc.{Proc}
use Rattle.tokens.specs.declared.read_error.ReadError.TheVariants.{Fault, Memory}
use Rattle.values.specs.Tables.{table}
use Rattle.declared_names.specs.View.{entries}
use Rattle.denotation.specs.Denotes.{Root}
use Rattle.script.specs.Reading.{AreBodies}
use Rattle.script.proofs.Denoting.{no_root}
use Rattle.syntax.proofs.Failing.{only_memory}
use Rattle.script.proofs.reading.bodies_of_process.Goals as goal

pub returns-then-not-is_process-clause-only : goal.returns-then-not-is_process-clause-only
returns-then-not-is_process-clause-only g c = λ ps a.
    let n = c.args.names.now in
    absurd (no_root n.sigma.alphabet (table n.known) (entries n.entries) c.args.name.now ps (sym c.is_process.ensures ∙ c.if-not-is_process.true)
    (subst (λ (r : Root). AreBodies n.sigma.alphabet (table n.known) (entries n.entries) r ps) c.requires a))

pub returns-in-Err-Fault-clause-only : goal.returns-in-Err-Fault-clause-only
returns-in-Err-Fault-clause-only g c = λ ps a.
    let only = only_memory c.in-Err-Fault.field-0 ps (c.in-Err-Fault.ensures.only ps a) in
    absurd (let k : Fault c.in-Err-Fault.error ≡ Memory = sym c.in-Err-Fault.field-0-is ∙ only in cc)
