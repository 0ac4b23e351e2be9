use Rattle.std.proofs.Common.{sym, ◌∙◌, subst}
use Rattle.script.proofs.Denoting.{read_with}
use Rattle.session.specs.Scripts.{IsReadAs, Scripted}
use Rattle.session.proofs.reading.ReadScript.into_spec.Goals as goal

pub returns-clause-found : goal.returns-clause-found
returns-clause-found g c =
    let script = c.self.inside in
    let with = c.with_names in
    subst (λ (s : Scripted). IsReadAs c.args.names s.text s.root with.result) c.self.view_is
    (record { read = read_with script.text.now script.root.now script.spec with.result with.ensures.alphabet with.ensures.bodies c.self.invariant.0; names_are = with.ensures.names })

pub returns-clause-alone : goal.returns-clause-alone
returns-clause-alone g c = λ spec r.
    let script = c.self.inside in
    let with = c.with_names in
    let read = read_with script.text.now script.root.now script.spec with.result with.ensures.alphabet with.ensures.bodies c.self.invariant.0 in
    let same = subst (λ (s : Scripted). IsReadAs c.args.names s.text s.root spec) (sym c.self.view_is) r in
    c.one_reading.ensures script.text.now script.root.now with.result spec read same.read (with.ensures.names ∙ sym r.names_are)
