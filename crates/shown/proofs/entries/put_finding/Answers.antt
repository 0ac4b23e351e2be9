use Rattle.std.proofs.Common.{◌∙◌, List, OnOk, ap, subst, sym}
use Rattle.alphabet.specs.Channels.{Channel}
use Rattle.term.specs.Proc.{bodies_of}
use Rattle.shown.specs.Lines.{accepted, expected}
use Rattle.shown.specs.Said.{IsSaid}
use Rattle.shown.proofs.EntryLines.{found, finds_accepted, finds_expected}
use Rattle.shown.proofs.entries.put_finding.Goals as goal

pub returns-then-entry-clause-finding : goal.returns-then-entry-clause-finding
returns-then-entry-clause-finding g c =
    let cs = c.args.legal.now.spec.alphabet in
    found c.put_accepted.result (bodies_of c.args.legal.now.spec.bodies) c.args.legal.now.entries c.args.entry.now.verdict c.args.entry.now.report c.args.format cs cs c.args.text.now.items c.put_accepted.new.text.items accepted
    (λ i. cs) (finds_accepted (bodies_of c.args.legal.now.spec.bodies) c.args.legal.now.entries c.args.entry.now.verdict c.args.entry.now.report c.if-entry.true) (c.put_accepted.ensures cs)

pub put_said_expected-requires : goal.put_said_expected-requires
put_said_expected-requires g c =
    let same = c.alphabet-alphabet.ensures ∙ ap (λ s. s.alphabet) c.spec.ensures in
    subst (λ (cs : List Channel). IsSaid c.args.format cs c.args.said.now) (sym same) c.requires

pub returns-in-Event-clause-said : goal.returns-in-Event-clause-said
returns-in-Event-clause-said g c =
    let same = c.alphabet-alphabet.ensures ∙ ap (λ s. s.alphabet) c.spec.ensures in
    subst (λ (cs : List Channel). OnOk c.put_said_expected.result (IsSaid c.args.format cs c.put_said_expected.new.said)) same c.put_said_expected.ensures.said

pub returns-in-Event-clause-finding : goal.returns-in-Event-clause-finding
returns-in-Event-clause-finding g c =
    let spec = c.args.legal.now.spec in
    let before = c.args.legal.now.entries in
    let B = bodies_of spec.bodies in
    let same = c.alphabet-alphabet.ensures ∙ ap (λ s. s.alphabet) c.spec.ensures in
    found c.put_said_expected.result B before c.args.entry.now.verdict c.args.entry.now.report c.args.format c.alphabet-alphabet.result.now spec.alphabet c.args.text.now.items c.put_said_expected.new.text.items (expected c.next.result)
    same (finds_expected B before c.args.entry.now.verdict c.args.entry.now.report c.in-Event.field-0 c.next.result c.if-entry.false c.in-Event.is c.next.ensures) c.put_said_expected.ensures.text
