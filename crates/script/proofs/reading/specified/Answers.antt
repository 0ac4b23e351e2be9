use Rattle.std.proofs.Common.{◌≡◌, List, map, sym, ap, subst, ◌∙◌}
use Rattle.std.proofs.lemmas.Option.{same_Some}
use Rattle.alphabet.specs.Channels.{Channel}
use Rattle.term.specs.Proc.{Proc, proc}
use Rattle.term.specs.Specs.{Specified, IsClosed}
use Rattle.term.specs.declared.names.Names.TheVariants.{Steps}
use Rattle.values.specs.Tables.{table}
use Rattle.declared_names.specs.View.{entries}
use Rattle.denotation.specs.View.{root as root_view}
use Rattle.script.specs.Reading.{AreBodies}
use Rattle.script.proofs.Denoting.{bodies_closed}
use Rattle.syntax.proofs.Failing.{only_memory}
use Rattle.script.proofs.reading.specified.Goals as goal

pub returns-in-Err-clause-only : goal.returns-in-Err-clause-only
returns-in-Err-clause-only g c = λ spec _ _ a. only_memory c.in-Err.error spec.bodies (c.in-Err.ensures.only spec.bodies a)

pub new-spec-requires : goal.new-spec-requires
new-spec-requires g c =
    let n = c.args.names in
    subst (λ (a : List Channel). IsClosed (record { alphabet = a; bodies = map proc c.in-Ok.bodies.items; names = Steps })) (sym c.into_alphabet.ensures) (bodies_closed n.sigma.alphabet (table n.known) (entries n.entries) (root_view c.args.root.now) (map proc c.in-Ok.bodies.items) c.in-Ok.ensures.found)

pub returns-in-Ok-with_shared_alphabet-clause-found : goal.returns-in-Ok-with_shared_alphabet-clause-found
returns-in-Ok-with_shared_alphabet-clause-found g c =
    let n = c.args.names in
    let made = c.new-spec.ensures in
    subst (λ (s : Specified). (s.alphabet ≡ n.sigma.alphabet) × (s.names ≡ Steps) × AreBodies n.sigma.alphabet (table n.known) (entries n.entries) (root_view c.args.root.now) s.bodies) (sym c.in-Ok-with_shared_alphabet.ensures.same)
    (made.alphabet ∙ c.into_alphabet.ensures, made.names, subst (λ (ps : List Proc). AreBodies n.sigma.alphabet (table n.known) (entries n.entries) (root_view c.args.root.now) ps) (sym made.bodies) c.in-Ok.ensures.found)

pub returns-in-Ok-with_shared_alphabet-clause-only : goal.returns-in-Ok-with_shared_alphabet-clause-only
returns-in-Ok-with_shared_alphabet-clause-only g c = λ spec same steps a.
    let made = c.new-spec.ensures in
    let alphabets : c.new-spec.result.alphabet ≡ spec.alphabet = made.alphabet ∙ c.into_alphabet.ensures ∙ sym same in
    let bodies : c.new-spec.result.bodies ≡ spec.bodies = made.bodies ∙ sym (same_Some spec.bodies (map proc c.in-Ok.bodies.items) (c.in-Ok.ensures.only spec.bodies a)) in
    c.in-Ok-with_shared_alphabet.ensures.same ∙ (λ i. record { alphabet = alphabets i; bodies = bodies i; names = (made.names ∙ sym steps) i })
