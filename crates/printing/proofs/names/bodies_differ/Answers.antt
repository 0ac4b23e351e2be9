use Rattle.std.proofs.Common.{◌≡◌, ◌++◌, true, false, sym, ap, ◌∙◌, arith}
use Rattle.printing.specs.Names.{is_among, primed, body_name}
use Rattle.printing.specs.View.{bytes}
use Rattle.printing.proofs.NameLists.{differ_more, not_all}
use Rattle.printing.proofs.names.bodies_differ.Goals as goal

pub returns-then-is_taken : goal.returns-then-is_taken
returns-then-is_taken g c =
    let name : c.deref.result.now ≡ primed (body_name c.loop-number.number) c.args.primes =
    c.deref.ensures.value ∙ c.in_ok-put_body_name.ensures ∙ ap (λ v. v ++ primed (body_name c.loop-number.number) c.args.primes) c.clear.ensures.items in
    not_all (bytes c.args.taken.now.keys) body_name c.loop-number.number c.args.bodies c.args.primes (omega arith)
    (sym (ap (is_among (bytes c.args.taken.now.keys)) name) ∙ sym c.is_taken-is_taken.ensures ∙ c.if-is_taken.true)

pub loop-number-preserved : goal.loop-number-preserved
loop-number-preserved g c =
    let name : c.deref.result.now ≡ primed (body_name c.loop-number.number) c.args.primes =
    c.deref.ensures.value ∙ c.in_ok-put_body_name.ensures ∙ ap (λ v. v ++ primed (body_name c.loop-number.number) c.args.primes) c.clear.ensures.items in
    differ_more (bytes c.args.taken.now.keys) body_name c.loop-number.number c.args.primes c.loop-number.invariant
    (sym (ap (is_among (bytes c.args.taken.now.keys)) name) ∙ sym c.is_taken-is_taken.ensures ∙ c.if-is_taken.false)
