use Rattle.std.proofs.Common.{length, append-nil, sym, arith}
use Rattle.term.specs.Proc.{bodies_of}
use Rattle.printing.specs.Printed.{body_line}
use Rattle.printing.proofs.Lists.{next_number, all_numbers}
use Rattle.printing.proofs.processes.put_bodies.Goals as goal

pub loop-number-preserved : goal.loop-number-preserved
loop-number-preserved g c =
    next_number (λ k. body_line c.args.spec.now.alphabet c.args.primes k (bodies_of c.args.spec.now.bodies k)) c.args.text.now.items c.loop-number.text.items c.put_body.new.text.items
    c.loop-number.number c.loop-number.invariant c.in_ok-put_body.ensures

pub loop-number-init : goal.loop-number-init
loop-number-init g c = sym (append-nil c.args.text.now.items)

pub returns : goal.returns
returns g c =
    all_numbers (λ k. body_line c.args.spec.now.alphabet c.args.primes k (bodies_of c.args.spec.now.bodies k)) c.args.text.now.items c.loop-number.text.items c.loop-number.number (length c.args.spec.now.bodies)
    (omega arith) c.loop-number.invariant
