use Rattle.std.proofs.Common.{map, sym, ap, ◌∙◌, arith}
use Rattle.std.specs.List.{range_with_len}
use Rattle.printing.specs.Names.{differ, first_from, body_name}
use Rattle.printing.specs.View.{bytes}
use Rattle.printing.proofs.NameLists.{passed, found, none_found}
use Rattle.printing.proofs.names.body_primes.Goals as goal

pub returns-then-differ : goal.returns-then-differ
returns-then-differ g c =
    let test = differ (bytes c.args.taken.now.keys) (map body_name (range_with_len 0 c.args.bodies)) in
    found test c.loop-primes.primes c.longest-most.result _ (omega arith) (sym c.in_ok-differ.ensures ∙ c.if-differ.true) c.loop-primes.invariant
    ∙ ap (first_from test 0) c.longest-most.ensures

pub loop-primes-preserved : goal.loop-primes-preserved
loop-primes-preserved g c =
    let test = differ (bytes c.args.taken.now.keys) (map body_name (range_with_len 0 c.args.bodies)) in
    passed test c.loop-primes.primes c.longest-most.result _ (omega arith) (sym c.in_ok-differ.ensures ∙ c.if-differ.false) c.loop-primes.invariant

pub returns : goal.returns
returns g c =
    let test = differ (bytes c.args.taken.now.keys) (map body_name (range_with_len 0 c.args.bodies)) in
    none_found test c.loop-primes.primes c.longest-most.result _ (omega arith) (omega arith) c.loop-primes.invariant ∙ ap (first_from test 0) c.longest-most.ensures
