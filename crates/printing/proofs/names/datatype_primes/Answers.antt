use Rattle.std.proofs.Common.{[], ◌∷◌, sym, ap, ◌∙◌, arith}
use Rattle.printing.specs.Names.{differ, first_from, datatype_name}
use Rattle.printing.specs.View.{bytes}
use Rattle.printing.proofs.NameLists.{passed, found, none_found}
use Rattle.printing.proofs.names.datatype_primes.Goals as goal

pub returns-then-differ : goal.returns-then-differ
returns-then-differ g c =
    let test = differ (bytes c.args.taken.now.keys) (datatype_name ∷ []) in
    found test c.loop-primes.primes c.longest-most.result _ (omega arith) (sym c.in_ok-differ.ensures ∙ c.if-differ.true) c.loop-primes.invariant
    ∙ ap (first_from test 0) c.longest-most.ensures

pub loop-primes-preserved : goal.loop-primes-preserved
loop-primes-preserved g c =
    let test = differ (bytes c.args.taken.now.keys) (datatype_name ∷ []) in
    passed test c.loop-primes.primes c.longest-most.result _ (omega arith) (sym c.in_ok-differ.ensures ∙ c.if-differ.false) c.loop-primes.invariant

pub returns : goal.returns
returns g c =
    let test = differ (bytes c.args.taken.now.keys) (datatype_name ∷ []) in
    none_found test c.loop-primes.primes c.longest-most.result _ (omega arith) (omega arith) c.loop-primes.invariant ∙ ap (first_from test 0) c.longest-most.ensures
