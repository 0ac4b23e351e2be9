use Rattle.std.proofs.Common.{◌≡◌, rules, sym, true}
use Rattle.session.proofs.ScriptLemmas.{read_at}
use Rattle.session.proofs.reading.known_of.Goals as goal

pub returns-then-is_of-clause-found : goal.returns-then-is_of-clause-found
returns-then-is_of-clause-found g c =
    let yes : c.is_of.result ≡ true = search rules in
    let is = c.is_of.ensures yes in
    read_at c.args.names c.args.known.text c.args.known.root c.args.script.now c.args.root.now c.into_spec.result is.0 is.1 c.into_spec.ensures.found

pub returns-then-is_of-clause-alone : goal.returns-then-is_of-clause-alone
returns-then-is_of-clause-alone g c = λ spec r.
    let yes : c.is_of.result ≡ true = search rules in
    let is = c.is_of.ensures yes in
    c.into_spec.ensures.alone spec (read_at c.args.names c.args.script.now c.args.root.now c.args.known.text c.args.known.root spec (sym is.0) (sym is.1) r)
