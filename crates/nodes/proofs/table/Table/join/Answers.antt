use Rattle.std.proofs.Common.{◌≡◌, ◌+◌, ◌++◌, ◌∷◌, [], length, take, get_or, ap, sym, ◌∙◌}
use Rattle.std.proofs.lemmas.List.{map-append, take_more}
use Rattle.nodes.specs.Shapes.{at}
use Rattle.nodes.specs.Looks.{look}
use Rattle.nodes.proofs.Looking.{below-at}
use Rattle.nodes.proofs.Joining.{joined-on, joined-to}
use Rattle.nodes.proofs.table.Table.join.Goals as goal

pub add-requires-clause-number : goal.add-requires-clause-number
add-requires-clause-number g c = below-at (length c.args.self.now.processes) c.args.numbers.now c.loop-number.number-index 0 c.requires.numbers c.loop-number-test.true

pub loop-number-preserved : goal.loop-number-preserved
loop-number-preserved g c =
    let ps = c.args.self.now.processes in
    let ns = c.args.numbers.now in
    let i = c.loop-number.number-index in
    let most = c.args.most in
    let old = look ps c.args.into.now.items in
    let more : look ps (take i ns) ++ at ps (get_or ns i 0) ∷ [] ≡ look ps (take (i + 1) ns) = sym (ap (look ps) (take_more ns i 0 c.loop-number-test.true) ∙ map-append (at ps) (take i ns) (get_or ns i 0 ∷ [])) in
    record {
      here = c.in_ok-add.ensures.here;
      joined = joined-to most old (look ps (take i ns) ++ at ps (get_or ns i 0) ∷ []) (look ps (take (i + 1) ns)) (look ps c.add.new.into.items) more
          (joined-on most old (look ps (take i ns)) (at ps (get_or ns i 0) ∷ []) (look ps c.loop-number.into.items) (look ps c.add.new.into.items) c.loop-number.invariant.joined c.in_ok-add.ensures.joined);
    }
