use Rattle.std.proofs.Common.{◌≡◌, ◌∙◌, ◌-◌, ◌≤◌, List, [], ◌∷◌, map, length, sym, ap, arith}
use Rattle.std.proofs.lemmas.List.{length-take-le, length-map}
use Rattle.std.proofs.Math.ListN.{take, drop}
use Rattle.denotation.specs.View.{body}
use Rattle.denotation.specs.Rooms.{halved_nodes}
use Rattle.denotation.proofs.choice.nodes_of_halved.Goals as goal

nodes-rest : {A B : Type 0} (f : A → B) (xs : List A) → 1 ≤ length xs → length (take (length xs - 1) (drop 1 xs)) ≡ halved_nodes (map f xs)
unfolding halved_nodes
nodes-rest f [] h = absurd (omega (arith, h))
nodes-rest f (x ∷ xs) h =
    let n : length (x ∷ xs) - 1 ≡ length xs = omega arith in
    ap (λ k. length (take k xs)) n ∙ length-take-le (length xs) xs (omega arith) ∙ sym (length-map xs f)

pub returns-in-len1-up : goal.returns-in-len1-up
returns-in-len1-up g c = nodes-rest body c.args.drafts.now c.in-len1-up.len_at_least
