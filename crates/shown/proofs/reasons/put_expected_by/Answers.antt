use Rattle.std.proofs.Common.{rules, ◌≡◌, ◌<◌, ◌++◌, ◌∙◌, List, length, ap, arith}
use Rattle.alphabet.specs.declared.events.Event.{Event}
use Rattle.alphabet.specs.EventSets.{members}
use Rattle.shown.specs.Nearness.{nearest_first}
use Rattle.shown.proofs.Nearest.{nearest_length}
use Rattle.shown.proofs.reasons.put_expected_by.Goals as goal

pub put_first-requires : goal.put_first-requires
put_first-requires g c =
    let xs = members c.args.set in
    let cs = c.args.alphabet.now in
    let name = c.deref-2.result.now in
    let many : 8 < c.len.result = search rules in
    let same : c.len-2.result ≡ c.len.result = search rules in
    let all : c.len.result ≡ length xs = search rules in
    let near : length c.deref-3.result.now ≡ length xs =
    ap length (c.deref-3.ensures.value ∙ c.in_ok-add_nearest.ensures ∙ ap (λ (l : List Event). l ++ nearest_first cs name xs) c.requires.2) ∙ nearest_length cs name xs in
    (omega (arith, many, all, near), omega (arith, many, same))
