use Rattle.std.proofs.Common.{◌≡◌, ◌∷◌, [], ◌++◌, length, sym, ap, ◌∙◌, append_assoc, arith}
use Rattle.std.specs.Prelude.{map}
use Rattle.std.proofs.lemmas.List.{append-nil, map-append, nil_from_length}
use Rattle.std.specs.Vec.Iter.{into_iter_items}
use Rattle.connections.specs.Outcomes.{ending_of, places_of}
use Rattle.connections.proofs.Turns.{places-append}
use Rattle.connections.proofs.outcome.part.Goals as goal

pub loop-outcome-preserved : goal.loop-outcome-preserved
loop-outcome-preserved g c =
    let at = c.loop-outcome in
    let x = c.in-Some.outcome in
    let steps : into_iter_items at.outcome-iterator ≡ x ∷ into_iter_items c.next.new.self = c.in-Some.ensures.steps.0 in
    let gone = c.in-Some.ensures.steps.1 in
    let long = at.invariant.1 in
    let first = at.invariant.4 in
    let second = at.invariant.5 in
    let short = ap length steps in
    let one = c.part_one.ensures.len in
    let kept = c.part_one.ensures.capacity in
    let len = c.push_reserved.ensures.len in
    let capacity = c.push_reserved.ensures.capacity in (
      append_assoc at.yielded (x ∷ []) _ ∙ rw (← steps) at.invariant.0,
      omega (arith, gone, long, short),
      c.part_one.ensures.places ∙ ap (λ l. l ++ places_of (x ∷ [])) at.invariant.2 ∙ append_assoc c.args.places.now.items (places_of at.yielded) (places_of (x ∷ []))
          ∙ ap (λ l. c.args.places.now.items ++ l) (sym (places-append at.yielded x)),
      c.push_reserved.ensures.items ∙ ap (λ e. at.endings.items ++ e ∷ []) c.part_one.ensures.ending ∙ ap (λ l. l ++ ending_of x ∷ []) at.invariant.3
          ∙ append_assoc c.args.endings.now.items (map ending_of at.yielded) (ending_of x ∷ []) ∙ ap (λ l. c.args.endings.now.items ++ l) (sym (map-append ending_of at.yielded (x ∷ []))),
      omega (arith, gone, first, one, kept),
      omega (arith, gone, second, len, capacity),
    )

pub returns-clause-places : goal.returns-clause-places
returns-clause-places g c =
    let at = c.loop-outcome in
    let left = into_iter_items at.outcome-iterator in
    let none : left ≡ [] = nil_from_length left (sym at.invariant.1 ∙ c.in-None.ensures.steps.0) in
    let all : at.yielded ≡ c.args.outcomes.items =
    sym (append-nil at.yielded) ∙ ap (λ l. at.yielded ++ l) (sym none) ∙ at.invariant.0 ∙ c.into_iter-outcome-iterator.ensures.into_iter_gives.0 in
    at.invariant.2 ∙ ap (λ l. c.args.places.now.items ++ places_of l) all
