use Rattle.std.proofs.Common.{◌≡◌, ℕ, ◌+◌, ◌++◌, arith, drop, length, sym, ap, ap₂, ◌∙◌}
use Rattle.std.proofs.lemmas.List.{length-map}
use Rattle.alphabet.specs.Channels.{events}
use Rattle.event_phrases.specs.Events.{number_in, pairs_from}
use Rattle.event_phrases.specs.Uses.{behind_pairs}
use Rattle.event_phrases.specs.View.{beginning, listed, row}
use Rattle.values.specs.View.{value}
use Rattle.event_phrases.proofs.Renamings.{image_of, pairs_behind, pair_more, pair_less, no_image, pairs_end}
use Rattle.event_phrases.proofs.renaming.pairs_from.Goals as goal
use Rattle.syntax.proofs.Failing.{fails_none}
use Rattle.event_phrases.proofs.renaming.pairs_from.Goals.{then-begins_so+in_ok-wanted+in-Some+in_ok-push-in-Some, else-begins_so}

pub overflow_cast-target : goal.overflow_cast-target
overflow_cast-target g c = omega (arith, c.in-Some.ensures.below, c.requires)

pub returns-in-None : goal.returns-in-None
returns-in-None g c = λ cs h.
    let left = beginning c.args.left.now in
    let right = beginning c.args.right.now in
    let whole = behind_pairs c.args.before.items (pairs_from cs left right 0 (events cs)) in
    let n : length left.1 ≡ c.len.result = omega (arith, length-map c.args.left.now.values.items (value {A = g.row.A.Denot}), c.args.left.now.values.ok, c.len.ensures) in
    let moved : image_of left right (row c.index-events-number.result) ≡ beginning c.in_ok-wanted.wanted = ap (λ (k : ℕ). (right.0, right.1 ++ drop k (listed c.index-events-number.result.values.items))) n ∙ sym c.in_ok-wanted.ensures in
    fails_none c.fault.result whole
    (no_image row cs left right c.args.events.now c.loop-number.number c.index-events-number.result c.loop-number.pairs.items whole (c.loop-number.invariant cs h) (omega arith) c.index-events-number.is
    (sym c.begins_so.ensures ∙ c.if-begins_so.true)
    (ap₂ (λ ps b. number_in ps b) (sym h) moved ∙ sym c.in-None.ensures.number))

pub loop-number-preserved : goal.loop-number-preserved
loop-number-preserved g c = λ cs h.
    let left = beginning c.args.left.now in
    let right = beginning c.args.right.now in
    let whole = behind_pairs c.args.before.items (pairs_from cs left right 0 (events cs)) in
    elim c.if-begins_so.branch [
      | then-begins_so+in_ok-wanted+in-Some+in_ok-push-in-Some w ↦
          let n : length left.1 ≡ w.len.result = omega (arith, length-map c.args.left.now.values.items (value {A = g.row.A.Denot}), c.args.left.now.values.ok, w.len.ensures) in
          let moved : image_of left right (row c.index-events-number.result) ≡ beginning w.in_ok-wanted.wanted = ap (λ (k : ℕ). (right.0, right.1 ++ drop k (listed c.index-events-number.result.values.items))) n ∙ sym w.in_ok-wanted.ensures in
          pair_more row cs left right c.args.events.now c.loop-number.number c.index-events-number.result c.loop-number.pairs.items whole (c.loop-number.invariant cs h) (omega arith) c.index-events-number.is w.in-Some.target c.if-begins_so.pairs.items
          (sym c.begins_so.ensures ∙ w.if-begins_so.true)
          (ap₂ (λ ps b. number_in ps b) (sym h) moved ∙ sym w.in-Some.ensures.number)
          (ap (λ v. v.items) w.pairs-is ∙ w.in_ok-push-in-Some.ensures.items)
      | else-begins_so w ↦
          ap (λ v. behind_pairs v.items (pairs_behind row cs left right c.args.events.now (c.loop-number.number + 1))) w.pairs-is
          ∙ pair_less row cs left right c.args.events.now c.loop-number.number c.index-events-number.result c.loop-number.pairs.items whole (c.loop-number.invariant cs h) (omega arith) c.index-events-number.is (sym c.begins_so.ensures ∙ w.if-begins_so.false)
    ]

pub returns : goal.returns
returns g c = λ cs h.
    let left = beginning c.args.left.now in
    let right = beginning c.args.right.now in
    pairs_end row cs left right c.args.events.now c.loop-number.number c.loop-number.pairs.items (behind_pairs c.args.before.items (pairs_from cs left right 0 (events cs))) (c.loop-number.invariant cs h) (omega arith)
