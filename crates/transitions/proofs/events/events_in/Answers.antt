use Rattle.std.proofs.Common.{◌≡◌, ◌<◌, ◌+◌, ℕ, true, sym, ap, ◌∙◌}
use Rattle.alphabet.specs.EventSets.{has}
use Rattle.term.specs.Traces.{In}
use Rattle.targets.proofs.EventLists.{events-yes, events-no}
use Rattle.transitions.proofs.events.events_in.Goals as goal
use Rattle.transitions.proofs.events.events_in.Goals.{then-contains+in_ok-push, else-contains}

pub loop-number-preserved : goal.loop-number-preserved
loop-number-preserved g c =
    let i = c.loop-number.number in
    let A = c.args.set in
    let old = c.loop-number.events.items in
    let new = c.if-contains.events.items in
    let both : ((a : ℕ) → In a new → has A a ≡ true) × ((a : ℕ) → a < i + 1 → has A a ≡ true → In a new) = elim c.if-contains.branch [
      | then-contains+in_ok-push w ↦
          events-yes A i old new c.loop-number.invariant.only c.loop-number.invariant.all (sym c.contains.ensures ∙ w.if-contains.true) (ap (λ v. v.items) w.events-is ∙ w.in_ok-push.ensures.items)
      | else-contains w ↦
          events-no A i old new c.loop-number.invariant.only c.loop-number.invariant.all (sym c.contains.ensures ∙ w.if-contains.false) (ap (λ v. v.items) w.events-is)
    ] in
    record { only = both.0; all = both.1 }
