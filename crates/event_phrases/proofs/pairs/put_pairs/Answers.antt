use Rattle.std.proofs.Common.{rules}
use Rattle.alphabet.specs.EventSets.{has}
use Rattle.event_phrases.proofs.Images.{kept_more, kept_less}
use Rattle.event_phrases.proofs.pairs.put_pairs.Goals as goal
use Rattle.event_phrases.proofs.pairs.put_pairs.Goals.{then-contains+in_ok-push, else-contains}

pub loop-number-preserved : goal.loop-number-preserved
loop-number-preserved g c = elim c.if-contains.branch [
  | then-contains+in_ok-push w ↦ kept_more (λ b. (c.args.event, b)) (has c.args.set) c.args.pairs.items c.loop-number.pairs.items c.loop-number.number c.loop-number.invariant c.if-contains.pairs.items (search rules) (search rules)
  | else-contains w ↦ kept_less (λ b. (c.args.event, b)) (has c.args.set) c.args.pairs.items c.loop-number.pairs.items c.loop-number.number c.loop-number.invariant c.if-contains.pairs.items (search rules) (search rules)
]
