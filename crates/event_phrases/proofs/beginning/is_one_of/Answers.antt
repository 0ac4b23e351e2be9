use Rattle.std.proofs.Common.{sym, ap, ◌∙◌}
use Rattle.std.specs.Ordering.{is_eq}
use Rattle.std.proofs.lemmas.List.Folds.{list_any_at}
use Rattle.values.specs.Values.{value_cmp}
use Rattle.values.specs.View.{value as value_of}
use Rattle.event_phrases.proofs.Rows.{among}
use Rattle.event_phrases.proofs.beginning.is_one_of.Goals as goal

pub returns-in-Ok : goal.returns-in-Ok
returns-in-Ok g c =
    sym (list_any_at (λ w. is_eq (value_cmp (value_of w) (value_of c.args.value.now))) c.args.set.now c.in-Ok.field-0 c.args.value.now c.in-Ok.ensures.bound (ap is_eq (c.in-Ok.ensures.ok c.args.value.now)))
    ∙ among c.args.set.now c.args.value.now

pub returns-in-Err : goal.returns-in-Err
returns-in-Err g c = c.contains.ensures.value ∙ among c.args.set.now c.args.value.now
