use Rattle.std.proofs.Common.{length, pos, subst, sym, ap, ◌∙◌}
use Rattle.std.proofs.lemmas.List.{length-map}
use Rattle.cspm_values.specs.Limits.{limited}
use Rattle.cspm_values.specs.View.{Fails, value, values}
use Rattle.cspm_values.proofs.Bounds.{past}
use Rattle.cspm_values.proofs.set.counted.Goals as goal

pub returns-in-Err : goal.returns-in-Err
returns-in-Err g c =
    subst (λ s. Fails s (limited (pos (length (values c.args.values.now))))) (sym c.beyond.ensures)
    (ap (λ n. limited (pos n)) (length-map c.args.values.now value) ∙ past (pos (length c.args.values.now)) c.in-Err.ensures)
