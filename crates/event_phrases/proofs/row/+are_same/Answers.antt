use Rattle.std.proofs.Common.{sym, ◌∙◌}
use Rattle.values.specs.View.{value}
use Rattle.event_phrases.proofs.RowSteps.{same_first, same_not, same_other}
use Rattle.event_phrases.proofs.row.+are_same.Goals as goal

pub returns-in-empty-values : goal.returns-in-empty-values
returns-in-empty-values g t c = same_not value value c.args.first.now c.args.values.now c.in-len1-up.len_at_least c.in-empty-values.len_below

pub returns-then-is_equal : goal.returns-then-is_equal
returns-then-is_equal g t c = c.are_same.ensures ∙ same_first value value c.args.first.now c.args.values.now c.u-item.result c.v-item.result c.in-len1-up.len_at_least c.in-len1-up-values.len_at_least c.u-item.is c.v-item.is (sym c.is_equal.ensures ∙ c.if-is_equal.true)

pub returns-else-is_equal : goal.returns-else-is_equal
returns-else-is_equal g t c = c.if-is_equal.false ∙ same_other value value c.args.first.now c.args.values.now c.u-item.result c.v-item.result c.in-len1-up.len_at_least c.in-len1-up-values.len_at_least c.u-item.is c.v-item.is (sym c.is_equal.ensures ∙ c.if-is_equal.false)
