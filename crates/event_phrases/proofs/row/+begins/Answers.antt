use Rattle.std.proofs.Common.{sym, ◌∙◌}
use Rattle.values.specs.View.{value}
use Rattle.event_phrases.proofs.RowSteps.{starts_none, starts_not, starts_other, starts_same}
use Rattle.event_phrases.proofs.row.+begins.Goals as goal

pub returns-in-empty : goal.returns-in-empty
returns-in-empty g t c = starts_none value value c.args.first.now c.args.values.now c.in-empty.len_below

pub returns-in-empty-values : goal.returns-in-empty-values
returns-in-empty-values g t c = starts_not value value c.args.first.now c.args.values.now c.in-len1-up.len_at_least c.in-empty-values.len_below

pub returns-then-is_equal : goal.returns-then-is_equal
returns-then-is_equal g t c = c.begins.ensures ∙ starts_same value value c.args.first.now c.args.values.now c.u-item.result c.v-item.result c.in-len1-up.len_at_least c.in-len1-up-values.len_at_least c.u-item.is c.v-item.is (sym c.is_equal.ensures ∙ c.if-is_equal.true)

pub returns-else-is_equal : goal.returns-else-is_equal
returns-else-is_equal g t c = c.if-is_equal.false ∙ starts_other value value c.args.first.now c.args.values.now c.u-item.result c.v-item.result c.in-len1-up.len_at_least c.in-len1-up-values.len_at_least c.u-item.is c.v-item.is (sym c.is_equal.ensures ∙ c.if-is_equal.false)
