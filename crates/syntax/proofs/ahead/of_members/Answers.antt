use Rattle.std.proofs.Common.{cond, sym, ap, ◌∙◌}
use Rattle.tokens.specs.Lexeme.{lexemes}
use Rattle.syntax.specs.declared.form.Form.TheVariants as forms
use Rattle.syntax.proofs.NextTokens.{by_range}
use Rattle.syntax.proofs.ahead.of_members.Goals as goal

pub returns-then-begins_with : goal.returns-then-begins_with
returns-then-begins_with g c = sym (by_range (lexemes c.args.tokens.now) ∙ ap (λ b. cond b forms.Range forms.Set) (sym c.begins_with.ensures ∙ c.if-begins_with.true))

pub returns-else-begins_with : goal.returns-else-begins_with
returns-else-begins_with g c = sym (by_range (lexemes c.args.tokens.now) ∙ ap (λ b. cond b forms.Range forms.Set) (sym c.begins_with.ensures ∙ c.if-begins_with.false))
