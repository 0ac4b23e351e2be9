use Rattle.std.proofs.Common.{[], Bool, sym, ap, ◌∙◌}
use Rattle.tokens.specs.Lexeme.{lexemes}
use Rattle.syntax.specs.declared.piece.Start.TheVariants as starts
use Rattle.syntax.specs.Parsing.{another}
use Rattle.syntax.proofs.NextTokens.{any_there, none_there}
use Rattle.syntax.proofs.reading.another.Goals as goal

pub returns-in-Behind : goal.returns-in-Behind
unfolding another
returns-in-Behind g c = c.past.ensures ∙ ap (λ s. another s c.args.greedy (lexemes c.args.tokens.now)) (sym c.in-Behind.is)

pub returns-then-greedy : goal.returns-then-greedy
unfolding another
returns-then-greedy g c = sym (ap (λ s. another s c.args.greedy (lexemes c.args.tokens.now)) c.in-Dot.is ∙ ap (λ (b : Bool). another starts.Dot b (lexemes c.args.tokens.now)) c.if-greedy.true)

pub returns-else-greedy : goal.returns-else-greedy
unfolding another
returns-else-greedy g c = c.past-else-greedy.ensures ∙ sym (ap (λ s. another s c.args.greedy (lexemes c.args.tokens.now)) c.in-Dot.is ∙ ap (λ (b : Bool). another starts.Dot b (lexemes c.args.tokens.now)) c.if-greedy.false)

pub returns-in-empty : goal.returns-in-empty
unfolding another
returns-in-empty g c = sym (ap (another c.args.start c.args.greedy) (none_there c.args.tokens.now c.in-empty.len_below) ∙ ap (λ s. another s c.args.greedy []) c.in-Any.is)

pub returns-in-len1-up : goal.returns-in-len1-up
returns-in-len1-up g c = sym (ap (λ s. another s c.args.greedy (lexemes c.args.tokens.now)) c.in-Any.is ∙ any_there c.args.tokens.now c.args.greedy c.in-len1-up.len_at_least)
