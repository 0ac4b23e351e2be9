use Rattle.tokens.specs.Lexeme.{lexemes}
use Rattle.syntax.specs.declared.piece.Kind.TheVariants as kinds
use Rattle.syntax.specs.View.{shape}
use Rattle.syntax.proofs.Spelled.{phrase_sound}
use Rattle.syntax.proofs.Complete.{tree_is, memory_only, phrase_is}
use Rattle.syntax.proofs.phrase.read_phrase.Goals as goal

pub returns-in-Ok-clause-found : goal.returns-in-Ok-clause-found
returns-in-Ok-clause-found g c = phrase_sound (lexemes c.args.tokens.now) (shape c.in-Ok.tree) c.in-Ok.ensures

pub returns-in-Ok-clause-only : goal.returns-in-Ok-clause-only
returns-in-Ok-clause-only g c t i = tree_is (kinds.Phrase 16) (lexemes c.args.tokens.now) t (shape c.in-Ok.tree) c.in-Ok.ensures (phrase_is (lexemes c.args.tokens.now) t i)

pub returns-in-Err-clause-only : goal.returns-in-Err-clause-only
returns-in-Err-clause-only g c t i =
    c.at_end.ensures (memory_only (kinds.Phrase 16) c.in-Err.read_error (lexemes c.args.tokens.now) t c.in-Err.ensures (phrase_is (lexemes c.args.tokens.now) t i))
