-- What stands first in a text, without where its name lies in memory.
use Rattle.std.specs.Prelude.{Option}
use Rattle.std.specs.Option.{option_map}
use Rattle.tokens.specs.declared.part.Part.{Part}
use Rattle.tokens.specs.declared.part.Found.{Found}
use Rattle.tokens.specs.declared.part.Found.TheVariants as founds
use Rattle.tokens.specs.Lexeme.{Lexeme, Name, Number, Kept, Sign}
use Rattle.tokens.specs.Scanning.{Step}

abbrev pub found_lexeme : Found → Lexeme
found_lexeme (founds.Name n) = Name n.now
found_lexeme (founds.Number n) = Number n
found_lexeme (founds.Keyword k) = Kept k
found_lexeme (founds.Symbol s) = Sign s

abbrev pub token_found : Option Found → Option Lexeme
token_found o = option_map found_lexeme o

abbrev pub step_of : Part → Step
step_of p = (token_found p.token, p.rest.now)
