-- Tokens as plain values, without their lines and without where they lie in memory.
use Rattle.std.specs.Prelude.{ℕ, List, map}
use Rattle.tokens.specs.declared.token.Token.{Token}
use Rattle.tokens.specs.declared.token.Word.{Word}
use Rattle.tokens.specs.declared.token.Word.TheVariants as words
use Rattle.tokens.specs.declared.keyword.Keyword.{Keyword}
use Rattle.tokens.specs.declared.symbol.Symbol.{Symbol}

-- a token by what it says: a name with its bytes, a number, a kept word or a symbol
pub data Lexeme : Type 0 where
  Name : List ℕ → Lexeme
  Number : ℕ → Lexeme
  Kept : Keyword → Lexeme
  Sign : Symbol → Lexeme

abbrev pub lexeme_of_word : {A : Type 0} → Word A → Lexeme
lexeme_of_word (words.Name n) = Name n.items
lexeme_of_word (words.Number n) = Number n
lexeme_of_word (words.Keyword k) = Kept k
lexeme_of_word (words.Symbol s) = Sign s

abbrev pub lexeme : {A : Type 0} → Token A → Lexeme
lexeme t = lexeme_of_word t.word

abbrev pub lexemes : {A : Type 0} → List (Token A) → List Lexeme
lexemes ts = map lexeme ts
