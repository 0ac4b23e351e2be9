-- What it is that a text is a script with this tree.
use Rattle.std.specs.Prelude.{◌≡◌, ◌≤◌, ℕ, List, Bool, true, not, ◌&&◌, ◌==◌, length, nat_le}
use Rattle.std.specs.List.{list_all}
use Rattle.tokens.specs.Lexeme.{Lexeme}
use Rattle.tokens.specs.Text.{HasTokens, is_of_line}
use Rattle.syntax.specs.Grammar.{Syntax, Fits, height_of, nesting, flat, is_script, level_in}

-- the tree is one of a script, each of its parts is what its form's rule asks for, it is within the limits, and these
-- are its tokens
pub record IsScript (tokens : List Lexeme) (t : Syntax) : Type 0 where
  pub kind : is_script t ≡ true
  pub fits : Fits t
  pub high : height_of t ≤ 250
  pub nested : nesting t ≤ 250
  pub spelled : tokens ≡ flat t

-- the text's tokens are a script with this tree
pub record HasTree (text : List ℕ) (t : Syntax) : Type 0 where
  pub tokens : List Lexeme
  pub read : HasTokens text tokens
  pub is : IsScript tokens t

-- the tree is one of a phrase, each of its parts is what its form's rule asks for, it is within the limits, and these are its tokens
pub record IsPhrase (tokens : List Lexeme) (t : Syntax) : Type 0 where
  pub kind : nat_le (level_in t) 16 ≡ true
  pub fits : Fits t
  pub high : height_of t ≤ 250
  pub nested : nesting t ≤ 250
  pub spelled : tokens ≡ flat t

-- one byte or more, and no line feed
abbrev pub is_one_line : List ℕ → Bool
is_one_line text = not (length text == 0) && list_all is_of_line text

-- the text is one line, whose tokens are a phrase with this tree
pub record HasPhrase (text : List ℕ) (t : Syntax) : Type 0 where
  pub line : is_one_line text ≡ true
  pub tokens : List Lexeme
  pub read : HasTokens text tokens
  pub is : IsPhrase tokens t
