-- The names of generators, and whether they occur in phrases.
use Rattle.std.specs.Prelude.{List, [], ◌∷◌, Bool, false, ◌||◌, Option, Some, None}
use Rattle.syntax.specs.Grammar.{Syntax, Called, Numeral, Node, Syntaxes, NoSyntax, MoreSyntax}
use Rattle.values.specs.Values.{Name}
use Rattle.values.specs.Names.{same_name}
use Rattle.denotation.specs.Phrases.{generator_of}

unfoldable pub has_name : Option (Name × Syntax) → Name → Bool
has_name None n = false
has_name (Some p) n = same_name n p.0

-- whether one of these generators has this name
unfoldable pub is_name_of : List Syntax → Name → Bool
is_name_of [] n = false
is_name_of (g ∷ gs) n = has_name (generator_of g) n || is_name_of gs n

unfoldable mutual
  -- whether the name of one of these generators occurs in the phrase
  pub uses : List Syntax → Syntax → Bool
  uses gs (Called n) = is_name_of gs n
  uses gs (Numeral n) = false
  uses gs (Node f ts) = some_uses gs ts

  -- the same of one of the phrases
  pub some_uses : List Syntax → Syntaxes → Bool
  some_uses gs NoSyntax = false
  some_uses gs (MoreSyntax t ts) = uses gs t || some_uses gs ts
