-- Names of the language in trees.
use Rattle.std.specs.Prelude.{Bool, true, ◌&&◌}
use Rattle.alphabet.specs.Names.{is_name}
use Rattle.syntax.specs.Grammar.{Syntax, Called, Numeral, Node, Syntaxes, NoSyntax, MoreSyntax}

unfoldable mutual
  -- each name in the tree is a name of the language
  pub has_names : Syntax → Bool
  has_names (Called n) = is_name n
  has_names (Numeral n) = true
  has_names (Node f ts) = have_names ts

  pub have_names : Syntaxes → Bool
  have_names NoSyntax = true
  have_names (MoreSyntax t ts) = has_names t && have_names ts
