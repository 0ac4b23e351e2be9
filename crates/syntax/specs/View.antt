-- Trees without where they lie in memory and without their lines, and the line of a tree.
use Rattle.std.specs.Prelude.{List, map}
use Rattle.tokens.specs.declared.position.Position.{Position}
use Rattle.syntax.specs.declared.tree.Tree.{Tree, Row_of-Tree, end_of-Tree, more_of-Tree}
use Rattle.syntax.specs.declared.tree.Tree.TheVariants as trees
use Rattle.syntax.specs.Grammar.{Syntax, Called, Numeral, Node, Syntaxes, NoSyntax, MoreSyntax}

abbrev mutual
  pub shape : {A : Type 0} → Tree A → Syntax
  shape (trees.Name line text) = Called text.items
  shape (trees.Number line value) = Numeral value
  shape (trees.Node' line form n row) = Node form (row_shapes row)

  pub row_shapes : {A : Type 0} {m : _} → Row_of-Tree A m → Syntaxes
  row_shapes end_of-Tree = NoSyntax
  row_shapes (more_of-Tree t rest) = MoreSyntax (shape t) (row_shapes rest)

abbrev pub shapes : {A : Type 0} → List (Tree A) → List Syntax
shapes ts = map shape ts

-- the position that a tree keeps, which is that of its first token
abbrev pub line_of : {A : Type 0} → Tree A → Position
line_of (trees.Name line text) = line
line_of (trees.Number line value) = line
line_of (trees.Node' line form n row) = line
