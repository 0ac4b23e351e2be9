-- Parts that grow at their end.
use Rattle.std.proofs.Common.{◌≡◌, ℕ, List, [], ◌∷◌, ◌++◌, Bool, max, Vec, refl, sym, ap, ◌∙◌, arith}
use mathlib.Core.Former.{Count}
use Rattle.tokens.specs.declared.position.Position.{Position}
use Rattle.syntax.specs.declared.tree.Tree.{Tree, Node as TreeNode, Row_of-Tree, end_of-Tree, more_of-Tree, items-the_row-Tree, items_hidden-the_row-Tree-0}
use Rattle.syntax.specs.declared.tree.Tree.TheVariants as trees
use Rattle.syntax.specs.declared.form.Form.{Form}
use Rattle.syntax.specs.Grammar.{Syntax, Node, MoreSyntax, highest, height_of, is_open, last_open}
use Rattle.syntax.specs.Parsing.{syntaxes, last_is_open}
use Rattle.syntax.specs.View.{shape, shapes, row_shapes}

pub push_shape : {A : Type 0} (front : List (Tree A)) (t : Tree A) → shapes (front ++ t ∷ []) ≡ shapes front ++ shape t ∷ []
push_shape [] t = refl
push_shape (u ∷ front) t = ap (λ (ps : List Syntax). shape u ∷ ps) (push_shape front t)

pub highest_push : (ps : List Syntax) (p : Syntax) → highest (syntaxes (ps ++ p ∷ [])) ≡ max (highest (syntaxes ps)) (height_of p)
highest_push [] p = omega arith
highest_push (q ∷ ps) p = omega (arith, highest_push ps p)

pub open_push : (ps : List Syntax) (p : Syntax) → last_is_open (ps ++ p ∷ []) ≡ is_open p
open_push [] p = refl
open_push (q ∷ []) p = refl
open_push (q ∷ u ∷ ps) p = open_push (u ∷ ps) p

-- a list of trees with one more at its end
module _ {A : Type 0} (front new : List (Tree A)) (t : Tree A) (e : new ≡ front ++ t ∷ []) where
  pub pushed : shapes new ≡ shapes front ++ shape t ∷ []
  pushed = ap shapes e ∙ push_shape front t

  pub pushed_height : (h k : ℕ) → h ≡ highest (syntaxes (shapes front)) → k ≡ height_of (shape t) → max h k ≡ highest (syntaxes (shapes new))
  pushed_height h k i j = omega (arith, i, j, highest_push (shapes front) (shape t), ap (λ (ps : List Syntax). highest (syntaxes ps)) pushed)

  pub pushed_open : (o : Bool) → o ≡ is_open (shape t) → o ≡ last_is_open (shapes new)
  pushed_open o i = i ∙ sym (ap last_is_open pushed ∙ open_push (shapes front) (shape t))

pub last_open_is : (ps : List Syntax) → last_open (syntaxes ps) ≡ last_is_open ps
unfolding last_open
last_open_is [] = refl
last_open_is (p ∷ []) = refl
last_open_is (p ∷ u ∷ ps) = last_open_is (u ∷ ps)

shapes_row : {A : Type 0} (n : _) (row : Row_of-Tree A n) → row_shapes row ≡ syntaxes (shapes (items-the_row-Tree A n row))
shapes_row n end_of-Tree = refl
shapes_row n (more_of-Tree t rest) = ap (MoreSyntax (shape t)) (shapes_row _ rest)

abbrev row_of : {A : Type 0} → Tree A → (n : Count) × Row_of-Tree A n
row_of (trees.Node' line form n row) = (_, row)
row_of _ = (_, end_of-Tree)

-- a node that was made of a list has the parts of the list
pub node_shape : {A : Type 0} (line : Position) (form : Form) (v : Vec (Tree A) A) → shape (TreeNode line form v) ≡ Node form (syntaxes (shapes v.items))
node_shape {A = A} line form v =
    let row = row_of (TreeNode line form v) in
    ap (Node form) (shapes_row row.0 row.1 ∙ ap (λ (ts : List (Tree A)). syntaxes (shapes ts)) (items_hidden-the_row-Tree-0 A v))
