-- What the parts of a form stand for.
use Rattle.std.proofs.Common.{◌≡◌, ℕ, zero, suc, ◌+◌, ◌<◌, ◌≤◌, List, [], ◌∷◌, ◌++◌, false, map, length, drop, get_or, Option, Some, None, Vec, refl, sym, ap, ◌∙◌, arith, append_assoc, append-nil, drop-cons}
use Rattle.std.proofs.lemmas.List.{map-append}
use Rattle.tokens.specs.declared.position.Position.{Position}
use Rattle.syntax.specs.declared.tree.Tree.{Tree, Node as TreeNode}
use Rattle.syntax.specs.declared.form.Form.{Form}
use Rattle.syntax.specs.Grammar.{Syntax, Called, Node}
use Rattle.syntax.specs.Parsing.{syntaxes}
use Rattle.syntax.specs.View.{shape, shapes}
use Rattle.values.specs.declared.worth.Worth.{Worth}
use Rattle.values.specs.Values.{◌>>=◌, Name}
use Rattle.values.specs.Worths.{Worth as Plain, Known, formed, is_lazy, condition, the_truth}
use Rattle.values.specs.Worths.{worth as worth_in, worths as worths_in}
use Rattle.tokens.specs.declared.read_error.ReadError.{ReadError}
use Rattle.values.specs.View.{worth, Fails}
use Rattle.syntax.proofs.Failing.{fails_on}
use Rattle.syntax.proofs.Lists.{node_shape}
use Rattle.values.proofs.Keeps.{strict_is}

-- a node has the form and the parts that it holds
pub node_is : {A : Type 0} (tree : Tree A) (line : Position) (form : Form) (v : Vec (Tree A) A) (ts : List (Tree A)) → tree ≡ TreeNode line form v → ts ≡ v.items → shape tree ≡ Node form (syntaxes (shapes ts))
node_is tree line form v ts h is = ap shape h ∙ node_shape line form v ∙ ap (λ xs. Node form (syntaxes (shapes xs))) (sym is)

pub node_made : {A : Type 0} (known : Known) (tree : Tree A) (line : Position) (form : Form) (v : Vec (Tree A) A) (ts : List (Tree A)) (ws : List Plain) → tree ≡ TreeNode line form v → ts ≡ v.items → is_lazy form ≡ false → worths_in known (syntaxes (shapes ts)) ≡ Some ws → worth_in known (shape tree) ≡ formed form ws
node_made known tree line form v ts ws h is strict got =
    ap (worth_in known) (node_is tree line form v ts h is) ∙ strict_is known form (syntaxes (shapes ts)) strict ∙ ap (λ o. o >>= λ ws. formed form ws) got

pub node_fails : {A : Type 0} (k : ReadError) (known : Known) (tree : Tree A) (line : Position) (form : Form) (v : Vec (Tree A) A) (ts : List (Tree A)) → tree ≡ TreeNode line form v → ts ≡ v.items → is_lazy form ≡ false → Fails k (worths_in known (syntaxes (shapes ts))) → Fails k (worth_in known (shape tree))
node_fails k known tree line form v ts h is strict f =
    fails_on k (worths_in known (syntaxes (shapes ts))) (worth_in known (shape tree)) (λ e. ap (worth_in known) (node_is tree line form v ts h is) ∙ strict_is known form (syntaxes (shapes ts)) strict ∙ ap (λ o. o >>= λ ws. formed form ws) e) f

-- the same of a form of which not all parts are looked at
pub lazy_is : {A : Type 0} (known : Known) (tree : Tree A) (line : Position) (form other : Form) (v : Vec (Tree A) A) (ts : List (Tree A)) → tree ≡ TreeNode line form v → ts ≡ v.items → form ≡ other → worth_in known (shape tree) ≡ worth_in known (Node other (syntaxes (shapes ts)))
lazy_is known tree line form other v ts h is same =
    ap (worth_in known) (node_is tree line form v ts h is ∙ ap (λ f. Node f (syntaxes (shapes ts))) same)

-- a name means what is known of it
pub name_is : (known : Known) (t : Syntax) (m n : Name) → t ≡ Called m → n ≡ m → known n ≡ worth_in known t
unfolding worth_in
name_is known t m n h is = ap known is ∙ sym (ap (worth_in known) h)

-- the truth that a phrase means is that of its worth
pub condition_is : (known : Known) (t : Syntax) (w : Plain) → worth_in known t ≡ Some w → condition known t ≡ the_truth w
unfolding condition
condition_is known t w h = ap (λ o. o >>= λ w. the_truth w) h

-- ---- lists of parts, from left to right

-- what is known in front, and what the others stand for after it
abbrev pub with_front : List Plain → Option (List Plain) → Option (List Plain)
with_front front o = o >>= λ ws. Some (front ++ ws)

abbrev some_worths : List Plain → Option (List Plain)
some_worths ws = Some ws

front_more : (front : List Plain) (w : Plain) (o : Option (List Plain)) → with_front front (o >>= λ ws. Some (w ∷ ws)) ≡ with_front (front ++ w ∷ []) o
front_more front w None = refl
front_more front w (Some ws) = ap some_worths (sym (append_assoc front (w ∷ []) ws))

module _ {A : Type 0} (known : Known) where
  cell : (ts : List (Tree A)) (i : ℕ) (t : Tree A) → i < length ts → t ≡ get_or ts i t → drop i ts ≡ t ∷ drop (i + 1) ts
  cell ts i t h is =
      let e : suc i ≡ i + 1 = omega arith in
      drop-cons ts i t h ∙ ap (λ (k : ℕ). get_or ts i t ∷ drop k ts) e ∙ ap (λ x. x ∷ drop (i + 1) ts) (sym is)

  none_left : (ts : List (Tree A)) (i : ℕ) → length ts ≤ i → drop i ts ≡ []
  none_left [] zero h = refl
  none_left [] (suc i) h = refl
  none_left (t ∷ ts) zero h = absurd (omega (arith, h))
  none_left (t ∷ ts) (suc i) h = none_left ts i (omega (arith, h))

  from_here : (ts : List (Tree A)) (i : ℕ) (t : Tree A) → i < length ts → t ≡ get_or ts i t → worths_in known (syntaxes (shapes (drop i ts))) ≡ (worth_in known (shape t) >>= λ w. worths_in known (syntaxes (shapes (drop (i + 1) ts))) >>= λ ws. Some (w ∷ ws))
  unfolding worths_in
  from_here ts i t h is = ap (λ xs. worths_in known (syntaxes (shapes xs))) (cell ts i t h is)

  pub parts_start : (ts : List (Tree A)) (front : List (Worth A)) → front ≡ [] → with_front (map worth front) (worths_in known (syntaxes (shapes (drop 0 ts)))) ≡ worths_in known (syntaxes (shapes ts))
  parts_start ts front h = ap (λ ws. with_front (map worth ws) (worths_in known (syntaxes (shapes ts)))) h ∙ by (worths_in known (syntaxes (shapes ts)))
    where
      by : (o : Option (List Plain)) → with_front [] o ≡ o
      by None = refl
      by (Some ws) = refl

  pub parts_more : (ts : List (Tree A)) (i : ℕ) (t : Tree A) (front new : List (Worth A)) (w : Worth A) (whole : Option (List Plain)) → with_front (map worth front) (worths_in known (syntaxes (shapes (drop i ts)))) ≡ whole → i < length ts → t ≡ get_or ts i t → worth_in known (shape t) ≡ Some (worth w) → new ≡ front ++ w ∷ [] → with_front (map worth new) (worths_in known (syntaxes (shapes (drop (i + 1) ts)))) ≡ whole
  parts_more ts i t front new w whole inv h is got put =
      let rest = worths_in known (syntaxes (shapes (drop (i + 1) ts))) in
      ap (λ ws. with_front ws rest) (ap (map worth) put ∙ map-append worth front (w ∷ []))
      ∙ sym (front_more (map worth front) (worth w) rest)
      ∙ ap (with_front (map worth front)) (sym (from_here ts i t h is ∙ ap (λ o. o >>= λ w. rest >>= λ ws. some_worths (w ∷ ws)) got))
      ∙ inv

  pub parts_fail : (k : ReadError) (ts : List (Tree A)) (i : ℕ) (t : Tree A) (front : List (Worth A)) (whole : Option (List Plain)) → with_front (map worth front) (worths_in known (syntaxes (shapes (drop i ts)))) ≡ whole → i < length ts → t ≡ get_or ts i t → Fails k (worth_in known (shape t)) → Fails k whole
  parts_fail k ts i t front whole inv h is f =
      fails_on k (worth_in known (shape t)) whole (λ e. sym inv ∙ ap (with_front (map worth front)) (from_here ts i t h is ∙ ap (λ o. o >>= λ w. worths_in known (syntaxes (shapes (drop (i + 1) ts))) >>= λ ws. some_worths (w ∷ ws)) e)) f

  pub parts_end : (ts : List (Tree A)) (i : ℕ) (front : List (Worth A)) (whole : Option (List Plain)) → with_front (map worth front) (worths_in known (syntaxes (shapes (drop i ts)))) ≡ whole → length ts ≤ i → whole ≡ Some (map worth front)
  unfolding worths_in
  parts_end ts i front whole inv h =
      sym inv ∙ ap (λ xs. with_front (map worth front) (worths_in known (syntaxes (shapes xs)))) (none_left ts i h) ∙ ap some_worths (append-nil (map worth front))
