-- A tree and one level of it.
use Rattle.std.proofs.Common.{◌≡◌, ◌≢◌, ℕ, List, [], ◌∷◌, map, length, drop, get_or, Some, None, refl, sym, ap, ◌∙◌, arith}
use Rattle.syntax.specs.declared.tree.Tree.{Tree}
use Rattle.syntax.specs.Grammar.{Syntax, NoSyntax, MoreSyntax}
use Rattle.syntax.specs.Parsing.{syntaxes}
use Rattle.syntax.specs.View.{shape, shapes}
use Rattle.values.specs.declared.input.Input.{Input}
use Rattle.values.specs.Worths.{Known, worth}
use Rattle.values.specs.Tables.{input, behind}
use Rattle.declared_names.specs.Steps.{only_of, two_of, three_of}

-- ---- lists of parts

pub one_tree : {A : Type 0} (ts : List (Tree A)) (t : Tree A) → length ts ≡ 1 → t ≡ get_or ts 0 t → syntaxes (shapes ts) ≡ MoreSyntax (shape t) NoSyntax
one_tree [] t h k = absurd (omega (arith, h))
one_tree (u ∷ []) t h k = ap (λ x. MoreSyntax (shape x) NoSyntax) (sym k)
one_tree (u ∷ v ∷ us) t h k = absurd (omega (arith, h))

pub two_trees : {A : Type 0} (ts : List (Tree A)) (t u : Tree A) → length ts ≡ 2 → t ≡ get_or ts 0 t → u ≡ get_or ts 1 u → syntaxes (shapes ts) ≡ MoreSyntax (shape t) (MoreSyntax (shape u) NoSyntax)
two_trees [] t u h k l = absurd (omega (arith, h))
two_trees (x ∷ ys) t u h k l =
    let one : length ys ≡ 1 = omega (arith, h) in
    ap (λ xs. MoreSyntax (shape x) xs) (one_tree ys u one l) ∙ ap (λ a. MoreSyntax (shape a) (MoreSyntax (shape u) NoSyntax)) (sym k)

pub three_trees : {A : Type 0} (ts : List (Tree A)) (t u v : Tree A) → length ts ≡ 3 → t ≡ get_or ts 0 t → u ≡ get_or ts 1 u → v ≡ get_or ts 2 v → syntaxes (shapes ts) ≡ MoreSyntax (shape t) (MoreSyntax (shape u) (MoreSyntax (shape v) NoSyntax))
three_trees [] t u v h k l m = absurd (omega (arith, h))
three_trees (x ∷ ys) t u v h k l m =
    let two : length ys ≡ 2 = omega (arith, h) in
    ap (λ xs. MoreSyntax (shape x) xs) (two_trees ys u v two l m) ∙ ap (λ a. MoreSyntax (shape a) (MoreSyntax (shape u) (MoreSyntax (shape v) NoSyntax))) (sym k)

pub is_only : {A : Type 0} (ts : List (Tree A)) (t : Tree A) → length ts ≡ 1 → t ≡ get_or ts 0 t → only_of (syntaxes (shapes ts)) ≡ Some (shape t)
unfolding only_of
is_only ts t h k = ap only_of (one_tree ts t h k)

pub not_only : {A : Type 0} (ts : List (Tree A)) → (length ts ≢ 1) → only_of (syntaxes (shapes ts)) ≡ None
unfolding only_of
not_only [] n = refl
not_only (u ∷ []) n = absurd (n refl)
not_only (u ∷ v ∷ us) n = refl

pub are_two : {A : Type 0} (ts : List (Tree A)) (t u : Tree A) → length ts ≡ 2 → t ≡ get_or ts 0 t → u ≡ get_or ts 1 u → two_of (syntaxes (shapes ts)) ≡ Some (shape t, shape u)
unfolding two_of
are_two ts t u h k l = ap two_of (two_trees ts t u h k l)

pub not_two : {A : Type 0} (ts : List (Tree A)) → (length ts ≢ 2) → two_of (syntaxes (shapes ts)) ≡ None
unfolding two_of
not_two [] n = refl
not_two (x ∷ []) n = refl
not_two (x ∷ y ∷ []) n = absurd (n refl)
not_two (x ∷ y ∷ z ∷ us) n = refl

pub not_three : {A : Type 0} (ts : List (Tree A)) → (length ts ≢ 3) → three_of (syntaxes (shapes ts)) ≡ None
unfolding three_of
not_three [] n = refl
not_three (x ∷ []) n = refl
not_three (x ∷ y ∷ []) n = refl
not_three (x ∷ y ∷ z ∷ []) n = absurd (n refl)
not_three (x ∷ y ∷ z ∷ w ∷ us) n = refl

pub behind_all : {X : Type 0} (xs : List X) → drop (length xs) xs ≡ []
behind_all [] = refl
behind_all (x ∷ xs) = behind_all xs

-- what a phrase stands for after no inputs
pub alone : {A : Type 0} (known : Known) (is : List (Input A)) (t : Syntax) → is ≡ [] → worth (behind known (map input is)) t ≡ worth known t
unfolding behind
alone known is t h = ap (λ xs. worth (behind known (map input xs)) t) h
