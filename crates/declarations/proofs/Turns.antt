-- Parts that are taken one after the other, where it is known what is wanted of all that are left.
use Rattle.std.proofs.Common.{◌≡◌, ℕ, ◌+◌, ◌<◌, ◌≤◌, List, length, drop, get_or, Option, Some, sym, ap, ◌∙◌}
use Rattle.tokens.specs.declared.read_error.ReadError.{ReadError}
use Rattle.syntax.specs.declared.tree.Tree.{Tree}
use Rattle.syntax.specs.Grammar.{Syntax, Syntaxes, NoSyntax, MoreSyntax}
use Rattle.syntax.specs.Parsing.{syntaxes}
use Rattle.syntax.specs.View.{shape, shapes}
use Rattle.syntax.proofs.Failing.{fails_on}
use Rattle.values.specs.Values.{◌>>=◌}
use Rattle.values.specs.View.{Fails}
use Rattle.declared_names.proofs.Loops.{cell, none_left}

-- the parts from the place i on
abbrev pub left_from : {A : Type 0} → List (Tree A) → ℕ → Syntaxes
left_from ts i = syntaxes (shapes (drop i ts))

pub first_left : {A : Type 0} (ts : List (Tree A)) (i : ℕ) (t : Tree A) → i < length ts → t ≡ get_or ts i t → left_from ts i ≡ MoreSyntax (shape t) (left_from ts (i + 1))
first_left ts i t h is = ap (λ xs. syntaxes (shapes xs)) (cell ts i t h is)

pub no_left : {A : Type 0} (ts : List (Tree A)) (i : ℕ) → length ts ≤ i → left_from ts i ≡ NoSyntax
no_left ts i h = ap (λ xs. syntaxes (shapes xs)) (none_left ts i h)

module _ {A X : Type 0} (want : X → Syntaxes → Option X) (one : X → Syntax → Option X) (chained : (x : X) (t : Syntax) (ts : Syntaxes) → want x (MoreSyntax t ts) ≡ (one x t >>= λ y. want y ts)) where
  next : (ts : List (Tree A)) (i : ℕ) (t : Tree A) (x : X) → i < length ts → t ≡ get_or ts i t → want x (left_from ts i) ≡ (one x (shape t) >>= λ y. want y (left_from ts (i + 1)))
  next ts i t x h is = ap (want x) (first_left ts i t h is) ∙ chained x (shape t) (left_from ts (i + 1))

  pub more : (ts : List (Tree A)) (i : ℕ) (t : Tree A) (x y : X) (whole : Option X) → want x (left_from ts i) ≡ whole → i < length ts → t ≡ get_or ts i t → one x (shape t) ≡ Some y → want y (left_from ts (i + 1)) ≡ whole
  more ts i t x y whole inv h is got = sym (next ts i t x h is ∙ ap (λ o. o >>= λ y. want y (left_from ts (i + 1))) got) ∙ inv

  pub fail : (k : ReadError) (ts : List (Tree A)) (i : ℕ) (t : Tree A) (x : X) (whole : Option X) → want x (left_from ts i) ≡ whole → i < length ts → t ≡ get_or ts i t → Fails k (one x (shape t)) → Fails k whole
  fail k ts i t x whole inv h is e = fails_on k (one x (shape t)) whole (λ n. sym inv ∙ next ts i t x h is ∙ ap (λ o. o >>= λ y. want y (left_from ts (i + 1))) n) e
