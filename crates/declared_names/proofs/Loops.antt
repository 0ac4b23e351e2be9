-- Steps over the parts of a tree, one after the other.
use Rattle.std.proofs.Common.{◌≡◌, ℕ, zero, suc, ◌+◌, ◌<◌, ◌≤◌, List, [], ◌∷◌, length, drop, get_or, Option, Some, refl, sym, ap, ◌∙◌, arith, drop-cons}
use Rattle.tokens.specs.declared.read_error.ReadError.{ReadError}
use Rattle.syntax.specs.declared.tree.Tree.{Tree}
use Rattle.syntax.specs.Grammar.{Syntax}
use Rattle.syntax.specs.Parsing.{syntaxes}
use Rattle.syntax.specs.View.{shape, shapes}
use Rattle.values.specs.Values.{◌>>=◌}
use Rattle.values.specs.View.{Fails}
use Rattle.syntax.proofs.Failing.{fails_on}
use Rattle.declared_names.specs.Steps.{steps}

pub cell : {X : Type 0} (ts : List X) (i : ℕ) (t : X) → i < length ts → t ≡ get_or ts i t → drop i ts ≡ t ∷ drop (i + 1) ts
cell ts i t h is =
    let e : suc i ≡ i + 1 = omega arith in
    drop-cons ts i t h ∙ ap (λ (k : ℕ). get_or ts i t ∷ drop k ts) e ∙ ap (λ x. x ∷ drop (i + 1) ts) (sym is)

pub none_left : {X : Type 0} (ts : List X) (i : ℕ) → length ts ≤ i → drop i ts ≡ []
none_left [] zero h = refl
none_left [] (suc i) h = refl
none_left (t ∷ ts) zero h = absurd (omega (arith, h))
none_left (t ∷ ts) (suc i) h = none_left ts i (omega (arith, h))

module _ {A X : Type 0} (f : X → Syntax → Option X) where
  -- the steps over the parts from the place i on
  abbrev pub from : List (Tree A) → ℕ → X → Option X
  from ts i x = steps f x (syntaxes (shapes (drop i ts)))

  next : (ts : List (Tree A)) (i : ℕ) (t : Tree A) (x : X) → i < length ts → t ≡ get_or ts i t → from ts i x ≡ (f x (shape t) >>= λ y. from ts (i + 1) y)
  unfolding steps
  next ts i t x h is = ap (λ xs. steps f x (syntaxes (shapes xs))) (cell ts i t h is)

  pub all_more : (ts : List (Tree A)) (i : ℕ) (t : Tree A) (x y : X) (whole : Option X) → from ts i x ≡ whole → i < length ts → t ≡ get_or ts i t → f x (shape t) ≡ Some y → from ts (i + 1) y ≡ whole
  all_more ts i t x y whole inv h is got = sym (next ts i t x h is ∙ ap (λ o. o >>= λ y. from ts (i + 1) y) got) ∙ inv

  pub all_fail : (k : ReadError) (ts : List (Tree A)) (i : ℕ) (t : Tree A) (x : X) (whole : Option X) → from ts i x ≡ whole → i < length ts → t ≡ get_or ts i t → Fails k (f x (shape t)) → Fails k whole
  all_fail k ts i t x whole inv h is e = fails_on k (f x (shape t)) whole (λ n. sym inv ∙ next ts i t x h is ∙ ap (λ o. o >>= λ y. from ts (i + 1) y) n) e

  pub all_end : (ts : List (Tree A)) (i : ℕ) (x : X) (whole : Option X) → from ts i x ≡ whole → length ts ≤ i → whole ≡ Some x
  unfolding steps
  all_end ts i x whole inv h = sym inv ∙ ap (λ xs. steps f x (syntaxes (shapes xs))) (none_left ts i h)
