-- One turn of a loop that copies a list: f is what is to be the same, p what holds of each element.
use Rattle.std.proofs.Common.{◌≡◌, ℕ, ◌+◌, ◌<◌, Bool, true, List, [], ◌∷◌, ◌++◌, map, take, length, get_or, sym, ap, ◌∙◌, arith}
use Rattle.std.proofs.lemmas.List.{take_more, get_or-map, map-append, length-map}
use Rattle.std.specs.List.{list_all}
use Rattle.alphabet.proofs.Lists.{all-push}

module _ {K V : Type 0} (f : K → V) (xs : List K) (i : ℕ) (x : K) (h : i < length xs) (is : x ≡ get_or xs i x) where
  one_more : take (i + 1) (map f xs) ≡ take i (map f xs) ++ f x ∷ []
  one_more =
      take_more (map f xs) i (f x) (omega (arith, length-map xs f))
      ∙ ap (λ y. take i (map f xs) ++ y ∷ []) (get_or-map f xs i x (f x) h ∙ ap f (sym is))

  pub copied_more : (copied grown : List K) (y : K) → f y ≡ f x → grown ≡ copied ++ y ∷ [] → map f copied ≡ take i (map f xs) → map f grown ≡ take (i + 1) (map f xs)
  copied_more copied grown y same e so_far =
      ap (map f) e ∙ map-append f copied (y ∷ []) ∙ ap (λ ys. ys ++ f y ∷ []) so_far ∙ ap (λ z. take i (map f xs) ++ z ∷ []) same ∙ sym one_more

  pub all_more : (p : V → Bool) → list_all p (take i (map f xs)) ≡ true → p (f x) ≡ true → list_all p (take (i + 1) (map f xs)) ≡ true
  all_more p so_far here = ap (list_all p) one_more ∙ all-push p (take i (map f xs)) (f x) so_far here
