-- Lists that are copied item by item, as they are seen by a view.
use Rattle.std.proofs.Common.{◌≡◌, ℕ, ◌+◌, ◌<◌, ◌≤◌, List, [], ◌∷◌, ◌++◌, length, map, take, filter, get_or, Bool, true, false, cond, refl, sym, ap, ap₂, ◌∙◌, append-nil, append_assoc}
use Rattle.std.proofs.lemmas.List.{map-append, take_more}
use Rattle.std.proofs.lemmas.List.Elements.{filter-append}
use Rattle.event_phrases.proofs.Scopes.{take_whole}

module _ {X Y : Type 0} (view : X → Y) (xs : List X) (i : ℕ) (front : List Y) (before : front ≡ map view (take i xs)) where
  pub copied_more : (x : X) (new : List Y) → i < length xs → x ≡ get_or xs i x → new ≡ front ++ view x ∷ [] → new ≡ map view (take (i + 1) xs)
  copied_more x new h is n =
      n ∙ ap₂ (λ ys z. ys ++ view z ∷ []) before is ∙ sym (map-append view (take i xs) (get_or xs i x ∷ [])) ∙ ap (map view) (sym (take_more xs i x h))

  pub copied_all : length xs ≤ i → front ≡ map view xs
  copied_all h = before ∙ ap (map view) (take_whole i xs h)

-- copies after what was there before
module _ {X Y : Type 0} (view : X → Y) (xs : List X) (i : ℕ) (front now : List Y) (before : now ≡ front ++ map view (take i xs)) where
  pub added_more : (x : X) (new : List Y) → i < length xs → x ≡ get_or xs i x → new ≡ now ++ view x ∷ [] → new ≡ front ++ map view (take (i + 1) xs)
  added_more x new h is n =
      n ∙ ap (λ ys. ys ++ view x ∷ []) before ∙ append_assoc front (map view (take i xs)) (view x ∷ [])
      ∙ ap (λ ys. front ++ ys) (copied_more view xs i (map view (take i xs)) refl x (map view (take i xs) ++ view x ∷ []) h is refl)

  pub added_all : length xs ≤ i → now ≡ front ++ map view xs
  added_all h = before ∙ ap (λ ys. front ++ map view ys) (take_whole i xs h)

-- copies of those that pass a test
module _ {X Y : Type 0} (view : X → Y) (test : Y → Bool) (xs : List X) (i : ℕ) (now : List Y) (before : now ≡ filter test (map view (take i xs))) where
  next_kept : (x : X) (b : Bool) → i < length xs → x ≡ get_or xs i x → test (view x) ≡ b → filter test (map view (take (i + 1) xs)) ≡ now ++ cond b (view x ∷ []) []
  next_kept x b h is e =
      ap (filter test) (sym (copied_more view xs i (map view (take i xs)) refl x (map view (take i xs) ++ view x ∷ []) h is refl))
      ∙ filter-append test (map view (take i xs)) (view x ∷ [])
      ∙ ap (λ b. filter test (map view (take i xs)) ++ cond b (view x ∷ []) []) e
      ∙ ap (λ ys. ys ++ cond b (view x ∷ []) []) (sym before)

  pub kept_more : (x : X) (new : List Y) → i < length xs → x ≡ get_or xs i x → test (view x) ≡ true → new ≡ now ++ view x ∷ [] → new ≡ filter test (map view (take (i + 1) xs))
  kept_more x new h is e n = n ∙ sym (next_kept x true h is e)

  pub kept_less : (x : X) (new : List Y) → i < length xs → x ≡ get_or xs i x → test (view x) ≡ false → new ≡ now → new ≡ filter test (map view (take (i + 1) xs))
  kept_less x new h is e n = n ∙ sym (append-nil now) ∙ sym (next_kept x false h is e)

  pub kept_all : length xs ≤ i → now ≡ filter test (map view xs)
  kept_all h = before ∙ ap (λ ys. filter test (map view ys)) (take_whole i xs h)
