-- The equations of joining a list in halves.
use Rattle.std.proofs.Common.{◌≡◌, ℕ, zero, suc, ◌-◌, ◌/◌, ◌≤◌, List, [], ◌∷◌, length, take, drop, map, refl, sym, ap, ap₂, ◌∙◌, arith}
use Rattle.std.proofs.lemmas.List.{length-take, length-drop, length-map, take-map, drop-map}
use Rattle.denotation.specs.Bodies.{Body, halved_in, halved, half}

module _ (join : Body → Body → Body) (none : Body) where
  -- any bound that is large enough gives the same
  enough : (m n : ℕ) (ps : List Body) → length ps ≤ suc m → length ps ≤ suc n → halved_in join none m ps ≡ halved_in join none n ps
  unfolding halved_in
  enough m n [] h k = refl
  enough m n (p ∷ []) h k = refl
  enough zero n (p ∷ q ∷ ps) h k = absurd (omega (arith, h))
  enough (suc m) zero (p ∷ q ∷ ps) h k = absurd (omega (arith, k))
  enough (suc m) (suc n) (p ∷ q ∷ ps) h k =
      let all = p ∷ q ∷ ps in
      ap₂ join
      (enough m n (take (half all) all) (omega (arith, h, length-take (half all) all)) (omega (arith, k, length-take (half all) all)))
      (enough m n (drop (half all) all) (omega (arith, h, length-drop (half all) all)) (omega (arith, k, length-drop (half all) all)))

  pub halved_none : (ps : List Body) → length ps ≡ 0 → none ≡ halved join none ps
  unfolding halved halved_in
  halved_none [] h = refl
  halved_none (p ∷ ps) h = absurd (omega (arith, h))

  pub halved_one : (p : Body) → halved join none (p ∷ []) ≡ p
  unfolding halved halved_in
  halved_one p = refl

  pub halved_more : (ps : List Body) → 2 ≤ length ps → halved join none ps ≡ join (halved join none (take (half ps) ps)) (halved join none (drop (half ps) ps))
  unfolding halved halved_in
  halved_more [] h = absurd (omega (arith, h))
  halved_more (p ∷ []) h = absurd (omega (arith, h))
  halved_more (p ∷ q ∷ ps) h =
      let all = p ∷ q ∷ ps in
      ap₂ join
      (enough (suc (length ps)) (length (take (half all) all)) (take (half all) all) (omega (arith, length-take (half all) all)) (omega arith))
      (enough (suc (length ps)) (length (drop (half all) all)) (drop (half all) all) (omega (arith, length-drop (half all) all)) (omega arith))

  -- the same over a list that is seen by a view, where front and back are the halves
  pub halved_halves : {A : Type 0} (view : A → Body) (xs front back : List A) (k : ℕ) → 2 ≤ length xs → k ≡ length xs - length xs / 2 → front ≡ take k xs → back ≡ drop k xs → join (halved join none (map view front)) (halved join none (map view back)) ≡ halved join none (map view xs)
  halved_halves view xs front back k h m f b =
      let ps = map view xs in
      let n : length ps ≡ length xs = length-map xs view in
      let i : half ps ≡ k = ap (λ (i : ℕ). i - i / 2) n ∙ sym m in
      sym (halved_more ps (omega (arith, n, h))
      ∙ ap₂ (λ x y. join (halved join none x) (halved join none y))
      (ap (λ (i : ℕ). take i ps) i ∙ take-map view k xs ∙ ap (map view) (sym f))
      (ap (λ (i : ℕ). drop i ps) i ∙ drop-map view k xs ∙ ap (map view) (sym b)))
