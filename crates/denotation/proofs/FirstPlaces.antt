-- A table of definitions with values gives their numbers.
use Rattle.std.proofs.Common.{◌≡◌, suc, ◌+◌, List, [], ◌∷◌, ◌++◌, map, Bool, true, false, not, ◌||◌, cond, refl, sym, ap, ap₂, ◌∙◌, arith}
use Rattle.std.specs.List.{list_any, position_or_len}
use Rattle.std.proofs.lemmas.List.{map-append}
use Rattle.indexmap.specs.IndexSet.{insert_key}
use Rattle.denotation.specs.declared.call.Call.{Call}
use Rattle.denotation.specs.Bodies.{same_key}
use Rattle.denotation.specs.CallLaws.{key_same, same_laws}
use Rattle.denotation.specs.Denotes.{place, has_key, with_key}
use Rattle.denotation.specs.View.{key}

or_is : (a b : Bool) → cond a true b ≡ (a || b)
or_is true b = refl
or_is false b = refl

module _ {A : Type 0} where
  -- the test of the table
  abbrev pub same : Call A → Call A → Bool
  same a b = same_key (key a) (key b)

  same_is : (a b : Call A) → same_key (key b) (key a) ≡ same a b
  same_is a b = (same_laws key).symm b a

  has_is : (ks : List (Call A)) (k : Call A) → has_key (map key ks) (key k) ≡ list_any (same k) ks
  unfolding has_key
  has_is [] k = refl
  has_is (j ∷ js) k = ap₂ (λ a b. cond a true b) (same_is k j) (has_is js k) ∙ or_is (same k j) (list_any (same k) js)

  pub met_keys : (ks : List (Call A)) (k : Call A) → with_key (map key ks) (key k) ≡ map key (insert_key same ks k)
  unfolding with_key
  met_keys ks k = ap (λ b. cond b (map key ks) (map key ks ++ key k ∷ [])) (has_is ks k) ∙ by_test (list_any (same k) ks)
    where
      by_test : (b : Bool) → cond b (map key ks) (map key ks ++ key k ∷ []) ≡ map key (cond b ks (ks ++ k ∷ []))
      by_test true = refl
      by_test false = sym (map-append key ks (k ∷ []))

  -- its place where it stands last, if it doesn't stand before
  place_last : (ks : List (Call A)) (k : Call A) → place (map key (ks ++ k ∷ [])) (key k) ≡ position_or_len (same k) ks
  unfolding place
  place_last [] k = ap (λ b. cond b 0 1) (key_same (key k))
  place_last (j ∷ js) k = ap₂ (λ b n. cond b 0 (suc n)) (same_is k j) (place_last js k) ∙ turn (same k j)
    where
      turn : (b : Bool) → cond b 0 (suc (position_or_len (same k) js)) ≡ cond (not b) (1 + position_or_len (same k) js) 0
      turn true = refl
      turn false = omega arith

  -- its place where it stands in the list
  place_had : (ks : List (Call A)) (k : Call A) → list_any (same k) ks ≡ true → place (map key ks) (key k) ≡ position_or_len (same k) ks
  unfolding place
  place_had [] k h = absurd (cc)
  place_had (j ∷ js) k h = ap (λ b. cond b 0 (suc (place (map key js) (key k)))) (same_is k j) ∙ turn (place_had js k) (same k j) h
    where
      turn : (list_any (same k) js ≡ true → place (map key js) (key k) ≡ position_or_len (same k) js) → (b : Bool) → (b || list_any (same k) js) ≡ true → cond b 0 (suc (place (map key js) (key k))) ≡ cond (not b) (1 + position_or_len (same k) js) 0
      turn r true h = refl
      turn r false h = let e = r h in omega (arith, e)

  first_place : (ks : List (Call A)) (k : Call A) → place (map key (insert_key same ks k)) (key k) ≡ position_or_len (same k) ks
  first_place ks k = by_test (list_any (same k) ks) refl
    where
      by_test : (b : Bool) → list_any (same k) ks ≡ b → place (map key (cond (list_any (same k) ks) ks (ks ++ k ∷ []))) (key k) ≡ position_or_len (same k) ks
      by_test true h = ap (λ b. place (map key (cond b ks (ks ++ k ∷ []))) (key k)) h ∙ place_had ks k h
      by_test false h = ap (λ b. place (map key (cond b ks (ks ++ k ∷ []))) (key k)) h ∙ place_last ks k

  pub met_place : (ks : List (Call A)) (k : Call A) → place (with_key (map key ks) (key k)) (key k) ≡ position_or_len (same k) ks
  met_place ks k = ap (λ ls. place ls (key k)) (met_keys ks k) ∙ first_place ks k
