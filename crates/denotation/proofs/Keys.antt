-- Places in a list of definitions that none stands in twice.
use Rattle.std.proofs.Common.{◌≡◌, suc, List, [], ◌∷◌, ◌++◌, Bool, true, false, cond, refl, ap, ◌∙◌}
pub use Rattle.denotation.specs.CallLaws.{key_is, key_same}
use Rattle.denotation.specs.Bodies.{Key, same_key}
use Rattle.denotation.specs.Denotes.{place, has_key, with_key, with_keys}

-- ---- places stay

pub keys_append : (ks xs ys : List Key) → with_keys ks (xs ++ ys) ≡ with_keys (with_keys ks xs) ys
unfolding with_keys
keys_append ks [] ys = refl
keys_append ks (x ∷ xs) ys = keys_append (with_key ks x) xs ys

place_append : (ks : List Key) (k n : Key) → has_key ks k ≡ true → (place (ks ++ n ∷ []) k ≡ place ks k) × (has_key (ks ++ n ∷ []) k ≡ true)
unfolding place has_key
place_append [] k n h = absurd (cc)
place_append (j ∷ js) k n h = elim (same_key j k) as (λ b. cond b true (has_key js k) ≡ true → (cond b 0 (suc (place (js ++ n ∷ []) k)) ≡ cond b 0 (suc (place js k))) × (cond b true (has_key (js ++ n ∷ []) k) ≡ true)) [ true ↦ λ h. (refl, refl) | false ↦ λ h. let r = place_append js k n h in (ap suc r.0, r.1) ] h

place_with : (ks : List Key) (k n : Key) → has_key ks k ≡ true → (place (with_key ks n) k ≡ place ks k) × (has_key (with_key ks n) k ≡ true)
unfolding with_key
place_with ks k n h = elim (has_key ks n) as (λ b. (place (cond b ks (ks ++ n ∷ [])) k ≡ place ks k) × (has_key (cond b ks (ks ++ n ∷ [])) k ≡ true)) [ true ↦ (refl, h) | false ↦ place_append ks k n h ]

pub place_stays : (more ks : List Key) (k : Key) → has_key ks k ≡ true → place (with_keys ks more) k ≡ place ks k
unfolding with_keys
place_stays [] ks k h = refl
place_stays (n ∷ ns) ks k h = let r = place_with ks k n h in place_stays ns (with_key ks n) k r.1 ∙ r.0

has_append : (ks : List Key) (k : Key) → has_key (ks ++ k ∷ []) k ≡ true
unfolding has_key
has_append [] k = ap (λ b. cond b true false) (key_same k)
has_append (j ∷ js) k = elim (same_key j k) as (λ b. cond b true (has_key (js ++ k ∷ []) k) ≡ true) [ true ↦ refl | false ↦ has_append js k ]

pub has_with : (ks : List Key) (k : Key) → has_key (with_key ks k) k ≡ true
unfolding with_key
has_with ks k = by_cases (has_key ks k) refl
  where
    by_cases : (b : Bool) → has_key ks k ≡ b → has_key (cond (has_key ks k) ks (ks ++ k ∷ [])) k ≡ true
    by_cases true h = ap (λ b. has_key (cond b ks (ks ++ k ∷ [])) k) h ∙ h
    by_cases false h = ap (λ b. has_key (cond b ks (ks ++ k ∷ [])) k) h ∙ has_append ks k
