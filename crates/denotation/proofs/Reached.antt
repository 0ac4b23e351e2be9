-- What is reached from a root is one list of definitions with one list of bodies.
use Rattle.std.proofs.Common.{◌≡◌, ℕ, zero, suc, ◌+◌, ◌<◌, ◌≤◌, List, [], ◌∷◌, ◌++◌, length, take, drop, map, get_or, Option, Some, None, cond, true, false, refl, sym, ap, ap₂, ◌∙◌, arith, append_assoc, append-nil, take-suc}
use Rattle.std.specs.List.{flat_map}
use Rattle.std.proofs.lemmas.List.{length-map, length-append}
use Rattle.denotation.specs.Bodies.{Key, Body, stop, names}
use Rattle.denotation.specs.Denotes.{has_key, with_key, with_keys, met, Reached}
use Rattle.event_phrases.proofs.Options.{some_is}
use Rattle.event_phrases.proofs.Scopes.{take_whole}

-- ---- lists

pub get_or_view : {A B : Type 0} (view : A → B) (xs : List A) (n : ℕ) (d : B) (e : A) → n < length xs → get_or (map view xs) n d ≡ view (get_or xs n e)
get_or_view view [] n d e h = absurd (omega (arith, h))
get_or_view view (x ∷ xs) zero d e h = refl
get_or_view view (x ∷ xs) (suc n) d e h = get_or_view view xs n d e (omega (arith, h))

pub get_front : {A : Type 0} (xs ys : List A) (n : ℕ) (d : A) → n < length xs → get_or (xs ++ ys) n d ≡ get_or xs n d
get_front [] ys n d h = absurd (omega (arith, h))
get_front (x ∷ xs) ys zero d h = refl
get_front (x ∷ xs) ys (suc n) d h = get_front xs ys n d (omega (arith, h))

-- ---- definitions that are met

key_grow : (ks : List Key) (n : Key) → (rest : List Key) × (with_key ks n ≡ ks ++ rest)
unfolding with_key
key_grow ks n = elim (has_key ks n) as (λ b. (rest : List Key) × (cond b ks (ks ++ n ∷ []) ≡ ks ++ rest)) [ true ↦ ([], sym (append-nil ks)) | false ↦ (n ∷ [], refl) ]

pub keys_grow : (ns ks : List Key) → (rest : List Key) × (with_keys ks ns ≡ ks ++ rest)
unfolding with_keys
keys_grow [] ks = ([], sym (append-nil ks))
keys_grow (n ∷ ns) ks =
    let (one, g) = key_grow ks n in
    let (rest, f) = keys_grow ns (with_key ks n) in
    (one ++ rest, f ∙ ap (λ ks. ks ++ rest) g ∙ append_assoc ks one rest)

keys_append : (ks xs ys : List Key) → with_keys ks (xs ++ ys) ≡ with_keys (with_keys ks xs) ys
unfolding with_keys
keys_append ks [] ys = refl
keys_append ks (x ∷ xs) ys = keys_append (with_key ks x) xs ys

names_parts : (k : ℕ) (ps : List Body) → flat_map names (take k ps) ++ flat_map names (drop k ps) ≡ flat_map names ps
names_parts zero ps = refl
names_parts (suc k) [] = refl
names_parts (suc k) (p ∷ ps) = append_assoc (names p) (flat_map names (take k ps)) (flat_map names (drop k ps)) ∙ ap (λ ns. names p ++ ns) (names_parts k ps)

-- definitions met from the first bodies are the first of those met from all
pub met_front : (root : Key) (n : ℕ) (bs : List Body) → (rest : List Key) × (met root bs ≡ met root (take n bs) ++ rest)
unfolding met
met_front root n bs =
    let (rest, h) = keys_grow (flat_map names (drop n bs)) (with_keys (root ∷ []) (flat_map names (take n bs))) in
    (rest, ap (with_keys (root ∷ [])) (sym (names_parts n bs)) ∙ keys_append (root ∷ []) (flat_map names (take n bs)) (flat_map names (drop n bs)) ∙ h)

-- ---- one answer

module _ (f : Key → Option Body) (root : Key) where
  as_many : (ks : List Key) (cs : List Body) → Reached f root ks cs → length ks ≡ length cs
  as_many ks cs r = sym (length-map ks f) ∙ ap length r.each ∙ length-map cs _

  nth_body : (ks : List Key) (cs : List Body) (n : ℕ) → Reached f root ks cs → n < length cs → f (get_or ks n root) ≡ Some (get_or cs n stop)
  nth_body ks cs n r h =
      let l = as_many ks cs r in
      sym (get_or_view f ks n None root (omega (arith, h, l))) ∙ ap (λ xs. get_or xs n None) r.each ∙ get_or_view (λ x. Some x) cs n None stop h

  -- those met from the first n bodies come first
  first_keys : (ks : List Key) (cs : List Body) (n : ℕ) → Reached f root ks cs → (rest : List Key) × (ks ≡ met root (take n cs) ++ rest)
  first_keys ks cs n r =
      let (rest, e) = met_front root n cs in
      (rest, sym r.first ∙ e)

  begins : (ks ls : List Key) (cs ds : List Body) → Reached f root ks cs → Reached f root ls ds → (n : ℕ) → n ≤ length cs → (n ≤ length ds) × (take n cs ≡ take n ds)
  begins ks ls cs ds r q zero h = (omega arith, refl)
  begins ks ls cs ds r q (suc n) h =
      let (low, same) = begins ks ls cs ds r q n (omega (arith, h)) in
      let l = as_many ks cs r in
      let m = as_many ls ds q in
      let below : n < length (met root (take n cs)) = r.below n (omega (arith, l, h)) in
      let (rest, e) = first_keys ks cs n r in
      let (others, g) = first_keys ls ds n q in
      let g' : ls ≡ met root (take n cs) ++ others = g ∙ ap (λ bs. met root bs ++ others) (sym same) in
      let long : length ls ≡ length (met root (take n cs)) + length others = ap length g' ∙ length-append (met root (take n cs)) others in
      let less : n < length ds = omega (arith, below, long, m) in
      let at : get_or ks n root ≡ get_or ls n root = ap (λ xs. get_or xs n root) e ∙ get_front (met root (take n cs)) rest n root below ∙ sym (get_front (met root (take n cs)) others n root below) ∙ ap (λ xs. get_or xs n root) (sym g') in
      let body : get_or cs n stop ≡ get_or ds n stop = some_is (sym (nth_body ks cs n r (omega (arith, h))) ∙ ap f at ∙ nth_body ls ds n q less) in
      (omega (arith, less), take-suc cs n stop (omega (arith, h)) ∙ ap₂ (λ xs x. xs ++ x ∷ []) same body ∙ sym (take-suc ds n stop less))

  pub one_reached : (ks ls : List Key) (cs ds : List Body) → Reached f root ks cs → Reached f root ls ds → (ks ≡ ls) × (cs ≡ ds)
  one_reached ks ls cs ds r q =
      let (low, same) = begins ks ls cs ds r q (length cs) (omega arith) in
      let (high, other) = begins ls ks ds cs q r (length ds) (omega arith) in
      let bodies : cs ≡ ds = sym (take_whole (length cs) cs (omega arith)) ∙ same ∙ take_whole (length cs) ds (omega (arith, low, high)) in
      (sym r.first ∙ ap (met root) bodies ∙ q.first, bodies)
