-- Definitions with their printed names are reached in the same order.
use Rattle.std.proofs.Common.{◌≡◌, ℕ, zero, suc, ◌<◌, List, [], ◌∷◌, ◌++◌, map, length, take, get_or, Bool, true, false, cond, refl, sym, ap, ap₂, ◌∙◌, arith}
use Rattle.std.proofs.lemmas.Bool.{false≢true}
use Rattle.std.proofs.lemmas.List.{length-append, map-append}
use Rattle.std.specs.List.{flat_map}
use Rattle.denotation.specs.Bodies.{Key, same_key, Body, names}
use Rattle.denotation.specs.Denotes.{place, has_key, with_key, with_keys, met}
use Rattle.denotation.proofs.Keys.{key_is, key_same, has_with}
use Rattle.denotation.proofs.Reached.{get_front, keys_grow}

-- ---- places

pub at_place : (ks : List Key) (k d : Key) → has_key ks k ≡ true → (place ks k < length ks) × (get_or ks (place ks k) d ≡ k)
unfolding place has_key
at_place [] k d h = absurd (false≢true h)
at_place (j ∷ js) k d h = by (same_key j k) refl h (at_place js k d)
  where
    by : (b : Bool) → same_key j k ≡ b → cond b true (has_key js k) ≡ true → (has_key js k ≡ true → (place js k < length js) × (get_or js (place js k) d ≡ k)) → (cond b 0 (suc (place js k)) < length (j ∷ js)) × (get_or (j ∷ js) (cond b 0 (suc (place js k))) d ≡ k)
    by true e g rec = (omega arith, key_is j k e)
    by false e g rec = let r = rec g in (omega (arith, r.0), r.1)

has_front : (ks more : List Key) (k : Key) → has_key ks k ≡ true → has_key (ks ++ more) k ≡ true
unfolding has_key
has_front [] more k h = absurd (false≢true h)
has_front (j ∷ js) more k h = by (same_key j k) h (has_front js more k)
  where
    by : (b : Bool) → cond b true (has_key js k) ≡ true → (has_key js k ≡ true → has_key (js ++ more) k ≡ true) → cond b true (has_key (js ++ more) k) ≡ true
    by true g rec = refl
    by false g rec = rec g

has_stays : (ks ns : List Key) (k : Key) → has_key ks k ≡ true → has_key (with_keys ks ns) k ≡ true
has_stays ks ns k h = let (rest, e) = keys_grow ns ks in ap (λ xs. has_key xs k) e ∙ has_front ks rest k h

pub has_own : (ks : List Key) (i : ℕ) (d : Key) → i < length ks → has_key ks (get_or ks i d) ≡ true
unfolding has_key
has_own [] i d h = absurd (omega (arith, h))
has_own (j ∷ js) zero d h = ap (λ b. cond b true (has_key js j)) (key_same j)
has_own (j ∷ js) (suc i) d h = by (same_key j (get_or js i d)) (has_own js i d (omega (arith, h)))
  where
    by : (b : Bool) → has_key js (get_or js i d) ≡ true → cond b true (has_key js (get_or js i d)) ≡ true
    by true g = refl
    by false g = g

-- ---- each stands at its own place

abbrev pub Placed : List Key → Type 0
Placed ks = (i : ℕ) (d : Key) → i < length ks → place ks (get_or ks i d) ≡ i

place_front : (ks : List Key) (n k : Key) → has_key ks k ≡ true → place (ks ++ n ∷ []) k ≡ place ks k
unfolding place has_key
place_front [] n k h = absurd (false≢true h)
place_front (j ∷ js) n k h = by (same_key j k) h (place_front js n k)
  where
    by : (b : Bool) → cond b true (has_key js k) ≡ true → (has_key js k ≡ true → place (js ++ n ∷ []) k ≡ place js k) → cond b 0 (suc (place (js ++ n ∷ []) k)) ≡ cond b 0 (suc (place js k))
    by true g rec = refl
    by false g rec = ap suc (rec g)

place_end : (ks : List Key) (n : Key) → has_key ks n ≡ false → place (ks ++ n ∷ []) n ≡ length ks
unfolding place has_key
place_end [] n h = ap (λ b. cond b 0 1) (key_same n)
place_end (j ∷ js) n h = by (same_key j n) h (place_end js n)
  where
    by : (b : Bool) → cond b true (has_key js n) ≡ false → (has_key js n ≡ false → place (js ++ n ∷ []) n ≡ length js) → cond b 0 (suc (place (js ++ n ∷ []) n)) ≡ suc (length js)
    by true g rec = absurd (false≢true (sym g))
    by false g rec = ap suc (rec g)

get_last : (ks : List Key) (n d : Key) → get_or (ks ++ n ∷ []) (length ks) d ≡ n
get_last [] n d = refl
get_last (k ∷ ks) n d = get_last ks n d

either_place : (P : Type 0) (i n : ℕ) → i < suc n → (i < n → P) → (i ≡ n → P) → P
either_place P zero zero h f g = g refl
either_place P zero (suc n) h f g = f (omega arith)
either_place P (suc i) zero h f g = absurd (omega (arith, h))
either_place P (suc i) (suc n) h f g = either_place P i n (omega (arith, h)) (λ a. f (omega (arith, a))) (λ a. g (ap suc a))

placed_more : (ks : List Key) (n : Key) → Placed ks → has_key ks n ≡ false → Placed (ks ++ n ∷ [])
placed_more ks n p h i d l =
    let z : i < suc (length ks) = omega (arith, l, length-append ks (n ∷ [])) in
    either_place (place (ks ++ n ∷ []) (get_or (ks ++ n ∷ []) i d) ≡ i) i (length ks) z
    (λ a. ap (place (ks ++ n ∷ [])) (get_front ks (n ∷ []) i d a) ∙ place_front ks n (get_or ks i d) (has_own ks i d a) ∙ p i d a)
    (λ a. ap (λ j. place (ks ++ n ∷ []) (get_or (ks ++ n ∷ []) j d)) a ∙ ap (place (ks ++ n ∷ [])) (get_last ks n d) ∙ place_end ks n h ∙ sym a)

placed_with : (ks : List Key) (n : Key) → Placed ks → Placed (with_key ks n)
unfolding with_key
placed_with ks n p = by (has_key ks n) refl
  where
    by : (b : Bool) → has_key ks n ≡ b → Placed (cond b ks (ks ++ n ∷ []))
    by true e = p
    by false e = placed_more ks n p e

placed_all : (ks ns : List Key) → Placed ks → Placed (with_keys ks ns)
unfolding with_keys
placed_all ks [] p = p
placed_all ks (n ∷ ns) p = placed_all (with_key ks n) ns (placed_with ks n p)

placed_one : (k : Key) → Placed (k ∷ [])
unfolding place
placed_one k zero d l = ap (λ b. cond b 0 1) (key_same k)
placed_one k (suc i) d l = absurd (omega (arith, l))

pub placed : (root : Key) (bodies : List Body) → Placed (met root bodies)
unfolding met
placed root bodies = placed_all (root ∷ []) (flat_map names bodies) (placed_one root)

-- ---- all of them are there

abbrev pub AllHave : List Key → List Key → Type 0
AllHave ks [] = Unit {0}
AllHave ks (n ∷ ns) = (has_key ks n ≡ true) × AllHave ks ns

all_met : (ks ns : List Key) → AllHave (with_keys ks ns) ns
unfolding with_keys
all_met ks [] = tt
all_met ks (n ∷ ns) = (has_stays (with_key ks n) ns n (has_with ks n), all_met (with_key ks n) ns)

pub all_named : (root : Key) (bodies : List Body) → AllHave (met root bodies) (flat_map names bodies)
unfolding met
all_named root bodies = all_met (root ∷ []) (flat_map names bodies)

pub root_met : (root : Key) (bodies : List Body) → (rest : List Key) × (met root bodies ≡ root ∷ rest)
unfolding met
root_met root bodies = keys_grow (flat_map names bodies) (root ∷ [])

pub all_left : (ks xs ys : List Key) → AllHave ks (xs ++ ys) → AllHave ks xs
all_left ks [] ys h = tt
all_left ks (x ∷ xs) ys h = (h.0, all_left ks xs ys h.1)

pub all_right : (ks xs ys : List Key) → AllHave ks (xs ++ ys) → AllHave ks ys
all_right ks [] ys h = h
all_right ks (x ∷ xs) ys h = all_right ks xs ys h.1

all_both : (ks xs ys : List Key) → AllHave ks xs → AllHave ks ys → AllHave ks (xs ++ ys)
all_both ks [] ys h k = k
all_both ks (x ∷ xs) ys h k = (h.0, all_both ks xs ys h.1 k)

pub all_taken : (ks : List Key) (i : ℕ) (bodies : List Body) → AllHave ks (flat_map names bodies) → AllHave ks (flat_map names (take i bodies))
all_taken ks zero bodies h = tt
all_taken ks (suc i) [] h = tt
all_taken ks (suc i) (b ∷ bodies) h = all_both ks (names b) (flat_map names (take i bodies)) (all_left ks (names b) (flat_map names bodies) h) (all_taken ks i bodies (all_right ks (names b) (flat_map names bodies) h))

-- ---- other keys in their place

module _ (keys : List Key) (g : Key → Key) (apart : (j k : Key) → has_key keys j ≡ true → has_key keys k ≡ true → same_key (g j) (g k) ≡ same_key j k) where
  has_other : (ks : List Key) (n : Key) → AllHave keys ks → has_key keys n ≡ true → has_key (map g ks) (g n) ≡ has_key ks n
  unfolding has_key
  has_other [] n h k = refl
  has_other (j ∷ js) n h k = ap₂ (λ b c. cond b true c) (apart j n h.0 k) (has_other js n h.1 k)

  with_other : (ks : List Key) (n : Key) → AllHave keys ks → has_key keys n ≡ true → (with_key (map g ks) (g n) ≡ map g (with_key ks n)) × AllHave keys (with_key ks n)
  unfolding with_key
  with_other ks n h k = by (has_key ks n) (has_other ks n h k)
    where
      by : (b : Bool) → has_key (map g ks) (g n) ≡ b → (cond (has_key (map g ks) (g n)) (map g ks) (map g ks ++ g n ∷ []) ≡ map g (cond b ks (ks ++ n ∷ []))) × AllHave keys (cond b ks (ks ++ n ∷ []))
      by true e = (ap (λ b. cond b (map g ks) (map g ks ++ g n ∷ [])) e, h)
      by false e = (ap (λ b. cond b (map g ks) (map g ks ++ g n ∷ [])) e ∙ sym (map-append g ks (n ∷ [])), all_both keys ks (n ∷ []) h (k, tt))

  pub all_other : (ks ns : List Key) → AllHave keys ks → AllHave keys ns → with_keys (map g ks) (map g ns) ≡ map g (with_keys ks ns)
  unfolding with_keys
  all_other ks [] h k = refl
  all_other ks (n ∷ ns) h k =
      let r = with_other ks n h k.0 in
      ap (λ xs. with_keys xs (map g ns)) r.0 ∙ all_other (with_key ks n) ns r.1 k.1
