-- Lists that are made item by item, and texts that grow.
use Rattle.std.proofs.Common.{◌≡◌, ℕ, zero, suc, ◌+◌, ◌-◌, ◌<◌, ◌≤◌, List, [], ◌∷◌, ◌++◌, map, length, take, drop, replicate, get_or, slice_get, Some, Result, Ok, Err, OnOk, refl, sym, subst, ap, ap₂, ◌∙◌, append_assoc, append-nil, arith}
use Rattle.std.proofs.lemmas.Option.{none-some, same_Some}
use Rattle.std.proofs.lemmas.List.{replicate-append-replicate, take_all}
use Rattle.std.proofs.lemmas.Grind.{flat_map-append}
use Rattle.std.proofs.lemmas.List.FromFn.{map-range_with_len_more}
use Rattle.std.specs.List.{flat_map, range_with_len}
use Rattle.term.specs.Specs.{PairsInSigma}
use Rattle.term.specs.Traces.{Pairs}
use Rattle.alphabet.specs.Channels.{Values}
use Rattle.printing.specs.Printed.{joined, field_text, fields_text}

module _ {X Y : Type 0} (f : X → List Y) where
  flat_suc : (xs : List X) (i : ℕ) (x : X) → slice_get xs i ≡ Some x → flat_map f (take (suc i) xs) ≡ flat_map f (take i xs) ++ f x
  flat_suc [] i x e = absurd (none-some x e)
  flat_suc (w ∷ xs) zero x e = append-nil (f w) ∙ ap f (same_Some w x e)
  flat_suc (w ∷ xs) (suc i) x e = ap (λ ys. f w ++ ys) (flat_suc xs i x e) ∙ sym (append_assoc (f w) (flat_map f (take i xs)) (f x))

  -- what comes of the first items, and of one item more
  pub flat_next : (xs : List X) (i : ℕ) (x : X) → slice_get xs i ≡ Some x → flat_map f (take (i + 1) xs) ≡ flat_map f (take i xs) ++ f x
  flat_next xs i x e =
      let k : i + 1 ≡ suc i = omega arith in
      ap (λ (n : ℕ). flat_map f (take n xs)) k ∙ flat_suc xs i x e

map_suc : {X Y : Type 0} (f : X → Y) (xs : List X) (i : ℕ) (x : X) → slice_get xs i ≡ Some x → map f (take (suc i) xs) ≡ map f (take i xs) ++ f x ∷ []
map_suc f [] i x e = absurd (none-some x e)
map_suc f (w ∷ xs) zero x e = ap (λ y. f y ∷ []) (same_Some w x e)
map_suc f (w ∷ xs) (suc i) x e = ap (λ ys. f w ∷ ys) (map_suc f xs i x e)

pub map_next : {X Y : Type 0} (f : X → Y) (xs : List X) (i : ℕ) (x : X) → slice_get xs i ≡ Some x → map f (take (i + 1) xs) ≡ map f (take i xs) ++ f x ∷ []
map_next f xs i x e =
    let k : i + 1 ≡ suc i = omega arith in
    ap (λ (n : ℕ). map f (take n xs)) k ∙ map_suc f xs i x e

-- an item that was read stands there
pub got : {X : Type 0} (xs : List X) (i : ℕ) (x d : X) → i < length xs → x ≡ get_or xs i d → slice_get xs i ≡ Some x
got [] i x d h e = absurd (omega (arith, h))
got (w ∷ xs) zero x d h e = ap (λ y. Some y) (sym e)
got (w ∷ xs) (suc i) x d h e = got xs i x d (omega (arith, h)) e

flat_seen : {V X Y : Type 0} (view : V → X) (f : X → List Y) (vs : List V) → flat_map f (map view vs) ≡ flat_map (λ v. f (view v)) vs
flat_seen view f [] = refl
flat_seen view f (v ∷ vs) = ap (λ ys. f (view v) ++ ys) (flat_seen view f vs)

pub flat_more : {V X Y : Type 0} (view : V → X) (f : X → List Y) (vs : List V) (i : ℕ) (v : V) → i < length vs → v ≡ get_or vs i v → flat_map f (map view (take (i + 1) vs)) ≡ flat_map f (map view (take i vs)) ++ f (view v)
flat_more view f vs i v h e =
    flat_seen view f (take (i + 1) vs) ∙ flat_next (λ w. f (view w)) vs i v (got vs i v v h e)
    ∙ ap (λ ys. ys ++ f (view v)) (sym (flat_seen view f (take i vs)))

-- ---- texts that grow by an item

-- an item after what parts it from those before
pub behind_item : {V : Type 0} (between : List ℕ) (text : V → List ℕ) (start now new : List ℕ) (vs : List V) (i : ℕ) (v d : V) → i < length vs → v ≡ get_or vs i d →
    now ≡ start ++ flat_map (λ w. between ++ text w) (take i vs) → new ≡ (now ++ between) ++ text v → new ≡ start ++ flat_map (λ w. between ++ text w) (take (i + 1) vs)
behind_item between text start now new vs i v d h e is more =
    more ∙ append_assoc now between (text v) ∙ ap (λ t. t ++ (between ++ text v)) is
    ∙ append_assoc start (flat_map (λ w. between ++ text w) (take i vs)) (between ++ text v)
    ∙ ap (λ t. start ++ t) (sym (flat_next (λ w. between ++ text w) vs i v (got vs i v d h e)))

-- no item yet
pub none_yet : {X : Type 0} (f : X → List ℕ) (start : List ℕ) (xs : List X) → start ≡ start ++ flat_map f (take 0 xs)
none_yet f start xs = sym (append-nil start)

-- all items
pub all_put : {X : Type 0} (f : X → List ℕ) (start now : List ℕ) (xs : List X) (i : ℕ) → length xs ≤ i → now ≡ start ++ flat_map f (take i xs) → now ≡ start ++ flat_map f xs
all_put f start now xs i h is = is ∙ ap (λ ys. start ++ flat_map f ys) (take_all i xs h)

-- the next one of a list
pub next_item : {X : Type 0} (f : X → List ℕ) (start now new : List ℕ) (xs : List X) (i : ℕ) (x : X) → slice_get xs i ≡ Some x →
    now ≡ start ++ flat_map f (take i xs) → new ≡ now ++ f x → new ≡ start ++ flat_map f (take (i + 1) xs)
next_item f start now new xs i x e is more =
    more ∙ ap (λ t. t ++ f x) is ∙ append_assoc start (flat_map f (take i xs)) (f x) ∙ ap (λ t. start ++ t) (sym (flat_next f xs i x e))

-- ---- texts with something between them

pub on_ok : {T E : Type 0} (r : Result T E) (P Q : Type 0) → OnOk r P → (P → Q) → OnOk r Q
on_ok (Ok x) P Q h f = f h
on_ok (Err e) P Q h f = h

rest_is : {V : Type 0} (w : V) (vs : List V) → take (length (w ∷ vs) - 1) (drop 1 (w ∷ vs)) ≡ vs
rest_is w vs =
    let e : suc (length vs) - 1 ≡ length vs = omega arith in
    ap (λ (n : ℕ). take n vs) e ∙ take_all (length vs) vs (omega arith)

others : {X : Type 0} (between : List ℕ) (text : X → List ℕ) (xs : List X) → flat_map (λ u. between ++ u) (map text xs) ≡ flat_map (λ x. between ++ text x) xs
others between text [] = refl
others between text (x ∷ xs) = ap (λ t. (between ++ text x) ++ t) (others between text xs)

-- the first text, and the others each after what stands between them
pub first_and_others : {X : Type 0} (between : List ℕ) (text : X → List ℕ) (start first new : List ℕ) (xs : List X) (x d : X) → 1 ≤ length xs → x ≡ get_or xs 0 d →
    first ≡ start ++ text x → new ≡ first ++ flat_map (λ y. between ++ text y) (take (length xs - 1) (drop 1 xs)) → new ≡ start ++ joined between (map text xs)
first_and_others between text start first new [] x d h e is more = absurd (omega arith)
first_and_others between text start first new (w ∷ xs) x d h e is more =
    more ∙ ap₂ (λ t ys. t ++ flat_map (λ y. between ++ text y) ys) (is ∙ ap (λ y. start ++ text y) e) (rest_is w xs)
    ∙ append_assoc start (text w) (flat_map (λ y. between ++ text y) xs) ∙ ap (λ t. start ++ (text w ++ t)) (sym (others between text xs))

pub map_seen : {V X : Type 0} (view : V → X) (text : X → List ℕ) (vs : List V) → map (λ v. text (view v)) vs ≡ map text (map view vs)
map_seen view text [] = refl
map_seen view text (v ∷ vs) = ap (λ ts. text (view v) ∷ ts) (map_seen view text vs)

-- the fields of a channel that has some
pub fields_put : (start : List ℕ) (fields : List Values) → 1 ≤ length fields → (start ++ (32 ∷ 58 ∷ 32 ∷ [])) ++ joined (46 ∷ []) (map field_text fields) ≡ start ++ fields_text fields
fields_put start [] h = absurd (omega arith)
fields_put start (f ∷ fs) h = append_assoc start (32 ∷ 58 ∷ 32 ∷ []) (joined (46 ∷ []) (map field_text (f ∷ fs)))

-- ---- pairs within Sigma

pairs_rest : (n : ℕ) (p : ℕ × ℕ) (R : Pairs) → PairsInSigma n (p ∷ R) → PairsInSigma n R
pairs_rest n p R l k d h = l (suc k) d (omega arith)

pub others_within : (n : ℕ) (R : Pairs) → 1 ≤ length R → PairsInSigma n R → PairsInSigma n (take (length R - 1) (drop 1 R))
others_within n [] h l = absurd (omega arith)
others_within n (p ∷ R) h l = subst (λ (qs : Pairs). PairsInSigma n qs) (sym (rest_is p R)) (pairs_rest n p R l)

-- ---- primes

pub one_more_prime : (start text new : List ℕ) (i : ℕ) → text ≡ start ++ replicate i 39 → new ≡ text ++ 39 ∷ [] → new ≡ start ++ replicate (i + 1) 39
one_more_prime start text new i is more =
    more ∙ ap (λ t. t ++ 39 ∷ []) is ∙ append_assoc start (replicate i 39) (39 ∷ []) ∙ ap (λ t. start ++ t) (replicate-append-replicate i 1 39)

-- ---- items by number

flat_range : (f : ℕ → List ℕ) (k : ℕ) → flat_map f (range_with_len 0 (k + 1)) ≡ flat_map f (range_with_len 0 k) ++ f k
flat_range f k =
    sym (flat_seen f (λ y. y) (range_with_len 0 (k + 1))) ∙ ap (flat_map (λ y. y)) (map-range_with_len_more f 0 k k (omega arith))
    ∙ flat_map-append (λ y. y) (map f (range_with_len 0 k)) (f k ∷ [])
    ∙ ap₂ (λ a b. a ++ b) (flat_seen f (λ y. y) (range_with_len 0 k)) (append-nil (f k))

-- the items with all numbers
pub all_numbers : (f : ℕ → List ℕ) (start now : List ℕ) (k n : ℕ) → k ≡ n → now ≡ start ++ flat_map f (range_with_len 0 k) → now ≡ start ++ flat_map f (range_with_len 0 n)
all_numbers f start now k n same is = is ∙ ap (λ (j : ℕ). start ++ flat_map f (range_with_len 0 j)) same

-- the item with the next number
pub next_number : (f : ℕ → List ℕ) (start now new : List ℕ) (k : ℕ) → now ≡ start ++ flat_map f (range_with_len 0 k) → new ≡ now ++ f k → new ≡ start ++ flat_map f (range_with_len 0 (k + 1))
next_number f start now new k is more =
    more ∙ ap (λ t. t ++ f k) is ∙ append_assoc start (flat_map f (range_with_len 0 k)) (f k) ∙ ap (λ t. start ++ t) (sym (flat_range f k))
