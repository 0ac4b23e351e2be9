-- The pairs of a renaming in order.
use Rattle.std.proofs.Common.{◌≡◌, ℕ, zero, suc, ◌+◌, ◌<◌, List, [], ◌∷◌, ◌++◌, length, map, take, get_or, filter, Bool, true, false, cond, ◌&&◌, ◌||◌, nat_eq, refl, sym, ap, ap₂, ◌∙◌, arith, take-suc, append_assoc, append-nil}
use Rattle.std.specs.List.{list_any, flat_map, range_with_len}
use Rattle.std.proofs.lemmas.List.{map-append}
use Rattle.std.proofs.lemmas.List.Elements.{filter-append}
use Rattle.std.proofs.lemmas.List.Concat.{flat_map-append}
use Rattle.alphabet.specs.declared.events.Event.{Event}
use Rattle.alphabet.specs.declared.events.Event.TheVariants.{Of as ev}
use Rattle.alphabet.specs.Events.{is_event}
use Rattle.alphabet.specs.EventSets.{Set, has, member}
use Rattle.term.specs.Traces.{Pairs}
use Rattle.event_phrases.specs.Events.{is_pair_of}

any_push : {A : Type 0} (f : A → Bool) (xs : List A) (x : A) → list_any f (xs ++ x ∷ []) ≡ (f x || list_any f xs)
any_push f [] x = refl
any_push f (y ∷ ys) x = ap (λ b. f y || b) (any_push f ys x) ∙ turn (f y) (f x) (list_any f ys)
  where
    turn : (a b c : Bool) → (a || (b || c)) ≡ (b || (a || c))
    turn true true c = refl
    turn true false c = refl
    turn false true c = refl
    turn false false c = refl

take_more : {A : Type 0} (xs : List A) (i : ℕ) (x : A) → i < length xs → x ≡ get_or xs i x → take (i + 1) xs ≡ take i xs ++ x ∷ []
take_more xs i x h is =
    let e : i + 1 ≡ suc i = omega arith in
    ap (λ k. take k xs) e ∙ take-suc xs i x h ∙ ap (λ y. take i xs ++ y ∷ []) (sym is)

pub no_pairs : (a : ℕ) (S : Set) → ((x : Event) → member S x ≡ false) → (b : ℕ) → has S b ≡ is_pair_of [] a b
unfolding is_pair_of
no_pairs a S m b = m (ev b)

same_get : {A : Type 0} (xs : List A) (i : ℕ) (d e : A) → i < length xs → get_or xs i d ≡ get_or xs i e
same_get [] i d e h = absurd (omega (arith, h))
same_get (x ∷ xs) zero d e h = refl
same_get (x ∷ xs) (suc i) d e h = same_get xs i d e (omega (arith, h))

pub itself_at : {A : Type 0} (xs : List A) (i : ℕ) (d : A) → i < length xs → get_or xs i d ≡ get_or xs i (get_or xs i d)
itself_at xs i d h = same_get xs i d (get_or xs i d) h

-- the events to which the first i pairs take a
module _ (R : Pairs) (a i : ℕ) (p : ℕ × ℕ) (S T : Set) (before : (b : ℕ) → has S b ≡ is_pair_of (take i R) a b) (h : i < length R) (is : p ≡ get_or R i p) where
  next_pair : (b : ℕ) (t : Bool) → nat_eq p.0 a ≡ t → is_pair_of (take (i + 1) R) a b ≡ ((t && nat_eq p.1 b) || is_pair_of (take i R) a b)
  unfolding is_pair_of
  next_pair b t e = ap (list_any (λ p. nat_eq p.0 a && nat_eq p.1 b)) (take_more R i p h is) ∙ any_push (λ p. nat_eq p.0 a && nat_eq p.1 b) (take i R) p ∙ ap (λ t. (t && nat_eq p.1 b) || list_any (λ p. nat_eq p.0 a && nat_eq p.1 b) (take i R)) e

  pub pair_more : nat_eq p.0 a ≡ true → ((x : Event) → member T x ≡ (is_event (ev p.1) x || member S x)) → (b : ℕ) → has T b ≡ is_pair_of (take (i + 1) R) a b
  pair_more e m b = m (ev b) ∙ ap (λ t. nat_eq p.1 b || t) (before b) ∙ sym (next_pair b true e)

  pub pair_less : nat_eq p.0 a ≡ false → (b : ℕ) → has S b ≡ is_pair_of (take (i + 1) R) a b
  pair_less e b = before b ∙ sym (next_pair b false e)

-- ---- in order

range_push : (k n : ℕ) → range_with_len k (suc n) ≡ range_with_len k n ++ (k + n) ∷ []
range_push k zero = let e : k ≡ k + 0 = omega arith in ap (λ m. m ∷ []) e
range_push k (suc n) = let e : k + 1 + n ≡ k + suc n = omega arith in ap (λ ms. k ∷ ms) (range_push (k + 1) n ∙ ap (λ m. range_with_len (k + 1) n ++ m ∷ []) e)

range_next : (n : ℕ) → range_with_len 0 (n + 1) ≡ range_with_len 0 n ++ n ∷ []
range_next n =
    let e : n + 1 ≡ suc n = omega arith in
    let z : 0 + n ≡ n = omega arith in
    ap (range_with_len 0) e ∙ range_push 0 n ∙ ap (λ m. range_with_len 0 n ++ m ∷ []) z

module _ {B : Type 0} (g : ℕ → B) (f : ℕ → Bool) (front into : List B) (n : ℕ) (before : into ≡ front ++ map g (filter f (range_with_len 0 n))) where
  next_all : (t : Bool) → f n ≡ t → front ++ map g (filter f (range_with_len 0 (n + 1))) ≡ into ++ map g (cond t (n ∷ []) [])
  next_all t e =
      ap (λ ns. front ++ map g (filter f ns)) (range_next n) ∙ ap (λ ns. front ++ map g ns) (filter-append f (range_with_len 0 n) (n ∷ []) ∙ ap (λ t. filter f (range_with_len 0 n) ++ cond t (n ∷ []) []) e)
      ∙ ap (λ bs. front ++ bs) (map-append g (filter f (range_with_len 0 n)) (cond t (n ∷ []) [])) ∙ sym (append_assoc front (map g (filter f (range_with_len 0 n))) (map g (cond t (n ∷ []) []))) ∙ ap (λ bs. bs ++ map g (cond t (n ∷ []) [])) (sym before)

  pub kept_more : (new : List B) → f n ≡ true → new ≡ into ++ g n ∷ [] → new ≡ front ++ map g (filter f (range_with_len 0 (n + 1)))
  kept_more new e h = h ∙ sym (next_all true e)

  pub kept_less : (new : List B) → f n ≡ false → new ≡ into → new ≡ front ++ map g (filter f (range_with_len 0 (n + 1)))
  kept_less new e h = h ∙ sym (next_all false e ∙ append-nil into)

same_filter : (f g : ℕ → Bool) (ns : List ℕ) → ((n : ℕ) → f n ≡ g n) → filter f ns ≡ filter g ns
same_filter f g ns h = λ i. filter (λ n. h n i) ns

pub event_more : (R : Pairs) (count n : ℕ) (into new : List (ℕ × ℕ)) (S : Set) → into ≡ flat_map (λ a. map (λ b. (a, b)) (filter (is_pair_of R a) (range_with_len 0 count))) (range_with_len 0 n) → ((b : ℕ) → has S b ≡ is_pair_of R n b) → new ≡ into ++ map (λ b. (n, b)) (filter (has S) (range_with_len 0 count))
    → new ≡ flat_map (λ a. map (λ b. (a, b)) (filter (is_pair_of R a) (range_with_len 0 count))) (range_with_len 0 (n + 1))
event_more R count n into new S before h is =
    let f : ℕ → List (ℕ × ℕ) = λ a. map (λ b. (a, b)) (filter (is_pair_of R a) (range_with_len 0 count)) in
    is ∙ ap₂ (λ xs ns. xs ++ map (λ b. (n, b)) ns) before (same_filter (has S) (is_pair_of R n) (range_with_len 0 count) h)
    ∙ ap (λ xs. flat_map f (range_with_len 0 n) ++ xs) (sym (append-nil (f n)))
    ∙ sym (ap (flat_map f) (range_next n) ∙ flat_map-append f (range_with_len 0 n) (n ∷ []))
