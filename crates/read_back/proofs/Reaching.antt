-- The bodies of a printed script are reached from its first body, each by its number.
use Rattle.std.proofs.Common.{◌≡◌, ℕ, zero, suc, ◌<◌, ◌≤◌, ◌^◌, List, [], ◌∷◌, ◌++◌, map, length, take, get_or, replicate, nat_eq, Bool, true, false, cond, ◌&&◌, Option, Some, inl, inr, refl, sym, ap, ap₂, ◌∙◌, subst, arith}
use Rattle.std.specs.Prelude.{codes, decimal}
use Rattle.std.proofs.lemmas.Bool.{false≢true}
use Rattle.std.proofs.lemmas.Bool.Decides.{eqb_tells}
use Rattle.std.proofs.lemmas.List.{length-map, map-append, append_cancel_left, append_cancel_right}
use Rattle.std.proofs.lemmas.Fmt.{decimal_injective}
use Rattle.std.specs.Cmp.{nat_eq_equiv}
use Rattle.std.specs.Cmp.Lexicographic.{bytes_decides}
use Rattle.std.specs.List.{flat_map}
use Rattle.term.specs.Proc as procs
use Rattle.term.specs.Proc.{Proc, bodies_of}
use Rattle.values.specs.Names.{same_name}
use Rattle.denotation.specs.Bodies.{Key, same_key, Body, stop, skip, prefix, ext, int, seq, par, hide, ren, intr, name, names, numbered}
use Rattle.denotation.specs.Denotes.{place, has_key, with_keys, met, Reached}
use Rattle.denotation.proofs.Keys.{key_is, key_same}
use Rattle.denotation.proofs.Reached.{get_or_view}
use Rattle.printing.specs.Names.{body_name}
use Rattle.printing.specs.Printed.{reference}
use Rattle.read_back.proofs.Readable.{referred}
use Rattle.read_back.proofs.Numbers.{at_place, has_own, AllHave, Placed, placed, all_named, root_met, all_taken, all_left, all_right, all_other}

-- ---- printed names of bodies

pub reference_is : (primes i j : ℕ) → i < 2 ^ 64 → j < 2 ^ 64 → reference primes i ≡ reference primes j → i ≡ j
reference_is primes i j h k e = decimal_injective i j h k (append_cancel_left (codes "P") (decimal i) (decimal j) (append_cancel_right (body_name i) (body_name j) (replicate primes 39) e))

same_reference : (primes i j : ℕ) → i < 2 ^ 64 → j < 2 ^ 64 → same_name (reference primes i) (reference primes j) ≡ nat_eq i j
same_reference primes i j h k = by (same_name (reference primes i) (reference primes j)) refl
  where
    by : (b : Bool) → same_name (reference primes i) (reference primes j) ≡ b → same_name (reference primes i) (reference primes j) ≡ nat_eq i j
    by true e = e ∙ sym (ap (nat_eq i) (sym (reference_is primes i j h k ((bytes_decides (reference primes i) (reference primes j)).0 e))) ∙ nat_eq_equiv.refl i)
    by false e = elim (eqb_tells i j) [
      | inl p ↦ absurd (false≢true (sym e ∙ (bytes_decides (reference primes i) (reference primes j)).1 (ap (reference primes) p.1)))
      | inr p ↦ e ∙ sym p.0
    ]

abbrev pub printed_key : ℕ → ℕ → Key
printed_key primes k = (reference primes k, [])

same_printed : (primes i j : ℕ) → i < 2 ^ 64 → j < 2 ^ 64 → same_key (printed_key primes i) (printed_key primes j) ≡ nat_eq i j
unfolding same_key
same_printed primes i j h k = ap (λ b. b && true) (same_reference primes i j h k) ∙ plain (nat_eq i j)
  where
    plain : (b : Bool) → (b && true) ≡ b
    plain true = refl
    plain false = refl

-- ---- bodies with printed names

names_referred : (primes : ℕ) (f : Key → ℕ) (b : Body) → names (referred primes (numbered f b)) ≡ map (λ k. printed_key primes (f k)) (names b)
unfolding names numbered
names_referred primes f stop = refl
names_referred primes f skip = refl
names_referred primes f (prefix a p) = names_referred primes f p
names_referred primes f (ext p q) = ap₂ (λ x y. x ++ y) (names_referred primes f p) (names_referred primes f q) ∙ sym (map-append (λ k. printed_key primes (f k)) (names p) (names q))
names_referred primes f (int p q) = ap₂ (λ x y. x ++ y) (names_referred primes f p) (names_referred primes f q) ∙ sym (map-append (λ k. printed_key primes (f k)) (names p) (names q))
names_referred primes f (seq p q) = ap₂ (λ x y. x ++ y) (names_referred primes f p) (names_referred primes f q) ∙ sym (map-append (λ k. printed_key primes (f k)) (names p) (names q))
names_referred primes f (par A p q) = ap₂ (λ x y. x ++ y) (names_referred primes f p) (names_referred primes f q) ∙ sym (map-append (λ k. printed_key primes (f k)) (names p) (names q))
names_referred primes f (hide A p) = names_referred primes f p
names_referred primes f (ren R p) = names_referred primes f p
names_referred primes f (intr p q) = ap₂ (λ x y. x ++ y) (names_referred primes f p) (names_referred primes f q) ∙ sym (map-append (λ k. printed_key primes (f k)) (names p) (names q))
names_referred primes f (name k) = refl

all_referred : (primes : ℕ) (f : Key → ℕ) (bs : List Body) → flat_map names (map (referred primes) (map (numbered f) bs)) ≡ map (λ k. printed_key primes (f k)) (flat_map names bs)
all_referred primes f [] = refl
all_referred primes f (b ∷ bs) = ap₂ (λ x y. x ++ y) (names_referred primes f b) (all_referred primes f bs) ∙ sym (map-append (λ k. printed_key primes (f k)) (names b) (flat_map names bs))

-- all names are of definitions in the list
module _ (keys : List Key) (h : Key → ℕ) (f : Key → ℕ) (primes : ℕ) (back : (k : Key) → has_key keys k ≡ true → h (printed_key primes (f k)) ≡ f k) where
  again : (b : Body) → AllHave keys (names b) → numbered h (referred primes (numbered f b)) ≡ numbered f b
  unfolding names numbered
  again stop a = refl
  again skip a = refl
  again (prefix e p) a = ap (procs.prefix e) (again p a)
  again (ext p q) a = ap₂ procs.ext (again p (all_left keys (names p) (names q) a)) (again q (all_right keys (names p) (names q) a))
  again (int p q) a = ap₂ procs.int (again p (all_left keys (names p) (names q) a)) (again q (all_right keys (names p) (names q) a))
  again (seq p q) a = ap₂ procs.seq (again p (all_left keys (names p) (names q) a)) (again q (all_right keys (names p) (names q) a))
  again (par A p q) a = ap₂ (procs.par A) (again p (all_left keys (names p) (names q) a)) (again q (all_right keys (names p) (names q) a))
  again (hide A p) a = ap (procs.hide A) (again p a)
  again (ren R p) a = ap (procs.ren R) (again p a)
  again (intr p q) a = ap₂ procs.intr (again p (all_left keys (names p) (names q) a)) (again q (all_right keys (names p) (names q) a))
  again (name k) a = ap procs.name (back k a.0)

  all_again : (bs : List Body) → AllHave keys (flat_map names bs) → map (numbered h) (map (referred primes) (map (numbered f) bs)) ≡ map (numbered f) bs
  all_again [] a = refl
  all_again (b ∷ bs) a = ap₂ (λ p ps. p ∷ ps) (again b (all_left keys (names b) (flat_map names bs) a)) (all_again bs (all_right keys (names b) (flat_map names bs) a))

-- ---- lists

each_is : (f : Key → Option Body) (ks : List Key) (bs : List Body) (d : Key) (e : Body) → length ks ≡ length bs → ((i : ℕ) → i < length ks → f (get_or ks i d) ≡ Some (get_or bs i e)) → map f ks ≡ map Some bs
each_is f [] [] d e l h = refl
each_is f [] (b ∷ bs) d e l h = absurd (omega (arith, l))
each_is f (k ∷ ks) [] d e l h = absurd (omega (arith, l))
each_is f (k ∷ ks) (b ∷ bs) d e l h = ap₂ (λ x xs. x ∷ xs) (h 0 (omega arith)) (each_is f ks bs d e (omega (arith, l)) (λ i a. h (suc i) (omega (arith, a))))

take_map : {A B : Type 0} (f : A → B) (i : ℕ) (xs : List A) → take i (map f xs) ≡ map f (take i xs)
take_map f zero xs = refl
take_map f (suc i) [] = refl
take_map f (suc i) (x ∷ xs) = ap (λ ys. f x ∷ ys) (take_map f i xs)

pub reached_many : (f : Key → Option Body) (root : Key) (keys : List Key) (bodies : List Body) → Reached f root keys bodies → length keys ≡ length bodies
reached_many f root keys bodies r = sym (length-map keys f) ∙ ap length r.each ∙ length-map bodies (λ b. Some b)

-- ---- what is reached in the printed script

module _ (f : Key → Option Body) (root : Key) (keys : List Key) (bodies : List Body) (reached : Reached f root keys bodies) (primes : ℕ) (few : length keys ≤ 65536) where
  abbrev pub other : Key → Key
  other k = printed_key primes (place keys k)

  abbrev pub found : List Proc
  found = map (numbered (place keys)) bodies

  abbrev pub printed_bodies : List Body
  printed_bodies = map (referred primes) found

  abbrev pub printed_keys : List Key
  printed_keys = map other keys

  apart : (j k : Key) → has_key keys j ≡ true → has_key keys k ≡ true → same_key (other j) (other k) ≡ same_key j k
  apart j k h l =
      let a = at_place keys j root h in
      let b = at_place keys k root l in
      same_printed primes (place keys j) (place keys k) (omega (arith, a.0, few)) (omega (arith, b.0, few)) ∙ by (same_key j k) refl a.1 b.1
    where
      by : (b : Bool) → same_key j k ≡ b → get_or keys (place keys j) root ≡ j → get_or keys (place keys k) root ≡ k → nat_eq (place keys j) (place keys k) ≡ b
      by true e x y = ap (λ i. nat_eq (place keys j) (place keys i)) (sym (key_is j k e)) ∙ nat_eq_equiv.refl (place keys j)
      by false e x y = elim (eqb_tells (place keys j) (place keys k)) [
        | inl p ↦ absurd (false≢true (sym e ∙ ap (same_key j) (sym (sym x ∙ ap (λ i. get_or keys i root) p.1 ∙ y)) ∙ key_same j))
        | inr p ↦ p.0
      ]

  all_there : AllHave keys (flat_map names bodies)
  all_there = subst (λ ks. AllHave ks (flat_map names bodies)) reached.first (all_named root bodies)

  root_there : (has_key keys root ≡ true) × (place keys root ≡ 0)
  unfolding has_key place
  root_there =
      let (rest, e) = root_met root bodies in
      let f = sym reached.first ∙ e in
      (ap (λ ks. has_key ks root) f ∙ ap (λ b. cond b true (has_key rest root)) (key_same root), ap (λ ks. place ks root) f ∙ ap (λ b. cond b 0 (suc (place rest root))) (key_same root))

  each_placed : Placed keys
  each_placed = subst Placed reached.first (placed root bodies)

  as_many : length keys ≡ length bodies
  as_many = reached_many f root keys bodies reached

  met_so : (bs : List Body) → AllHave keys (flat_map names bs) → met (printed_key primes 0) (map (referred primes) (map (numbered (place keys)) bs)) ≡ map other (met root bs)
  unfolding met
  met_so bs h =
      ap₂ (λ k ns. with_keys (k ∷ []) ns) (ap (printed_key primes) (sym root_there.1)) (all_referred primes (place keys) bs)
      ∙ all_other keys other apart (root ∷ []) (flat_map names bs) (root_there.0, tt) h

  printed_first : met (printed_key primes 0) printed_bodies ≡ printed_keys
  printed_first = met_so bodies all_there ∙ ap (map other) reached.first

  printed_below : (i : ℕ) → i < length printed_keys → i < length (met (printed_key primes 0) (take i printed_bodies))
  printed_below i l =
      let front : take i printed_bodies ≡ map (referred primes) (map (numbered (place keys)) (take i bodies)) = take_map (referred primes) i found ∙ ap (map (referred primes)) (take_map (numbered (place keys)) i bodies) in
      let same : met (printed_key primes 0) (take i printed_bodies) ≡ map other (met root (take i bodies)) = ap (met (printed_key primes 0)) front ∙ met_so (take i bodies) (all_taken keys i bodies all_there) in
      let long : length (met (printed_key primes 0) (take i printed_bodies)) ≡ length (met root (take i bodies)) = ap length same ∙ length-map (met root (take i bodies)) other in
      let before : i < length (met root (take i bodies)) = reached.below i (omega (arith, l, length-map keys other)) in
      omega (arith, long, before)

  place_so : (ks : List Key) (k : Key) → AllHave keys ks → has_key keys k ≡ true → place (map other ks) (other k) ≡ place ks k
  unfolding place
  place_so [] k h l = refl
  place_so (j ∷ js) k h l = ap₂ (λ b n. cond b 0 (suc n)) (apart j k h.0 l) (place_so js k h.1 l)

  themselves : (ks : List Key) → ((i : ℕ) → i < length ks → has_key keys (get_or ks i root) ≡ true) → AllHave keys ks
  themselves [] h = tt
  themselves (k ∷ ks) h = (h 0 (omega arith), themselves ks (λ i a. h (suc i) (omega (arith, a))))

  all_keys : AllHave keys keys
  all_keys = themselves keys (λ i a. has_own keys i root a)

  pub printed_numbers : map (numbered (place printed_keys)) printed_bodies ≡ found
  printed_numbers = all_again keys (place printed_keys) (place keys) primes (λ k h. place_so keys k all_keys h) bodies all_there

  -- where each printed name has its body, they are what is reached
  module _ (g : Key → Option Body) (given : (k : ℕ) → k < length found → g (printed_key primes k) ≡ Some (referred primes (bodies_of found k))) where
    nth : (i : ℕ) → i < length printed_keys → g (get_or printed_keys i (other root)) ≡ Some (get_or printed_bodies i stop)
    nth i l =
        let long : length printed_keys ≡ length keys = length-map keys other in
        let more : length found ≡ length bodies = length-map bodies (numbered (place keys)) in
        let m = as_many in
        let a : i < length keys = omega (arith, l, long) in
        let b : i < length found = omega (arith, a, m, more) in
        ap g (get_or_view other keys i (other root) root a ∙ ap (printed_key primes) (each_placed i root a))
        ∙ given i b
        ∙ ap (λ q. Some q) (sym (get_or_view (referred primes) found i stop procs.stop b))

    pub printed_reached : Reached g (printed_key primes 0) printed_keys printed_bodies
    printed_reached =
        let long : length printed_keys ≡ length keys = length-map keys other in
        let more : length printed_bodies ≡ length found = length-map found (referred primes) in
        let most : length found ≡ length bodies = length-map bodies (numbered (place keys)) in
        let m = as_many in
        record {
          each = each_is g printed_keys printed_bodies (other root) stop (omega (arith, long, more, most, m)) nth;
          first = printed_first;
          below = printed_below;
        }
