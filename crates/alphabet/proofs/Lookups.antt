-- A name looked up in the table of names.
use Rattle.std.proofs.Common.{◌≡◌, ◌↔◌, ℕ, ◌+◌, ◌<◌, Bool, true, false, List, [], ◌∷◌, ◌++◌, map, take, if◌then◌else◌, nat_eq, position, length, slice_get, Some, None, refl, sym, ap, ◌∙◌, subst, get_or, arith, ◌⊎◌, inl, inr}
use Rattle.std.proofs.lemmas.Bool.{false≢true}
use Rattle.std.proofs.lemmas.Option.{none-some, slice_get-map, slice_get-get_or, slice_get_within, get_or_from_slice_get}
use Rattle.std.proofs.lemmas.List.Quantifiers.{position-Some}
use Rattle.std.proofs.Math.Seq.{take-append_seam}
use Rattle.std.specs.List.{list_any}
use Rattle.std.proofs.lemmas.List.{map-append, length-map, take-map}
use Rattle.indexmap.specs.IndexSet.{insert_key}
use Rattle.std.specs.Option.{option_map}
use Rattle.std.specs.Cmp.Lexicographic.{pointwise, bytes_decides}
use Rattle.alphabet.specs.Events.{Event, tick, ev}
use Rattle.alphabet.specs.Names.{tick_name}
use Rattle.alphabet.specs.Channels.{Channel, names, name_of, place_of, event_count, IsEvent, IsAlphabet}
use Rattle.alphabet.specs.Elements.{In}
use Rattle.alphabet.proofs.Lists.{In-map, In-under_map, none-from_In, In-at, none-In, same_place}
use Rattle.alphabet.proofs.DistinctNames.{names_distinct, names_without_tick}

-- the place that a look-up gave has the name
pub found_name : {K : Type 0} (f : K → List ℕ) (keys : List K) (n : List ℕ) (i : ℕ) → position (λ k. pointwise nat_eq n (f k)) keys ≡ Some i → slice_get (map f keys) i ≡ Some n
found_name f [] n i e = absurd (none-some i e)
found_name f (k ∷ keys) n i e =
    let p = position-Some (λ x. pointwise nat_eq n (f x)) (k ∷ keys) i k e in
    slice_get-map f (k ∷ keys) i
    ∙ ap (option_map f) (slice_get-get_or (k ∷ keys) i k p.0)
    ∙ ap Some (sym ((bytes_decides n (f (get_or (k ∷ keys) i k))).0 p.1))

-- a name that no look-up finds stands nowhere
pub missing_name : {K : Type 0} (f : K → List ℕ) (keys : List K) (n : List ℕ) → list_any (λ k. pointwise nat_eq n (f k)) keys ≡ false → (i : ℕ) → slice_get (map f keys) i ≡ Some n → ⊥
missing_name f keys n none i e =
    let k = In-map f keys (In-at (map f keys) i e) in
    false≢true (sym (none-In (λ x. pointwise nat_eq n (f x)) keys none k.1) ∙ (bytes_decides n (f k.0)).1 k.2)

not_this : {K : Type 0} (f : K → List ℕ) (keys : List K) (k x : K) (b : Bool) → pointwise nat_eq (f k) (f x) ≡ b → (In (f k) (map f keys) → ⊥) → In x keys → b ≡ false
not_this f keys k x true e none i = absurd (none (subst (λ n. In n (map f keys)) (sym ((bytes_decides (f k) (f x)).0 e)) (In-under_map f keys i)))
not_this f keys k x false e none i = refl

-- a name that isn't among the keys is found by no look-up
pub not_among : {K : Type 0} (f : K → List ℕ) (keys : List K) (k : K) → (In (f k) (map f keys) → ⊥) → list_any (λ x. pointwise nat_eq (f k) (f x)) keys ≡ false
not_among f keys k none = none-from_In (λ x. pointwise nat_eq (f k) (f x)) keys (λ x i. not_this f keys k x (pointwise nat_eq (f k) (f x)) refl none i)

-- the table with one name more
pub inserted : {K : Type 0} (f : K → List ℕ) (keys new : List K) (k : K) → (In (f k) (map f keys) → ⊥) → new ≡ insert_key (λ a b. pointwise nat_eq (f a) (f b)) keys k → map f new ≡ map f keys ++ f k ∷ []
inserted f keys new k none e =
    ap (map f) (e ∙ ap (λ b. if b then keys else keys ++ k ∷ []) (not_among f keys k none)) ∙ map-append f keys (k ∷ [])

-- the table, cut to what it had
pub cut_back : {K : Type 0} (f : K → List ℕ) (keys grown new : List K) (more : List (List ℕ)) (n : ℕ) → new ≡ take n grown → n ≡ length keys → map f grown ≡ map f keys ++ more → map f new ≡ map f keys
cut_back f keys grown new more n e l g =
    let size : n ≡ length (map f keys) = omega (arith, l, length-map keys f) in
    ap (map f) e ∙ sym (take-map f n grown) ∙ ap (take n) g ∙ ap (λ m. take m (map f keys ++ more)) size ∙ take-append_seam (map f keys) more

named_at : (ns : List (List ℕ)) (k : ℕ) (n : List ℕ) → k < length ns → get_or ns k [] ≡ n → slice_get ns k ≡ Some n
named_at ns k n h e = slice_get-get_or ns k [] h ∙ ap Some e

module _ (cs : List Channel) (sound : IsAlphabet cs) (n : List ℕ) where
  -- what `event` answers, by cases
  pub event_is_found : (i : ℕ) → slice_get (names cs) i ≡ Some n → (x : Event) → (Some (ev i) ≡ Some x) ↔ (IsEvent cs x × (name_of cs x ≡ n))
  event_is_found i at tick = (
    (λ e. absurd (cc)),
    (λ e. absurd (names_without_tick cs n sound (In-at (names cs) i at) (sym e.1))),
  )
  event_is_found i at (ev k) = (
    (λ e.
        let f : i ≡ k = cc in
        let own = subst (λ j. slice_get (names cs) j ≡ Some n) f at in
        (slice_get_within (names cs) k n own, get_or_from_slice_get (names cs) k n [] own)),
    (λ e. ap (λ j. Some (ev j)) (same_place (names cs) n i k (names_distinct cs sound) at (named_at (names cs) k n e.0 e.1))),
  )

  pub event_is_missing : ((i : ℕ) → slice_get (names cs) i ≡ Some n → ⊥) → (n ≡ tick_name → ⊥) → (x : Event) → (None ≡ Some x) ↔ (IsEvent cs x × (name_of cs x ≡ n))
  event_is_missing none other tick = ((λ e. absurd (none-some tick e)), (λ e. absurd (other (sym e.1))))
  event_is_missing none other (ev k) = ((λ e. absurd (none-some (ev k) e)), (λ e. absurd (none k (named_at (names cs) k n e.0 e.1))))

  pub event_is_tick : n ≡ tick_name → (x : Event) → (Some tick ≡ Some x) ↔ (IsEvent cs x × (name_of cs x ≡ n))
  event_is_tick own tick = ((λ e. (tt, sym own)), (λ e. refl))
  event_is_tick own (ev k) = ((λ e. absurd (cc)), (λ e. absurd (names_without_tick cs n sound (In-at (names cs) k (named_at (names cs) k n e.0 e.1)) own)))

  -- the same of the table whose keys are the names
  pub looked_up : {K : Type 0} (f : K → List ℕ) (keys : List K) (i : ℕ) → map f keys ≡ names cs → Some i ≡ position (λ k. pointwise nat_eq n (f k)) keys → (x : Event) → (Some (ev i) ≡ Some x) ↔ (IsEvent cs x × (name_of cs x ≡ n))
  looked_up f keys i listed e = event_is_found i (subst (λ ns. slice_get ns i ≡ Some n) listed (found_name f keys n i (sym e)))

  pub not_looked_up : {K : Type 0} (f : K → List ℕ) (keys : List K) → map f keys ≡ names cs → false ≡ list_any (λ k. pointwise nat_eq n (f k)) keys → pointwise nat_eq n tick_name ≡ false → (x : Event) → (None ≡ Some x) ↔ (IsEvent cs x × (name_of cs x ≡ n))
  not_looked_up f keys listed e other =
      event_is_missing
      (λ i at. missing_name f keys n (sym e) i (subst (λ ns. slice_get ns i ≡ Some n) (sym listed) at))
      (λ own. false≢true (sym other ∙ (bytes_decides n tick_name).1 own))

-- ---- places

-- the place after the last event is tick's
pub place_is_last : (cs : List Channel) (p : ℕ) → p ≡ event_count cs + 1 → (x : Event) → (Some tick ≡ Some x) ↔ (IsEvent cs x × (place_of cs x ≡ p))
place_is_last cs p e tick = ((λ f. (tt, sym e)), (λ f. refl))
place_is_last cs p e (ev k) = ((λ f. absurd (cc)), (λ f. absurd (omega (arith, f.0, f.1))))

pub place_is_number : (cs : List Channel) (p i : ℕ) → p ≡ i + 1 → i < event_count cs → (x : Event) → (Some (ev i) ≡ Some x) ↔ (IsEvent cs x × (place_of cs x ≡ p))
place_is_number cs p i e h tick = ((λ f. absurd (cc)), (λ f. absurd (omega (arith, f.1))))
place_is_number cs p i e h (ev k) = (
  (λ f. let g : i ≡ k = cc in (subst (λ j. j < event_count cs) g h, omega arith)),
  (λ f. let g : i ≡ k = omega (arith, f.1) in ap (λ j. Some (ev j)) g),
)

pub no_such_place : (cs : List Channel) (p : ℕ) → (p ≡ 0) ⊎ (event_count cs + 1 < p) → (x : Event) → (None ≡ Some x) ↔ (IsEvent cs x × (place_of cs x ≡ p))
no_such_place cs p h tick = ((λ f. absurd (none-some tick f)), (λ f. absurd (elim h [ inl a ↦ omega (arith, f.1) | inr a ↦ omega (arith, f.1) ])))
no_such_place cs p h (ev k) = ((λ f. absurd (none-some (ev k) f)), (λ f. absurd (elim h [ inl a ↦ omega (arith, f.1) | inr a ↦ omega (arith, f.0, f.1) ])))
