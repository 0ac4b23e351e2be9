-- Events by their numbers.
use Rattle.std.proofs.Common.{◌≡◌, ℕ, zero, suc, ◌+◌, ◌^◌, ◌*◌, ◌<◌, ◌≤◌, List, [], ◌∷◌, length, map, drop, get_or, Bool, true, false, cond, ◌&&◌, ◌||◌, nat_eq, nat_lt, Option, Some, None, refl, sym, ap, ap₂, ◌∙◌, arith, drop-cons}
use Rattle.std.specs.Cmp.{nat_eq_equiv}
use Rattle.alphabet.specs.Channels.{Parts}
use Rattle.alphabet.specs.declared.events.Event.{Event}
use Rattle.alphabet.specs.declared.events.Event.TheVariants.{Tick as tick, Of as ev}
use Rattle.alphabet.specs.Events.{is_event}
use Rattle.alphabet.specs.EventSets.{Set, member}
use Rattle.values.specs.Values.{◌>>=◌}
use Rattle.event_phrases.specs.Events.{Events, Beginning, at_number, is_event_of, number_in, set_below}
use Rattle.event_phrases.proofs.Options.{bind_same}
use Rattle.event_phrases.proofs.SetsBelow.{is_in, member_is, is_below, more_is, split, lt_is, ge_is}

-- ---- sets, event by event

pub none_below : (A : Events) (S : Set) → ((x : Event) → member S x ≡ false) → S ≡ set_below 0 A
none_below A S h = is_below 0 A S (λ x. h x ∙ none x)
  where
    none : (x : Event) → false ≡ is_in 0 A x
    none tick = refl
    none (ev a) = sym (ap (λ b. b && A a) (ge_is a 0 (omega arith)))

neither : (a t : Bool) → (cond a false false || t) ≡ t
neither true t = refl
neither false t = refl

itself : (a t : Bool) → (cond a true false || (false && t)) ≡ a
itself true t = refl
itself false t = refl

next_in : (n : ℕ) (A : Events) (x : Event) (a : Bool) → A n ≡ a → (cond a (is_event (ev n) x) false || is_in n A x) ≡ is_in (suc n) A x
next_in n A tick true h = refl
next_in n A tick false h = refl
next_in n A (ev b) a h = split _ b n below at above
  where
    below : b < n → (cond a (nat_eq n b) false || (nat_lt b n && A b)) ≡ (nat_lt b (suc n) && A b)
    below k =
        let e : nat_eq n b ≡ false = grind (arith, k) in
        ap (λ t. cond a t false || (nat_lt b n && A b)) e ∙ neither a (nat_lt b n && A b) ∙ ap (λ t. t && A b) (lt_is b n k ∙ sym (lt_is b (suc n) (omega (arith, k))))

    at : b ≡ n → (cond a (nat_eq n b) false || (nat_lt b n && A b)) ≡ (nat_lt b (suc n) && A b)
    at k =
        ap₂ (λ t u. cond a t false || (u && A b)) (ap (λ m. nat_eq n m) k ∙ nat_eq_equiv.refl n) (ge_is b n (omega (arith, k)))
        ∙ itself a (A b) ∙ sym h ∙ ap A (sym k) ∙ sym (ap (λ t. t && A b) (lt_is b (suc n) (omega (arith, k))))

    above : n < b → (cond a (nat_eq n b) false || (nat_lt b n && A b)) ≡ (nat_lt b (suc n) && A b)
    above k =
        let e : nat_eq n b ≡ false = grind (arith, k) in
        ap (λ t. cond a t false || (nat_lt b n && A b)) e ∙ neither a (nat_lt b n && A b) ∙ ap (λ t. t && A b) (ge_is b n (omega (arith, k)) ∙ sym (ge_is b (suc n) (omega (arith, k))))

-- one event more is in the set, or it isn't
pub put_more : (i : ℕ) (A : Events) (S T : Set) → S ≡ set_below i A → A i ≡ true → ((x : Event) → member T x ≡ (is_event (ev i) x || member S x)) → T ≡ set_below (i + 1) A
put_more i A S T s a m =
    let e : suc i ≡ i + 1 = omega arith in
    is_below (suc i) A T (λ x. m x ∙ ap (λ u. is_event (ev i) x || u) (ap (λ u. member u x) s ∙ member_is i A x) ∙ next_in i A x true a) ∙ ap (λ k. set_below k A) e

pub put_none : (i : ℕ) (A : Events) (S : Set) → S ≡ set_below i A → A i ≡ false → S ≡ set_below (i + 1) A
put_none i A S s a =
    let e : suc i ≡ i + 1 = omega arith in
    let z : 0 * 2 ^ (suc i) + set_below i A ≡ set_below i A = omega arith in
    s ∙ sym (more_is i A ∙ ap (λ b. cond b 1 0 * 2 ^ (suc i) + set_below i A) a ∙ z) ∙ ap (λ k. set_below k A) e

-- the event with a number, in a list that is seen by a view
at_view : {R : Type 0} (view : R → Parts) (test : Parts → Bool) (rs : List R) (i : ℕ) (r : R) → i < length rs → r ≡ get_or rs i r → at_number test (map view rs) i ≡ test (view r)
unfolding at_number
at_view view test [] i r h e = absurd (omega (arith, h))
at_view view test (s ∷ rs) zero r h e = ap (λ x. test (view x)) (sym e)
at_view view test (s ∷ rs) (suc i) r h e = at_view view test rs i r (omega (arith, h)) e

module _ {R : Type 0} (view : R → Parts) (test : Parts → Bool) (rs : List R) (i : ℕ) (r : R) (S T : Set) where
  pub one_more : S ≡ set_below i (at_number test (map view rs)) → i < length rs → r ≡ get_or rs i r → test (view r) ≡ true → ((x : Event) → member T x ≡ (is_event (ev i) x || member S x)) → T ≡ set_below (i + 1) (at_number test (map view rs))
  one_more s h e t m = put_more i (at_number test (map view rs)) S T s (at_view view test rs i r h e ∙ t) m

  pub no_more : S ≡ set_below i (at_number test (map view rs)) → i < length rs → r ≡ get_or rs i r → test (view r) ≡ false → S ≡ set_below (i + 1) (at_number test (map view rs))
  no_more s h e t = put_none i (at_number test (map view rs)) S s (at_view view test rs i r h e ∙ t)

-- ---- the number of an event

pub drop_item : {A : Type 0} (xs : List A) (i : ℕ) (e : A) → i < length xs → e ≡ get_or xs i e → drop i xs ≡ e ∷ drop (i + 1) xs
drop_item xs i e h is =
    let k : suc i ≡ i + 1 = omega arith in
    drop-cons xs i e h ∙ ap (λ (k : ℕ). get_or xs i e ∷ drop k xs) k ∙ ap (λ x. x ∷ drop (i + 1) xs) (sym is)

pub drop_none : {A : Type 0} (xs : List A) (i : ℕ) → length xs ≤ i → drop i xs ≡ []
drop_none [] zero h = refl
drop_none [] (suc i) h = refl
drop_none (x ∷ xs) zero h = absurd (omega (arith, h))
drop_none (x ∷ xs) (suc i) h = drop_none xs i (omega (arith, h))

-- the number where so many events stand before
abbrev pub behind : ℕ → Option ℕ → Option ℕ
behind i o = o >>= λ a. Some (i + a)

abbrev some_number : ℕ → Option ℕ
some_number a = Some a

behind_next : (i : ℕ) (o : Option ℕ) → behind i (o >>= λ a. some_number (suc a)) ≡ behind (i + 1) o
behind_next i None = refl
behind_next i (Some a) = let e : i + suc a ≡ i + 1 + a = omega arith in ap some_number e

module _ {R : Type 0} (view : R → Parts) (b : Beginning) (rs : List R) where
  pub number_start : number_in (map view rs) b ≡ behind 0 (number_in (map view rs) b)
  number_start = sym (bind_same (number_in (map view rs) b) (λ a. Some (0 + a)) (λ a. let e : 0 + a ≡ a = omega arith in ap some_number e))

  module _ (i : ℕ) (r : R) (whole : Option ℕ) (before : whole ≡ behind i (number_in (map view (drop i rs)) b)) where
    pub number_next : i < length rs → r ≡ get_or rs i r → is_event_of b (view r) ≡ false → whole ≡ behind (i + 1) (number_in (map view (drop (i + 1) rs)) b)
    unfolding number_in
    number_next h e t =
        before ∙ ap (λ ls. behind i (number_in (map view ls) b)) (drop_item rs i r h e)
        ∙ ap (λ t. behind i (cond t (Some 0) (number_in (map view (drop (i + 1) rs)) b >>= λ a. Some (suc a)))) t ∙ behind_next i (number_in (map view (drop (i + 1) rs)) b)

    pub number_found : i < length rs → r ≡ get_or rs i r → is_event_of b (view r) ≡ true → Some i ≡ whole
    unfolding number_in
    number_found h e t =
        let z : i + 0 ≡ i = omega arith in
        sym (before ∙ ap (λ ls. behind i (number_in (map view ls) b)) (drop_item rs i r h e)
        ∙ ap (λ t. behind i (cond t (Some 0) (number_in (map view (drop (i + 1) rs)) b >>= λ a. Some (suc a)))) t ∙ ap some_number z)

    pub number_end : length rs ≤ i → None ≡ whole
    unfolding number_in
    number_end h = sym (before ∙ ap (λ ls. behind i (number_in (map view ls) b)) (drop_none rs i h))
