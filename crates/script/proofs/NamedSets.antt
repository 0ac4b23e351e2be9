-- What names of sets of events stand for, after some number of steps and in the end.
use Rattle.std.proofs.Common.{◌≡◌, ℕ, zero, suc, ◌+◌, ◌≤◌, List, [], ◌∷◌, length, Bool, true, false, not, ◌&&◌, ◌||◌, nat_lt, cond, Option, Some, None, refl, sym, ap, ap₂, subst, ◌∙◌, arith}
use Rattle.std.specs.Option.{option_map}
use Rattle.alphabet.specs.Channels.{Channel, Parts, events, event_count}
use Rattle.alphabet.specs.EventSets.{Set, has}
use Rattle.alphabet.proofs.ChannelPlaces.{event_count-is}
use Rattle.values.specs.Values.{◌>>=◌, Name}
use Rattle.values.specs.Worths.{Worth, one, many, truth, Known, condition}
use Rattle.values.specs.Names.{Entry, Meaning, channel, datatype, constant_name, definition, parametric, meaning}
use Rattle.values.proofs.Keeps.{bind_some, some_same}
use Rattle.event_phrases.specs.declared.forms.Combination.{Combination}
use Rattle.event_phrases.specs.declared.forms.Combination.TheVariants as combinations
use Rattle.event_phrases.specs.declared.forms.Extent.{Extent}
use Rattle.event_phrases.specs.declared.forms.Extent.TheVariants as extents
use Rattle.event_phrases.specs.Forms.{EventPhrase, SetPhrase, set_inside, set_called, nothing, everything, several, set_chosen, combined, no_set, set_phrase_of}
use Rattle.event_phrases.specs.Events.{Events, KnownEvents, Beginning, unless_value, begins_so, at_number, beginning, beginning_so, whole_event, either, is_in_both, combine, gives, together, event_set, events_of, events_in, EventsStand, set_of}
use Rattle.event_phrases.proofs.SetsBelow.{below_same, inside_is, has_is, ge_is}
use Rattle.script.specs.Standing.{KnownSets, events_by, next_events, AreReached, IsSettled}

abbrev some_events : Events → Option Events
some_events A = Some A

-- two sets of which one is made
record Two (o p : Option Events) (c : Events → Events → Events) (R : Events) : Type 0 where
  pub left : Events
  pub right : Events
  pub first : o ≡ Some left
  pub second : p ≡ Some right
  pub made : c left right ≡ R

two_of : (o p : Option Events) (c : Events → Events → Events) (R : Events) → (o >>= λ A. p >>= λ B. Some (c A B)) ≡ Some R → Two o p c R
two_of None p c R h = absurd cc
two_of (Some A) None c R h = absurd cc
two_of (Some A) (Some B) c R h = record { left = A; right = B; first = refl; second = refl; made = some_same h }

two_is : (o p : Option Events) (c : Events → Events → Events) (A B R : Events) → o ≡ Some A → p ≡ Some B → c A B ≡ R → (o >>= λ A. p >>= λ B. Some (c A B)) ≡ Some R
two_is o p c A B R h k m = ap₂ (λ o p. o >>= λ A. p >>= λ B. some_events (c A B)) h k ∙ ap some_events m

-- what the first knows, the second knows too
abbrev IsWithin : KnownEvents → KnownEvents → Type 0
IsWithin f g = (n : Name) (A : Events) → f n ≡ Some A → g n ≡ Some A

seen : (o : Option Worth) (p : Option Events) (A : Events) → unless_value o p ≡ Some A → p ≡ Some A
seen None p A h = h
seen (Some (one v)) p A h = absurd cc
seen (Some (many vs)) p A h = h
seen (Some (truth b)) p A h = absurd cc

still : (o : Option Worth) (p q : Option Events) (A : Events) → unless_value o p ≡ Some A → q ≡ Some A → unless_value o q ≡ Some A
still None p q A h k = k
still (Some (one v)) p q A h k = absurd cc
still (Some (many vs)) p q A h k = k
still (Some (truth b)) p q A h k = absurd cc

-- of two sets that a condition chooses between

chosen : {P : Type 0} (c : Option Bool) (o p : Option Events) (A : Events) → (o ≡ Some A → P) → (p ≡ Some A → P) → (c >>= λ b. cond b o p) ≡ Some A → P
chosen None o p A h k e = absurd cc
chosen (Some true) o p A h k e = h e
chosen (Some false) o p A h k e = k e

chosen_grows : (c : Option Bool) (o p q r : Option Events) (A : Events) → (o ≡ Some A → q ≡ Some A) → (p ≡ Some A → r ≡ Some A) → (c >>= λ b. cond b o p) ≡ Some A → (c >>= λ b. cond b q r) ≡ Some A
chosen_grows None o p q r A h k e = absurd cc
chosen_grows (Some true) o p q r A h k e = h e
chosen_grows (Some false) o p q r A h k e = k e

module _ (cs : List Channel) (known : Known) where
  -- ---- more sets that are known

  set_grows : (f g : KnownEvents) → IsWithin f g → (p : SetPhrase) (A : Events) → event_set cs known f p ≡ Some A → event_set cs known g p ≡ Some A
  unfolding event_set
  set_grows f g h (set_inside p) A e = set_grows f g h p A e
  set_grows f g h (set_called n) A e = still (known n) (f n) (g n) A e (h n A (seen (known n) (f n) A e))
  set_grows f g h (combined c p q) A e =
      let t = two_of (event_set cs known f p) (event_set cs known f q) (combine c) A e in
      two_is (event_set cs known g p) (event_set cs known g q) (combine c) t.left t.right A (set_grows f g h p t.left t.first) (set_grows f g h q t.right t.second) t.made
  set_grows f g h (set_chosen c p q) A e =
      chosen_grows (condition known c) (event_set cs known f p) (event_set cs known f q) (event_set cs known g p) (event_set cs known g q) A (set_grows f g h p A) (set_grows f g h q A) e
  set_grows f g h nothing A e = e
  set_grows f g h everything A e = e
  set_grows f g h (several k es) A e = e
  set_grows f g h no_set A e = e

  of_grows : (f g : KnownEvents) → IsWithin f g → (m : Meaning) (A : Events) → events_of cs known f m ≡ Some A → events_of cs known g m ≡ Some A
  unfolding events_of
  of_grows f g h (channel ts) A e = absurd cc
  of_grows f g h (datatype ns) A e = absurd cc
  of_grows f g h constant_name A e = absurd cc
  of_grows f g h (definition t) A e = set_grows f g h (set_phrase_of t) A e
  of_grows f g h (parametric xs t) A e = absurd cc

  -- ---- all sets are of events of Sigma

  abbrev IsInside : Events → Type 0
  IsInside A = (a : ℕ) → event_count cs ≤ a → A a ≡ false

  number_past : (test : Parts → Bool) (ps : List Parts) (a : ℕ) → length ps ≤ a → at_number test ps a ≡ false
  unfolding at_number
  number_past test [] a h = refl
  number_past test (p ∷ ps) zero h = absurd (omega (arith, h))
  number_past test (p ∷ ps) (suc a) h = number_past test ps a (omega (arith, h))

  so_inside : (b : Beginning) → IsInside (beginning_so cs b)
  so_inside b a h = number_past (begins_so b) (events cs) a (omega (arith, h, event_count-is cs))

  by_beginning : (o : Option Beginning) (A : Events) → (o >>= λ b. Some (beginning_so cs b)) ≡ Some A → IsInside A
  by_beginning None A h = absurd cc
  by_beginning (Some b) A h = subst IsInside (some_same h) (so_inside b)

  gives_inside : (k : Extent) (e : EventPhrase) (A : Events) → gives cs known k e ≡ Some A → IsInside A
  unfolding gives
  gives_inside extents.Beginnings e = by_beginning (beginning cs known e)
  gives_inside extents.Events e = by_beginning (whole_event cs known e)

  together_inside : (k : Extent) (es : List EventPhrase) (A : Events) → together (gives cs known k) es ≡ Some A → IsInside A
  unfolding together
  together_inside k [] A e = subst IsInside (some_same e) (λ a l. refl)
  together_inside k (p ∷ ps) A e =
      let t = two_of (gives cs known k p) (together (gives cs known k) ps) either A e in
      subst IsInside t.made (λ a l. ap₂ (λ x y. x || y) (gives_inside k p t.left t.first a l) (together_inside k ps t.right t.second a l))

  combined_inside : (c : Combination) (A B : Events) → IsInside A → IsInside B → IsInside (combine c A B)
  unfolding combine is_in_both
  combined_inside combinations.Union A B h k a l = ap₂ (λ x y. x || y) (h a l) (k a l)
  combined_inside combinations.Intersection A B h k a l = ap (λ x. x && B a) (h a l)
  combined_inside combinations.Difference A B h k a l = ap (λ x. x && not (B a)) (h a l)

  lies_inside : (f : KnownEvents) → ((n : Name) (A : Events) → f n ≡ Some A → IsInside A) → (p : SetPhrase) (A : Events) → event_set cs known f p ≡ Some A → IsInside A
  unfolding event_set
  lies_inside f h (set_inside p) A e = lies_inside f h p A e
  lies_inside f h (set_called n) A e = h n A (seen (known n) (f n) A e)
  lies_inside f h nothing A e = subst IsInside (some_same e) (λ a k. refl)
  lies_inside f h everything A e = subst IsInside (some_same e) (λ a k. ge_is a (event_count cs) k)
  lies_inside f h (several k es) A e = together_inside k es A e
  lies_inside f h (combined c p q) A e =
      let t = two_of (event_set cs known f p) (event_set cs known f q) (combine c) A e in
      subst IsInside t.made (combined_inside c t.left t.right (lies_inside f h p t.left t.first) (lies_inside f h q t.right t.second))
  lies_inside f h (set_chosen c p q) A e =
      chosen (condition known c) (event_set cs known f p) (event_set cs known f q) A (lies_inside f h p A) (lies_inside f h q A) e
  lies_inside f h no_set A e = absurd cc

  of_inside : (f : KnownEvents) → ((n : Name) (A : Events) → f n ≡ Some A → IsInside A) → (m : Meaning) (A : Events) → events_of cs known f m ≡ Some A → IsInside A
  unfolding events_of
  of_inside f h (channel ts) A e = absurd cc
  of_inside f h (datatype ns) A e = absurd cc
  of_inside f h constant_name A e = absurd cc
  of_inside f h (definition t) A e = lies_inside f h (set_phrase_of t) A e
  of_inside f h (parametric xs t) A e = absurd cc

  -- such a set is given by its number
  at_number_is : (A : Events) → IsInside A → (a : ℕ) → has (set_of cs A) a ≡ A a
  at_number_is A h a = has_is (event_count cs) A a ∙ by (nat_lt a (event_count cs)) refl
    where
      by : (b : Bool) → nat_lt a (event_count cs) ≡ b → (b && A a) ≡ A a
      by true e = refl
      by false e = sym (h a (grind (arith, e)))

  pub set_back : (A : Events) → IsInside A → has (set_of cs A) ≡ A
  set_back A h = λ i a. at_number_is A h a i

  -- and the number by the set
  pub set_forth : (A : Events) → set_of cs A ≡ set_of cs (has (set_of cs A))
  set_forth A = below_same (event_count cs) A (has (set_of cs A)) (λ a h. inside_is (event_count cs) A a h)

  module _ (es : List Entry) where
    next_grows : (f g : KnownEvents) → IsWithin f g → IsWithin (next_events cs known es f) (next_events cs known es g)
    unfolding next_events
    next_grows f g h n A e =
        let (m, a, b) = bind_some (meaning es n) (events_of cs known f) A e in
        ap (λ o. o >>= events_of cs known g) a ∙ of_grows f g h m A b

    next_inside : (f : KnownEvents) → ((n : Name) (A : Events) → f n ≡ Some A → IsInside A) → (n : Name) (A : Events) → next_events cs known es f n ≡ Some A → IsInside A
    unfolding next_events
    next_inside f h n A e =
        let (m, a, b) = bind_some (meaning es n) (events_of cs known f) A e in
        of_inside f h m A b

    -- ---- steps

    steps_grow : (k : ℕ) → IsWithin (events_in cs known es k) (events_in cs known es (suc k))
    unfolding events_in next_events
    steps_grow zero n A e = absurd cc
    steps_grow (suc k) n A e = next_grows (events_in cs known es k) (events_in cs known es (suc k)) (steps_grow k) n A e

    steps_inside : (k : ℕ) (n : Name) (A : Events) → events_in cs known es k n ≡ Some A → IsInside A
    unfolding events_in next_events
    steps_inside zero n A e = absurd cc
    steps_inside (suc k) n A e = next_inside (events_in cs known es k) (steps_inside k) n A e

    later : (j k : ℕ) → IsWithin (events_in cs known es k) (events_in cs known es (j + k))
    later zero k n A e = let z : 0 + k ≡ k = omega arith in ap (λ i. events_in cs known es i n) z ∙ e
    later (suc j) k n A e = let z : suc j + k ≡ suc (j + k) = omega arith in ap (λ i. events_in cs known es i n) z ∙ steps_grow (j + k) n A (later j k n A e)

    other : (j k : ℕ) → IsWithin (events_in cs known es j) (events_in cs known es (k + j))
    other j k = later k j

    this : (j k : ℕ) → IsWithin (events_in cs known es k) (events_in cs known es (k + j))
    this j k n A e = let z : k + j ≡ j + k = omega arith in ap (λ i. events_in cs known es i n) z ∙ later j k n A e

    -- what is said after some steps is one set
    pub one_set : (n : Name) (A B : Events) (j k : ℕ) → events_in cs known es j n ≡ Some A → events_in cs known es k n ≡ Some B → A ≡ B
    one_set n A B j k a b = some_same (sym (other j k n A a) ∙ this j k n B b)

    abbrev IsSound : KnownEvents → Type 0
    IsSound f = (n : Name) (A : Events) → f n ≡ Some A → (k : ℕ) × (events_in cs known es k n ≡ Some A)

    abbrev SetIn : SetPhrase → Events → Type 0
    SetIn p A = (k : ℕ) × (event_set cs known (events_in cs known es k) p ≡ Some A)

    two_sound : (p q : SetPhrase) (c : Events → Events → Events) (A B R : Events) → SetIn p A → SetIn q B → c A B ≡ R → (k : ℕ) × ((event_set cs known (events_in cs known es k) p >>= λ A. event_set cs known (events_in cs known es k) q >>= λ B. Some (c A B)) ≡ Some R)
    two_sound p q c A B R h i m =
        let (j, a) = h in
        let (k, b) = i in
        (k + j, two_is (event_set cs known (events_in cs known es (k + j)) p) (event_set cs known (events_in cs known es (k + j)) q) c A B R (set_grows (events_in cs known es j) (events_in cs known es (k + j)) (other j k) p A a) (set_grows (events_in cs known es k) (events_in cs known es (k + j)) (this j k) q B b) m)

    chosen_sound : (c : Option Bool) (f : KnownEvents) (p q : SetPhrase) (A : Events) → (event_set cs known f p ≡ Some A → SetIn p A) → (event_set cs known f q ≡ Some A → SetIn q A) → (c >>= λ b. cond b (event_set cs known f p) (event_set cs known f q)) ≡ Some A
        → (k : ℕ) × ((c >>= λ b. cond b (event_set cs known (events_in cs known es k) p) (event_set cs known (events_in cs known es k) q)) ≡ Some A)
    chosen_sound None f p q A h k e = absurd cc
    chosen_sound (Some true) f p q A h k e = h e
    chosen_sound (Some false) f p q A h k e = k e

    sound_set : (f : KnownEvents) → IsSound f → (p : SetPhrase) (A : Events) → event_set cs known f p ≡ Some A → SetIn p A
    unfolding event_set
    sound_set f h (set_inside p) A e = sound_set f h p A e
    sound_set f h (set_called n) A e =
        let (k, p) = h n A (seen (known n) (f n) A e) in
        (k, still (known n) (f n) (events_in cs known es k n) A e p)
    sound_set f h (combined c p q) A e =
        let t = two_of (event_set cs known f p) (event_set cs known f q) (combine c) A e in
        two_sound p q (combine c) t.left t.right A (sound_set f h p t.left t.first) (sound_set f h q t.right t.second) t.made
    sound_set f h (set_chosen c p q) A e = chosen_sound (condition known c) f p q A (sound_set f h p A) (sound_set f h q A) e
    sound_set f h nothing A e = (0, e)
    sound_set f h everything A e = (0, e)
    sound_set f h (several k es) A e = (0, e)
    sound_set f h no_set A e = (0, e)

    sound_of : (f : KnownEvents) → IsSound f → (m : Meaning) (A : Events) → events_of cs known f m ≡ Some A → (k : ℕ) × (events_of cs known (events_in cs known es k) m ≡ Some A)
    unfolding events_of
    sound_of f h (channel ts) A e = absurd cc
    sound_of f h (datatype ns) A e = absurd cc
    sound_of f h constant_name A e = absurd cc
    sound_of f h (definition t) A e = sound_set f h (set_phrase_of t) A e
    sound_of f h (parametric xs t) A e = absurd cc

    -- what definitions say of sound sets is sound
    pub sound_next : (f : KnownEvents) → IsSound f → IsSound (next_events cs known es f)
    unfolding next_events events_in
    sound_next f h n A e =
        let (m, a, b) = bind_some (meaning es n) (events_of cs known f) A e in
        let (k, c) = sound_of f h m A b in
        (suc k, ap (λ o. o >>= events_of cs known (events_in cs known es k)) a ∙ c)

    all_known : (f : KnownEvents) → IsWithin (next_events cs known es f) f → (k : ℕ) → IsWithin (events_in cs known es k) f
    unfolding events_in next_events
    all_known f h zero n A e = absurd cc
    all_known f h (suc k) n A e = h n A (next_grows (events_in cs known es k) f (all_known f h k) n A e)

    -- ---- sets as numbers

    module _ (f : KnownSets) (h : AreReached cs known es f) where
      by_number : (n : Name) (A : Events) → events_by f n ≡ Some A → (S : Set) × (f n ≡ Some S) × (has S ≡ A)
      by_number n A e = by (f n) e
        where
          by : (o : Option Set) → option_map has o ≡ Some A → (S : Set) × (o ≡ Some S) × (has S ≡ A)
          by None e = absurd cc
          by (Some S) e = (S, refl, some_same e)

      pub sound_sets : IsSound (events_by f)
      sound_sets n A e =
          let (S, a, b) = by_number n A e in
          let (k, B, c, d) = h n S a in
          let same : B ≡ A = sym (set_back B (steps_inside k n B c)) ∙ ap has (sym d) ∙ b in
          (k, c ∙ ap some_events same)

      inside_sets : (n : Name) (A : Events) → events_by f n ≡ Some A → IsInside A
      inside_sets n A e = let (k, c) = sound_sets n A e in steps_inside k n A c

      -- the sets lie in Sigma
      pub sets_lie : (n : Name) (S : Set) → f n ≡ Some S → S ≡ set_of cs (has S)
      sets_lie n S e =
          let (k, A, c, d) = h n S e in
          d ∙ set_forth A ∙ ap (λ S. set_of cs (has S)) (sym d)

      -- where no definition says more, the names stand for these sets
      pub events_stand : ((n : Name) → IsSettled cs known es f n) → EventsStand cs known es (events_by f)
      events_stand settled = λ n A. (sound_sets n A, λ p. all_known (events_by f) closed p.0 n A p.1)
        where
          closed : IsWithin (next_events cs known es (events_by f)) (events_by f)
          closed n A e = ap (option_map has) (settled n A e) ∙ ap some_events (set_back A (next_inside (events_by f) inside_sets n A e))
