-- The text of a set of events stands for this set.
use Rattle.std.proofs.Common.{◌≡◌, ◌≢◌, ℕ, zero, suc, ◌+◌, ◌<◌, ◌≤◌, List, [], ◌∷◌, ◌++◌, map, filter, length, slice_get, Bool, true, false, cond, ◌&&◌, ◌||◌, nat_eq, nat_lt, Option, Some, None, refl, sym, ap, ap₂, ◌∙◌, inl, inr, arith, append-nil}
use Rattle.std.proofs.lemmas.Bool.Decides.{eqb_tells}
use Rattle.std.proofs.lemmas.Option.{none-some, same_Some}
use Rattle.std.specs.Cmp.Lexicographic.{pointwise}
use Rattle.std.specs.List.{list_any, range_with_len}
use Rattle.alphabet.specs.declared.events.Event.{Event}
use Rattle.alphabet.specs.declared.events.Event.TheVariants.{Tick as tick, Of as ev}
use Rattle.alphabet.specs.EventSets.{Set, has, member, members, members_below}
use Rattle.alphabet.specs.Channels.{Values, Parts, events, event_count}
use Rattle.alphabet.specs.Elements.{In}
use Rattle.alphabet.proofs.Lists.{In-at}
use Rattle.alphabet.proofs.ChannelPlaces.{event_count-is}
use Rattle.term.specs.Specs.{SetInSigma}
use Rattle.syntax.specs.Grammar.{Syntax}
use Rattle.values.specs.Values.{◌>>=◌, is_same}
use Rattle.values.specs.Names.{same_name}
use Rattle.event_phrases.specs.declared.forms.Extent.TheVariants as extents
use Rattle.event_phrases.specs.Events.{Events, no_events, either, field_values, begins, begins_so, beginning, beginning_so, at_number, whole_event, gives, together, event_set, set_of}
use Rattle.event_phrases.specs.Forms.{if_none, read_by, parts_by, EventPhrase, event_of, SetPhrase, no_set, set_form}
use Rattle.event_phrases.specs.Scopes.{Scope, events_by}
use Rattle.event_phrases.proofs.SetsBelow.{is_in, is_below, lt_is}
use Rattle.read_back.proofs.Trees.{phrases, tree_of_event, braced, set_tree}
use Rattle.read_back.proofs.Readable.{IsPrintedScope}
use Rattle.read_back.proofs.Given.{AreChosen, fields_given, given_fields, event_read}
use Rattle.read_back.proofs.Prefixes.{is_row, row_itself, other_row, parts, at, its_channel, is_chosen, is_given, has_fields, also_chosen, all_fields}

-- numbers below n
abbrev pub AllBelow : ℕ → List ℕ → Type 0
AllBelow n [] = Unit {0}
AllBelow n (a ∷ ks) = (a < n) × AllBelow n ks

-- ---- events that begin with all values of an event

begins_same : (ws vs : Values) (sets : List Values) → AreChosen ws sets → AreChosen vs sets → begins ws vs ≡ pointwise is_same ws vs
unfolding begins
begins_same [] [] [] h k = refl
begins_same [] (v ∷ vs) [] h k = absurd k
begins_same [] vs (set ∷ sets) h k = absurd h
begins_same (w ∷ ws) vs [] h k = absurd h
begins_same (w ∷ ws) [] (set ∷ sets) h k = absurd k
begins_same (w ∷ ws) (v ∷ vs) (set ∷ sets) h k = ap (λ b. is_same w v && b) (begins_same ws vs sets h.1 k.1)

number_at : (test : Parts → Bool) (ps : List Parts) (b : ℕ) (q : Parts) → slice_get ps b ≡ Some q → at_number test ps b ≡ test q
unfolding at_number
number_at test [] b q e = absurd (none-some q e)
number_at test (p ∷ ps) zero q e = ap test (same_Some p q e)
number_at test (p ∷ ps) (suc b) q e = number_at test ps b q e

-- the phrases in a set, as they are read
set_parts : (ts : List Syntax) → map (λ (t : Syntax × SetPhrase). event_of t.0) (parts_by set_form no_set (phrases ts)) ≡ map event_of ts
unfolding parts_by
set_parts [] = refl
set_parts (t ∷ ts) = ap (λ es. event_of t ∷ es) (set_parts ts)

module _ (s : Scope) (primes m : ℕ) (h : IsPrintedScope s primes m) where
  abbrev n : ℕ
  n = event_count s.channels

  -- an event's text gives its channel and values
  pub its_beginning : (a : ℕ) (l : a < n) → beginning s.channels s.known (event_of (tree_of_event s.channels (ev a))) ≡ Some ((parts s primes m h a l).channel, (parts s primes m h a l).values)
  unfolding beginning
  its_beginning a l =
      let p = parts s primes m h a l in
      ap (beginning s.channels s.known) (event_read p)
      ∙ ap (λ o. o >>= λ sets. field_values s.known (given_fields p.values) sets >>= λ vs. Some (p.channel, vs)) (has_fields s primes m h a l)
      ∙ ap (λ o. o >>= λ vs. Some (p.channel, vs)) (fields_given s p.values (its_channel s primes m h a l).fields (is_given s primes m h a l) (is_chosen s primes m h a l))

  its_whole : (a : ℕ) (l : a < n) → whole_event s.channels s.known (event_of (tree_of_event s.channels (ev a))) ≡ Some ((parts s primes m h a l).channel, (parts s primes m h a l).values)
  unfolding whole_event
  its_whole a l =
      let p = parts s primes m h a l in
      let fs = given_fields p.values in
      let fields = (its_channel s primes m h a l).fields in
      ap (whole_event s.channels s.known) (event_read p)
      ∙ ap (λ o. o >>= λ sets. cond (nat_eq (length fs) (length sets)) (field_values s.known fs sets >>= λ vs. Some (p.channel, vs)) None) (has_fields s primes m h a l)
      ∙ ap (λ b. cond b (field_values s.known fs fields >>= λ vs. Some (p.channel, vs)) None) (all_fields p.values fields (is_chosen s primes m h a l))
      ∙ ap (λ o. o >>= λ vs. Some (p.channel, vs)) (fields_given s p.values fields (is_given s primes m h a l) (is_chosen s primes m h a l))

  pub begins_row : (a : ℕ) (l : a < n) (q : Parts) → In q (events s.channels) → begins_so ((parts s primes m h a l).channel, (parts s primes m h a l).values) q ≡ is_row (parts s primes m h a l).channel (parts s primes m h a l).values q
  unfolding begins_so
  begins_row a l q i = by_test (same_name (parts s primes m h a l).channel q.channel) refl
    where
      by_test : (b : Bool) → same_name (parts s primes m h a l).channel q.channel ≡ b → (same_name (parts s primes m h a l).channel q.channel && begins (parts s primes m h a l).values q.values) ≡ (same_name (parts s primes m h a l).channel q.channel && pointwise is_same (parts s primes m h a l).values q.values)
      by_test true e =
          ap (λ b. same_name (parts s primes m h a l).channel q.channel && b)
          (begins_same (parts s primes m h a l).values q.values (its_channel s primes m h a l).fields (is_chosen s primes m h a l) (also_chosen s primes m h a l q i e))
      by_test false e =
          ap (λ b. b && begins (parts s primes m h a l).values q.values) e
          ∙ sym (ap (λ b. b && pointwise is_same (parts s primes m h a l).values q.values) e)

  -- of the events with numbers below n only the one itself begins with its channel and all its values
  its_events : (a : ℕ) (l : a < n) (b : ℕ) → b < n → beginning_so s.channels ((parts s primes m h a l).channel, (parts s primes m h a l).values) b ≡ nat_eq b a
  its_events a l b k =
      let ps = events s.channels in
      let p = parts s primes m h a l in
      let there : b < length ps = omega (arith, k, event_count-is s.channels) in
      elim (eqb_tells b a) [
        | inl e ↦
            let e1 : slice_get ps b ≡ Some p = ap (slice_get ps) e.1 ∙ at s primes m h a l in
            number_at (begins_so (p.channel, p.values)) ps b p e1 ∙ begins_row a l p (In-at ps b e1) ∙ row_itself p ∙ sym e.0
        | inr e ↦
            let q = parts s primes m h b k in
            let e2 : slice_get ps b ≡ Some q = at s primes m h b k in
            number_at (begins_so (p.channel, p.values)) ps b q e2 ∙ begins_row a l q (In-at ps b e2) ∙ other_row s.channels p q a b h.sound (at s primes m h a l) e2 e.1 ∙ sym e.0
      ]

  -- ---- the events of a list of numbers

  abbrev one_event : EventPhrase → Option Events
  one_event e = gives s.channels s.known extents.Events e

  abbrev their_events : List ℕ → List EventPhrase
  their_events ks = map event_of (map (tree_of_event s.channels) (map ev ks))

  given_all : (ks : List ℕ) → AllBelow n ks → (A : Events) × (together one_event (their_events ks) ≡ Some A) × ((b : ℕ) → b < n → A b ≡ list_any (nat_eq b) ks)
  unfolding together gives
  given_all [] l = (no_events, refl, λ b k. refl)
  given_all (a ∷ ks) l =
      let r = given_all ks l.1 in
      let p = parts s primes m h a l.0 in (
        either (beginning_so s.channels (p.channel, p.values)) r.0,
        ap (λ o. (o >>= λ b. Some (beginning_so s.channels b)) >>= λ A. together one_event (their_events ks) >>= λ B. Some (either A B)) (its_whole a l.0)
            ∙ ap (λ o. o >>= λ B. Some (either (beginning_so s.channels (p.channel, p.values)) B)) r.1,
        λ b k. ap₂ (λ x y. x || y) (its_events a l.0 b k) (r.2 b k),
      )

  braced_given : (ks : List ℕ) → AllBelow n ks → (A : Events) × (events_by s (braced (map (tree_of_event s.channels) (map ev ks))) ≡ Some A) × ((b : ℕ) → b < n → A b ≡ list_any (nat_eq b) ks)
  unfolding event_set read_by parts_by set_form if_none
  braced_given [] l = (no_events, refl, λ b k. refl)
  braced_given (a ∷ ks) l =
      let r = given_all (a ∷ ks) l in
      (r.0, ap (together one_event) (set_parts (map (tree_of_event s.channels) (map ev (a ∷ ks)))) ∙ r.1, r.2)

-- ---- the members of a set

pub all_kept : (n : ℕ) (p : ℕ → Bool) (start k : ℕ) → ((a : ℕ) → p a ≡ true → a < n) → AllBelow n (filter p (range_with_len start k))
all_kept n p start zero f = tt
all_kept n p start (suc k) f = by_test (p start) refl (all_kept n p (start + 1) k f)
  where
    by_test : (b : Bool) → p start ≡ b → AllBelow n (filter p (range_with_len (start + 1) k)) → AllBelow n (cond b (start ∷ filter p (range_with_len (start + 1) k)) (filter p (range_with_len (start + 1) k)))
    by_test true e rest = (f start e, rest)
    by_test false e rest = rest

other_number : (k a : ℕ) → k ≢ a → nat_eq k a ≡ false
other_number k a ne = elim (eqb_tells k a) [ inl p ↦ absurd (ne p.1) | inr p ↦ p.0 ]

none_below : (p : ℕ → Bool) (start k b : ℕ) → b < start → list_any (nat_eq b) (filter p (range_with_len start k)) ≡ false
none_below p start zero b l = refl
none_below p start (suc k) b l = by_test (p start) (none_below p (start + 1) k b (omega (arith, l))) (other_number b start (λ e. omega (arith, l)))
  where
    by_test : (t : Bool) → list_any (nat_eq b) (filter p (range_with_len (start + 1) k)) ≡ false → nat_eq b start ≡ false → list_any (nat_eq b) (cond t (start ∷ filter p (range_with_len (start + 1) k)) (filter p (range_with_len (start + 1) k))) ≡ false
    by_test true e f = ap₂ (λ x y. x || y) f e
    by_test false e f = e

one_kept : (p : ℕ → Bool) (start k b : ℕ) → start ≤ b → b < start + k → list_any (nat_eq b) (filter p (range_with_len start k)) ≡ p b
one_kept p start zero b l u = absurd (omega (arith, l, u))
one_kept p start (suc k) b l u =
    elim (eqb_tells b start) [
      | inl e ↦ here (p start) (ap p (sym e.1)) e.0 (none_below p (start + 1) k b (omega (arith, e.1)))
      | inr e ↦ later (p start) e.0 (one_kept p (start + 1) k b (let ne = e.1 in omega (arith, l, ne)) (omega (arith, u)))
    ]
  where
    here : (t : Bool) → t ≡ p b → nat_eq b start ≡ true → list_any (nat_eq b) (filter p (range_with_len (start + 1) k)) ≡ false → list_any (nat_eq b) (cond t (start ∷ filter p (range_with_len (start + 1) k)) (filter p (range_with_len (start + 1) k))) ≡ p b
    here true g e f = ap (λ x. x || list_any (nat_eq b) (filter p (range_with_len (start + 1) k))) e ∙ g
    here false g e f = f ∙ g

    later : (t : Bool) → nat_eq b start ≡ false → list_any (nat_eq b) (filter p (range_with_len (start + 1) k)) ≡ p b → list_any (nat_eq b) (cond t (start ∷ filter p (range_with_len (start + 1) k)) (filter p (range_with_len (start + 1) k))) ≡ p b
    later true e f = ap (λ x. x || list_any (nat_eq b) (filter p (range_with_len (start + 1) k))) e ∙ f
    later false e f = f

without_tick : (k : ℕ) (A : Set) → member A tick ≡ false → members_below k A ≡ map ev (filter (has A) (range_with_len 0 k))
unfolding members_below
without_tick k A e = ap (λ b. map ev (filter (has A) (range_with_len 0 k)) ++ cond b (tick ∷ []) []) e ∙ append-nil (map ev (filter (has A) (range_with_len 0 k)))

no_tick : (k : ℕ) (A : Set) → SetInSigma k A → (b : Bool) → member A tick ≡ b → member A tick ≡ false
no_tick k A h true e = absurd (h tick e)
no_tick k A h false e = e

pub its_members : (n : ℕ) (A : Set) → SetInSigma n A → members A ≡ map ev (filter (has A) (range_with_len 0 256))
its_members n A sigma = without_tick 256 A (no_tick n A sigma (member A tick) refl)

module _ (s : Scope) (primes m : ℕ) (h : IsPrintedScope s primes m) (A : Set) (sigma : SetInSigma (event_count s.channels) A) where
  -- the set is that of the events that are told
  told_so : (B : Events) → ((b : ℕ) → b < event_count s.channels → B b ≡ list_any (nat_eq b) (filter (has A) (range_with_len 0 256))) → (x : Event) → member A x ≡ is_in (event_count s.channels) B x
  told_so B f tick = no_tick (event_count s.channels) A sigma (member A tick) refl
  told_so B f (ev b) = by_place (has A b) refl
    where
      by_place : (t : Bool) → has A b ≡ t → has A b ≡ (nat_lt b (event_count s.channels) && B b)
      by_place true e =
          let l : b < event_count s.channels = sigma (ev b) e in
          sym (ap (λ x. x && B b) (lt_is b (event_count s.channels) l) ∙ f b l ∙ one_kept (has A) 0 256 b (omega arith) (omega (arith, l, h.sound.small)))
      by_place false e = outside (nat_lt b (event_count s.channels)) refl
        where
          outside : (t : Bool) → nat_lt b (event_count s.channels) ≡ t → has A b ≡ (nat_lt b (event_count s.channels) && B b)
          outside true g =
              let l : b < event_count s.channels = grind (arith, g) in
              sym (ap (λ x. x && B b) g ∙ f b l ∙ one_kept (has A) 0 256 b (omega arith) (omega (arith, l, h.sound.small)))
          outside false g = e ∙ sym (ap (λ x. x && B b) g)

  -- the text of the set stands for events whose set it is
  pub set_denoted : (B : Events) × (events_by s (set_tree s.channels A) ≡ Some B) × (set_of s.channels B ≡ A)
  set_denoted =
      let r = braced_given s primes m h (filter (has A) (range_with_len 0 256)) (all_kept (event_count s.channels) (has A) 0 256 (λ a e. sigma (ev a) e)) in (
        r.0,
        ap (λ es. events_by s (braced (map (tree_of_event s.channels) es))) (its_members (event_count s.channels) A sigma) ∙ r.1,
        sym (is_below (event_count s.channels) r.0 A (told_so r.0 r.2)),
      )
