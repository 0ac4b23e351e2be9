-- What is learned of names of sets of events, one after the other.
use Rattle.std.proofs.Common.{◌≡◌, ℕ, List, length, Bool, true, false, cond, Option, Some, None, is_some, refl, sym, ap, ◌∙◌}
use Rattle.std.specs.Cmp.Lexicographic.{bytes_decides}
use Rattle.alphabet.specs.Channels.{Channel}
use Rattle.alphabet.specs.EventSets.{Set, has}
use Rattle.values.specs.Values.{◌>>=◌, Name}
use Rattle.values.specs.Worths.{Known}
use Rattle.values.specs.Names.{Entry, Meaning, definition, same_name, meaning}
use Rattle.values.proofs.Keeps.{some_same}
use Rattle.syntax.specs.Grammar.{Syntax}
use Rattle.event_phrases.specs.Events.{Events, event_set, events_of, events_in, EventsStand, set_of, masked}
use Rattle.event_phrases.specs.Forms.{set_phrase_of}
use Rattle.event_phrases.proofs.EventSetLaws.{masked_none}
use Rattle.declared_names.specs.Standing.{SettlesFirst}
use Rattle.declared_names.proofs.Searching.{place_of, with_value}
use Rattle.script.specs.Standing.{KnownSets, events_by, next_events, AreReached, IsSettled}
use Rattle.script.proofs.NamedSets.{sound_sets, sound_next, one_set, events_stand}

abbrev some_set : Set → Option Set
some_set S = Some S

masked_some : (cs : List Channel) (o : Option Events) (S : Set) → masked cs o ≡ Some S → (A : Events) × (o ≡ Some A) × (S ≡ set_of cs A)
unfolding masked
masked_some cs None S h = absurd cc
masked_some cs (Some A) S h = (A, refl, sym (some_same h))

module _ (cs : List Channel) (known : Known) (es : List Entry) where
  -- what a definition says has a meaning after it
  said : (f : KnownSets) (n : Name) (A : Events) → next_events cs known es (events_by f) n ≡ Some A → (m : Meaning) × (meaning es n ≡ Some m)
  unfolding next_events
  said f n A h = by (meaning es n) refl
    where
      by : (o : Option Meaning) → meaning es n ≡ o → (m : Meaning) × (meaning es n ≡ Some m)
      by None p = absurd (let x : None ≡ Some A = sym (ap (λ o. o >>= events_of cs known (events_by f)) p) ∙ h in cc)
      by (Some m) p = (m, p)

  -- a name that has a set
  pub settled_known : (f : KnownSets) (n : Name) → AreReached cs known es f → is_some (f n) ≡ true → IsSettled cs known es f n
  settled_known f n h has A e = by (f n) refl
    where
      by : (o : Option Set) → f n ≡ o → f n ≡ Some (set_of cs A)
      by None p = absurd (let x : false ≡ true = sym (ap is_some p) ∙ has in cc)
      by (Some S) p =
          let (k, B, c, d) = h n S p in
          let (j, q) = sound_next cs known es (events_by f) (sound_sets cs known es f h) n A e in
          let same : B ≡ A = one_set cs known es n B A k j c q in
          p ∙ ap some_set (d ∙ ap (set_of cs) same)

  -- a name whose definition says nothing
  pub settled_none : (f : KnownSets) (n : Name) → masked cs (next_events cs known es (events_by f) n) ≡ None → IsSettled cs known es f n
  settled_none f n h A e = absurd (let x : None ≡ Some A = sym (masked_none cs (next_events cs known es (events_by f) n) h) ∙ e in cc)

  pub reached_more : (f g : KnownSets) (n : Name) (S : Set) → AreReached cs known es f → masked cs (next_events cs known es (events_by f) n) ≡ Some S → ((m : Name) → g m ≡ with_value f n S m) → AreReached cs known es g
  reached_more f g n S h e is =
      let (A, a, b) = masked_some cs (next_events cs known es (events_by f) n) S e in
      more A a b
    where
      more : (A : Events) → next_events cs known es (events_by f) n ≡ Some A → S ≡ set_of cs A → AreReached cs known es g
      more A a b m U p = by (same_name m n) refl (sym (is m) ∙ p)
        where
          by : (t : Bool) → same_name m n ≡ t → cond t (Some S) (f m) ≡ Some U → (k : ℕ) × (B : Events) × (events_in cs known es k m ≡ Some B) × (U ≡ set_of cs B)
          by true s q =
              let (k, c) = sound_next cs known es (events_by f) (sound_sets cs known es f h) m A (ap (next_events cs known es (events_by f)) ((bytes_decides m n).0 s) ∙ a) in
              (k, A, c, sym (some_same q) ∙ b)
          by false s q = h m U q

  -- ---- when nothing is learned

  all_settled : (f : KnownSets) → SettlesFirst (IsSettled cs known es) es f (length es) → (n : Name) → IsSettled cs known es f n
  all_settled f h n A e =
      let (m, a) = said f n A e in
      let (j, d, p, r, lt) = place_of es n m a in
      ap f r ∙ h j d lt p A (ap (next_events cs known es (events_by f)) (sym r) ∙ e)

  pub stands : (f : KnownSets) → AreReached cs known es f → SettlesFirst (IsSettled cs known es) es f (length es) → EventsStand cs known es (events_by f)
  stands f h all = events_stand cs known es f h (all_settled f all)

  -- no sets are reached
  pub none_reached : (f : KnownSets) → ((n : Name) → f n ≡ None) → AreReached cs known es f
  none_reached f h n S e = absurd (let x : None ≡ Some S = sym (h n) ∙ e in cc)

  -- ---- what the definition of a name says

  pub next_is : (f : KnownSets) (n : Name) (t : Syntax) → meaning es n ≡ Some (definition t) → masked cs (next_events cs known es (events_by f) n) ≡ masked cs (event_set cs known (events_by f) (set_phrase_of t))
  unfolding next_events events_of
  next_is f n t h = ap (λ o. masked cs (o >>= events_of cs known (events_by f))) h

  pub next_not : (f : KnownSets) (n : Name) → ((t : Syntax) → meaning es n ≡ Some (definition t) → ⊥) → masked cs (next_events cs known es (events_by f) n) ≡ None
  unfolding next_events events_of masked
  next_not f n h = by (meaning es n) refl
    where
      by : (o : Option Meaning) → meaning es n ≡ o → masked cs (o >>= events_of cs known (events_by f)) ≡ None
      by None e = refl
      by (Some (definition t)) e = absurd (h t e)
      by (Some m) e = refl
