-- The text of an event stands for this event alone.
use Rattle.std.proofs.Common.{◌≡◌, ◌≢◌, ℕ, zero, suc, ◌+◌, ◌<◌, List, [], ◌∷◌, map, length, get_or, slice_get, Bool, true, false, cond, ◌&&◌, not, nat_eq, Option, Some, None, refl, sym, ap, ap₂, ◌∙◌, subst, arith}
use Rattle.std.proofs.lemmas.Bool.{false≢true, not-true}
use Rattle.std.proofs.lemmas.Option.{none-some, same_Some}
use Rattle.std.specs.Cmp.{nat_eq_equiv}
use Rattle.std.specs.Cmp.Lexicographic.{pointwise, bytes_decides}
use Rattle.alphabet.specs.Channels.{FieldValue, Values, Channel, Parts, choices, channel_events, events, names, event_text, event_count, is_declared, are_distinct, IsAlphabet}
use Rattle.alphabet.specs.Elements.{In, here, there, Distinct}
use Rattle.alphabet.proofs.Lists.{In-map, In-flat_map, In-under_map, In-get_or, In-at, same_place, none-In, and-left, and-right}
use Rattle.alphabet.proofs.ChannelPlaces.{event_count-is}
use Rattle.alphabet.proofs.DistinctNames.{names_distinct}
use Rattle.alphabet.specs.declared.events.Event.TheVariants.{Of as ev}
use Rattle.values.specs.Values.{◌>>=◌, Name, is_same}
use Rattle.values.specs.Names.{same_name}
use Rattle.event_phrases.specs.Events.{fields_named, channel_fields, field_value, unless_value}
use Rattle.denotation.specs.Bodies.{Body, prefix, choice_of, halved, halved_in}
use Rattle.event_phrases.specs.Fitting.{against, fits_field, fitting, event_fits, then_fits}
use Rattle.event_phrases.specs.Forms.{FieldPhrase, event_of}
use Rattle.event_phrases.specs.Prefixes.{fields_pass, has_event, at_no_fault, prefix_parts}
use Rattle.event_phrases.specs.Scopes.{Scope}
use Rattle.denotation.specs.Phrases.{branch_on, branches, prefixed_by}
use Rattle.denotation.specs.CallLaws.{values_are, values_same, name_same}
use Rattle.read_back.proofs.Trees.{tree_of_event, no_parts}
use Rattle.read_back.proofs.Readable.{IsGiven, IsPrintedScope}
use Rattle.read_back.proofs.Given.{among-In, AreChosen, chosen, AllGiven, field_given, given_fields, event_read}

-- ---- the events of an alphabet

at_index : {A : Type 0} (xs : List A) (i : ℕ) (d : A) → i < length xs → slice_get xs i ≡ Some (get_or xs i d)
at_index [] i d h = absurd (omega arith)
at_index (x ∷ xs) zero d h = refl
at_index (x ∷ xs) (suc i) d h = at_index xs i d (omega (arith, h))

-- the channel that an event is of
pub event_parts : (cs : List Channel) (p : Parts) → In p (events cs) → (c : Channel) × In c cs × (p.channel ≡ c.name) × In p.values (choices c.fields)
event_parts cs p i =
    let q = In-flat_map channel_events cs i in
    let m = In-map (λ vs. record { channel = q.0.name; values = vs }) (choices q.0.fields) q.2 in
    (q.0, q.1, ap (λ (r : Parts). r.channel) m.2, subst (λ (r : Parts). In r.values (choices q.0.fields)) (sym m.2) m.1)

names_apart : (n m : Name) → pointwise nat_eq m n ≡ false → (b : Bool) → same_name n m ≡ b → same_name n m ≡ false
names_apart n m h true e = absurd (false≢true (sym h ∙ (bytes_decides m n).1 (sym ((bytes_decides n m).0 e))))
names_apart n m h false e = e

fields_are : (cs : List Channel) (c : Channel) → are_distinct cs ≡ true → In c cs → fields_named cs c.name ≡ Some c.fields
unfolding fields_named
fields_are [] c d i = elim i [ ]
fields_are (e ∷ cs) c d here = ap (λ b. cond b (Some c.fields) (fields_named cs c.name)) (name_same c.name)
fields_are (e ∷ cs) c d (there i) =
    let no : is_declared cs e.name ≡ false = not-true (is_declared cs e.name) (and-left (not (is_declared cs e.name)) (are_distinct cs) d) in
    let other : same_name c.name e.name ≡ false = names_apart c.name e.name (none-In (λ x. pointwise nat_eq e.name x.name) cs no i) (same_name c.name e.name) refl in
    ap (λ b. cond b (Some e.fields) (fields_named cs c.name)) other ∙ fields_are cs c (and-right (not (is_declared cs e.name)) (are_distinct cs) d) i

Distinct-unmap : {A B : Type 0} (f : A → B) (xs : List A) → Distinct (map f xs) → Distinct xs
Distinct-unmap f [] d = tt
Distinct-unmap f (x ∷ xs) d = ((λ i. d.0 (In-under_map f xs i)), Distinct-unmap f xs d.1)

events_distinct : (cs : List Channel) → IsAlphabet cs → Distinct (events cs)
unfolding names
events_distinct cs a = Distinct-unmap event_text (events cs) (names_distinct cs a)

-- ---- the event with a channel and values

abbrev pub is_row : Name → Values → Parts → Bool
is_row c ws p = same_name c p.channel && pointwise is_same ws p.values

row_is : (c : Name) (ws : Values) (p : Parts) → is_row c ws p ≡ true → p ≡ record { channel = c; values = ws }
row_is c ws p h =
    let n = (bytes_decides c p.channel).0 (and-left (same_name c p.channel) (pointwise is_same ws p.values) h) in
    let v = values_are ws p.values (and-right (same_name c p.channel) (pointwise is_same ws p.values) h) in
    ap₂ (λ d vs. record { channel = d; values = vs }) (sym n) (sym v)

pub row_itself : (p : Parts) → is_row p.channel p.values p ≡ true
row_itself p = ap₂ (λ a b. a && b) (name_same p.channel) (values_same p.values)

pub other_row : (cs : List Channel) (p q : Parts) (i j : ℕ) → IsAlphabet cs → slice_get (events cs) i ≡ Some p → slice_get (events cs) j ≡ Some q → j ≢ i → is_row p.channel p.values q ≡ false
other_row cs p q i j a e f ne = by_test (is_row p.channel p.values q) refl
  where
    by_test : (b : Bool) → is_row p.channel p.values q ≡ b → is_row p.channel p.values q ≡ false
    by_test true h =
        let same : q ≡ p = row_is p.channel p.values q h in
        absurd (ne (same_place (events cs) p j i (events_distinct cs a) (f ∙ ap (λ r. Some r) same) e))
    by_test false h = h

-- ---- an event's values against the fields of a text

pub all_given : (s : Scope) (sets : List Values) (vs : Values) → ((set : Values) (v : FieldValue) → In set sets → In v set → IsGiven s v) → AreChosen vs sets → AllGiven s vs
all_given s [] [] g h = tt
all_given s [] (v ∷ vs) g h = absurd h
all_given s (set ∷ sets) [] g h = absurd h
all_given s (set ∷ sets) (v ∷ vs) g h = (g set v here h.0, all_given s sets vs (λ t u i j. g t u (there i) j) h.1)

as_long : (vs : Values) (sets : List Values) → AreChosen vs sets → length (given_fields vs) ≡ length sets
as_long [] [] h = refl
as_long [] (set ∷ sets) h = absurd h
as_long (v ∷ vs) [] h = absurd h
as_long (v ∷ vs) (set ∷ sets) h = ap suc (as_long vs sets h.1)

pub all_fields : (vs : Values) (sets : List Values) → AreChosen vs sets → nat_eq (length (given_fields vs)) (length sets) ≡ true
all_fields vs sets h = ap (λ k. nat_eq k (length sets)) (as_long vs sets h) ∙ nat_eq_equiv.refl (length sets)

-- a channel has an event where there is a value for each field
an_event : (sets : List Values) (vs : Values) → AreChosen vs sets → has_event sets ≡ true
unfolding has_event
an_event [] vs h = refl
an_event (set ∷ sets) [] h = absurd h
an_event ([] ∷ sets) (v ∷ vs) h = elim h.0 [ ]
an_event ((u ∷ us) ∷ sets) (v ∷ vs) h = an_event sets vs h.1

abbrev fit_or_not : Bool → Scope → Option (Option Scope)
fit_or_not b s = Some (cond b (Some s) None)

fits_given : (s : Scope) (ws vs : Values) (sets : List Values) → AllGiven s ws → AreChosen ws sets → AreChosen vs sets → fitting (given_fields ws) sets vs s ≡ fit_or_not (pointwise is_same ws vs) s
unfolding fitting fits_field against field_value
fits_given s [] [] [] g h k = refl
fits_given s [] (v ∷ vs) [] g h k = absurd k
fits_given s [] vs (set ∷ sets) g h k = absurd h
fits_given s (w ∷ ws) vs [] g h k = absurd h
fits_given s (w ∷ ws) [] (set ∷ sets) g h k = absurd k
fits_given s (w ∷ ws) (v ∷ vs) (set ∷ sets) g h k =
    ap (λ o. then_fits (against set v s o) (λ inner. fitting (given_fields ws) sets vs inner)) (field_given s w g.0)
    ∙ ap (λ b. then_fits (cond b (cond (is_same w v) (Some (Some s)) (Some None)) None) (λ inner. fitting (given_fields ws) sets vs inner)) (among-In w set h.0)
    ∙ by_test (is_same w v) (fits_given s ws vs sets g.1 h.1 k.1)
  where
    by_test : (b : Bool) → fitting (given_fields ws) sets vs s ≡ fit_or_not (pointwise is_same ws vs) s → then_fits (cond b (Some (Some s)) (Some None)) (λ inner. fitting (given_fields ws) sets vs inner) ≡ fit_or_not (b && pointwise is_same ws vs) s
    by_test true e = e
    by_test false e = refl

-- ---- the branches

module _ (next : Scope → Option Body) (s : Scope) (c : Name) (fs : List FieldPhrase) (sets : List Values) where
  -- the branches of these events, where k is the first one's number
  abbrev branches_from : ℕ → List Parts → Option (List Body)
  branches_from k ps = branches (event_fits c fs sets s) next k ps

  -- the event adds no branch
  abbrev Skips : Parts → Type 0
  Skips p = event_fits c fs sets s p ≡ Some None

  skips : (p : Parts) (b : Bool) → same_name c p.channel ≡ b → (b ≡ true → fitting fs sets p.values s ≡ Some None) → Skips p
  unfolding event_fits
  skips p true e f = ap (λ b. cond b (fitting fs sets p.values s) (Some None)) e ∙ f refl
  skips p false e f = ap (λ b. cond b (fitting fs sets p.values s) (Some None)) e

  takes : (p : Parts) → same_name c p.channel ≡ true → fitting fs sets p.values s ≡ Some (Some s) → event_fits c fs sets s p ≡ Some (Some s)
  unfolding event_fits
  takes p e f = ap (λ b. cond b (fitting fs sets p.values s) (Some None)) e ∙ f

  none_taken : (ps : List Parts) (k : ℕ) → ((j : ℕ) (q : Parts) → slice_get ps j ≡ Some q → Skips q) → branches_from k ps ≡ Some []
  unfolding branches
  none_taken [] k h = refl
  none_taken (p ∷ ps) k h = ap (λ o. o >>= branch_on next k (branches_from (suc k) ps)) (h 0 p refl) ∙ none_taken ps (suc k) (λ j q e. h (suc j) q e)

  -- the only branch, in front
  one_taken : (ps : List Parts) (k i : ℕ) (p : Parts) → slice_get ps i ≡ Some p → event_fits c fs sets s p ≡ Some (Some s) → ((j : ℕ) (q : Parts) → slice_get ps j ≡ Some q → j ≢ i → Skips q) → branches_from k ps ≡ (next s >>= λ q. Some (prefix (k + i) q ∷ []))
  unfolding branches
  one_taken [] k i p e t h = absurd (none-some p e)
  one_taken (r ∷ ps) k zero p e t h =
      let same : k ≡ k + 0 = omega arith in
      ap (λ o. o >>= branch_on next k (branches_from (suc k) ps)) (ap (event_fits c fs sets s) (same_Some r p e) ∙ t)
      ∙ ap (λ o. next s >>= λ q. o >>= λ qs. Some (prefix k q ∷ qs)) (none_taken ps (suc k) (λ j q f. h (suc j) q f (λ z. omega arith)))
      ∙ ap (λ n. next s >>= λ q. Some (prefix n q ∷ [])) same
  one_taken (r ∷ ps) k (suc i) p e t h =
      let same : suc k + i ≡ k + suc i = omega arith in
      ap (λ o. o >>= branch_on next k (branches_from (suc k) ps)) (h 0 r refl (λ z. omega arith))
      ∙ one_taken ps (suc k) i p e t (λ j q f ne. h (suc j) q f (λ z. ne (omega arith)))
      ∙ ap (λ n. next s >>= λ q. Some (prefix n q ∷ [])) same

-- ---- an event before an arrow

-- the event with a number, in the scope of a printed script
module _ (s : Scope) (primes m : ℕ) (h : IsPrintedScope s primes m) (a : ℕ) (l : a < event_count s.channels) where
  abbrev pub parts : Parts
  parts = get_or (events s.channels) a no_parts

  pub there_is : a < length (events s.channels)
  there_is = omega (arith, l, event_count-is s.channels)

  pub at : slice_get (events s.channels) a ≡ Some parts
  at = at_index (events s.channels) a no_parts there_is

  pub stands : In parts (events s.channels)
  stands = In-get_or (events s.channels) a no_parts there_is

  abbrev pub its_channel : Channel
  its_channel = (event_parts s.channels parts stands).0

  is_channel : In its_channel s.channels
  is_channel = (event_parts s.channels parts stands).1

  is_named : parts.channel ≡ its_channel.name
  is_named = (event_parts s.channels parts stands).2

  pub is_chosen : AreChosen parts.values its_channel.fields
  is_chosen = chosen its_channel.fields parts.values (event_parts s.channels parts stands).3

  pub is_given : AllGiven s parts.values
  is_given = all_given s its_channel.fields parts.values (λ set v i j. h.given its_channel set v is_channel i j) is_chosen

  pub has_fields : channel_fields s.channels s.known parts.channel ≡ Some its_channel.fields
  has_fields =
      ap (channel_fields s.channels s.known) is_named
      ∙ ap (λ o. unless_value o (fields_named s.channels its_channel.name)) (h.apart its_channel is_channel)
      ∙ fields_are s.channels its_channel h.sound.distinct is_channel

  -- the values of an event of the same channel are values of its fields
  pub also_chosen : (q : Parts) → In q (events s.channels) → same_name parts.channel q.channel ≡ true → AreChosen q.values its_channel.fields
  also_chosen q i e =
      let r = event_parts s.channels q i in
      let n : its_channel.name ≡ r.0.name = sym is_named ∙ (bytes_decides parts.channel q.channel).0 e ∙ r.2 in
      let f : Some r.0.fields ≡ Some its_channel.fields =
      sym (fields_are s.channels r.0 h.sound.distinct r.1) ∙ ap (fields_named s.channels) (sym n) ∙ fields_are s.channels its_channel h.sound.distinct is_channel in
      subst (λ fs. AreChosen q.values fs) (same_Some r.0.fields its_channel.fields f) (chosen r.0.fields q.values r.3)

  fits_so : (q : Parts) → In q (events s.channels) → same_name parts.channel q.channel ≡ true → fitting (given_fields parts.values) its_channel.fields q.values s ≡ Some (cond (pointwise is_same parts.values q.values) (Some s) None)
  fits_so q i e = fits_given s parts.values q.values its_channel.fields is_given is_chosen (also_chosen q i e)

  its_branches : (next : Scope → Option Body) → branches (event_fits parts.channel (given_fields parts.values) its_channel.fields s) next 0 (events s.channels) ≡ (next s >>= λ q. Some (prefix a q ∷ []))
  its_branches next =
      let z : 0 + a ≡ a = omega arith in
      one_taken next s parts.channel (given_fields parts.values) its_channel.fields (events s.channels) 0 a parts at
      (takes next s parts.channel (given_fields parts.values) its_channel.fields parts (name_same parts.channel)
      (fits_so parts stands (name_same parts.channel) ∙ ap (λ b. Some (cond b (Some s) None)) (values_same parts.values)))
      (λ j q e ne. skips next s parts.channel (given_fields parts.values) its_channel.fields q (same_name parts.channel q.channel) refl
      (λ t. fits_so q (In-at (events s.channels) j e) t ∙ ap (λ b. Some (cond b (Some s) None)) (missed q t (other_row s.channels parts q a j h.sound at e ne))))
      ∙ ap (λ n. next s >>= λ q. Some (prefix n q ∷ [])) z
    where
      missed : (q : Parts) → same_name parts.channel q.channel ≡ true → is_row parts.channel parts.values q ≡ false → pointwise is_same parts.values q.values ≡ false
      missed q t other = sym (ap (λ b. b && pointwise is_same parts.values q.values) t) ∙ other

  only_choice : (next : Scope → Option Body) → (o : Option Body) → ((o >>= λ q. Some (prefix a q ∷ [])) >>= λ ps. Some (choice_of ps)) ≡ (o >>= λ q. Some (prefix a q))
  unfolding halved halved_in
  only_choice next None = refl
  only_choice next (Some q) = refl

  has_one : has_event its_channel.fields ≡ true
  has_one = an_event its_channel.fields parts.values is_chosen

  its_parts : prefix_parts s (event_of (tree_of_event s.channels (ev a))) ≡ Some (parts.channel, given_fields parts.values, its_channel.fields)
  unfolding prefix_parts at_no_fault
  its_parts =
      let fs = given_fields parts.values in
      ap (prefix_parts s) (event_read parts)
      ∙ ap (λ o. o >>= λ sets. cond (nat_eq (length fs) (length sets)) (at_no_fault fs sets s >>= λ u. Some (parts.channel, fs, sets)) None) has_fields
      ∙ ap (λ b. cond b (at_no_fault fs its_channel.fields s >>= λ u. Some (parts.channel, fs, its_channel.fields)) None) (all_fields parts.values its_channel.fields is_chosen)
      ∙ ap (λ b. cond b (Some tt) (fields_pass fs its_channel.fields s) >>= λ u. Some (parts.channel, fs, its_channel.fields)) has_one

  -- the process after the event, with the event before it
  pub prefix_denoted : (next : Scope → Option Body) → prefixed_by s (tree_of_event s.channels (ev a)) next ≡ (next s >>= λ q. Some (prefix a q))
  unfolding prefixed_by
  prefix_denoted next =
      ap (λ o. o >>= λ p. branches (event_fits p.0 p.1 p.2 s) next 0 (events s.channels) >>= λ ps. Some (choice_of ps)) its_parts
      ∙ ap (λ o. o >>= λ ps. Some (choice_of ps)) (its_branches next)
      ∙ only_choice next (next s)
