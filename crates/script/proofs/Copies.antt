-- Lists that are copied item by item, and events by their numbers.
use Rattle.std.proofs.Common.{◌≡◌, ℕ, zero, suc, ◌+◌, ◌-◌, ◌<◌, ◌≤◌, List, [], ◌∷◌, ◌++◌, length, take, drop, map, get_or, Bool, cond, true, false, is_some, Option, Some, None, refl, sym, ap, ap₂, ◌∙◌, arith}
use Rattle.std.specs.Prelude.{slice_get}
use Rattle.std.specs.Option.{option_map, option_and_then}
use Rattle.std.proofs.lemmas.List.{map-append, length-append, length-map, take_more, take_all, drop_all}
use Rattle.std.proofs.lemmas.Option.{slice_get_within}
use Rattle.alphabet.specs.Channels.{FieldValue, Values, Channel, Parts, channel_events, choices, events, event_count}
use Rattle.alphabet.specs.declared.events.Event.{Event}
use Rattle.alphabet.specs.EventParts.{parts_of, parts_at}
use Rattle.values.specs.declared.value.Value.{Value}
use Rattle.values.specs.View.{value}
use Rattle.event_phrases.specs.declared.row.Row.{Row}
use Rattle.event_phrases.specs.View.{listed, row}
use Rattle.values.specs.Values.{Name}
use Rattle.values.specs.Names.{same_name}
use Rattle.values.proofs.Keeps.{some_same}
use Rattle.event_phrases.specs.Events.{fields_named}
use Rattle.script.specs.declared.table.Table.{Table}
use Rattle.script.specs.Tables.{said}
use Rattle.alphabet.proofs.ChannelPlaces.{event_count-is}

module _ {X Y Z : Type 0} (f : X → Z) (g : Y → Z) where
  pub map_more : (ys : List Y) (i : ℕ) (y : Y) (xs new : List X) (x : X) → map f xs ≡ map g (take i ys) → i < length ys → y ≡ get_or ys i y → f x ≡ g y → new ≡ xs ++ x ∷ [] → map f new ≡ map g (take (i + 1) ys)
  map_more ys i y xs new x inv h is same put =
      ap (map f) put ∙ map-append f xs (x ∷ []) ∙ ap₂ (λ zs z. zs ++ z ∷ []) inv same
      ∙ sym (map-append g (take i ys) (y ∷ [])) ∙ ap (map g) (sym (take_more ys i y h ∙ ap (λ z. take i ys ++ z ∷ []) (sym is)))

  pub map_all : (ys : List Y) (i : ℕ) (xs : List X) → map f xs ≡ map g (take i ys) → length ys ≤ i → map f xs ≡ map g ys
  map_all ys i xs inv h = inv ∙ ap (map g) (take_all i ys h)

-- ---- places

take_suc : {X : Type 0} (xs : List X) (i : ℕ) (x : X) → slice_get xs i ≡ Some x → take (suc i) xs ≡ take i xs ++ x ∷ []
take_suc [] i x h = absurd cc
take_suc (y ∷ ys) zero x h = ap (λ z. z ∷ []) (some_same h)
take_suc (y ∷ ys) (suc i) x h = ap (λ zs. y ∷ zs) (take_suc ys i x h)

take_next : {X : Type 0} (xs : List X) (i : ℕ) (x : X) → slice_get xs i ≡ Some x → take (i + 1) xs ≡ take i xs ++ x ∷ []
take_next xs i x h = let e : i + 1 ≡ suc i = omega arith in ap (λ k. take k xs) e ∙ take_suc xs i x h

-- ---- the channel of an event

of_channel : (c : Channel) (vss : List Values) (j : ℕ) (p : Parts) → slice_get (map (λ vs. record { channel = c.name; values = vs }) vss) j ≡ Some p → p.channel ≡ c.name
of_channel c [] j p h = absurd cc
of_channel c (vs ∷ vss) zero p h = ap (λ (p : Parts). p.channel) (sym (some_same h))
of_channel c (vs ∷ vss) (suc j) p h = of_channel c vss j p h

pub channel_is : (cs : List Channel) (e : Event) (i j : ℕ) (c : Channel) (p : Parts) → parts_at cs i j ≡ parts_of cs e → slice_get cs i ≡ Some c → parts_of cs e ≡ Some p → c.name ≡ p.channel
channel_is cs e i j c p at here is =
    sym (of_channel c (choices c.fields) j p (sym (ap (option_and_then (λ c. slice_get (channel_events c) j)) here) ∙ at ∙ is))

no_item : {X : Type 0} (xs : List X) (i : ℕ) → (i < length xs → ⊥) → slice_get xs i ≡ None
no_item [] i h = refl
no_item (x ∷ xs) zero h = absurd (h (omega arith))
no_item (x ∷ xs) (suc i) h = no_item xs i (λ k. h (omega (arith, k)))

-- a channel that isn't there has no events
pub channel_there : (cs : List Channel) (e : Event) (i j : ℕ) (p : Parts) → parts_at cs i j ≡ parts_of cs e → (i < length cs → false ≡ true) → parts_of cs e ≡ Some p → ⊥
channel_there cs e i j p at h is = let none : None ≡ Some p = sym (ap (option_and_then (λ c. slice_get (channel_events c) j)) (no_item cs i (λ k. let f = h k in cc))) ∙ at ∙ is in cc

-- ---- the values of an event

-- how many values the event has
abbrev pub value_count : Option Parts → ℕ
value_count None = 0
value_count (Some p) = length p.values

-- these are the first n values of the event
abbrev pub AreFirst : Option Parts → ℕ → Values → Type 0
AreFirst None n vs = Unit {0}
AreFirst (Some p) n vs = vs ≡ take n p.values

pub first_none : {A : Type 0} (o : Option Parts) (vs : List (Value A)) → vs ≡ [] → AreFirst o (length vs) (listed vs)
first_none None vs h = tt
first_none (Some p) vs h = ap listed h ∙ sym (ap (λ vs. take (length vs) p.values) h)

pub first_more : {A : Type 0} (o : Option Parts) (vs new : List (Value A)) (x : Value A) (v : FieldValue) → AreFirst o (length vs) (listed vs) → option_and_then (λ (p : Parts). slice_get p.values (length vs)) o ≡ Some v → value x ≡ v → new ≡ vs ++ x ∷ [] → AreFirst o (length new) (listed new)
first_more None vs new x v inv h same put = tt
first_more (Some p) vs new x v inv h same put =
    let long : length new ≡ length vs + 1 = ap length put ∙ length-append vs (x ∷ []) in
    ap listed put ∙ map-append value vs (x ∷ []) ∙ ap₂ (λ us u. us ++ u ∷ []) inv same ∙ sym (take_next p.values (length vs) v h) ∙ ap (λ n. take n p.values) (sym long)

pub first_less : {A : Type 0} (o : Option Parts) (vs new : List (Value A)) (x : Value A) (v : FieldValue) → option_and_then (λ (p : Parts). slice_get p.values (length vs)) o ≡ Some v → new ≡ vs ++ x ∷ [] → value_count o - length new < value_count o - length vs
first_less None vs new x v h put = absurd cc
first_less (Some p) vs new x v h put =
    let long : length new ≡ length vs + 1 = ap length put ∙ length-append vs (x ∷ []) in
    let there = slice_get_within p.values (length vs) v h in
    omega (arith, long, there)

pub first_all : (o : Option Parts) (n : ℕ) (vs : Values) → AreFirst o n vs → (is_some (option_and_then (λ (p : Parts). slice_get p.values n) o) ≡ true → false ≡ true) → (p : Parts) → o ≡ Some p → vs ≡ p.values
first_all None n vs inv h p is = absurd cc
first_all (Some q) n vs inv h p is = inv ∙ take_all n q.values (reached q.values n h) ∙ ap (λ (p : Parts). p.values) (some_same is)
  where
    reached : (us : Values) (n : ℕ) → (is_some (slice_get us n) ≡ true → false ≡ true) → length us ≤ n
    reached [] n h = omega arith
    reached (u ∷ us) zero h = absurd (let f = h refl in cc)
    reached (u ∷ us) (suc n) h = let k = reached us n h in omega (arith, k)

-- ---- all events

module _ {A : Type 0} (cs : List Channel) where
  pub rows_more : (i a : ℕ) (rs new : List (Row A)) (r : Row A) → map row rs ≡ take i (events cs) → i < event_count cs → a ≡ i → ((p : Parts) → slice_get (events cs) a ≡ Some p → row r ≡ p) → new ≡ rs ++ r ∷ [] → map row new ≡ take (i + 1) (events cs)
  rows_more i a rs new r inv h same made put =
      let there : i < length (events cs) = omega (arith, h, event_count-is cs) in
      by (slice_get (events cs) i) refl (some_there (events cs) i there)
    where
      some_there : (ps : List Parts) (i : ℕ) → i < length ps → is_some (slice_get ps i) ≡ true
      some_there [] i h = absurd (omega (arith, h))
      some_there (p ∷ ps) zero h = refl
      some_there (p ∷ ps) (suc i) h = some_there ps i (omega (arith, h))

      by : (o : Option Parts) → slice_get (events cs) i ≡ o → is_some o ≡ true → map row new ≡ take (i + 1) (events cs)
      by None e k = absurd cc
      by (Some p) e k =
          ap (map row) put ∙ map-append row rs (r ∷ []) ∙ ap₂ (λ qs q. qs ++ q ∷ []) inv (made p (ap (slice_get (events cs)) same ∙ e)) ∙ sym (take_next (events cs) i p e)

  pub rows_all : (i : ℕ) (rs : List (Row A)) → map row rs ≡ take i (events cs) → event_count cs ≤ i → map row rs ≡ events cs
  rows_all i rs inv h = inv ∙ take_all i (events cs) (omega (arith, h, event_count-is cs))

  pub rows_few : (n : ℕ) (rs : List (Row A)) → map row rs ≡ events cs → event_count cs ≤ n → length rs ≤ n
  rows_few n rs h k = let e : length rs ≡ length (events cs) = sym (length-map rs row) ∙ ap length h in omega (arith, e, event_count-is cs, k)

-- ---- fields by name

drop_suc : {X : Type 0} (xs : List X) (j : ℕ) (x : X) → slice_get xs j ≡ Some x → drop j xs ≡ x ∷ drop (suc j) xs
drop_suc [] j x h = absurd cc
drop_suc (y ∷ ys) zero x h = ap (λ z. z ∷ ys) (some_same h)
drop_suc (y ∷ ys) (suc j) x h = drop_suc ys j x h

drop_here : {X : Type 0} (xs : List X) (i j : ℕ) (x : X) → i ≡ suc j → slice_get xs j ≡ Some x → drop j xs ≡ x ∷ drop i xs
drop_here xs i j x h is = drop_suc xs j x is ∙ ap (λ k. x ∷ drop k xs) (sym h)

module _ {V A : Type 0} (view : V → List Values) where
  pub named_start : (t : Table V A) (cs : List Channel) (i : ℕ) → i ≡ length cs → ((n : Name) → said t n ≡ None) → (n : Name) → option_map view (said t n) ≡ fields_named (drop i cs) n
  unfolding fields_named
  named_start t cs i h none n = ap (option_map view) (none n) ∙ sym (ap (λ ds. fields_named ds n) (drop_all i cs (omega (arith, h))))

  pub named_more : (t u : Table V A) (cs : List Channel) (i : ℕ) (name : Name) (v : V) (c : Channel) → 0 < i → ((n : Name) → option_map view (said t n) ≡ fields_named (drop i cs) n) → slice_get cs (i - 1) ≡ Some c → c.name ≡ name → view v ≡ c.fields → ((n : Name) → said u n ≡ cond (same_name n name) (Some v) (said t n)) → (n : Name) → option_map view (said u n) ≡ fields_named (drop (i - 1) cs) n
  unfolding fields_named
  named_more t u cs i name v c low inv is named fielded put n =
      let e : i ≡ suc (i - 1) = omega (arith, low) in
      ap (option_map view) (put n) ∙ through (same_name n name) ∙ ap (λ o. cond (same_name n name) (Some (view v)) o) (inv n)
      ∙ ap₂ (λ m f. let o : Option (List Values) = cond (same_name n m) (Some f) (fields_named (drop i cs) n) in o) (sym named) fielded
      ∙ sym (ap (λ ds. fields_named ds n) (drop_here cs i (i - 1) c e is))
    where
      through : (b : Bool) → option_map view (cond b (Some v) (said t n)) ≡ cond b (Some (view v)) (option_map view (said t n))
      through true = refl
      through false = refl
