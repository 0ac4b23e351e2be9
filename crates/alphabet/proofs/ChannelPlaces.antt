-- Where the events of each channel begin, and what stands there.
use Rattle.std.proofs.Common.{◌≡◌, ℕ, zero, suc, ◌+◌, ◌-◌, ◌<◌, ◌≤◌, true, false, leb, leb-true, leb-false, is_some, inl, inr, List, [], ◌∷◌, ◌++◌, take, length, get_or, slice_get, option_and_then, Some, None, refl, sym, ap, ◌∙◌, subst, arith, Option, IfSome}
use Rattle.std.proofs.lemmas.List.{map-append, length-append, length-map, take_more, take_all, get_or-map}
use Rattle.std.proofs.lemmas.Option.{none-some, same_Some, slice_get-get_or, slice_get_within, slice_get_past, get_or_from_slice_get}
use Rattle.std.proofs.lemmas.Bool.{false≢true, cases_lt}
use Rattle.std.specs.List.{flat_map}
use Rattle.std.specs.List.Sorted.{IsNonDecreasingBy, IsPartitionPoint}
use Rattle.alphabet.specs.Events.{Event, tick, ev}
use Rattle.alphabet.specs.Channels.{Values, Channel, Parts, names, events, channel_events, event_text, event_count, choices, name_of}
use Rattle.alphabet.specs.EventParts.{parts_of, parts_at}
use Rattle.alphabet.specs.Naming.{own_names}
use Rattle.alphabet.specs.Tables.{first_numbers}
use Rattle.alphabet.proofs.Declaring.{event_count-push}
use Rattle.alphabet.proofs.Choices.{length-own_names}

event_count-nil : event_count [] ≡ 0
unfolding names
event_count-nil = refl

names-cons : (c : Channel) (cs : List Channel) → names (c ∷ cs) ≡ own_names c ++ names cs
unfolding names
names-cons c cs = map-append event_text (channel_events c) (events cs)

event_count-cons : (c : Channel) (cs : List Channel) → event_count (c ∷ cs) ≡ length (choices c.fields) + event_count cs
event_count-cons c cs = ap length (names-cons c cs) ∙ length-append (own_names c) (names cs) ∙ ap (λ n. n + event_count cs) (length-own_names c)

pub event_count-is : (cs : List Channel) → event_count cs ≡ length (events cs)
unfolding names
event_count-is cs = length-map (events cs) event_text

pub first_numbers-push : (n : ℕ) (cs : List Channel) (c : Channel) → first_numbers n (cs ++ c ∷ []) ≡ first_numbers n cs ++ (n + event_count cs) ∷ []
first_numbers-push n [] c = let e : n ≡ n + event_count [] = omega (arith, event_count-nil) in ap (λ m. m ∷ []) e
first_numbers-push n (d ∷ cs) c =
    let e : (n + length (choices d.fields)) + event_count cs ≡ n + event_count (d ∷ cs) = omega (arith, event_count-cons d cs) in
    ap (λ ms. n ∷ ms) (first_numbers-push (n + length (choices d.fields)) cs c ∙ ap (λ m. first_numbers (n + length (choices d.fields)) cs ++ m ∷ []) e)

pub length-first_numbers : (n : ℕ) (cs : List Channel) → length (first_numbers n cs) ≡ length cs
length-first_numbers n [] = refl
length-first_numbers n (c ∷ cs) = ap suc (length-first_numbers (n + length (choices c.fields)) cs)

-- as many events stand before a channel's first as the channels before it have
pub first_at : (n : ℕ) (cs : List Channel) (i d : ℕ) → i < length cs → get_or (first_numbers n cs) i d ≡ n + event_count (take i cs)
first_at n [] i d h = absurd (omega arith)
first_at n (c ∷ cs) zero d h = omega (arith, event_count-nil)
first_at n (c ∷ cs) (suc i) d h =
    let e : (n + length (choices c.fields)) + event_count (take i cs) ≡ n + event_count (take (suc i) (c ∷ cs)) = omega (arith, event_count-cons c (take i cs)) in
    first_at (n + length (choices c.fields)) cs i d (omega arith) ∙ e

pub firsts_rise : (n : ℕ) (cs : List Channel) → IsNonDecreasingBy (λ x. x) (first_numbers n cs)
firsts_rise n [] i j d h k = absurd (omega arith)
firsts_rise n (c ∷ cs) zero zero d h k = omega arith
firsts_rise n (c ∷ cs) zero (suc j) d h k = omega (arith, first_at (n + length (choices c.fields)) cs j d (omega (arith, length-first_numbers (n + length (choices c.fields)) cs)))
firsts_rise n (c ∷ cs) (suc i) zero d h k = absurd (omega arith)
firsts_rise n (c ∷ cs) (suc i) (suc j) d h k = firsts_rise (n + length (choices c.fields)) cs i j d (omega arith) (omega arith)

-- the events before the next channel
pub count_next : (cs : List Channel) (i : ℕ) (c : Channel) → slice_get cs i ≡ Some c → event_count (take (i + 1) cs) ≡ event_count (take i cs) + length (choices c.fields)
count_next cs i c at =
    ap event_count (take_more cs i c (slice_get_within cs i c at) ∙ ap (λ y. take i cs ++ y ∷ []) (get_or_from_slice_get cs i c c at))
    ∙ event_count-push (take i cs) c

front_same : {X : Type 0} (xs ys : List X) (i : ℕ) → i < length xs → slice_get (xs ++ ys) i ≡ slice_get xs i
front_same [] ys i h = absurd (omega arith)
front_same (x ∷ xs) ys zero h = refl
front_same (x ∷ xs) ys (suc i) h = front_same xs ys i (omega arith)

back_same : {X : Type 0} (xs ys : List X) (n : ℕ) → slice_get (xs ++ ys) (length xs + n) ≡ slice_get ys n
back_same [] ys n = let e : 0 + n ≡ n = omega arith in ap (slice_get ys) e
back_same (x ∷ xs) ys n = let e : length (x ∷ xs) + n ≡ suc (length xs + n) = omega arith in ap (slice_get (x ∷ xs ++ ys)) e ∙ back_same xs ys n

at_flat_map : {X Y : Type 0} (f : X → List Y) (xs : List X) (i j : ℕ) (x : X) → slice_get xs i ≡ Some x → j < length (f x) → slice_get (flat_map f xs) (length (flat_map f (take i xs)) + j) ≡ slice_get (f x) j
at_flat_map f [] i j x at h = absurd (none-some x at)
at_flat_map f (y ∷ ys) zero j x at h =
    let same : y ≡ x = same_Some y x at in
    let e : length (flat_map f (take zero (y ∷ ys))) + j ≡ j = omega arith in
    ap (slice_get (f y ++ flat_map f ys)) e ∙ front_same (f y) (flat_map f ys) j (subst (λ z. j < length (f z)) (sym same) h) ∙ ap (λ z. slice_get (f z) j) same
at_flat_map f (y ∷ ys) (suc i) j x at h =
    let e : length (flat_map f (take (suc i) (y ∷ ys))) + j ≡ length (f y) + (length (flat_map f (take i ys)) + j) = omega (arith, length-append (f y) (flat_map f (take i ys))) in
    ap (slice_get (f y ++ flat_map f ys)) e ∙ back_same (f y) (flat_map f ys) (length (flat_map f (take i ys)) + j) ∙ at_flat_map f ys i j x at h

pub length-channel_events : (c : Channel) → length (channel_events c) ≡ length (choices c.fields)
length-channel_events c = length-map (choices c.fields) (λ (vs : Values). let p : Parts = record { channel = c.name; values = vs } in p)

-- an event of a channel comes after those of the channels before it
pub parts_located : (cs : List Channel) (i j : ℕ) (c : Channel) → slice_get cs i ≡ Some c → j < length (choices c.fields) → slice_get (events cs) (event_count (take i cs) + j) ≡ slice_get (channel_events c) j
parts_located cs i j c at h =
    let inside : j < length (channel_events c) = omega (arith, length-channel_events c) in
    ap (λ n. slice_get (events cs) (n + j)) (event_count-is (take i cs)) ∙ at_flat_map channel_events cs i j c at inside

-- ---- the table of first numbers
module _ (cs : List Channel) (firsts : List ℕ) (begun : firsts ≡ first_numbers 0 cs) where
  pub as_many : length firsts ≡ length cs
  as_many = ap length begun ∙ length-first_numbers 0 cs

  pub first_is : (i d : ℕ) → i < length cs → get_or firsts i d ≡ event_count (take i cs)
  first_is i d h = let e : 0 + event_count (take i cs) ≡ event_count (take i cs) = omega arith in ap (λ xs. get_or xs i d) begun ∙ first_at 0 cs i d h ∙ e

  pub first_behind : (i : ℕ) → length firsts ≤ i → event_count cs ≡ event_count (take i cs)
  first_behind i b = ap event_count (sym (take_all i cs (omega (arith, as_many))))

  some_channel : (ds : List Channel) (k : ℕ) → k < event_count ds → 0 < length ds
  some_channel [] k h = absurd (omega (arith, event_count-nil))
  some_channel (d ∷ ds) k h = omega arith

  -- where the channels begin that begin at the event k or before it, and the others
  module _ (k p : ℕ) (some : k < event_count cs) (bound : p ≤ length firsts) (point : IsPartitionPoint (λ y. leb y k ≡ true) (λ y. leb y k ≡ false) firsts p) where
    pub begun_pos : 0 < p
    begun_pos =
        elim (cases_lt 0 p) [
          | inl b ↦ b
          | inr b ↦
              let few : 0 < length firsts = omega (arith, as_many, some_channel cs k some) in
              let at : get_or firsts 0 0 ≡ 0 = first_is 0 0 (some_channel cs k some) ∙ event_count-nil in
              absurd (omega (arith, at, leb-false (get_or firsts 0 0) k (point.1 0 0 (omega arith) few)))
        ]

    pub holder_there : p - 1 < length cs
    holder_there = omega (arith, as_many, begun_pos)

    pub holder_first : event_count (take (p - 1) cs) ≤ k
    holder_first = omega (arith, first_is (p - 1) 0 holder_there, leb-true (get_or firsts (p - 1) 0) k (point.0 (p - 1) 0 (omega arith) (omega (arith, begun_pos))))

    pub holder_next : k < event_count (take (p - 1 + 1) cs)
    holder_next =
        let e : p - 1 + 1 ≡ p = omega (arith, begun_pos) in
        elim (cases_lt p (length cs)) [
          | inl b ↦ omega (arith, ap (λ n. event_count (take n cs)) e, first_is p 0 b, leb-false (get_or firsts p 0) k (point.1 p 0 (omega arith) (omega (arith, as_many))))
          | inr b ↦ omega (arith, ap (λ n. event_count (take n cs)) e, ap event_count (take_all p cs b))
        ]

-- ---- the events of one channel
abbrev pub no_channel : Channel
no_channel = record { name = []; fields = [] }

nothing : Parts
nothing = record { channel = []; values = [] }

pub count_within : (cs : List Channel) (i : ℕ) → event_count (take i cs) ≤ event_count cs
count_within [] zero = omega arith
count_within [] (suc i) = omega arith
count_within (c ∷ cs) zero = omega (arith, event_count-nil)
count_within (c ∷ cs) (suc i) = omega (arith, event_count-cons c cs, event_count-cons c (take i cs), count_within cs i)

pub is_made : (cs : List Channel) (k : ℕ) → k < event_count cs → is_some (parts_of cs (ev k)) ≡ true
is_made cs k h = ap is_some (slice_get-get_or (events cs) k nothing (omega (arith, event_count-is cs)))

named_at : (cs : List Channel) (k : ℕ) (p : Parts) → slice_get (events cs) k ≡ Some p → name_of cs (ev k) ≡ event_text p
unfolding names
named_at cs k p at = get_or-map event_text (events cs) k p [] (slice_get_within (events cs) k p at) ∙ ap event_text (get_or_from_slice_get (events cs) k p p at)

-- an event is named by what it is made of
pub named_by_parts : (cs : List Channel) (e : Event) → IfSome (parts_of cs e) (λ p. name_of cs e ≡ event_text p)
named_by_parts cs tick = tt
named_by_parts cs (ev k) = by (slice_get (events cs) k) refl
  where
    by : (o : Option Parts) → slice_get (events cs) k ≡ o → IfSome o (λ p. name_of cs (ev k) ≡ event_text p)
    by None e = tt
    by (Some p) e = named_at cs k p e

-- the channel at i
module _ (cs : List Channel) (i : ℕ) (h : i < length cs) where
  pub channel_at : slice_get cs i ≡ Some (get_or cs i no_channel)
  channel_at = slice_get-get_or cs i no_channel h

  pub next_count : event_count (take (i + 1) cs) ≡ event_count (take i cs) + length (choices (get_or cs i no_channel).fields)
  next_count = count_next cs i (get_or cs i no_channel) channel_at

  pub parts_at_is : (j : ℕ) → parts_at cs i j ≡ slice_get (channel_events (get_or cs i no_channel)) j
  parts_at_is j = ap (option_and_then (λ c. slice_get (channel_events c) j)) channel_at

  pub nothing_behind : (j : ℕ) → event_count (take (i + 1) cs) ≤ event_count (take i cs) + j → parts_at cs i j ≡ None
  nothing_behind j b = parts_at_is j ∙ slice_get_past (channel_events (get_or cs i no_channel)) j (omega (arith, next_count, length-channel_events (get_or cs i no_channel)))

  pub parts_here : (j k : ℕ) → event_count (take i cs) + j ≡ k → k < event_count (take (i + 1) cs) → parts_at cs i j ≡ parts_of cs (ev k)
  parts_here j k e b =
      parts_at_is j ∙ sym (parts_located cs i j (get_or cs i no_channel) channel_at (omega (arith, next_count))) ∙ ap (slice_get (events cs)) e

-- a place with an event stands within
module _ (cs : List Channel) (i j : ℕ) (made : is_some (parts_at cs i j) ≡ true) where
  pub place_channel : i < length cs
  place_channel =
      elim (cases_lt i (length cs)) [
        | inl b ↦ b
        | inr b ↦ absurd (false≢true (ap (λ o. is_some (option_and_then (λ c. slice_get (channel_events c) j) o)) (sym (slice_get_past cs i b)) ∙ made))
      ]

  pub place_within : event_count (take i cs) + j < event_count (take (i + 1) cs)
  place_within =
      elim (cases_lt (event_count (take i cs) + j) (event_count (take (i + 1) cs))) [
        | inl b ↦ b
        | inr b ↦ absurd (false≢true (ap is_some (sym (nothing_behind cs i place_channel j b)) ∙ made))
      ]
