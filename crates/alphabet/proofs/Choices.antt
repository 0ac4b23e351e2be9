-- The ways to take a value of each field: how many there are, and which stands at a number.
use Rattle.std.proofs.Common.{◌≡◌, ℕ, zero, suc, ◌+◌, ◌-◌, ◌*◌, ◌/◌, ◌%◌, ◌^◌, ◌<◌, ◌≤◌, min, List, [], ◌∷◌, ◌++◌, map, length, get_or, slice_get, Some, take, drop, refl, sym, ap, ◌∙◌, inl, inr, arith, append_assoc, append-nil}
use Rattle.std.proofs.lemmas.Bool.{cases_lt}
use Rattle.std.proofs.lemmas.List.{length-append, length-map, get_or_append_left, get_or-append-add, get_or-map, take_more, drop_all}
use Rattle.std.proofs.Math.Nat.{mul_assoc, zero-mul, suc-mul, mul-zero, le-mul_of_pos_right, mul-div_cancel_left, div-lt_iff_lt-mul, mod-lt, div-add-mod'}
use Rattle.std.proofs.Math.Seq.{drop-cons}
use Rattle.std.specs.List.{flat_map}
use Rattle.alphabet.specs.Channels.{FieldValue, Values, Channel, Parts, choices, value_text, dotted, event_text, channel_events}
use Rattle.alphabet.specs.Naming.{own_names}

abbrev pub with_each : Values → List Values → List Values
with_each field rest = flat_map (λ v. map (λ vs. v ∷ vs) rest) field

length-with_each : (f : Values) (rest : List Values) → length (with_each f rest) ≡ length f * length rest
length-with_each [] rest = sym (zero-mul (length rest))
length-with_each (v ∷ f) rest =
    length-append (map (λ vs. v ∷ vs) rest) (with_each f rest)
    ∙ ap (λ n. n + length (with_each f rest)) (length-map rest (λ vs. v ∷ vs))
    ∙ ap (λ n. length rest + n) (length-with_each f rest)
    ∙ omega (arith, suc-mul (length f) (length rest))

pub length-choices-cons : (f : Values) (fs : List Values) → length (choices (f ∷ fs)) ≡ length f * length (choices fs)
length-choices-cons f fs = length-with_each f (choices fs)

-- the product of the fields' lengths
abbrev pub ways : List Values → ℕ
ways [] = 1
ways (f ∷ fs) = length f * ways fs

pub length-choices : (fs : List Values) → length (choices fs) ≡ ways fs
length-choices [] = refl
length-choices (f ∷ fs) = length-choices-cons f fs ∙ ap (λ n. length f * n) (length-choices fs)

pub ways-push : (fs : List Values) (f : Values) → ways (fs ++ f ∷ []) ≡ ways fs * length f
ways-push [] f = omega arith
ways-push (g ∷ fs) f = ap (λ n. length g * n) (ways-push fs f) ∙ sym (mul_assoc (length g) (ways fs) (length f))

-- a product that stops at 257 goes on as the product does
pub capped_more : (p n : ℕ) → min (min (min p 257 * n) (2 ^ 64 - 1)) 257 ≡ min (p * n) 257
capped_more p zero = rw (mul-zero p, mul-zero (min p 257)) refl
capped_more p (suc n) =
    elim (cases_lt p 257) [
      | inl b ↦ let e : min p 257 ≡ p = omega arith in rw e (omega arith)
      | inr b ↦ let e : min p 257 ≡ 257 = omega arith in
          let more : p ≤ p * suc n = le-mul_of_pos_right p (omega arith) in
          rw e (omega arith)
    ]

-- the choice at a number: the first field's value by the quotient, the others by the remainder
at_parts : (f : Values) (rest : List Values) (q r : ℕ) (v : FieldValue) → q < length f → r < length rest → get_or (with_each f rest) (q * length rest + r) [] ≡ get_or f q v ∷ get_or rest r []
at_parts [] rest q r v h k = absurd (omega arith)
at_parts (x ∷ f) rest zero r v h k =
    let e : zero * length rest + r ≡ r = omega arith in
    ap (λ i. get_or (with_each (x ∷ f) rest) i []) e
    ∙ get_or_append_left (map (λ vs. x ∷ vs) rest) (with_each f rest) [] r (omega (arith, length-map rest (λ vs. x ∷ vs)))
    ∙ get_or-map (λ vs. x ∷ vs) rest r [] [] k
at_parts (x ∷ f) rest (suc q) r v h k =
    let e : suc q * length rest + r ≡ length (map (λ vs. x ∷ vs) rest) + (q * length rest + r) = omega (arith, length-map rest (λ vs. x ∷ vs), suc-mul q (length rest)) in
    ap (λ i. get_or (with_each (x ∷ f) rest) i []) e
    ∙ get_or-append-add (map (λ vs. x ∷ vs) rest) (with_each f rest) (q * length rest + r) []
    ∙ at_parts f rest q r v (omega arith) k

-- one field of the choice at `left`, of `stride` choices in all
module _ (f : Values) (fs : List Values) (stride left : ℕ) (e : stride ≡ length (choices (f ∷ fs))) (h : left < stride) where
  product : stride ≡ length f * length (choices fs)
  product = e ∙ length-choices-cons f fs

  pub field_pos : 0 < length f
  field_pos = by (length f) refl
    where
      by : (n : ℕ) → length f ≡ n → 0 < length f
      by zero z = absurd (omega (arith, product ∙ ap (λ n. n * length (choices fs)) z ∙ zero-mul (length (choices fs))))
      by (suc n) z = omega arith

  pub rest_pos : 0 < length (choices fs)
  rest_pos = by (length (choices fs)) refl
    where
      by : (n : ℕ) → length (choices fs) ≡ n → 0 < length (choices fs)
      by zero z = absurd (omega (arith, product ∙ ap (λ n. length f * n) z ∙ mul-zero (length f)))
      by (suc n) z = omega arith

  pub next_stride : stride / length f ≡ length (choices fs)
  next_stride = ap (λ n. n / length f) product ∙ mul-div_cancel_left (length (choices fs)) field_pos

  pub in_field : left / length (choices fs) < length f
  in_field = (div-lt_iff_lt-mul rest_pos).1 (omega (arith, product))

  pub in_rest : left % length (choices fs) < length (choices fs)
  in_rest = mod-lt left rest_pos

  pub choice_at : (v : FieldValue) → get_or (choices (f ∷ fs)) left [] ≡ get_or f (left / length (choices fs)) v ∷ get_or (choices fs) (left % length (choices fs)) []
  choice_at v =
      ap (λ i. get_or (choices (f ∷ fs)) i []) (sym (div-add-mod' left (length (choices fs))))
      ∙ at_parts f (choices fs) (left / length (choices fs)) (left % length (choices fs)) v in_field in_rest

-- the name of a channel's event at a number
pub own_name_at : (c : Channel) (k : ℕ) → k < length (choices c.fields) → get_or (own_names c) k [] ≡ c.name ++ dotted (get_or (choices c.fields) k [])
own_name_at c k h =
    get_or-map event_text (channel_events c) k (record { channel = c.name; values = [] }) [] (omega (arith, length-map (choices c.fields) (λ (vs : Values). let p : Parts = record { channel = c.name; values = vs } in p)))
    ∙ ap event_text (get_or-map (λ (vs : Values). let p : Parts = record { channel = c.name; values = vs } in p) (choices c.fields) k [] (record { channel = c.name; values = [] }) h)

pub length-own_names : (c : Channel) → length (own_names c) ≡ length (choices c.fields)
length-own_names c =
    length-map (channel_events c) event_text ∙ length-map (choices c.fields) (λ (vs : Values). let p : Parts = record { channel = c.name; values = vs } in p)

-- ---- one turn of a loop over the fields, which stand in memory as xs and whose values f gives
module _ {K : Type 0} (f : K → Values) (xs : List K) (i : ℕ) (x : K) (h : i < length xs) (is : x ≡ get_or xs i x) where
  within : i < length (map f xs)
  within = omega (arith, length-map xs f)

  field_at : get_or (map f xs) i [] ≡ f x
  field_at = get_or-map f xs i x [] h ∙ ap f (sym is)

  fields_from : drop i (map f xs) ≡ f x ∷ drop (i + 1) (map f xs)
  fields_from =
      let next : suc i ≡ i + 1 = omega arith in
      drop-cons (map f xs) i [] within ∙ ap (λ y. y ∷ drop (suc i) (map f xs)) field_at ∙ ap (λ n. f x ∷ drop n (map f xs)) next

  -- the count of the events so far, with a stop
  pub total_step : (t n s r : ℕ) → t ≡ min (ways (take i (map f xs))) 257 → n ≡ length (f x) → s ≡ min (t * n) (2 ^ 64 - 1) → r ≡ min s 257 → r ≡ min (ways (take (i + 1) (map f xs))) 257
  total_step t n s r e l p q =
      let more : ways (take (i + 1) (map f xs)) ≡ ways (take i (map f xs)) * length (f x) =
      ap ways (take_more (map f xs) i [] within) ∙ ways-push (take i (map f xs)) (get_or (map f xs) i []) ∙ ap (λ y. ways (take i (map f xs)) * length y) field_at in
      q ∙ ap (λ y. min y 257) (p ∙ ap (λ y. min (y * n) (2 ^ 64 - 1)) e ∙ ap (λ y. min (min (ways (take i (map f xs))) 257 * y) (2 ^ 64 - 1)) l)
      ∙ capped_more (ways (take i (map f xs))) (length (f x)) ∙ ap (λ y. min y 257) (sym more)

  -- the next field of the event at `left`, of `stride` choices in all
  module _ (stride left n : ℕ) (size : n ≡ length (f x)) (all : stride ≡ length (choices (drop i (map f xs)))) (some : left < stride) where
    all_here : stride ≡ length (choices (f x ∷ drop (i + 1) (map f xs)))
    all_here = all ∙ ap (λ y. length (choices y)) fields_from

    pub turn_pos : 0 < n
    turn_pos = omega (arith, field_pos (f x) (drop (i + 1) (map f xs)) stride left all_here some)

    pub turn_stride : stride / n ≡ length (choices (drop (i + 1) (map f xs)))
    turn_stride = ap (λ y. stride / y) size ∙ next_stride (f x) (drop (i + 1) (map f xs)) stride left all_here some

    pub turn_stride_pos : 0 < stride / n
    turn_stride_pos = omega (arith, turn_stride, rest_pos (f x) (drop (i + 1) (map f xs)) stride left all_here some)

    pub turn_in_field : left / (stride / n) < length (f x)
    turn_in_field = rw turn_stride (in_field (f x) (drop (i + 1) (map f xs)) stride left all_here some)

    pub turn_in_rest : left % (stride / n) < stride / n
    turn_in_rest = mod-lt left turn_stride_pos

    -- the choice is the value of this field and the choice of the others
    pub turn_choice : (v : FieldValue) → v ≡ get_or (f x) (left / (stride / n)) v → get_or (choices (drop i (map f xs))) left [] ≡ v ∷ get_or (choices (drop (i + 1) (map f xs))) (left % (stride / n)) []
    turn_choice v at =
        ap (λ y. get_or (choices y) left []) fields_from
        ∙ choice_at (f x) (drop (i + 1) (map f xs)) stride left all_here some v
        ∙ rw (← turn_stride) (ap (λ y. y ∷ get_or (choices (drop (i + 1) (map f xs))) (left % (stride / n)) []) (sym at))

    pub turn_text : (name name' : List ℕ) (v : FieldValue) → v ≡ get_or (f x) (left / (stride / n)) v → name' ≡ (name ++ 46 ∷ []) ++ value_text v →
        name' ++ dotted (get_or (choices (drop (i + 1) (map f xs))) (left % (stride / n)) []) ≡ name ++ dotted (get_or (choices (drop i (map f xs))) left [])
    turn_text name name' v at grown =
        rw (grown, turn_choice v at) (append_assoc (name ++ 46 ∷ []) (value_text v) (dotted (get_or (choices (drop (i + 1) (map f xs))) (left % (stride / n)) [])) ∙ append_assoc name (46 ∷ []) (value_text v ++ dotted (get_or (choices (drop (i + 1) (map f xs))) (left % (stride / n)) [])))

-- no field is left
pub turns_done : (fs : List Values) (i stride left : ℕ) (name text : List ℕ) → length fs ≤ i → stride ≡ length (choices (drop i fs)) → left < stride → name ++ dotted (get_or (choices (drop i fs)) left []) ≡ text → name ≡ text
turns_done fs i stride left name text h all some e =
    let none : drop i fs ≡ [] = drop_all i fs h in
    let one : stride ≡ 1 = all ∙ ap (λ y. length (choices y)) none in
    let first : left ≡ 0 = omega arith in
    let last : get_or (choices (drop i fs)) left [] ≡ [] = ap (λ y. get_or (choices y) left []) none ∙ ap (λ y. get_or (choices []) y []) first in
    sym (append-nil name) ∙ ap (λ y. name ++ dotted y) (sym last) ∙ e

-- the element where the rest of a list begins, and the rest after it
pub dropped_at : {A : Type 0} (i : ℕ) (xs ys : List A) (x : A) → drop i xs ≡ x ∷ ys → slice_get xs i ≡ Some x
dropped_at zero [] ys x e = absurd (cc)
dropped_at zero (y ∷ xs) ys x e = let f : y ≡ x = cc in ap Some f
dropped_at (suc i) [] ys x e = absurd (cc)
dropped_at (suc i) (y ∷ xs) ys x e = dropped_at i xs ys x e

pub dropped_more : {A : Type 0} (i : ℕ) (xs ys : List A) (x : A) → drop i xs ≡ x ∷ ys → drop (suc i) xs ≡ ys
dropped_more zero [] ys x e = absurd (cc)
dropped_more zero (y ∷ xs) ys x e = cc
dropped_more (suc i) [] ys x e = absurd (cc)
dropped_more (suc i) (y ∷ xs) ys x e = dropped_more i xs ys x e
