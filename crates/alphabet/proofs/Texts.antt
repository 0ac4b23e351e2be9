-- The texts of values: none has a dot, and different values have different texts.
use Rattle.std.proofs.Common.{◌≡◌, ◌≢◌, ℕ, suc, ◌+◌, ◌%◌, ◌^◌, ◌<◌, ℤ, pos, negsuc, Bool, true, false, not, ◌&&◌, nat_eq, nat_le, if◌then◌else◌, List, [], ◌∷◌, ◌++◌, refl, sym, ap, ◌∙◌, inl, inr, arith}
use Rattle.std.proofs.lemmas.Bool.{eqb-true, ltb-true, false≢true}
use Rattle.std.proofs.lemmas.Bool.Decides.{leb_tells}
use Rattle.std.proofs.lemmas.Fmt.{decimal_by_steps, signed_decimal_injective}
use lib.Signed.{mag}
use Rattle.std.specs.Fmt.{decimal, signed_decimal}
use Rattle.std.specs.List.{list_all}
use Rattle.alphabet.specs.Names.{is_letter, is_word_byte, is_name, is_name_rest, is_kept_word}
use Rattle.alphabet.specs.Channels.{FieldValue, number, constant, Values, value_text, dotted, is_value, is_in_range}
use Rattle.alphabet.proofs.Lists.{and-left, and-right}

-- no byte is a dot
abbrev pub NoDot : List ℕ → Type 0
NoDot [] = Unit {0}
NoDot (c ∷ cs) = (c ≢ 46) × NoDot cs

NoDot-append : (xs ys : List ℕ) → NoDot xs → NoDot ys → NoDot (xs ++ ys)
NoDot-append [] ys h k = k
NoDot-append (x ∷ xs) ys h k = (h.0, NoDot-append xs ys h.1 k)

no_dot_letter : (c : ℕ) → is_letter c ≡ true → c ≢ 46
no_dot_letter c h e = false≢true (ap is_letter (sym e) ∙ h)

no_dot_word_byte : (c : ℕ) → is_word_byte c ≡ true → c ≢ 46
no_dot_word_byte c h e = false≢true (ap is_word_byte (sym e) ∙ h)

no_dot_primes : (cs : List ℕ) → list_all (λ b. nat_eq b 39) cs ≡ true → NoDot cs
no_dot_primes [] h = tt
no_dot_primes (c ∷ cs) h =
    let p : c ≡ 39 = eqb-true c 39 (and-left (nat_eq c 39) (list_all (λ b. nat_eq b 39) cs) h) in
    ((λ e. omega arith), no_dot_primes cs (and-right (nat_eq c 39) (list_all (λ b. nat_eq b 39) cs) h))

rest_step : (c : ℕ) (cs : List ℕ) (b : Bool) → is_word_byte c ≡ b → (is_name_rest cs ≡ true → NoDot cs) → (if b then is_name_rest cs else list_all (λ d. nat_eq d 39) (c ∷ cs)) ≡ true → NoDot (c ∷ cs)
rest_step c cs true e rest h = (no_dot_word_byte c e, rest h)
rest_step c cs false e rest h = no_dot_primes (c ∷ cs) h

no_dot_rest : (cs : List ℕ) → is_name_rest cs ≡ true → NoDot cs
no_dot_rest [] h = tt
no_dot_rest (c ∷ cs) h = rest_step c cs (is_word_byte c) refl (no_dot_rest cs) h

pub first_of_name : (n : List ℕ) → is_name n ≡ true → (c : ℕ) × (cs : List ℕ) × (n ≡ c ∷ cs) × (is_letter c ≡ true) × (is_name_rest cs ≡ true)
first_of_name [] h = absurd (false≢true h)
first_of_name (c ∷ cs) h =
    let k = and-left (is_letter c && is_name_rest cs) (not (is_kept_word (c ∷ cs))) h in
    (c, cs, refl, and-left (is_letter c) (is_name_rest cs) k, and-right (is_letter c) (is_name_rest cs) k)

pub no_dot_name : (n : List ℕ) → is_name n ≡ true → NoDot n
no_dot_name n h =
    let f = first_of_name n h in
    rw f.2 (no_dot_letter f.0 f.3, no_dot_rest f.1 f.4)

abbrev NoDotAt : ℕ → List ℕ → Type 0
NoDotAt n ds = NoDot ds

no_dot_decimal : (n : ℕ) → n < 2 ^ 64 → NoDotAt n (decimal n)
no_dot_decimal n h =
    decimal_by_steps NoDotAt (λ m b. ((λ e. omega arith), tt)) (λ m ds b k. NoDot-append ds ((48 + m % 10) ∷ []) k ((λ e. omega arith), tt)) n h

-- the first byte is no letter
abbrev BeginsLow : ℕ → List ℕ → Type 0
BeginsLow n ds = (c : ℕ) × (cs : List ℕ) × (ds ≡ c ∷ cs) × (c < 58)

begins_low_push : (n : ℕ) (ds : List ℕ) (d : ℕ) → BeginsLow n ds → BeginsLow n (ds ++ d ∷ [])
begins_low_push n ds d h = (h.0, h.1 ++ d ∷ [], rw h.2 refl, h.3)

begins_low_decimal : (n : ℕ) → n < 2 ^ 64 → BeginsLow n (decimal n)
begins_low_decimal n h =
    decimal_by_steps BeginsLow (λ m b. (48 + m, [], refl, omega arith)) (λ m ds b k. begins_low_push m ds (48 + m % 10) k) n h

no_dot_number : (z : ℤ) → is_in_range (number z) ≡ true → NoDot (signed_decimal z)
no_dot_number (pos n) h = no_dot_decimal n (omega (arith, ltb-true n (2 ^ 63) h))
no_dot_number (negsuc n) h = ((λ e. omega arith), no_dot_decimal (suc n) (omega (arith, ltb-true n (2 ^ 63) h)))

number_begins_low : (z : ℤ) → is_in_range (number z) ≡ true → (c : ℕ) × (cs : List ℕ) × (signed_decimal z ≡ c ∷ cs) × (c < 58)
number_begins_low (pos n) h = begins_low_decimal n (omega (arith, ltb-true n (2 ^ 63) h))
number_begins_low (negsuc n) h = (45, decimal (suc n), refl, omega arith)

not_above : (a c : ℕ) → c < a → nat_le a c ≡ false
not_above a c h = elim (leb_tells a c) [ inl p ↦ absurd (omega arith) | inr p ↦ p.0 ]

letter_high : (c : ℕ) → is_letter c ≡ true → c < 58 → ⊥
letter_high c h b =
    let no : is_letter c ≡ false = rw (not_above 65 c (omega arith), not_above 97 c (omega arith)) refl in
    false≢true (sym no ∙ h)

number_is_no_name : (z : ℤ) (n : List ℕ) → is_in_range (number z) ≡ true → is_name n ≡ true → signed_decimal z ≡ n → ⊥
number_is_no_name z n h k e =
    let a = number_begins_low z h in
    let b = first_of_name n k in
    let same : a.0 ≡ b.0 = cc (a.2, b.2, e) in
    letter_high b.0 b.3 (omega arith)

-- what holds of each value of an alphabet's fields
abbrev pub IsPlain : FieldValue → Type 0
IsPlain v = (is_value v ≡ true) × (is_in_range v ≡ true)

pub no_dot_value : (v : FieldValue) → IsPlain v → NoDot (value_text v)
no_dot_value (number z) h = no_dot_number z h.1
no_dot_value (constant n) h = no_dot_name n h.0

small_mag : (z : ℤ) → is_in_range (number z) ≡ true → mag z < 2 ^ 63
small_mag (pos n) h = ltb-true n (2 ^ 63) h
small_mag (negsuc n) h = ltb-true n (2 ^ 63) h

pub same_value : (v w : FieldValue) → IsPlain v → IsPlain w → value_text v ≡ value_text w → v ≡ w
same_value (number y) (number z) h k e = ap number (signed_decimal_injective y z (small_mag y h.1) (small_mag z k.1) e)
same_value (number y) (constant n) h k e = absurd (number_is_no_name y n h.1 k.0 e)
same_value (constant m) (number z) h k e = absurd (number_is_no_name z m k.1 h.0 (sym e))
same_value (constant m) (constant n) h k e = ap constant e

-- after two texts without a dot stand two lists of values: the texts are the same, and so are the lists' texts
pub same_front : (a b : List ℕ) (vs ws : Values) → NoDot a → NoDot b → a ++ dotted vs ≡ b ++ dotted ws → (a ≡ b) × (dotted vs ≡ dotted ws)
same_front [] [] vs ws h k e = (refl, e)
same_front [] (y ∷ b) [] ws h k e = absurd (cc)
same_front [] (y ∷ b) (v ∷ vs) ws h k e = let f : 46 ≡ y = cc in absurd (k.0 (sym f))
same_front (x ∷ a) [] vs [] h k e = absurd (cc)
same_front (x ∷ a) [] vs (w ∷ ws) h k e = let f : x ≡ 46 = cc in absurd (h.0 f)
same_front (x ∷ a) (y ∷ b) vs ws h k e =
    let f : x ≡ y = cc in
    let t : a ++ dotted vs ≡ b ++ dotted ws = cc in
    let r = same_front a b vs ws h.1 k.1 t in
    (cc (f, r.0), r.1)

abbrev pub ArePlain : Values → Type 0
ArePlain [] = Unit {0}
ArePlain (v ∷ vs) = IsPlain v × ArePlain vs

pub same_values : (vs ws : Values) → ArePlain vs → ArePlain ws → dotted vs ≡ dotted ws → vs ≡ ws
same_values [] [] h k e = refl
same_values [] (w ∷ ws) h k e = absurd (cc)
same_values (v ∷ vs) [] h k e = absurd (cc)
same_values (v ∷ vs) (w ∷ ws) h k e =
    let t : value_text v ++ dotted vs ≡ value_text w ++ dotted ws = cc in
    let r = same_front (value_text v) (value_text w) vs ws (no_dot_value v h.0) (no_dot_value w k.0) t in
    let x : v ≡ w = same_value v w h.0 k.0 r.0 in
    let xs : vs ≡ ws = same_values vs ws h.1 k.1 r.1 in
    cc (x, xs)
