-- Texts that are read token by token.
use Rattle.std.proofs.Common.{◌≡◌, ◌≢◌, ℕ, ◌+◌, ◌*◌, ◌-◌, ◌/◌, ◌%◌, ◌<◌, ◌≤◌, List, [], ◌∷◌, ◌++◌, length, take, drop, Bool, true, false, ◌&&◌, ◌||◌, Option, Some, None, inl, inr, refl, sym, ap, ap₂, ◌∙◌, subst, arith, append_assoc}
use Rattle.std.specs.Prelude.{◌==◌, nat_le, decimal}
use Rattle.std.specs.Char.{is_ascii_digit, is_ascii_alphabetic}
use Rattle.std.specs.List.{prefix_len}
use Rattle.std.specs.Int.{is_in_range}
use Rattle.std.proofs.lemmas.Bool.{le-leb, leb-true, eqb-true, false≢true}
use Rattle.std.proofs.lemmas.Bool.Decides.{eqb_tells}
use Rattle.std.proofs.lemmas.List.{length-append}
use Rattle.std.proofs.lemmas.Fmt.{decimal_by_steps}
use Rattle.std.proofs.Math.Nat.{mod-lt}
use Rattle.std.proofs.Math.Seq.{take-append_seam, drop-append_seam}
use Rattle.tokens.specs.declared.symbol.Symbol.TheVariants as symbols
use Rattle.tokens.specs.Lexeme.{Lexeme, Name, Number, Sign}
use Rattle.tokens.specs.Spelling.{symbol_text, refused_symbol_text}
use Rattle.tokens.specs.Text.{All, IsName, is_name_byte, is_prime, is_blank, value_of, opens_comment, Blank, behind, Holds}
use Rattle.tokens.specs.Scanning.{◌>>=◌, run, name_len, Step, reserved_of, named, name_at, number_at, signed, sign_at, word_at, next_at, value_from}
use Rattle.tokens.proofs.Lists.{prefix_stops}
use Rattle.tokens.proofs.Names.{run_exact, letter_is_name_byte, digit_is_no_letter}
use Rattle.tokens.proofs.Complete.{next_word, word_letter, word_digit}
use Rattle.tokens.proofs.Sound.{step_sound}

-- ---- part by part

pub nothing_read : Holds [] []
nothing_read = record { parts = []; spelled = refl; are = refl }

step_read : (text rest : List ℕ) (o : Option Lexeme) (ws : List Lexeme) → next_at text ≡ Some (o, rest) → Holds rest ws → Holds text (behind o ws)
step_read text rest o ws e h =
    let s = step_sound text (o, rest) e in
    record { parts = s.part ∷ h.parts; spelled = (rest, s.spelled, s.is, h.spelled); are = ap₂ behind s.word h.are }

pub token_read : (text rest : List ℕ) (x : Lexeme) (ws : List Lexeme) → next_at text ≡ Some (Some x, rest) → Holds rest ws → Holds text (x ∷ ws)
token_read text rest x ws e h = step_read text rest (Some x) ws e h

pub blank_read : (c : ℕ) (rest : List ℕ) (ws : List Lexeme) → is_blank c ≡ true → Holds rest ws → Holds (c ∷ rest) ws
blank_read c rest ws e h = record { parts = Blank c ∷ h.parts; spelled = (rest, refl, e, h.spelled); are = h.are }

-- ---- bytes

pub other_byte : (c d : ℕ) → (c ≢ d) → (c == d) ≡ false
other_byte c d h = elim (eqb_tells c d) [ inl p ↦ absurd (h p.1) | inr p ↦ p.0 ]

no_comment : (c : ℕ) (rest : List ℕ) → (c == 45) ≡ false → (c == 123) ≡ false → opens_comment (c ∷ rest) ≡ false
no_comment c [] h k = refl
no_comment c (e ∷ rest) h k = ap₂ (λ a b. (a && e == 45) || (b && e == 45)) h k

in_range : (low high c : ℕ) → is_in_range low high c ≡ true → (low ≤ c) × (c ≤ high)
in_range low high c h = by (nat_le low c) (nat_le c high) refl refl h
  where
    by : (a b : Bool) → nat_le low c ≡ a → nat_le c high ≡ b → (a && b) ≡ true → (low ≤ c) × (c ≤ high)
    by true true e f g = (leb-true low c e, leb-true c high f)
    by true false e f g = absurd (false≢true g)
    by false b e f g = absurd (false≢true g)

pub letter_high : (c : ℕ) → is_ascii_alphabetic c ≡ true → (65 ≤ c) × (c ≤ 122)
letter_high c h = by (is_in_range 65 90 c) refl h
  where
    by : (b : Bool) → is_in_range 65 90 c ≡ b → (b || is_in_range 97 122 c) ≡ true → (65 ≤ c) × (c ≤ 122)
    by true e g = let r = in_range 65 90 c e in (r.0, omega (arith, r.1))
    by false e g = let r = in_range 97 122 c g in (omega (arith, r.0), r.1)

pub digit_low : (c : ℕ) → is_ascii_digit c ≡ true → (48 ≤ c) × (c ≤ 57)
digit_low c h = in_range 48 57 c h

no_blank : (c : ℕ) → 33 ≤ c → is_blank c ≡ false
no_blank c h = rw (other_byte c 32 (λ e. omega (arith, h, e)), other_byte c 9 (λ e. omega (arith, h, e)), other_byte c 13 (λ e. omega (arith, h, e)), other_byte c 10 (λ e. omega (arith, h, e))) refl

-- ---- names

-- a name ends where this follows
abbrev pub Ends : List ℕ → Type 0
Ends [] = Unit {0}
Ends (c ∷ rest) = (is_name_byte c ≡ false) × (is_prime c ≡ false)

name_ends : (rest : List ℕ) → Ends rest → prefix_len is_name_byte rest ≡ 0
name_ends [] e = refl
name_ends (c ∷ rest) e = prefix_stops is_name_byte c rest e.0

primes_end : (rest : List ℕ) → Ends rest → prefix_len is_prime rest ≡ 0
primes_end [] e = refl
primes_end (c ∷ rest) e = prefix_stops is_prime c rest e.1

prime_is_no_name_byte : (c : ℕ) → is_prime c ≡ true → is_name_byte c ≡ false
prime_is_no_name_byte c e = rw (eqb-true c 39 e) refl

body_ends : (primes rest : List ℕ) → All is_prime primes → Ends rest → prefix_len is_name_byte (primes ++ rest) ≡ 0
body_ends [] rest h e = name_ends rest e
body_ends (c ∷ primes) rest h e = prefix_stops is_name_byte c (primes ++ rest) (prime_is_no_name_byte c h.0)

exact_name : (front primes rest : List ℕ) → All is_name_byte front → All is_prime primes → Ends rest → name_len ((front ++ primes) ++ rest) ≡ length (front ++ primes)
exact_name front primes rest h k e =
    let t = front ++ (primes ++ rest) in
    let n : run is_name_byte t ≡ length front = run_exact is_name_byte front (primes ++ rest) h (body_ends primes rest k e) in
    let m : run is_prime (drop (run is_name_byte t) t) ≡ length primes = ap (λ i. run is_prime (drop i t)) n ∙ ap (run is_prime) (drop-append_seam front (primes ++ rest)) ∙ run_exact is_prime primes rest k (primes_end rest e) in
    ap name_len (append_assoc front primes rest) ∙ omega (arith, n, m, length-append front primes)

pub name_read : (w rest : List ℕ) → IsName w → Ends rest → next_at (w ++ rest) ≡ named (reserved_of w) w rest
unfolding name_at
name_read w rest is e = subst (λ v. next_at (v ++ rest) ≡ named (reserved_of v) v rest) (sym is.spelled) there
  where
    c : ℕ
    c = is.first

    v : List ℕ
    v = c ∷ (is.body ++ is.primes)

    known : List ℕ → List ℕ → Option Step
    known x r = named (reserved_of x) x r

    there : next_at (v ++ rest) ≡ named (reserved_of v) v rest
    there =
        let high = letter_high is.first is.letter in
        let exact : name_len (v ++ rest) ≡ length v = exact_name (is.first ∷ is.body) is.primes rest (letter_is_name_byte is.first is.letter, is.bytes) is.ends e in
        next_word is.first ((is.body ++ is.primes) ++ rest) (no_blank is.first (omega (arith, high.0))) (no_comment is.first ((is.body ++ is.primes) ++ rest) (other_byte is.first 45 (λ x. omega (arith, high.0, x))) (other_byte is.first 123 (λ x. omega (arith, high.1, x))))
        ∙ word_letter is.first (v ++ rest) is.letter
        ∙ ap (λ (k : ℕ). known (take k (v ++ rest)) (drop k (v ++ rest))) exact
        ∙ ap (λ (x : List ℕ). known x (drop (length v) (v ++ rest))) (take-append_seam v rest)
        ∙ ap (known v) (drop-append_seam v rest)

-- a name that is no reserved word
abbrev pub IsProper : List ℕ → Type 0
IsProper n = IsName n × (reserved_of n ≡ None)

abbrev pub AllProper : List (List ℕ) → Type 0
AllProper [] = Unit {0}
AllProper (n ∷ ns) = IsProper n × AllProper ns

pub proper_read : (n rest : List ℕ) (ws : List Lexeme) → IsProper n → Ends rest → Holds rest ws → Holds (n ++ rest) (Name n ∷ ws)
unfolding named
proper_read n rest ws h e r = token_read (n ++ rest) rest (Name n) ws (name_read n rest h.0 e ∙ ap (λ o. named o n rest) h.1) r

-- ---- numbers

not_digit : (c : ℕ) → is_name_byte c ≡ false → is_ascii_digit c ≡ false
not_digit c h = by (is_in_range 48 57 c) refl h
  where
    by : (b : Bool) → is_in_range 48 57 c ≡ b → (((b || is_in_range 65 90 c) || is_in_range 97 122 c) || c == 95) ≡ false → is_in_range 48 57 c ≡ false
    by true e g = absurd (false≢true (sym g))
    by false e g = e

digits_end : (rest : List ℕ) → Ends rest → prefix_len is_ascii_digit rest ≡ 0
digits_end [] e = refl
digits_end (c ∷ rest) e = prefix_stops is_ascii_digit c rest (not_digit c e.0)

value_push : (n : ℕ) (ds : List ℕ) (d : ℕ) → value_of n (ds ++ d ∷ []) ≡ 10 * value_of n ds + (d - 48)
value_push n [] d = refl
value_push n (c ∷ ds) d = value_push (10 * n + (c - 48)) ds d

all_push : (ds : List ℕ) (d : ℕ) → All is_ascii_digit ds → is_ascii_digit d ≡ true → All is_ascii_digit (ds ++ d ∷ [])
all_push [] d h k = (k, tt)
all_push (c ∷ ds) d h k = (h.0, all_push ds d h.1 k)

-- digits that write the number
abbrev Writes : ℕ → List ℕ → Type 0
Writes m ds = (value_of 0 ds ≡ m) × All is_ascii_digit ds × (0 < length ds)

digit_is : (d : ℕ) → d < 10 → is_ascii_digit (48 + d) ≡ true
digit_is d h = ap₂ (λ a b. a && b) (le-leb 48 (48 + d) (omega arith)) (le-leb (48 + d) 57 (omega (arith, h)))

writes_one : (m : ℕ) → m < 10 → Writes m ((48 + m) ∷ [])
writes_one m h = (omega arith, (digit_is m h, tt), omega arith)

writes_more : (m : ℕ) (ds : List ℕ) → 10 ≤ m → Writes (m / 10) ds → Writes m (ds ++ ((48 + m % 10) ∷ []))
writes_more m ds l h =
    let low : m % 10 < 10 = mod-lt m (omega arith) in
    (omega (arith, value_push 0 ds (48 + m % 10), h.0), all_push ds (48 + m % 10) h.1 (digit_is (m % 10) low), omega (arith, length-append ds ((48 + m % 10) ∷ [])))

writes : (n : ℕ) → n ≤ 1000000 → Writes n (decimal n)
writes n h = decimal_by_steps Writes writes_one writes_more n (omega (arith, h))

value-grows : (n : ℕ) (ds : List ℕ) → n ≤ value_of n ds
value-grows n [] = omega arith
value-grows n (d ∷ ds) = omega (arith, value-grows (10 * n + (d - 48)) ds)

value_taken : (n : ℕ) (ds : List ℕ) → value_of n ds ≤ 1000000 → value_from n ds ≡ Some (value_of n ds)
unfolding value_from
value_taken n [] h = refl
value_taken n (d ∷ ds) h =
    let low : nat_le (10 * n + (d - 48)) 1000000 ≡ true = le-leb _ _ (omega (arith, h, value-grows (10 * n + (d - 48)) ds)) in
    rw low (value_taken (10 * n + (d - 48)) ds h)

abbrev numbered : List ℕ → ℕ → Option Step
numbered rest n = Some (Some (Number n), rest)

digits_at : (w rest : List ℕ) → All is_ascii_digit w → Ends rest → number_at (w ++ rest) ≡ (value_from 0 w >>= numbered rest)
unfolding number_at
digits_at w rest h e =
    let exact : run is_ascii_digit (w ++ rest) ≡ length w = run_exact is_ascii_digit w rest h (digits_end rest e) in
    ap (λ (k : ℕ). value_from 0 (take k (w ++ rest)) >>= numbered (drop k (w ++ rest))) exact
    ∙ ap (λ (v : List ℕ). value_from 0 v >>= numbered (drop (length w) (w ++ rest))) (take-append_seam w rest)
    ∙ ap (λ (r : List ℕ). value_from 0 w >>= numbered r) (drop-append_seam w rest)

begins_digits : (w rest : List ℕ) → 0 < length w → All is_ascii_digit w → next_at (w ++ rest) ≡ number_at (w ++ rest)
begins_digits [] rest l h = absurd (omega (arith, l))
begins_digits (c ∷ w) rest l h =
    let low = digit_low c h.0 in
    next_word c (w ++ rest) (no_blank c (omega (arith, low.0))) (no_comment c (w ++ rest) (other_byte c 45 (λ x. omega (arith, low.0, x))) (other_byte c 123 (λ x. omega (arith, low.1, x))))
    ∙ word_digit c (c ∷ (w ++ rest)) (digit_is_no_letter c h.0) h.0

pub number_read : (n : ℕ) (rest : List ℕ) (ws : List Lexeme) → n ≤ 1000000 → Ends rest → Holds rest ws → Holds (decimal n ++ rest) (Number n ∷ ws)
number_read n rest ws h e r =
    let k = writes n h in
    token_read (decimal n ++ rest) rest (Number n) ws
    (begins_digits (decimal n) rest k.2 k.1 ∙ digits_at (decimal n) rest k.1 e ∙ ap (λ o. o >>= numbered rest) (value_taken 0 (decimal n) (omega (arith, k.0, h))) ∙ ap (numbered rest) k.0) r

-- the first byte of a number
pub first_digit : (n : ℕ) → n ≤ 1000000 → (c : ℕ) × (ds : List ℕ) × (decimal n ≡ c ∷ ds) × (is_ascii_digit c ≡ true)
first_digit n h = by (decimal n) refl (writes n h)
  where
    by : (w : List ℕ) → decimal n ≡ w → Writes n w → (c : ℕ) × (ds : List ℕ) × (decimal n ≡ c ∷ ds) × (is_ascii_digit c ≡ true)
    by [] e k = absurd (omega (arith, k.2))
    by (c ∷ ds) e k = (c, ds, e, k.1.0)

pub digits_of : (n : ℕ) → n ≤ 1000000 → All is_ascii_digit (decimal n)
digits_of n h = (writes n h).1

pub digit_name_byte : (c : ℕ) → is_ascii_digit c ≡ true → is_name_byte c ≡ true
digit_name_byte c h = ap (λ b. ((b || is_in_range 65 90 c) || is_in_range 97 122 c) || c == 95) h

-- ---- signs

module _ (rest : List ℕ) where
  sign_here : (c : ℕ) → is_blank c ≡ false → (c == 45) ≡ false → (c == 123) ≡ false → next_at (c ∷ rest) ≡ word_at c (c ∷ rest)
  sign_here c h k l = next_word c rest h (no_comment c rest k l)

  pub open_at : next_at (40 ∷ rest) ≡ Some (Some (Sign symbols.OpenParenthesis), rest)
  unfolding word_at sign_at signed symbol_text refused_symbol_text
  open_at = sign_here 40 refl refl refl

  pub close_at : next_at (41 ∷ rest) ≡ Some (Some (Sign symbols.CloseParenthesis), rest)
  unfolding word_at sign_at signed symbol_text refused_symbol_text
  close_at = sign_here 41 refl refl refl

  pub comma_at : next_at (44 ∷ rest) ≡ Some (Some (Sign symbols.Comma), rest)
  unfolding word_at sign_at signed symbol_text refused_symbol_text
  comma_at = sign_here 44 refl refl refl

  pub close_brace_at : next_at (125 ∷ rest) ≡ Some (Some (Sign symbols.CloseBrace), rest)
  unfolding word_at sign_at signed symbol_text refused_symbol_text
  close_brace_at = sign_here 125 refl refl refl

  pub semicolon_at : next_at (59 ∷ rest) ≡ Some (Some (Sign symbols.Semicolon), rest)
  unfolding word_at sign_at signed symbol_text refused_symbol_text
  semicolon_at = sign_here 59 refl refl refl

  pub hiding_at : next_at (92 ∷ 32 ∷ rest) ≡ Some (Some (Sign symbols.Hiding), 32 ∷ rest)
  unfolding next_at word_at sign_at signed symbol_text refused_symbol_text
  hiding_at = refl

  pub colon_at : next_at (58 ∷ rest) ≡ Some (Some (Sign symbols.Colon), rest)
  unfolding word_at sign_at signed symbol_text refused_symbol_text
  colon_at = sign_here 58 refl refl refl

  pub definition_at : next_at (61 ∷ 32 ∷ rest) ≡ Some (Some (Sign symbols.Definition), 32 ∷ rest)
  unfolding next_at word_at sign_at signed symbol_text refused_symbol_text
  definition_at = refl

  pub bar_at : next_at (124 ∷ 32 ∷ rest) ≡ Some (Some (Sign symbols.Bar), 32 ∷ rest)
  unfolding next_at word_at sign_at signed symbol_text refused_symbol_text
  bar_at = refl

  pub arrow_at : next_at (45 ∷ 62 ∷ rest) ≡ Some (Some (Sign symbols.Arrow), rest)
  unfolding next_at word_at sign_at signed symbol_text refused_symbol_text
  arrow_at = refl

  pub left_arrow_at : next_at (60 ∷ 45 ∷ 32 ∷ rest) ≡ Some (Some (Sign symbols.LeftArrow), 32 ∷ rest)
  unfolding next_at word_at sign_at signed symbol_text refused_symbol_text
  left_arrow_at = refl

  pub external_at : next_at (91 ∷ 93 ∷ rest) ≡ Some (Some (Sign symbols.ExternalChoice), rest)
  unfolding next_at word_at sign_at signed symbol_text refused_symbol_text
  external_at = refl

  pub internal_at : next_at (124 ∷ 126 ∷ 124 ∷ rest) ≡ Some (Some (Sign symbols.InternalChoice), rest)
  unfolding next_at word_at sign_at signed symbol_text refused_symbol_text
  internal_at = refl

  pub interrupt_at : next_at (47 ∷ 92 ∷ rest) ≡ Some (Some (Sign symbols.Interrupt), rest)
  unfolding next_at word_at sign_at signed symbol_text refused_symbol_text
  interrupt_at = refl

  pub open_sharing_at : next_at (91 ∷ 124 ∷ rest) ≡ Some (Some (Sign symbols.OpenSharing), rest)
  unfolding next_at word_at sign_at signed symbol_text refused_symbol_text
  open_sharing_at = refl

  pub close_sharing_at : next_at (124 ∷ 93 ∷ rest) ≡ Some (Some (Sign symbols.CloseSharing), rest)
  unfolding next_at word_at sign_at signed symbol_text refused_symbol_text
  close_sharing_at = refl

  pub open_renaming_at : next_at (91 ∷ 91 ∷ rest) ≡ Some (Some (Sign symbols.OpenRenaming), rest)
  unfolding next_at word_at sign_at signed symbol_text refused_symbol_text
  open_renaming_at = refl

  pub close_renaming_at : next_at (93 ∷ 93 ∷ rest) ≡ Some (Some (Sign symbols.CloseRenaming), rest)
  unfolding next_at word_at sign_at signed symbol_text refused_symbol_text
  close_renaming_at = refl

  pub dot_brace_at : next_at (46 ∷ 123 ∷ rest) ≡ Some (Some (Sign symbols.Dot), 123 ∷ rest)
  unfolding next_at word_at sign_at signed symbol_text refused_symbol_text
  dot_brace_at = refl

  pub dot_at : (c : ℕ) → (46 == c) ≡ false → next_at (46 ∷ c ∷ rest) ≡ Some (Some (Sign symbols.Dot), c ∷ rest)
  unfolding next_at word_at sign_at signed symbol_text refused_symbol_text
  dot_at c h = rw h refl

  pub minus_at : (c : ℕ) → (c == 45) ≡ false → (62 == c) ≡ false → next_at (45 ∷ c ∷ rest) ≡ Some (Some (Sign symbols.Minus), c ∷ rest)
  unfolding next_at word_at sign_at signed symbol_text refused_symbol_text
  minus_at c h k = rw (h, k) refl

  pub brace_at : (c : ℕ) → (c == 45) ≡ false → (124 == c) ≡ false → next_at (123 ∷ c ∷ rest) ≡ Some (Some (Sign symbols.OpenBrace), c ∷ rest)
  unfolding next_at word_at sign_at signed symbol_text refused_symbol_text
  brace_at c h k = rw (h, k) refl
