-- The root of a printed script: the name of its first body, as a phrase.
use Rattle.std.proofs.Common.{◌≡◌, ℕ, suc, inl, inr, ◌+◌, ◌<◌, ◌≤◌, List, [], ◌∷◌, ◌++◌, length, Bool, true, false, not, ◌&&◌, ◌==◌, refl, sym, ap, ap₂, ◌∙◌, arith, append-nil}
use Rattle.std.specs.Prelude.{codes}
use Rattle.alphabet.specs.Channels.{Channel}
use Rattle.std.specs.List.{list_all, flat_map, range_with_len}
use Rattle.std.proofs.lemmas.List.{length-append}
use Rattle.std.proofs.lemmas.List.Folds.{list_all-append}
use Rattle.std.proofs.lemmas.Bool.{eqb-true}
use Rattle.std.proofs.lemmas.Bool.Decides.{eqb_tells}
use Rattle.std.specs.Char.{is_ascii_alphabetic}
use Rattle.term.specs.Proc.{Proc, bodies_of}
use Rattle.term.specs.Specs.{Specified}
use Rattle.tokens.specs.Lexeme.{Name as name_lexeme}
use Rattle.tokens.specs.Text.{All, IsName, is_name_byte, is_prime, is_of_line, HasTokens}
use Rattle.syntax.specs.Script.{is_one_line, HasPhrase}
use Rattle.syntax.proofs.Texts.{name_is_phrase}
use Rattle.printing.specs.Names.{datatype_primes, constants}
use Rattle.printing.specs.Printed.{printed, process_text, reference, body_line, body_lines, channel_line, datatype_line}
use Rattle.read_back.proofs.Processes.{proper_reference}
use Rattle.read_back.proofs.Scanned.{IsProper, letter_high, nothing_read, proper_read}
use Rattle.read_back.proofs.Texts.{same_read}
use Rattle.read_back.proofs.Trees.{named, printed_primes}

-- ---- a name is one line

name_byte_of_line : (c : ℕ) → is_name_byte c ≡ true → is_of_line c ≡ true
name_byte_of_line c h = by (c == 10) refl
  where
    by : (b : Bool) → (c == 10) ≡ b → not b ≡ true
    by false e = refl
    by true e = absurd (let k : is_name_byte 10 ≡ true = ap is_name_byte (sym (eqb-true c 10 e)) ∙ h in cc)

prime_of_line : (c : ℕ) → is_prime c ≡ true → is_of_line c ≡ true
prime_of_line c h = ap is_of_line (eqb-true c 39 h)

all_of_line : (p : ℕ → Bool) → ((c : ℕ) → p c ≡ true → is_of_line c ≡ true) → (w : List ℕ) → All p w → list_all is_of_line w ≡ true
all_of_line p each [] h = refl
all_of_line p each (c ∷ w) h = ap (λ b. b && list_all is_of_line w) (each c h.0) ∙ all_of_line p each w h.1

letter_of_line : (c : ℕ) → is_ascii_alphabetic c ≡ true → is_of_line c ≡ true
letter_of_line c h = by (c == 10) refl
  where
    by : (b : Bool) → (c == 10) ≡ b → not b ≡ true
    by false e = refl
    by true e = absurd (let k : is_ascii_alphabetic 10 ≡ true = ap is_ascii_alphabetic (sym (eqb-true c 10 e)) ∙ h in cc)

some_more : (n : ℕ) → (suc n == 0) ≡ false
some_more n = elim (eqb_tells (suc n) 0) [ inl p ↦ absurd (omega (arith, p.1)) | inr p ↦ p.0 ]

name_is_one_line : (w : List ℕ) → IsName w → is_one_line w ≡ true
name_is_one_line w n =
    ap is_one_line n.spelled
    ∙ ap (λ b. not b && list_all is_of_line (n.first ∷ (n.body ++ n.primes))) (some_more (length (n.body ++ n.primes)))
    ∙ ap (λ b. b && list_all is_of_line (n.body ++ n.primes)) (letter_of_line n.first n.letter)
    ∙ list_all-append is_of_line n.body n.primes
    ∙ ap₂ (λ (a b : Bool). a && b) (all_of_line is_name_byte name_byte_of_line n.body n.bytes) (all_of_line is_prime prime_of_line n.primes n.ends)

-- ---- a name is a phrase

-- a name that is no reserved word is a phrase by itself
name_phrase : (n : List ℕ) → IsProper n → length n ≤ 65536 → HasPhrase n (named n)
name_phrase n h small =
    record {
      line = name_is_one_line n h.0;
      tokens = name_lexeme n ∷ [];
      read = (small, same_read (sym (append-nil n)) refl (proper_read n [] [] h tt nothing_read));
      is = name_is_phrase n;
    }

-- ---- the first body's

first_line : (cs : List Channel) (primes : ℕ) (Ps : List Proc) → 0 < length Ps → length (reference primes 0) ≤ length (body_lines cs primes Ps)
first_line cs primes [] h = absurd (omega (arith, h))
first_line cs primes (P ∷ Ps) h =
    let name = reference primes 0 in
    let text = process_text cs primes P in
    let others : List ℕ = flat_map (λ k. body_line cs primes k (bodies_of (P ∷ Ps) k)) (range_with_len 1 (length Ps)) in
    let whole : length (body_lines cs primes (P ∷ Ps)) ≡ length (body_line cs primes 0 P) + length others = length-append (body_line cs primes 0 P) others in
    omega (arith, whole, length-append ((name ++ codes " = ") ++ text) (codes "\n"), length-append (name ++ codes " = ") text, length-append name (codes " = "))

pub printed_root : (spec : Specified) → 0 < length spec.bodies → length (printed spec) ≤ 65536 → HasPhrase (reference (printed_primes spec) 0) (named (reference (printed_primes spec) 0))
printed_root spec some small =
    let cs = spec.alphabet in
    let primes = printed_primes spec in
    let typed = datatype_line (datatype_primes cs) (constants cs) in
    name_phrase (reference primes 0) (proper_reference primes 0 (omega arith))
    (omega (arith, small, first_line cs primes spec.bodies some, length-append (typed ++ flat_map channel_line cs) (body_lines cs primes spec.bodies)))
