-- Names and numbers are as long as they can be.
use Rattle.std.proofs.Common.{◌≡◌, ℕ, suc, ◌+◌, ◌<◌, ◌≤◌, List, [], ◌∷◌, ◌++◌, Bool, true, false, length, take, drop, refl, sym, ap, subst, ◌∙◌, append_assoc, arith}
use Rattle.std.specs.Prelude.{nat_le, ◌==◌, ◌&&◌, ◌||◌}
use Rattle.std.proofs.lemmas.List.{length-append, length-drop, append-nil}
use Rattle.std.proofs.Math.Seq.{drop-append_seam, take-add}
use Rattle.std.specs.List.{prefix_len}
use Rattle.std.proofs.lemmas.Bool.{leb-true, eqb-true}
use Rattle.std.specs.Char.{is_ascii_alphabetic, is_ascii_alphanumeric, is_ascii_digit}
use Rattle.std.specs.Int.{is_in_range}
use Rattle.tokens.specs.Text.{All, IsName, IsDigits, is_name_byte, is_prime}
use Rattle.tokens.specs.Scanning.{run, name_len}
use Rattle.tokens.proofs.Lists.{run_is, prefix_on, prefix_stops, prefix_passes, run-le}

-- a run is at least as long as what passes at the front
pub run_at_least : (p : ℕ → Bool) (a b : List ℕ) → All p a → length a ≤ run p (a ++ b)
run_at_least p a b h = omega (arith, run_is p (a ++ b), prefix_on p a b h)

pub run_passes : (p : ℕ → Bool) (xs : List ℕ) → All p (take (run p xs) xs)
run_passes p xs = subst (λ (n : ℕ). All p (take n xs)) (sym (run_is p xs)) (prefix_passes p xs)

-- where what follows stops it, the run is what passes
pub run_exact : (p : ℕ → Bool) (a b : List ℕ) → All p a → prefix_len p b ≡ 0 → run p (a ++ b) ≡ length a
run_exact p a b h stop = omega (arith, run_is p (a ++ b), prefix_on p a b h, stop)

prime_is_no_name_byte : (c : ℕ) → is_prime c ≡ true → is_name_byte c ≡ false
prime_is_no_name_byte c e = rw (eqb-true c 39 e) refl

prime_stops : (primes rest : List ℕ) → 0 < length primes → All is_prime primes → prefix_len is_name_byte (primes ++ rest) ≡ 0
prime_stops [] rest n h = absurd (omega (arith, n))
prime_stops (c ∷ primes) rest n h = prefix_stops is_name_byte c (primes ++ rest) (prime_is_no_name_byte c h.0)

second : (a b : Bool) → (a && b) ≡ true → b ≡ true
second true b e = e
second false b e = absurd cc

pub above : (n c : ℕ) → c < n → nat_le n c ≡ false
above n c h = at (nat_le n c) refl
  where
    at : (b : Bool) → nat_le n c ≡ b → b ≡ false
    at true e = absurd (omega (arith, leb-true n c e))
    at false e = refl

take_both : (n m : ℕ) (xs : List ℕ) → take (n + m) xs ≡ take n xs ++ take m (drop n xs)
take_both n m xs = take-add n m xs

letter_among : (d u l : Bool) → (u || l) ≡ true → ((d || u) || l) ≡ true
letter_among true u l e = refl
letter_among false u l e = e

or_left : (a b : Bool) → a ≡ true → (a || b) ≡ true
or_left true b e = refl
or_left false b e = absurd cc

pub letter_is_name_byte : (c : ℕ) → is_ascii_alphabetic c ≡ true → is_name_byte c ≡ true
letter_is_name_byte c e =
    or_left (is_ascii_alphanumeric c) (c == 95) (letter_among (is_ascii_digit c) (is_in_range 65 90 c) (is_in_range 97 122 c) e)

longest_name : (front primes rest : List ℕ) → All is_name_byte front → All is_prime primes → length (front ++ primes) ≤ name_len ((front ++ primes) ++ rest)
longest_name front [] rest h k =
    subst (λ (w : List ℕ). length w ≤ name_len (w ++ rest)) (sym (append-nil front)) (omega (arith, run_at_least is_name_byte front rest h))
longest_name front (c ∷ ps) rest h k =
    subst (λ (t : List ℕ). length (front ++ (c ∷ ps)) ≤ name_len t) (sym (append_assoc front (c ∷ ps) rest))
    (let t = front ++ ((c ∷ ps) ++ rest) in
    let n : run is_name_byte t ≡ length front = run_exact is_name_byte front ((c ∷ ps) ++ rest) h (prime_stops (c ∷ ps) rest (omega arith) k) in
    let e : name_len t ≡ length front + run is_prime (drop (length front) t) = ap (λ (k : ℕ). k + run is_prime (drop k t)) n in
    let r : run is_prime (drop (length front) t) ≡ run is_prime ((c ∷ ps) ++ rest) = ap (run is_prime) (drop-append_seam front ((c ∷ ps) ++ rest)) in
    omega (arith, e, r, run_at_least is_prime (c ∷ ps) rest k, length-append front (c ∷ ps)))

-- no name that begins there is longer
pub name_at_most : (w rest : List ℕ) → IsName w → length w ≤ name_len (w ++ rest)
name_at_most w rest n = subst (λ (v : List ℕ). length v ≤ name_len (v ++ rest)) (sym n.spelled) (longest_name (n.first ∷ n.body) n.primes rest (letter_is_name_byte n.first n.letter, n.bytes) n.ends)

pub name_len-le : (text : List ℕ) → name_len text ≤ length text
name_len-le text = omega (arith, run-le is_name_byte text, run-le is_prime (drop (run is_name_byte text) text), length-drop (run is_name_byte text) text)

-- what stands there is a name
pub name_is : (c : ℕ) (t : List ℕ) → is_ascii_alphabetic c ≡ true → IsName (take (name_len (c ∷ t)) (c ∷ t))
name_is c t h =
    let n = prefix_len is_name_byte t in
    let m = run is_prime (drop n t) in
    let e : run is_name_byte (c ∷ t) ≡ suc n = run_is is_name_byte (c ∷ t) ∙ rw (letter_is_name_byte c h) (omega arith) in
    let len : name_len (c ∷ t) ≡ suc n + m = ap (λ (k : ℕ). k + run is_prime (drop k (c ∷ t))) e in
    let full : name_len (c ∷ t) ≡ suc (n + m) = omega (arith, len) in
    record {
      first = c;
      body = take n t;
      primes = take m (drop n t);
      spelled = ap (λ (k : ℕ). take k (c ∷ t)) full ∙ ap (λ (r : List ℕ). c ∷ r) (take_both n m t);
      letter = h;
      bytes = prefix_passes is_name_byte t;
      ends = run_passes is_prime (drop n t);
    }

-- ---- numbers

pub digits_at_most : (w rest : List ℕ) → IsDigits w → length w ≤ run is_ascii_digit (w ++ rest)
digits_at_most w rest n = run_at_least is_ascii_digit w rest n.digits

pub digits_is : (c : ℕ) (t : List ℕ) → is_ascii_digit c ≡ true → IsDigits (take (run is_ascii_digit (c ∷ t)) (c ∷ t))
digits_is c t h =
    let e : run is_ascii_digit (c ∷ t) ≡ suc (prefix_len is_ascii_digit t) = run_is is_ascii_digit (c ∷ t) ∙ rw h (omega arith) in
    record { first = c; others = take (prefix_len is_ascii_digit t) t; spelled = ap (λ (k : ℕ). take k (c ∷ t)) e; digits = run_passes is_ascii_digit (c ∷ t) }

-- ---- classes of bytes

pub digit_is_no_letter : (c : ℕ) → is_ascii_digit c ≡ true → is_ascii_alphabetic c ≡ false
digit_is_no_letter c e =
    let small : c ≤ 57 = leb-true c 57 (second (nat_le 48 c) (nat_le c 57) e) in
    let a : nat_le 65 c ≡ false = above 65 c (omega (arith, small)) in
    let b : nat_le 97 c ≡ false = above 97 c (omega (arith, small)) in
    rw a (rw b refl)
