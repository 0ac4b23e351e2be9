-- Where a part stands, reading finds it.
use Rattle.std.proofs.Common.{◌≡◌, ◌≢◌, ℕ, ◌+◌, ◌*◌, ◌-◌, ◌<◌, ◌≤◌, List, [], ◌∷◌, ◌++◌, Bool, true, false, cond, length, take, drop, Option, Some, None, refl, sym, ap, subst, ◌∙◌, arith, ◌⊎◌, inl, inr}
use Rattle.std.specs.Prelude.{find, nat_le, nat_eq, ◌==◌, ◌&&◌, ◌||◌, codes}
use Rattle.std.specs.Char.{is_ascii_alphabetic, is_ascii_digit}
use Rattle.std.proofs.lemmas.List.{take-append-drop, length-take}
use Rattle.std.proofs.Math.Seq.{drop-append_seam, take-append_seam}
use Rattle.std.specs.List.{prefix_len}
use Rattle.std.proofs.lemmas.Bool.{leb-true, le-leb, eqb-true, eq-eqb}
use Rattle.std.specs.Cmp.Lexicographic.{pointwise}
use Rattle.tokens.specs.declared.keyword.Keyword.{Keyword}
use Rattle.tokens.specs.declared.symbol.Symbol.{Symbol}
use Rattle.tokens.specs.declared.mark.Mark.{Mark}
use Rattle.tokens.specs.declared.mark.Mark.TheVariants as marks
use Rattle.tokens.specs.declared.mark.TheConstants.{MARKS}
use Rattle.tokens.specs.declared.reserved.Reserved.{Reserved}
use Rattle.tokens.specs.declared.reserved.Reserved.TheVariants as reserved
use Rattle.tokens.specs.Lexeme.{Lexeme, Name, Number, Kept, Sign}
use Rattle.tokens.specs.Spelling.{symbol_text, keyword_text, mark_text, reserved_text, begins}
use Rattle.tokens.specs.Text.{All, IsName, IsDigits, Spells, IsLongest, Comment, comment_bytes, IsComment, Part, Blank, Line, Assertion, Block, Token, bytes_of, token_of, opens_comment, EndsLine, IsPart, is_blank, is_of_line, value_of}
use Rattle.tokens.specs.Scanning.{◌>>=◌, run, name_len, Step, reserved_of, named, name_at, number_at, signed, sign_at, word_at, comment_at, next_at, value_from, behind_comments}
use Rattle.tokens.proofs.Lists.{prefix_stops, run-le}
use Rattle.tokens.proofs.Names.{run_exact, name_at_most, name_len-le, name_is, digits_at_most, digits_is, digit_is_no_letter, above}
use Rattle.tokens.proofs.Known.{known_word}
use Rattle.tokens.proofs.Marks.{head, begins_is, one_text, found, some_found}
use Rattle.tokens.proofs.Words.{reserved_name, none_reserved}
use Rattle.tokens.proofs.Comments.{closes, or_false}
use Rattle.tokens.proofs.Tables.{some_is, some_of}

pub or_true : (a b : Bool) → (a || b) ≡ true → (a ≡ true) ⊎ (b ≡ true)
or_true true b e = inl refl
or_true false b e = inr e

pub differ : (a : Bool) → a ≡ true → a ≡ false → ⊥
differ a e f = cc

small_no_letter : (c : ℕ) → c < 48 → is_ascii_alphabetic c ≡ false
small_no_letter c h =
    let a : nat_le 65 c ≡ false = above 65 c (omega arith) in
    let b : nat_le 97 c ≡ false = above 97 c (omega arith) in
    rw a (rw b refl)

small_no_digit : (c : ℕ) → c < 48 → is_ascii_digit c ≡ false
small_no_digit c h = let a : nat_le 48 c ≡ false = above 48 c h in rw a refl

blank_small : (c : ℕ) → is_blank c ≡ true → c < 48
blank_small c h = elim (or_true (c == 32 || c == 9 || c == 13) (c == 10) h) [
  | inl i ↦ elim (or_true (c == 32 || c == 9) (c == 13) i) [
    | inl j ↦ elim (or_true (c == 32) (c == 9) j) [ inl k ↦ omega (arith, eqb-true c 32 k) | inr k ↦ omega (arith, eqb-true c 9 k) ]
    | inr j ↦ omega (arith, eqb-true c 13 j)
  ]
  | inr i ↦ omega (arith, eqb-true c 10 i)
]

letter_no_blank : (c : ℕ) → is_ascii_alphabetic c ≡ true → is_blank c ≡ false
letter_no_blank c h = at (is_blank c) refl
  where
    at : (b : Bool) → is_blank c ≡ b → b ≡ false
    at true e = absurd (differ (is_ascii_alphabetic c) h (small_no_letter c (blank_small c e)))
    at false e = refl

digit_no_blank : (c : ℕ) → is_ascii_digit c ≡ true → is_blank c ≡ false
digit_no_blank c h = at (is_blank c) refl
  where
    at : (b : Bool) → is_blank c ≡ b → b ≡ false
    at true e = absurd (differ (is_ascii_digit c) h (small_no_digit c (blank_small c e)))
    at false e = refl

-- no comment and no blank stands first
pub next_word : (c : ℕ) (t : List ℕ) → is_blank c ≡ false → opens_comment (c ∷ t) ≡ false → next_at (c ∷ t) ≡ word_at c (c ∷ t)
unfolding next_at
next_word c [] b h = rw b refl
next_word c (e ∷ t) b h =
    let tests = or_false (c == 45 && e == 45) (c == 123 && e == 45) h in
    rw b (rw tests.0 (rw tests.1 refl))

line_stops : (rest : List ℕ) → EndsLine rest → prefix_len is_of_line rest ≡ 0
line_stops [] k = refl
line_stops (c ∷ rest) k = prefix_stops is_of_line c rest (ap is_of_line k)

-- the rest of a line
of_line : (body rest : List ℕ) → All is_of_line body → EndsLine rest → drop (run is_of_line (body ++ rest)) (body ++ rest) ≡ rest
of_line body rest h k = ap (λ (n : ℕ). drop n (body ++ rest)) (run_exact is_of_line body rest h (line_stops rest k)) ∙ drop-append_seam body rest

line_complete : (body rest : List ℕ) → All is_of_line body → EndsLine rest → next_at (45 ∷ 45 ∷ body ++ rest) ≡ Some (None, rest)
unfolding next_at
line_complete body rest h k = ap (λ (r : List ℕ). some_of {A = Step} (None, r)) (of_line body rest h k)

block_complete : (k : Comment) (rest : List ℕ) → IsComment k → next_at (123 ∷ 45 ∷ comment_bytes k ++ rest) ≡ Some (None, rest)
unfolding next_at comment_at behind_comments
block_complete k rest h = ap (λ (o : Option (List ℕ)). o >>= λ r. some_of {A = Step} (None, r)) (closes k 1 rest h (omega arith) ∙ closed rest)
  where
    closed : (rest : List ℕ) → behind_comments rest 0 ≡ Some rest
    closed [] = refl
    closed (c ∷ []) = refl
    closed (c ∷ e ∷ rest) = refl

space_complete : (c : ℕ) (rest : List ℕ) → is_blank c ≡ true → next_at (c ∷ rest) ≡ Some (None, rest)
unfolding next_at
space_complete c [] h = rw h refl
space_complete c (e ∷ rest) h = rw h refl

pub word_letter : (c : ℕ) (text : List ℕ) → is_ascii_alphabetic c ≡ true → word_at c text ≡ name_at text
unfolding word_at
word_letter c text h = rw h refl

pub word_digit : (c : ℕ) (text : List ℕ) → is_ascii_alphabetic c ≡ false → is_ascii_digit c ≡ true → word_at c text ≡ number_at text
unfolding word_at
word_digit c text k h = rw k (rw h refl)

pub word_sign : (c : ℕ) (text : List ℕ) → is_ascii_alphabetic c ≡ false → is_ascii_digit c ≡ false → word_at c text ≡ sign_at text
unfolding word_at
word_sign c text k h = rw k (rw h refl)

-- a token's length is what reading takes
name_at_is : (w rest : List ℕ) → name_len (w ++ rest) ≡ length w → name_at (w ++ rest) ≡ named (reserved_of w) w rest
unfolding name_at
name_at_is w rest exact =
    ap (λ (k : ℕ). known (take k (w ++ rest)) (drop k (w ++ rest))) exact
    ∙ ap (λ (v : List ℕ). known v (drop (length w) (w ++ rest))) (take-append_seam w rest)
    ∙ ap (known w) (drop-append_seam w rest)
  where
    known : List ℕ → List ℕ → Option Step
    known v r = named (reserved_of v) v r

number_at_is : (w rest : List ℕ) → run is_ascii_digit (w ++ rest) ≡ length w → number_at (w ++ rest) ≡ (value_from 0 w >>= λ n. Some (Some (Number n), rest))
unfolding number_at
number_at_is w rest exact =
    ap (λ (k : ℕ). value_from 0 (take k (w ++ rest)) >>= λ n. some_of {A = Step} (Some (Number n), drop k (w ++ rest))) exact
    ∙ ap (λ (v : List ℕ). value_from 0 v >>= λ n. some_of {A = Step} (Some (Number n), drop (length w) (w ++ rest))) (take-append_seam w rest)
    ∙ ap (λ (r : List ℕ). value_from 0 w >>= λ n. some_of {A = Step} (Some (Number n), r)) (drop-append_seam w rest)

-- the longest word that stands there is looked up
word_there : (c : ℕ) (t rest : List ℕ) → IsName (c ∷ t) → is_ascii_alphabetic c ≡ true → IsLongest (c ∷ t) rest → opens_comment (c ∷ t ++ rest) ≡ false → next_at (c ∷ t ++ rest) ≡ named (reserved_of (c ∷ t)) (c ∷ t) rest
word_there c t rest n h longest plain =
    let text = c ∷ t ++ rest in
    let k = name_len text in
    let taken : length (take k text) ≡ k = omega (arith, length-take k text, name_len-le text) in
    let most : length (take k text) ≤ length (c ∷ t) = longest (take k text) (drop k text) (inl (name_is c (t ++ rest) h)) (take-append-drop k text) in
    let exact : k ≡ length (c ∷ t) = omega (arith, taken, most, name_at_most (c ∷ t) rest n) in
    next_word c (t ++ rest) (letter_no_blank c h) plain ∙ word_letter c text h ∙ name_at_is (c ∷ t) rest exact

word_complete : (w rest : List ℕ) → IsName w → IsLongest w rest → opens_comment (w ++ rest) ≡ false → next_at (w ++ rest) ≡ named (reserved_of w) w rest
word_complete w rest is longest plain = at is.first (is.body ++ is.primes) is.spelled is.letter
  where
    at : (c : ℕ) (t : List ℕ) → w ≡ c ∷ t → is_ascii_alphabetic c ≡ true → next_at (w ++ rest) ≡ named (reserved_of w) w rest
    at c t e letter = subst (λ (v : List ℕ). next_at (v ++ rest) ≡ named (reserved_of v) v rest) (sym e)
        (word_there c t rest (subst IsName e is) letter (subst (λ (v : List ℕ). IsLongest v rest) e longest) (sym (ap (λ (v : List ℕ). opens_comment (v ++ rest)) e) ∙ plain))

name_complete : (w rest : List ℕ) → IsName w → ((r : Reserved) → w ≢ reserved_text r) → IsLongest w rest → opens_comment (w ++ rest) ≡ false → next_at (w ++ rest) ≡ Some (Some (Name w), rest)
unfolding named
name_complete w rest is free longest plain = word_complete w rest is longest plain ∙ ap (λ (o : Option Reserved). named o w rest) (none_reserved w free)

kept_complete : (k : Keyword) (rest : List ℕ) → IsLongest (keyword_text k) rest → opens_comment (keyword_text k ++ rest) ≡ false → next_at (keyword_text k ++ rest) ≡ Some (Some (Kept k), rest)
unfolding named
kept_complete k rest longest plain =
    word_complete (keyword_text k) rest (reserved_name (reserved.Kept k)) longest plain ∙ ap (λ (o : Option Reserved). named o (keyword_text k) rest) (known_word (reserved.Kept k))

assertion_complete : (body rest : List ℕ) → IsLongest (codes "assert") (body ++ rest) → All is_of_line body → EndsLine rest → next_at (codes "assert" ++ (body ++ rest)) ≡ Some (None, rest)
unfolding named
assertion_complete body rest longest h k =
    word_complete (codes "assert") (body ++ rest) (reserved_name reserved.Assert) longest refl
    ∙ ap (λ (o : Option Reserved). named o (codes "assert") (body ++ rest)) (known_word reserved.Assert)
    ∙ ap (λ (r : List ℕ). some_of {A = Step} (None, r)) (of_line body rest h k)

value-grows : (n : ℕ) (ds : List ℕ) → n ≤ value_of n ds
value-grows n [] = omega arith
value-grows n (d ∷ ds) = omega (arith, value-grows (10 * n + (d - 48)) ds)

value_complete : (n : ℕ) (ds : List ℕ) → value_of n ds ≤ 1000000 → value_from n ds ≡ Some (value_of n ds)
unfolding value_from
value_complete n [] h = refl
value_complete n (d ∷ ds) h =
    let low : nat_le (10 * n + (d - 48)) 1000000 ≡ true = le-leb _ _ (omega (arith, h, value-grows (10 * n + (d - 48)) ds)) in
    rw low (value_complete (10 * n + (d - 48)) ds h)

pub value_sound : (n : ℕ) (ds : List ℕ) (m : ℕ) → n ≤ 1000000 → value_from n ds ≡ Some m → (value_of n ds ≡ m) × (m ≤ 1000000)
unfolding value_from
value_sound n [] m low e = let same : n ≡ m = some_is n m e in (same, omega (arith, low, same))
value_sound n (d ∷ ds) m low e = at (nat_le (10 * n + (d - 48)) 1000000) refl e (value_sound (10 * n + (d - 48)) ds m)
  where
    at : (b : Bool) → nat_le (10 * n + (d - 48)) 1000000 ≡ b → cond b (value_from (10 * n + (d - 48)) ds) None ≡ some_of m → (10 * n + (d - 48) ≤ 1000000 → value_from (10 * n + (d - 48)) ds ≡ Some m → (value_of (10 * n + (d - 48)) ds ≡ m) × (m ≤ 1000000)) → (value_of (10 * n + (d - 48)) ds ≡ m) × (m ≤ 1000000)
    at true is e ih = ih (leb-true _ _ is) e
    at false is e ih = absurd cc

number_complete : (c : ℕ) (t rest : List ℕ) → IsDigits (c ∷ t) → is_ascii_digit c ≡ true → value_of 0 (c ∷ t) ≤ 1000000 → IsLongest (c ∷ t) rest → opens_comment (c ∷ t ++ rest) ≡ false → next_at (c ∷ t ++ rest) ≡ Some (Some (Number (value_of 0 (c ∷ t))), rest)
number_complete c t rest n h low longest plain =
    let text = c ∷ t ++ rest in
    let k = run is_ascii_digit text in
    let taken : length (take k text) ≡ k = omega (arith, length-take k text, run-le is_ascii_digit text) in
    let most : length (take k text) ≤ length (c ∷ t) = longest (take k text) (drop k text) (inr (inl (digits_is c (t ++ rest) h))) (take-append-drop k text) in
    let exact : k ≡ length (c ∷ t) = omega (arith, taken, most, digits_at_most (c ∷ t) rest n) in
    next_word c (t ++ rest) (digit_no_blank c h) plain ∙ word_digit c text (digit_is_no_letter c h) h ∙ number_at_is (c ∷ t) rest exact
    ∙ ap (λ (o : Option ℕ). o >>= λ n. some_of {A = Step} (Some (Number n), rest)) (value_complete 0 (c ∷ t) low)

pub begins_complete : (s : Mark) (rest : List ℕ) → begins (mark_text s ++ rest) s ≡ true
begins_complete s rest = ap (pointwise nat_eq (mark_text s)) (take-append_seam (mark_text s) rest) ∙ itself (mark_text s)
  where
    itself : (w : List ℕ) → pointwise nat_eq w w ≡ true
    itself [] = refl
    itself (x ∷ xs) = rw (eq-eqb x x refl) (itself xs)

pub sign_is : (text : List ℕ) (o : Option Mark) → find (begins text) MARKS ≡ o → sign_at text ≡ signed o text
unfolding sign_at
sign_is text o e = ap (λ (o : Option Mark). signed o text) e

-- two marks that begin a text and are as long are one
prefix_same : (v w r s : List ℕ) → v ++ r ≡ w ++ s → length v ≡ length w → v ≡ w
prefix_same v w r s e n = sym (take-append_seam v r) ∙ ap (take (length v)) e ∙ ap (λ (k : ℕ). take k (w ++ s)) n ∙ take-append_seam w s

the_mark : (s t : Mark) (rest : List ℕ) → IsLongest (mark_text s) rest → find (begins (mark_text s ++ rest)) MARKS ≡ Some t → t ≡ s
the_mark s t rest longest e =
    let text = mark_text s ++ rest in
    let f = found text t e in
    let is = begins_is text t f.0 in
    let most : length (mark_text t) ≤ length (mark_text s) = longest (mark_text t) (drop (length (mark_text t)) text) (inr (inr (t, refl))) (sym is) in
    one_text t s (prefix_same (mark_text t) (mark_text s) (drop (length (mark_text t)) text) rest (sym is) (omega (arith, most, f.1 s (begins_complete s rest))))

sign_complete : (s : Symbol) (rest : List ℕ) → IsLongest (symbol_text s) rest → opens_comment (symbol_text s ++ rest) ≡ false → next_at (symbol_text s ++ rest) ≡ Some (Some (Sign s), rest)
unfolding signed
sign_complete s rest longest plain =
    let m = marks.Taken s in
    let h = head m in
    let text = symbol_text s ++ rest in
    let shape : text ≡ h.byte ∷ (h.others ++ rest) = ap (λ (w : List ℕ). w ++ rest) h.spelled in
    let some = some_found text m (begins_complete m rest) in
    let is : find (begins text) MARKS ≡ Some m = some.1 ∙ ap (λ (t : Mark). Some t) (the_mark m some.0 rest longest some.1) in
    ap next_at shape
    ∙ next_word h.byte (h.others ++ rest) h.no_blank (sym (ap opens_comment shape) ∙ plain)
    ∙ word_sign h.byte (h.byte ∷ (h.others ++ rest)) h.no_letter h.no_digit
    ∙ ap sign_at (sym shape)
    ∙ sign_is text (Some m) is
    ∙ ap (λ (r : List ℕ). some_of {A = Step} (Some (Sign s), r)) (drop-append_seam (symbol_text s) rest)

token_complete : (x : Lexeme) (w rest : List ℕ) → Spells w x → IsLongest w rest → opens_comment (w ++ rest) ≡ false → next_at (w ++ rest) ≡ Some (Some x, rest)
token_complete (Name n) w rest (same, is, free) longest plain =
    name_complete w rest is free longest plain ∙ ap (λ (v : List ℕ). some_of {A = Step} (Some (Name v), rest)) (sym same)
token_complete (Kept k) w rest e longest plain =
    subst (λ (v : List ℕ). next_at (v ++ rest) ≡ Some (Some (Kept k), rest)) (sym e)
    (kept_complete k rest (subst (λ (v : List ℕ). IsLongest v rest) e longest) (sym (ap (λ (v : List ℕ). opens_comment (v ++ rest)) e) ∙ plain))
token_complete (Number n) w rest (same, is, low) longest plain =
    numbered is.first is.others is.spelled ∙ ap (λ (v : ℕ). some_of {A = Step} (Some (Number v), rest)) same
  where
    numbered : (c : ℕ) (t : List ℕ) → w ≡ c ∷ t → next_at (w ++ rest) ≡ Some (Some (Number (value_of 0 w)), rest)
    numbered c t e =
        let digits = subst IsDigits e is in
        subst (λ (v : List ℕ). next_at (v ++ rest) ≡ Some (Some (Number (value_of 0 v)), rest)) (sym e)
        (number_complete c t rest digits digits.digits.0 (subst (λ (v : List ℕ). value_of 0 v ≤ 1000000) e (omega (arith, same, low))) (subst (λ (v : List ℕ). IsLongest v rest) e longest) (sym (ap (λ (v : List ℕ). opens_comment (v ++ rest)) e) ∙ plain))
token_complete (Sign s) w rest e longest plain =
    subst (λ (v : List ℕ). next_at (v ++ rest) ≡ Some (Some (Sign s), rest)) (sym e)
    (sign_complete s rest (subst (λ (v : List ℕ). IsLongest v rest) e longest) (sym (ap (λ (v : List ℕ). opens_comment (v ++ rest)) e) ∙ plain))

-- the part that stands first is found
pub step_complete : (p : Part) (rest : List ℕ) → IsPart p rest → next_at (bytes_of p ++ rest) ≡ Some (token_of p, rest)
step_complete (Blank c) rest h = space_complete c rest h
step_complete (Line body) rest h = line_complete body rest h.0 h.1
step_complete (Assertion body) rest h = assertion_complete body rest h.0 h.1 h.2
step_complete (Block k) rest h = block_complete k rest h
step_complete (Token x w) rest h = token_complete x w rest h.0 h.1 h.2
