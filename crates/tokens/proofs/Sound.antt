-- What reading finds stands there.
use Rattle.std.proofs.Common.{◌≡◌, ℕ, ◌+◌, ◌≤◌, List, [], ◌∷◌, ◌++◌, Bool, true, false, cond, length, take, drop, Option, Some, None, refl, sym, ap, subst, ◌∙◌, arith, one-add, inl, inr}
use Rattle.std.specs.Prelude.{find, ◌==◌, ◌&&◌, not, codes}
use Rattle.std.specs.Char.{is_ascii_alphabetic, is_ascii_digit}
use Rattle.std.proofs.lemmas.List.{take-append-drop, length-take}
use Rattle.std.specs.List.{prefix_len}
use Rattle.std.proofs.lemmas.Bool.{eqb-true}
use Rattle.tokens.specs.declared.mark.Mark.{Mark}
use Rattle.tokens.specs.declared.mark.Mark.TheVariants as marks
use Rattle.tokens.specs.declared.mark.TheConstants.{MARKS}
use Rattle.tokens.specs.declared.reserved.Reserved.{Reserved}
use Rattle.tokens.specs.declared.reserved.Reserved.TheVariants as reserved
use Rattle.tokens.specs.Lexeme.{Name, Number, Kept, Sign}
use Rattle.tokens.specs.Spelling.{symbol_text, mark_text, begins}
use Rattle.tokens.specs.Text.{IsName, IsDigits, IsWord, IsLongest, Part, Blank, Line, Assertion, Block, Token, bytes_of, token_of, opens_comment, EndsLine, IsPart, is_blank, is_of_line}
use Rattle.tokens.specs.Scanning.{◌>>=◌, run, name_len, Step, reserved_of, named, name_at, number_at, signed, sign_at, word_at, comment_at, next_at, value_from, behind_comments}
use Rattle.tokens.proofs.Lists.{run_is, run-le}
use Rattle.tokens.proofs.Names.{run_passes, name_at_most, name_len-le, name_is, digits_at_most, digits_is, digit_is_no_letter}
use Rattle.tokens.proofs.Marks.{head, begins_is, found}
use Rattle.tokens.proofs.Words.{reserved_is, not_reserved}
use Rattle.tokens.proofs.Comments.{passed_one, same_head}
use Rattle.tokens.proofs.Tables.{some_is, some_of, both}
use Rattle.tokens.proofs.Complete.{differ, word_letter, word_digit, word_sign, begins_complete, value_sound, sign_is}

-- a part that stands first, and what was found of it
pub record IsStep (text : List ℕ) (x : Step) : Type 0 where
  pub part : Part
  pub is : IsPart part x.1
  pub spelled : text ≡ bytes_of part ++ x.1
  pub word : token_of part ≡ x.0

bind_some : {A B : Type 0} (o : Option A) (f : A → Option B) (y : B) → (o >>= f) ≡ Some y → (x : A) × (o ≡ Some x) × (f x ≡ Some y)
bind_some (Some x) f y e = (x, refl, e)
bind_some None f y e = absurd cc

-- how a token begins, against the first byte of a text
begins_with : (v r : List ℕ) (b : ℕ) (u : List ℕ) (c : ℕ) (t : List ℕ) → v ≡ b ∷ u → v ++ r ≡ c ∷ t → b ≡ c
begins_with v r b u c t e f = same_head b c (u ++ r) t (sym (ap (λ (w : List ℕ). w ++ r) e) ∙ f)

name_longest : (c : ℕ) (t : List ℕ) → is_ascii_alphabetic c ≡ true → (v r : List ℕ) → IsWord v → v ++ r ≡ c ∷ t → length v ≤ name_len (c ∷ t)
name_longest c t h v r (inl n) e = subst (λ (text : List ℕ). length v ≤ name_len text) e (name_at_most v r n)
name_longest c t h v r (inr (inl n)) e =
    let same = begins_with v r n.first n.others c t n.spelled e in
    absurd (differ (is_ascii_alphabetic c) h (digit_is_no_letter c (ap is_ascii_digit (sym same) ∙ (subst IsDigits n.spelled n).digits.0)))
name_longest c t h v r (inr (inr (s, is))) e =
    let k = head s in
    let same = begins_with v r k.byte k.others c t (is ∙ k.spelled) e in
    absurd (differ (is_ascii_alphabetic c) h (ap is_ascii_alphabetic (sym same) ∙ k.no_letter))

digits_longest : (c : ℕ) (t : List ℕ) → is_ascii_digit c ≡ true → (v r : List ℕ) → IsWord v → v ++ r ≡ c ∷ t → length v ≤ run is_ascii_digit (c ∷ t)
digits_longest c t h v r (inl n) e =
    let same = begins_with v r n.first (n.body ++ n.primes) c t n.spelled e in
    absurd (differ (is_ascii_alphabetic c) (ap is_ascii_alphabetic (sym same) ∙ n.letter) (digit_is_no_letter c h))
digits_longest c t h v r (inr (inl n)) e = subst (λ (text : List ℕ). length v ≤ run is_ascii_digit text) e (digits_at_most v r n)
digits_longest c t h v r (inr (inr (s, is))) e =
    let k = head s in
    let same = begins_with v r k.byte k.others c t (is ∙ k.spelled) e in
    absurd (differ (is_ascii_digit c) h (ap is_ascii_digit (sym same) ∙ k.no_digit))

sign_longest : (c : ℕ) (t : List ℕ) (s : Mark) → is_ascii_alphabetic c ≡ false → is_ascii_digit c ≡ false → find (begins (c ∷ t)) MARKS ≡ Some s → (v r : List ℕ) → IsWord v → v ++ r ≡ c ∷ t → length v ≤ length (mark_text s)
sign_longest c t s k h f v r (inl n) e =
    let same = begins_with v r n.first (n.body ++ n.primes) c t n.spelled e in
    absurd (differ (is_ascii_alphabetic c) (ap is_ascii_alphabetic (sym same) ∙ n.letter) k)
sign_longest c t s k h f v r (inr (inl n)) e =
    let same = begins_with v r n.first n.others c t n.spelled e in
    absurd (differ (is_ascii_digit c) (ap is_ascii_digit (sym same) ∙ (subst IsDigits n.spelled n).digits.0) h)
sign_longest c t s k h f v r (inr (inr (u, is))) e =
    let b : begins (c ∷ t) u ≡ true = ap (λ (text : List ℕ). begins text u) (sym e ∙ ap (λ (w : List ℕ). w ++ r) is) ∙ begins_complete u r in
    omega (arith, ap length is, (found (c ∷ t) s f).1 u b)

-- a token that was found is the longest
longest_of : (w rest text : List ℕ) (k : ℕ) → text ≡ w ++ rest → length w ≡ k → ((v r : List ℕ) → IsWord v → v ++ r ≡ text → length v ≤ k) → IsLongest w rest
longest_of w rest text k is n most v r word e = omega (arith, n, most v r word (e ∙ sym is))

ends_at : (c : ℕ) (rest : List ℕ) (b : Bool) → (c == 10) ≡ b → EndsLine (drop (prefix_len is_of_line rest) rest) → EndsLine (drop (cond (not b) (1 + prefix_len is_of_line rest) 0) (c ∷ rest))
ends_at c rest true e h = eqb-true c 10 e
ends_at c rest false e h = rw one-add h

ends_line : (rest : List ℕ) → EndsLine (drop (prefix_len is_of_line rest) rest)
ends_line [] = tt
ends_line (c ∷ rest) = ends_at c rest (c == 10) refl (ends_line rest)

ends_run : (rest : List ℕ) → EndsLine (drop (run is_of_line rest) rest)
ends_run rest = subst (λ (n : ℕ). EndsLine (drop n rest)) (sym (run_is is_of_line rest)) (ends_line rest)

-- what comes after a word decides nothing of what the word is
named_sound : (w r : List ℕ) (x : Step) (o : Option Reserved) → reserved_of w ≡ o → IsName w → IsLongest w r → opens_comment (w ++ r) ≡ false → named o w r ≡ Some x → IsStep (w ++ r) x
unfolding named
named_sound w r x None is name longest plain e =
    subst (IsStep (w ++ r)) (some_is (Some (Name w), r) x e) (record { part = Token (Name w) w; is = ((refl, name, not_reserved w is), longest, plain); spelled = refl; word = refl })
named_sound w r x (Some (reserved.Kept k)) is name longest plain e =
    subst (IsStep (w ++ r)) (some_is (Some (Kept k), r) x e) (record { part = Token (Kept k) w; is = (reserved_is w (reserved.Kept k) is, longest, plain); spelled = refl; word = refl })
named_sound w r x (Some (reserved.Refused f)) is name longest plain e = absurd cc
named_sound w r x (Some reserved.Assert) is name longest plain e =
    let k = run is_of_line r in
    let same : w ≡ codes "assert" = reserved_is w reserved.Assert is in
    let split : take k r ++ drop k r ≡ r = take-append-drop k r in
    subst (IsStep (w ++ r)) (some_is (None, drop k r) x e)
    (record {
      part = Assertion (take k r);
      is = (subst (λ (t : List ℕ). IsLongest (codes "assert") t) (sym split) (subst (λ (v : List ℕ). IsLongest v r) same longest), run_passes is_of_line r, ends_run r);
      spelled = ap (λ (v : List ℕ). v ++ r) same ∙ ap (λ (t : List ℕ). codes "assert" ++ t) (sym split);
      word = refl;
    })

name_sound : (c : ℕ) (t : List ℕ) (x : Step) → is_ascii_alphabetic c ≡ true → opens_comment (c ∷ t) ≡ false → name_at (c ∷ t) ≡ Some x → IsStep (c ∷ t) x
unfolding name_at
name_sound c t x h plain e =
    let text = c ∷ t in
    let k = name_len text in
    let split : text ≡ take k text ++ drop k text = sym (take-append-drop k text) in
    let len : length (take k text) ≡ k = omega (arith, length-take k text, name_len-le text) in
    subst (λ (t : List ℕ). IsStep t x) (sym split)
    (named_sound (take k text) (drop k text) x (reserved_of (take k text)) refl (name_is c t h) (longest_of (take k text) (drop k text) text k split len (name_longest c t h)) (sym (ap opens_comment split) ∙ plain) e)

number_sound : (c : ℕ) (t : List ℕ) (x : Step) → is_ascii_digit c ≡ true → opens_comment (c ∷ t) ≡ false → number_at (c ∷ t) ≡ Some x → IsStep (c ∷ t) x
unfolding number_at
number_sound c t x h plain e =
    let text = c ∷ t in
    let k = run is_ascii_digit text in
    let split : text ≡ take k text ++ drop k text = sym (take-append-drop k text) in
    let len : length (take k text) ≡ k = omega (arith, length-take k text, run-le is_ascii_digit text) in
    let read = bind_some (value_from 0 (take k text)) (λ n. some_of {A = Step} (Some (Number n), drop k text)) x e in
    let value = value_sound 0 (take k text) read.0 (omega arith) read.1 in
    subst (IsStep text) (some_is (Some (Number read.0), drop k text) x read.2)
    (record { part = Token (Number read.0) (take k text); is = ((value.0, digits_is c t h, value.1), longest_of (take k text) (drop k text) text k split len (digits_longest c t h), sym (ap opens_comment split) ∙ plain); spelled = split; word = refl })

signed_sound : (c : ℕ) (t : List ℕ) (x : Step) (o : Option Mark) → is_ascii_alphabetic c ≡ false → is_ascii_digit c ≡ false → opens_comment (c ∷ t) ≡ false → find (begins (c ∷ t)) MARKS ≡ o → signed o (c ∷ t) ≡ Some x → IsStep (c ∷ t) x
unfolding signed
signed_sound c t x None k h plain is e = absurd cc
signed_sound c t x (Some (marks.Refused r)) k h plain is e = absurd cc
signed_sound c t x (Some (marks.Taken s)) k h plain is e =
    let text = c ∷ t in
    let m = marks.Taken s in
    let split = begins_is text m (found text m is).0 in
    subst (IsStep text) (some_is (Some (Sign s), drop (length (symbol_text s)) text) x e)
    (record { part = Token (Sign s) (symbol_text s); is = (refl, longest_of (symbol_text s) (drop (length (symbol_text s)) text) text (length (symbol_text s)) split refl (sign_longest c t m k h is), sym (ap opens_comment split) ∙ plain); spelled = split; word = refl })

sign_sound : (c : ℕ) (t : List ℕ) (x : Step) → is_ascii_alphabetic c ≡ false → is_ascii_digit c ≡ false → opens_comment (c ∷ t) ≡ false → sign_at (c ∷ t) ≡ Some x → IsStep (c ∷ t) x
sign_sound c t x k h plain e =
    signed_sound c t x (find (begins (c ∷ t)) MARKS) k h plain refl (sym (sign_is (c ∷ t) (find (begins (c ∷ t)) MARKS) refl) ∙ e)

word_sound : (c : ℕ) (t : List ℕ) (x : Step) → opens_comment (c ∷ t) ≡ false → word_at c (c ∷ t) ≡ Some x → IsStep (c ∷ t) x
word_sound c t x plain e = by_class (is_ascii_alphabetic c) (is_ascii_digit c) refl refl
  where
    by_class : (l d : Bool) → is_ascii_alphabetic c ≡ l → is_ascii_digit c ≡ d → IsStep (c ∷ t) x
    by_class true d h k = name_sound c t x h plain (sym (word_letter c (c ∷ t) h) ∙ e)
    by_class false true h k = number_sound c t x k plain (sym (word_digit c (c ∷ t) h k) ∙ e)
    by_class false false h k = sign_sound c t x h k plain (sym (word_sign c (c ∷ t) h k) ∙ e)

space_sound : (c : ℕ) (t : List ℕ) (x : Step) → is_blank c ≡ true → some_of {A = Step} (None, t) ≡ some_of x → IsStep (c ∷ t) x
space_sound c t x h e = subst (IsStep (c ∷ t)) (some_is (None, t) x e) (record { part = Blank c; is = h; spelled = refl; word = refl })

line_sound : (rest : List ℕ) (x : Step) → some_of {A = Step} (None, drop (run is_of_line rest) rest) ≡ some_of x → IsStep (45 ∷ 45 ∷ rest) x
line_sound rest x e =
    let k = run is_of_line rest in
    subst (IsStep (45 ∷ 45 ∷ rest)) (some_is (None, drop k rest) x e)
    (record { part = Line (take k rest); is = (run_passes is_of_line rest, ends_run rest); spelled = ap (λ (r : List ℕ). 45 ∷ 45 ∷ r) (sym (take-append-drop k rest)); word = refl })

comment_sound : (rest : List ℕ) (x : Step) → comment_at rest ≡ Some x → IsStep (123 ∷ 45 ∷ rest) x
unfolding comment_at
comment_sound rest x e =
    let read = bind_some (behind_comments rest 1) (λ r. some_of {A = Step} (None, r)) x e in
    let found = passed_one rest read.0 read.1 in
    subst (IsStep (123 ∷ 45 ∷ rest)) (some_is (None, read.0) x read.2)
    (record { part = Block found.0; is = found.1; spelled = ap (λ (r : List ℕ). 123 ∷ 45 ∷ r) found.2; word = refl })

two_sound : (c e : ℕ) (rest : List ℕ) (x : Step) (b l k : Bool) → is_blank c ≡ b → (c == 45 && e == 45) ≡ l → (c == 123 && e == 45) ≡ k → cond b (Some (None, e ∷ rest)) (cond l (Some (None, drop (run is_of_line rest) rest)) (cond k (comment_at rest) (word_at c (c ∷ e ∷ rest)))) ≡ some_of x → IsStep (c ∷ e ∷ rest) x
two_sound c e rest x true l k hb hl hk is = space_sound c (e ∷ rest) x hb is
two_sound c e rest x false true k hb hl hk is =
    let tests = both (c == 45) (e == 45) hl in
    subst (λ (a : ℕ). IsStep (a ∷ e ∷ rest) x) (sym (eqb-true c 45 tests.0)) (subst (λ (a : ℕ). IsStep (45 ∷ a ∷ rest) x) (sym (eqb-true e 45 tests.1)) (line_sound rest x is))
two_sound c e rest x false false true hb hl hk is =
    let tests = both (c == 123) (e == 45) hk in
    subst (λ (a : ℕ). IsStep (a ∷ e ∷ rest) x) (sym (eqb-true c 123 tests.0)) (subst (λ (a : ℕ). IsStep (123 ∷ a ∷ rest) x) (sym (eqb-true e 45 tests.1)) (comment_sound rest x is))
two_sound c e rest x false false false hb hl hk is = word_sound c (e ∷ rest) x (rw hl (rw hk refl)) is

one_sound : (c : ℕ) (x : Step) (b : Bool) → is_blank c ≡ b → cond b (Some (None, [])) (word_at c (c ∷ [])) ≡ some_of x → IsStep (c ∷ []) x
one_sound c x true hb is = space_sound c [] x hb is
one_sound c x false hb is = word_sound c [] x refl is

-- what is found stands first
pub step_sound : (text : List ℕ) (x : Step) → next_at text ≡ Some x → IsStep text x
unfolding next_at
step_sound [] x e = absurd cc
step_sound (c ∷ []) x is = one_sound c x (is_blank c) refl is
step_sound (c ∷ e ∷ rest) x is = two_sound c e rest x (is_blank c) (c == 45 && e == 45) (c == 123 && e == 45) refl refl refl is
