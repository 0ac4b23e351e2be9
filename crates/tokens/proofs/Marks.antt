-- The tables of marks and reserved words.
use Rattle.std.proofs.Common.{◌≡◌, ℕ, ◌≤◌, List, [], ◌∷◌, ◌++◌, Bool, true, false, cond, length, take, drop, Option, Some, refl, sym, ap, subst, ◌∙◌, arith, inl, inr}
use Rattle.std.specs.Prelude.{find, IfSome, nat_le, ◌&&◌, not}
use Rattle.std.specs.Char.{is_ascii_digit, is_ascii_alphabetic}
use Rattle.std.proofs.lemmas.Bool.{leb-true}
use Rattle.std.specs.Cmp.Lexicographic.{same_text}
use Rattle.std.proofs.lemmas.List.{length-append, take-append-drop}
use Rattle.tokens.specs.declared.mark.Mark.{Mark}
use Rattle.tokens.specs.declared.mark.TheConstants.{MARKS}
use Rattle.tokens.specs.Spelling.{begins, mark_text, symbol_text, refused_symbol_text}
use Rattle.tokens.specs.Text.{is_blank}
use Rattle.tokens.proofs.Known.{is_mark_as, known_mark}
use Rattle.tokens.proofs.Tables.{some_of, some_is, In, found_in, all_pass, both, pass_in}

-- a text that begins with a mark
pub begins_is : (text : List ℕ) (m : Mark) → begins text m ≡ true → text ≡ mark_text m ++ drop (length (mark_text m)) text
begins_is text m e =
    sym (take-append-drop (length (mark_text m)) text) ∙ ap (λ (front : List ℕ). front ++ drop (length (mark_text m)) text) (sym (same_text (mark_text m) (take (length (mark_text m)) text) (sym e)))

pub begins-fits : (text : List ℕ) (m : Mark) → begins text m ≡ true → length (mark_text m) ≤ length text
begins-fits text m e = omega (arith, ap length (begins_is text m e), length-append (mark_text m) (drop (length (mark_text m)) text))

find_fits : (text : List ℕ) (all : List Mark) → IfSome (find (begins text) all) (λ m. length (mark_text m) ≤ length text)
find_fits text [] = tt
find_fits text (m ∷ all) = at (begins text m) refl (find_fits text all)
  where
    at : (b : Bool) → begins text m ≡ b → IfSome (find (begins text) all) (λ m. length (mark_text m) ≤ length text) → IfSome (cond b (Some m) (find (begins text) all)) (λ m. length (mark_text m) ≤ length text)
    at true e h = begins-fits text m e
    at false e h = h

pub mark_fits : (text : List ℕ) (o : Option Mark) → o ≡ find (begins text) MARKS → IfSome o (λ m. length (mark_text m) ≤ length text)
mark_fits text o e = subst (λ (o : Option Mark). IfSome o (λ m. length (mark_text m) ≤ length text)) (sym e) (find_fits text MARKS)

-- ---- what the table holds

each_in : (m : Mark) → In m MARKS
each_in m = found_in (is_mark_as (mark_text m)) MARKS m (known_mark m)

-- no mark begins as a word or a blank does
abbrev begins_other : List ℕ → Bool
begins_other [] = false
begins_other (c ∷ others) = not (is_ascii_alphabetic c) && (not (is_ascii_digit c) && not (is_blank c))

table_begins_other : all_pass (λ m. begins_other (mark_text m)) MARKS ≡ true
unfolding symbol_text refused_symbol_text
table_begins_other = refl

-- how a mark begins
pub record Head (w : List ℕ) : Type 0 where
  pub byte : ℕ
  pub others : List ℕ
  pub spelled : w ≡ byte ∷ others
  pub no_letter : is_ascii_alphabetic byte ≡ false
  pub no_digit : is_ascii_digit byte ≡ false
  pub no_blank : is_blank byte ≡ false

pub not_true : (b : Bool) → not b ≡ true → b ≡ false
not_true true e = absurd cc
not_true false e = refl

head_of : (w : List ℕ) → begins_other w ≡ true → Head w
head_of [] e = absurd cc
head_of (c ∷ others) e =
    let first = both (not (is_ascii_alphabetic c)) (not (is_ascii_digit c) && not (is_blank c)) e in
    let second = both (not (is_ascii_digit c)) (not (is_blank c)) first.1 in
    record { byte = c; others = others; spelled = refl; no_letter = not_true (is_ascii_alphabetic c) first.0; no_digit = not_true (is_ascii_digit c) second.0; no_blank = not_true (is_blank c) second.1 }

pub head : (m : Mark) → Head (mark_text m)
head m = head_of (mark_text m) (pass_in (λ m. begins_other (mark_text m)) MARKS m table_begins_other (each_in m))

-- the longer marks stand first
abbrev descends : List Mark → Bool
descends [] = true
descends (x ∷ []) = true
descends (x ∷ y ∷ rest) = nat_le (length (mark_text y)) (length (mark_text x)) && descends (y ∷ rest)

table_descends : descends MARKS ≡ true
unfolding symbol_text refused_symbol_text
table_descends = refl

-- ---- what follows

pub one_text : (s t : Mark) → mark_text s ≡ mark_text t → s ≡ t
one_text s t e = some_is s t (sym (known_mark s) ∙ ap (λ (w : List ℕ). find (is_mark_as w) MARKS) e ∙ known_mark t)

later-le : (s x : Mark) (xs : List Mark) → descends (x ∷ xs) ≡ true → In s xs → length (mark_text s) ≤ length (mark_text x)
later-le s x [] d h = absurd h
later-le s x (y ∷ ys) d (inl e) =
    let tests = both (nat_le (length (mark_text y)) (length (mark_text x))) (descends (y ∷ ys)) d in
    omega (arith, leb-true _ _ tests.0, ap (λ (s : Mark). length (mark_text s)) e)
later-le s x (y ∷ ys) d (inr h) =
    let tests = both (nat_le (length (mark_text y)) (length (mark_text x))) (descends (y ∷ ys)) d in
    omega (arith, leb-true _ _ tests.0, later-le s y ys tests.1 h)

tail_descends : (x : Mark) (xs : List Mark) → descends (x ∷ xs) ≡ true → descends xs ≡ true
tail_descends x [] d = refl
tail_descends x (y ∷ ys) d = (both (nat_le (length (mark_text y)) (length (mark_text x))) (descends (y ∷ ys)) d).1

-- what is found begins the text, and no other that does is longer
pub record Found (text : List ℕ) (all : List Mark) (s : Mark) : Type 0 where
  pub begins_it : begins text s ≡ true
  pub longest : (t : Mark) → In t all → begins text t ≡ true → length (mark_text t) ≤ length (mark_text s)

find_is : (text : List ℕ) (all : List Mark) (s : Mark) → descends all ≡ true → find (begins text) all ≡ Some s → Found text all s
find_is text [] s d e = absurd cc
find_is text (x ∷ xs) s d e = at (begins text x) refl e (find_is text xs s (tail_descends x xs d))
  where
    at : (b : Bool) → begins text x ≡ b → cond b (Some x) (find (begins text) xs) ≡ some_of s → (find (begins text) xs ≡ Some s → Found text xs s) → Found text (x ∷ xs) s
    at true is f ih = subst (Found text (x ∷ xs)) (some_is x s f) (record { begins_it = is; longest = λ t h b. elim h [ inl eq ↦ omega (arith, ap (λ (s : Mark). length (mark_text s)) eq) | inr later ↦ later-le t x xs d later ] })
    at false is f ih = let inner = ih f in record { begins_it = inner.begins_it; longest = λ t h b. elim h [ inl eq ↦ absurd (never t eq b) | inr later ↦ inner.longest t later b ] }
      where
        never : (t : Mark) → t ≡ x → begins text t ≡ true → ⊥
        never t eq b = no (sym (ap (begins text) eq ∙ is) ∙ b)
          where
            no : false ≡ true → ⊥
            no e = cc

find_some : (text : List ℕ) (all : List Mark) (t : Mark) → In t all → begins text t ≡ true → (s : Mark) × (find (begins text) all ≡ Some s)
find_some text [] t h b = absurd h
find_some text (x ∷ xs) t h b = at (begins text x) refl h (find_some text xs t)
  where
    at : (c : Bool) → begins text x ≡ c → In t (x ∷ xs) → (In t xs → begins text t ≡ true → (s : Mark) × (find (begins text) xs ≡ Some s)) → (s : Mark) × (cond c (Some x) (find (begins text) xs) ≡ Some s)
    at true is h ih = (x, refl)
    at false is (inl e) ih = absurd (no (sym is ∙ ap (begins text) (sym e) ∙ b))
      where
        no : false ≡ true → ⊥
        no e = cc
    at false is (inr h) ih = ih h b

-- the mark that is found is the longest that the text begins with
pub found : (text : List ℕ) (s : Mark) → find (begins text) MARKS ≡ Some s → (begins text s ≡ true) × ((t : Mark) → begins text t ≡ true → length (mark_text t) ≤ length (mark_text s))
found text s e = let f = find_is text MARKS s table_descends e in (f.begins_it, λ t b. f.longest t (each_in t) b)

pub some_found : (text : List ℕ) (t : Mark) → begins text t ≡ true → (s : Mark) × (find (begins text) MARKS ≡ Some s)
some_found text t b = find_some text MARKS t (each_in t) b
