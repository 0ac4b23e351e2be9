-- Parameters, none twice and none with a constant's name.
use Rattle.std.proofs.Common.{◌≡◌, ℕ, zero, suc, ◌+◌, ◌<◌, ◌≤◌, List, [], ◌∷◌, ◌++◌, map, length, drop, get_or, Bool, true, false, not, ◌&&◌, ◌||◌, cond, Option, Some, None, Vec, Bor, refl, sym, ap, ◌∙◌, arith}
use Rattle.std.specs.List.{list_any, list_all}
use Rattle.std.specs.Option.{option_map}
use Rattle.std.specs.Prelude.{slice_get}
use Rattle.values.specs.Values.{Name}
use Rattle.values.specs.Names.{Entry, same_name, meaning, Meaning, is_constant, are_parameters}
use Rattle.declared_names.proofs.Loops.{cell, none_left}
use Rattle.declared_names.proofs.Entered.{same_sym}

abbrev pub plain : {A : Type 0} → List (Vec ℕ A) → List Name
plain ns = map (λ n. n.items) ns

-- whether those from the place i on are in order
abbrev pub left : {A : Type 0} → List Entry → List (Vec ℕ A) → ℕ → Bool
left es ns i = are_parameters es (plain (drop i ns))

-- whether the name is among these
abbrev pub among : List (Bor Name) → Name → Bool
among ks n = list_any (λ k. same_name n k.now) ks

-- whether those from the place i on are in order, and none of them is among these
abbrev pub left_behind : {A : Type 0} → List Entry → List (Bor Name) → List (Vec ℕ A) → ℕ → Bool
left_behind es ks ns i = not (list_any (among ks) (plain (drop i ns))) && left es ns i

among_last : (ks : List (Bor Name)) (k : Bor Name) (n : Name) → among (ks ++ k ∷ []) n ≡ (among ks n || same_name k.now n)
among_last [] k n = by (same_name n k.now) ∙ same_sym n k.now
  where
    by : (b : Bool) → (b || false) ≡ b
    by true = refl
    by false = refl
among_last (j ∷ ks) k n = by (same_name n j.now) (among_last ks k n)
  where
    by : (b : Bool) → among (ks ++ k ∷ []) n ≡ (among ks n || same_name k.now n) → (b || among (ks ++ k ∷ []) n) ≡ ((b || among ks n) || same_name k.now n)
    by true h = refl
    by false h = h

-- none is among these and one more
none_last : (ks : List (Bor Name)) (k : Bor Name) (ns : List Name) → not (list_any (among (ks ++ k ∷ [])) ns) ≡ (not (list_any (among ks) ns) && not (list_any (same_name k.now) ns))
none_last ks k [] = refl
none_last ks k (n ∷ ns) =
    ap (λ b. not (b || list_any (among (ks ++ k ∷ [])) ns)) (among_last ks k n)
    ∙ by (among ks n) (same_name k.now n) (list_any (among (ks ++ k ∷ [])) ns) (list_any (among ks) ns) (list_any (same_name k.now) ns) (none_last ks k ns)
  where
    by : (b c d x y : Bool) → not d ≡ (not x && not y) → not ((b || c) || d) ≡ (not (b || x) && not (c || y))
    by true c d x y h = refl
    by false false d x y h = h
    by false true d true y h = refl
    by false true d false y h = refl

next_behind : {A : Type 0} (es : List Entry) (ks : List (Bor Name)) (ns : List (Vec ℕ A)) (i : ℕ) (n : Vec ℕ A) → i < length ns → n ≡ get_or ns i n
    → left_behind es ks ns i ≡ (not (among ks n.items || list_any (among ks) (plain (drop (i + 1) ns))) && (not (list_any (same_name n.items) (plain (drop (i + 1) ns))) && not (is_constant (meaning es n.items)) && left es ns (i + 1)))
unfolding are_parameters
next_behind es ks ns i n h is = ap (λ xs. not (list_any (among ks) (plain xs)) && are_parameters es (plain xs)) (cell ns i n h is)

-- one more name, which wasn't among those before it and is no constant's
pub behind_more : {A : Type 0} (es : List Entry) (ks new : List (Bor Name)) (ns : List (Vec ℕ A)) (i : ℕ) (n : Vec ℕ A) (k : Bor Name) (whole : Bool) → left_behind es ks ns i ≡ whole → i < length ns → n ≡ get_or ns i n
    → is_constant (meaning es n.items) ≡ false → k.now ≡ n.items → among ks k.now ≡ false → new ≡ ks ++ k ∷ [] → left_behind es new ns (i + 1) ≡ whole
behind_more es ks new ns i n k whole inv h is q same f e =
    ap (λ js. not (list_any (among js) (plain (drop (i + 1) ns))) && left es ns (i + 1)) e
    ∙ ap (λ b. b && left es ns (i + 1)) (none_last ks k (plain (drop (i + 1) ns)))
    ∙ ap (λ m. (not (list_any (among ks) (plain (drop (i + 1) ns))) && not (list_any (same_name m) (plain (drop (i + 1) ns)))) && left es ns (i + 1)) same
    ∙ by (among ks n.items) (list_any (among ks) (plain (drop (i + 1) ns))) (list_any (same_name n.items) (plain (drop (i + 1) ns))) (is_constant (meaning es n.items)) (left es ns (i + 1)) (ap (among ks) (sym same) ∙ f) q
    ∙ sym (next_behind es ks ns i n h is)
    ∙ inv
  where
    by : (a b c d e : Bool) → a ≡ false → d ≡ false → ((not b && not c) && e) ≡ (not (a || b) && (not c && not d && e))
    by true b c d e h k = absurd cc
    by false b c true e h k = absurd cc
    by false true c false e h k = refl
    by false false true false e h k = refl
    by false false false false e h k = refl

pub behind_twice : {A : Type 0} (es : List Entry) (ks : List (Bor Name)) (ns : List (Vec ℕ A)) (i : ℕ) (n : Vec ℕ A) (k : Bor Name) (whole : Bool) → left_behind es ks ns i ≡ whole → i < length ns → n ≡ get_or ns i n
    → k.now ≡ n.items → among ks k.now ≡ true → false ≡ whole
behind_twice es ks ns i n k whole inv h is same t =
    sym (next_behind es ks ns i n h is ∙ ap (λ b. not (b || list_any (among ks) (plain (drop (i + 1) ns))) && (not (list_any (same_name n.items) (plain (drop (i + 1) ns))) && not (is_constant (meaning es n.items)) && left es ns (i + 1))) (ap (among ks) (sym same) ∙ t)) ∙ inv

pub behind_constant : {A : Type 0} (es : List Entry) (ks : List (Bor Name)) (ns : List (Vec ℕ A)) (i : ℕ) (n : Vec ℕ A) (whole : Bool) → left_behind es ks ns i ≡ whole → i < length ns → n ≡ get_or ns i n
    → is_constant (meaning es n.items) ≡ true → false ≡ whole
behind_constant es ks ns i n whole inv h is q =
    sym (next_behind es ks ns i n h is ∙ by (not (among ks n.items || list_any (among ks) (plain (drop (i + 1) ns)))) (not (list_any (same_name n.items) (plain (drop (i + 1) ns)))) (is_constant (meaning es n.items)) (left es ns (i + 1)) q) ∙ inv
  where
    by : (a c d e : Bool) → d ≡ true → (a && (c && not d && e)) ≡ false
    by false c d e h = refl
    by true false d e h = refl
    by true true true e h = refl
    by true true false e h = absurd cc

pub behind_end : {A : Type 0} (es : List Entry) (ks : List (Bor Name)) (ns : List (Vec ℕ A)) (i : ℕ) (whole : Bool) → left_behind es ks ns i ≡ whole → length ns ≤ i → true ≡ whole
unfolding are_parameters
behind_end es ks ns i whole inv h = sym (ap (λ xs. not (list_any (among ks) (plain xs)) && are_parameters es (plain xs)) (none_left ns i h)) ∙ inv

-- before the first one nothing stands
pub behind_none : (es : List Entry) (ks : List (Bor Name)) (ns : List Name) → ks ≡ [] → (not (list_any (among ks) ns) && are_parameters es ns) ≡ are_parameters es ns
behind_none es ks ns h = ap (λ js. not (list_any (among js) ns) && are_parameters es ns) h ∙ ap (λ b. not b && are_parameters es ns) (by ns)
  where
    by : (xs : List Name) → list_any (among []) xs ≡ false
    by [] = refl
    by (x ∷ xs) = by xs

-- what a set of names tells of one that is put into it
pub is_new : (b r : Bool) → r ≡ not b → r ≡ true → b ≡ false
is_new true r h k = absurd cc
is_new false r h k = refl

pub isnt_new : (b r : Bool) → r ≡ not b → r ≡ false → b ≡ true
isnt_new true r h k = refl
isnt_new false r h k = absurd cc

pub key_added : (ks new : List (Bor Name)) (k : Bor Name) → among ks k.now ≡ false → new ≡ cond (among ks k.now) ks (ks ++ k ∷ []) → new ≡ ks ++ k ∷ []
key_added ks new k h e = e ∙ ap (λ b. cond b ks (ks ++ k ∷ [])) h

-- ---- all declared names

-- the meaning at a place
next_entry : (f : Meaning → Bool) (es : List Entry) (i : ℕ) (m : Meaning) → Some m ≡ option_map (λ e. e.1) (slice_get es i) → list_all (λ e. f e.1) (drop i es) ≡ (f m && list_all (λ e. f e.1) (drop (suc i) es))
next_entry f [] i m h = absurd cc
next_entry f (e ∷ es) zero m h = ap (λ x. f x && list_all (λ e. f e.1) es) (let p : e.1 ≡ m = cc in p)
next_entry f (e ∷ es) (suc i) m h = next_entry f es i m h

after_entry : (f : Meaning → Bool) (es : List Entry) (i : ℕ) (m : Meaning) → Some m ≡ option_map (λ e. e.1) (slice_get es i) → list_all (λ e. f e.1) (drop i es) ≡ (f m && list_all (λ e. f e.1) (drop (i + 1) es))
after_entry f es i m h =
    let k : suc i ≡ i + 1 = omega arith in
    next_entry f es i m h ∙ ap (λ (j : ℕ). f m && list_all (λ e. f e.1) (drop j es)) k

pub at_place : (es : List Entry) (i : ℕ) (o : Option Meaning) → i < length es → o ≡ None → o ≡ option_map (λ e. e.1) (slice_get es i) → ⊥
at_place [] i o h n k = omega (arith, h)
at_place (e ∷ es) zero o h n k = cc
at_place (e ∷ es) (suc i) o h n k = at_place es i o (omega (arith, h)) n k

pub fit_more : (f : Meaning → Bool) (es : List Entry) (i : ℕ) (m : Meaning) (whole : Bool) → list_all (λ e. f e.1) (drop i es) ≡ whole → Some m ≡ option_map (λ e. e.1) (slice_get es i) → f m ≡ true → list_all (λ e. f e.1) (drop (i + 1) es) ≡ whole
fit_more f es i m whole inv h t = sym (after_entry f es i m h ∙ ap (λ b. b && list_all (λ e. f e.1) (drop (i + 1) es)) t) ∙ inv

pub fit_fails : (f : Meaning → Bool) (es : List Entry) (i : ℕ) (m : Meaning) (whole : Bool) → list_all (λ e. f e.1) (drop i es) ≡ whole → Some m ≡ option_map (λ e. e.1) (slice_get es i) → f m ≡ false → false ≡ whole
fit_fails f es i m whole inv h t = sym (after_entry f es i m h ∙ ap (λ b. b && list_all (λ e. f e.1) (drop (i + 1) es)) t) ∙ inv

pub fit_end : (f : Meaning → Bool) (es : List Entry) (i : ℕ) (whole : Bool) → list_all (λ e. f e.1) (drop i es) ≡ whole → length es ≤ i → true ≡ whole
fit_end f es i whole inv h = sym (ap (list_all (λ e. f e.1)) (none_left es i h)) ∙ inv
