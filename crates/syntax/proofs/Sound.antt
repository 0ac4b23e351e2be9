-- What is read fits, and its tokens are those that were read.
use Rattle.std.proofs.Common.{◌≡◌, ℕ, zero, suc, ◌<◌, ◌≤◌, List, [], ◌∷◌, ◌++◌, Bool, true, false, cond, Option, Some, None, refl, sym, ap, subst, ◌∙◌, append_assoc, arith}
use Rattle.std.proofs.lemmas.List.{append-nil}
use Rattle.std.proofs.Math.Nat.{max-le}
use denote.Enum.Bare.{same_true}
use Rattle.tokens.specs.contracts.symbol.Symbol.{the_type as symbol_type}
use Rattle.tokens.specs.contracts.keyword.Keyword.{the_type as keyword_type}
use Rattle.tokens.specs.Lexeme.{Lexeme, Name, Kept, Sign}
use Rattle.tokens.specs.declared.symbol.Symbol.TheVariants as symbols
use Rattle.syntax.specs.declared.piece.Sign.{Sign as Signs}
use Rattle.syntax.specs.declared.piece.Sign.TheVariants as signs
use Rattle.syntax.specs.declared.piece.Kind.{Kind}
use Rattle.syntax.specs.declared.piece.Place.{Place}
use Rattle.syntax.specs.declared.piece.Start.{Start}
use Rattle.syntax.specs.declared.piece.Start.TheVariants as starts
use Rattle.syntax.specs.declared.piece.Piece.{Piece}
use Rattle.syntax.specs.declared.piece.Piece.TheVariants as pieces
use Rattle.syntax.specs.Grammar.{Syntax, Called, Syntaxes, NoSyntax, MoreSyntax, sign_lexeme, before, flat, spell, spell_signs, spell_part, height_of, highest, nesting, nests, nests_part, within, is, is_called, Fits, FitAll, FitsPart, needs_none}
use Rattle.syntax.specs.Parsing.{◌>>=◌, Found, Row, Reader, syntaxes, is_sign, after, name_at, another, last_is_open, others_on, others, put, keep, step, row}

-- the value of a step that did not fail
pub bind_some : {A B : Type 0} (o : Option A) (f : A → Option B) (y : B) → (o >>= f) ≡ Some y → (x : A) × (o ≡ Some x) × (f x ≡ Some y)
bind_some (Some x) f y e = (x, refl, e)
bind_some None f y e = absurd cc

pub guard_some : {A : Type 0} (b : Bool) (o : Option A) (y : A) → cond b o None ≡ Some y → (b ≡ true) × (o ≡ Some y)
guard_some true o y e = (refl, e)
guard_some false o y e = absurd cc

abbrev pub some_of : {A : Type 0} → A → Option A
some_of x = Some x

pub some_is : {A : Type 0} (x y : A) → some_of x ≡ some_of y → x ≡ y
some_is x y e = cc

-- ---- tokens

sign_is : (s : Signs) (x : Lexeme) → is_sign s x ≡ true → x ≡ sign_lexeme s
unfolding is_sign
sign_is (signs.Symbol s) (Sign t) e = ap Sign (same_true symbol_type tt t s e)
sign_is (signs.Keyword k) (Kept j) e = ap Kept (same_true keyword_type tt j k e)
sign_is s x e = absurd cc

pub after_is : (s : Signs) (toks rest : List Lexeme) → after s toks ≡ some_of rest → toks ≡ sign_lexeme s ∷ rest
unfolding after
after_is s (x ∷ others) rest e =
    let test = guard_some (is_sign s x) (some_of others) rest e in
    ap (λ (y : Lexeme). y ∷ others) (sign_is s x test.0) ∙ ap (λ (ts : List Lexeme). sign_lexeme s ∷ ts) (some_is others rest test.1)
after_is s [] rest e = absurd cc

-- ---- signs of a rule

pub fit_sign : (ts : Syntaxes) (s : Signs) (ps : List Piece) → FitAll ts ps → FitAll ts (pieces.Sign s ∷ ps)
fit_sign NoSyntax s ps h = h
fit_sign (MoreSyntax t ts) s ps h = h

pub fit_open : (ts : Syntaxes) (s : _) (ps : List Piece) → FitAll ts ps → FitAll ts (pieces.Open s ∷ ps)
fit_open NoSyntax s ps h = h
fit_open (MoreSyntax t ts) s ps h = h

pub spell_sign : (ts : Syntaxes) (s : Signs) (ps : List Piece) → spell ts (pieces.Sign s ∷ ps) ≡ sign_lexeme s ∷ spell ts ps
unfolding spell spell_signs spell_part
spell_sign NoSyntax s ps = refl
spell_sign (MoreSyntax t ts) s ps = refl

pub spell_open : (ts : Syntaxes) (s : _) (ps : List Piece) → spell ts (pieces.Open s ∷ ps) ≡ Sign s ∷ spell ts ps
unfolding spell spell_signs spell_part
spell_open NoSyntax s ps = refl
spell_open (MoreSyntax t ts) s ps = refl

pub nests_sign : (b : ℕ) (ts : Syntaxes) (s : Signs) (ps : List Piece) → nests ts ps ≤ b → nests ts (pieces.Sign s ∷ ps) ≤ b
unfolding nests nests_part
nests_sign b NoSyntax s ps h = h
nests_sign b (MoreSyntax t ts) s ps h = h

pub nests_open : (b : ℕ) (ts : Syntaxes) (s : _) (ps : List Piece) → 0 < b → nests ts ps ≤ b → nests ts (pieces.Open s ∷ ps) ≤ b
unfolding nests nests_part
nests_open b NoSyntax s ps z h = omega (arith, z)
nests_open b (MoreSyntax t ts) s ps z h = h

-- ---- parts

-- a part that was read from the front of the tokens
pub record IsPart (k : Kind) (place : Place) (b r : ℕ) (toks : List Lexeme) (x : Found) : Type 0 where
  pub fits : Fits x.0
  pub kind : is k x.0 ≡ true
  pub high : height_of x.0 ≤ r
  pub nested : within place (nesting x.0) ≤ b
  pub spelled : toks ≡ flat x.0 ++ x.1

abbrev pub IsSound : (b r : ℕ) → Reader → Type 0
IsSound b r read = (place : Place) (k : Kind) (toks : List Lexeme) (x : Found) → read place k toks ≡ Some x → IsPart k place b r toks x

-- parts that were read after others by the pieces of a rule
pub record Rowed (b r : ℕ) (ps : List Piece) (front : List Syntax) (toks : List Lexeme) (y : Row) : Type 0 where
  pub new : List Syntax
  pub all : y.0 ≡ front ++ new
  pub fits : FitAll (syntaxes new) ps
  pub high : highest (syntaxes new) ≤ r
  pub nested : nests (syntaxes new) ps ≤ b
  pub spelled : toks ≡ spell (syntaxes new) ps ++ y.1

-- only signs stand there
abbrev pub only_signs : List Piece → Bool
only_signs [] = true
only_signs (pieces.Sign s ∷ ps) = only_signs ps
only_signs (p ∷ ps) = false

-- after any number of parts only signs stand
abbrev pub tidy : List Piece → Bool
tidy [] = true
tidy (pieces.Others place k start ∷ ps) = only_signs ps
tidy (p ∷ ps) = tidy ps

one_more : (front : List Syntax) (t : Syntax) (new ts : List Syntax) → ts ≡ (front ++ t ∷ []) ++ new → ts ≡ front ++ t ∷ new
one_more front t new ts e = e ∙ append_assoc front (t ∷ []) new

rowed_sign : (b r : ℕ) (s : Signs) (ps : List Piece) (front : List Syntax) (toks rest : List Lexeme) (y : Row) → toks ≡ sign_lexeme s ∷ rest → Rowed b r ps front rest y → Rowed b r (pieces.Sign s ∷ ps) front toks y
rowed_sign b r s ps front toks rest y e w = record {
  new = w.new;
  all = w.all;
  fits = fit_sign (syntaxes w.new) s ps w.fits;
  high = w.high;
  nested = nests_sign b (syntaxes w.new) s ps w.nested;
  spelled = e ∙ ap (λ (ts : List Lexeme). sign_lexeme s ∷ ts) w.spelled ∙ ap (λ (ts : List Lexeme). ts ++ y.1) (sym (spell_sign (syntaxes w.new) s ps));
}

rowed_open : (b r : ℕ) (s : _) (ps : List Piece) (front : List Syntax) (toks rest : List Lexeme) (y : Row) → 0 < b → toks ≡ Sign s ∷ rest → Rowed b r ps front rest y → Rowed b r (pieces.Open s ∷ ps) front toks y
rowed_open b r s ps front toks rest y z e w = record {
  new = w.new;
  all = w.all;
  fits = fit_open (syntaxes w.new) s ps w.fits;
  high = w.high;
  nested = nests_open b (syntaxes w.new) s ps z w.nested;
  spelled = e ∙ ap (λ (ts : List Lexeme). Sign s ∷ ts) w.spelled ∙ ap (λ (ts : List Lexeme). ts ++ y.1) (sym (spell_open (syntaxes w.new) s ps));
}

rowed_name : (b r : ℕ) (ps : List Piece) (front : List Syntax) (n : List ℕ) (rest : List Lexeme) (y : Row) → Rowed b r ps (front ++ Called n ∷ []) rest y → Rowed b r (pieces.Name ∷ ps) front (Name n ∷ rest) y
unfolding is_called nests nests_part spell spell_part flat
rowed_name b r ps front n rest y w = record {
  new = Called n ∷ w.new;
  all = one_more front (Called n) w.new y.0 w.all;
  fits = (tt, (refl, w.fits));
  high = omega (arith, w.high);
  nested = w.nested;
  spelled = ap (λ (ts : List Lexeme). Name n ∷ ts) w.spelled;
}

rowed_part : (b r : ℕ) (place : Place) (k : Kind) (ps : List Piece) (front : List Syntax) (toks : List Lexeme) (x : Found) (y : Row) → IsPart k place b r toks x → Rowed b r ps (front ++ x.0 ∷ []) x.1 y → Rowed b r (pieces.Part place k ∷ ps) front toks y
unfolding nests nests_part spell spell_part
rowed_part b r place k ps front toks x y g w = record {
  new = x.0 ∷ w.new;
  all = one_more front x.0 w.new y.0 w.all;
  fits = (g.fits, (g.kind, w.fits));
  high = max-le g.high w.high;
  nested = max-le g.nested w.nested;
  spelled = g.spelled ∙ ap (λ (ts : List Lexeme). flat x.0 ++ ts) w.spelled ∙ sym (append_assoc (flat x.0) (spell (syntaxes w.new) ps) y.1);
}

-- ---- any number of parts

abbrev pub AllParts : Place → Kind → ℕ → ℕ → List Syntax → Type 0
AllParts place k b r [] = Unit {0}
AllParts place k b r (t ∷ ts) = (Fits t × (is k t ≡ true) × (height_of t ≤ r) × (within place (nesting t) ≤ b)) × AllParts place k b r ts

abbrev pub spell_others : Start → List Syntax → List Lexeme
spell_others start [] = []
spell_others start (t ∷ ts) = before start ++ (flat t ++ spell_others start ts)

pub record Further (place : Place) (k : Kind) (start : Start) (b r : ℕ) (front : List Syntax) (toks : List Lexeme) (y : Row) : Type 0 where
  pub new : List Syntax
  pub all : y.0 ≡ front ++ new
  pub parts : AllParts place k b r new
  pub spelled : toks ≡ spell_others start new ++ y.1

-- where another part begins, what stands before it is taken
another_is : (start : Start) (greedy : Bool) (toks begin : List Lexeme) → another start greedy toks ≡ some_of begin → toks ≡ before start ++ begin
unfolding another
another_is (starts.Behind s) greedy toks begin e = after_is (signs.Symbol s) toks begin e
another_is starts.Dot true toks begin e = absurd cc
another_is starts.Dot false toks begin e = after_is (signs.Symbol symbols.Dot) toks begin e
another_is starts.Any greedy [] begin e = absurd cc
another_is starts.Any greedy (x ∷ toks) begin e = some_is (x ∷ toks) begin e
another_is (starts.Field m) greedy toks begin e = some_is toks begin (guard_some _ (some_of toks) begin e).1

further_none : (place : Place) (k : Kind) (start : Start) (b r : ℕ) (front : List Syntax) (toks : List Lexeme) (y : Row) → some_of {A = Row} (front, toks) ≡ some_of y → Further place k start b r front toks y
further_none place k start b r front toks y e =
    subst (Further place k start b r front toks) (some_is (front, toks) y e)
    (record { new = []; all = sym (append-nil front); parts = tt; spelled = refl })

further_more : (place : Place) (k : Kind) (start : Start) (b r : ℕ) (front : List Syntax) (toks begin : List Lexeme) (x : Found) (y : Row) → toks ≡ before start ++ begin → IsPart k place b r begin x → Further place k start b r (front ++ x.0 ∷ []) x.1 y → Further place k start b r front toks y
further_more place k start b r front toks begin x y e g w = record {
  new = x.0 ∷ w.new;
  all = one_more front x.0 w.new y.0 w.all;
  parts = ((g.fits, g.kind, g.high, g.nested), w.parts);
  spelled = e ∙ ap (λ (ts : List Lexeme). before start ++ ts) (g.spelled ∙ ap (λ (ts : List Lexeme). flat x.0 ++ ts) w.spelled ∙ sym (append_assoc (flat x.0) (spell_others start w.new) y.1)) ∙ sym (append_assoc (before start) (flat x.0 ++ spell_others start w.new) y.1);
}

further_on : (place : Place) (k : Kind) (start : Start) (b r : ℕ) (part : List Lexeme → Option Found) (go : List Syntax → List Lexeme → Option Row) → ((toks : List Lexeme) (x : Found) → part toks ≡ Some x → IsPart k place b r toks x) → ((front : List Syntax) (toks : List Lexeme) (y : Row) → go front toks ≡ Some y → Further place k start b r front toks y) → (front : List Syntax) (toks : List Lexeme) (y : Row) (o : Option (List Lexeme)) → another start (last_is_open front) toks ≡ o → others_on part go front toks o ≡ Some y → Further place k start b r front toks y
further_on place k start b r part go sound goes front toks y None e h = further_none place k start b r front toks y h
further_on place k start b r part go sound goes front toks y (Some begin) e h =
    let found = bind_some (part begin) (λ x. go (front ++ x.0 ∷ []) x.1) y h in
    let x = found.0 in
    further_more place k start b r front toks begin x y (another_is start (last_is_open front) toks begin e) (sound begin x found.1) (goes (front ++ x.0 ∷ []) x.1 y found.2)

pub others_sound : (place : Place) (k : Kind) (start : Start) (b r n : ℕ) (part : List Lexeme → Option Found) → ((toks : List Lexeme) (x : Found) → part toks ≡ Some x → IsPart k place b r toks x) → (front : List Syntax) (toks : List Lexeme) (y : Row) → others part start n front toks ≡ Some y → Further place k start b r front toks y
unfolding others
others_sound place k start b r zero part sound front toks y e = further_none place k start b r front toks y e
others_sound place k start b r (suc n) part sound front toks y e =
    further_on place k start b r part (others part start n) sound (others_sound place k start b r n part sound) front toks y (another start (last_is_open front) toks) refl e

signs_need_none : (ps : List Piece) → only_signs ps ≡ true → needs_none ps ≡ true
signs_need_none [] e = refl
signs_need_none (pieces.Sign s ∷ ps) e = signs_need_none ps e
signs_need_none (p ∷ ps) e = absurd cc

no_part : (t : Syntax) (others : List Piece → Type 0) (ps : List Piece) → only_signs ps ≡ true → FitsPart t others ps → ⊥
no_part t others [] e h = h
no_part t others (pieces.Sign s ∷ ps) e h = no_part t others ps e h
no_part t others (p ∷ ps) e h = absurd cc

none_new : (ts : List Syntax) (ps : List Piece) → only_signs ps ≡ true → FitAll (syntaxes ts) ps → ts ≡ []
none_new [] ps e h = refl
none_new (t ∷ ts) ps e h = absurd (no_part t (FitAll (syntaxes ts)) ps e h.1)

signs_open_none : (b : ℕ) (ps : List Piece) → only_signs ps ≡ true → nests NoSyntax ps ≤ b
unfolding nests
signs_open_none b [] e = omega arith
signs_open_none b (pieces.Sign s ∷ ps) e = signs_open_none b ps e
signs_open_none b (p ∷ ps) e = absurd cc

others_fit : (place : Place) (k : Kind) (start : Start) (b r : ℕ) (ps : List Piece) (ts : List Syntax) → only_signs ps ≡ true → AllParts place k b r ts → FitAll (syntaxes ts) (pieces.Others place k start ∷ ps)
others_fit place k start b r ps [] e h = signs_need_none ps e
others_fit place k start b r ps (t ∷ ts) e h = (h.0.0, (h.0.1, others_fit place k start b r ps ts e h.1))

others_high : (place : Place) (k : Kind) (b r : ℕ) (ts : List Syntax) → AllParts place k b r ts → highest (syntaxes ts) ≤ r
others_high place k b r [] h = omega arith
others_high place k b r (t ∷ ts) h = max-le h.0.2 (others_high place k b r ts h.1)

others_nested : (place : Place) (k : Kind) (start : Start) (b r : ℕ) (ps : List Piece) (ts : List Syntax) → only_signs ps ≡ true → AllParts place k b r ts → nests (syntaxes ts) (pieces.Others place k start ∷ ps) ≤ b
unfolding nests nests_part
others_nested place k start b r ps [] e h = signs_open_none b ps e
others_nested place k start b r ps (t ∷ ts) e h = max-le h.0.3 (others_nested place k start b r ps ts e h.1)

others_spelled : (place : Place) (k : Kind) (start : Start) (ps : List Piece) (ts : List Syntax) → spell (syntaxes ts) (pieces.Others place k start ∷ ps) ≡ spell_others start ts ++ spell NoSyntax ps
unfolding spell spell_signs spell_part
others_spelled place k start ps [] = refl
others_spelled place k start ps (t ∷ ts) =
    ap (λ (xs : List Lexeme). before start ++ (flat t ++ xs)) (others_spelled place k start ps ts)
    ∙ ap (λ (xs : List Lexeme). before start ++ xs) (sym (append_assoc (flat t) (spell_others start ts) (spell NoSyntax ps)))
    ∙ sym (append_assoc (before start) (flat t ++ spell_others start ts) (spell NoSyntax ps))

rowed_others : (b r : ℕ) (place : Place) (k : Kind) (start : Start) (ps : List Piece) (front : List Syntax) (toks : List Lexeme) (z y : Row) → only_signs ps ≡ true → Further place k start b r front toks z → Rowed b r ps z.0 z.1 y → Rowed b r (pieces.Others place k start ∷ ps) front toks y
rowed_others b r place k start ps front toks z y e g w =
    let none : w.new ≡ [] = none_new w.new ps e w.fits in
    record {
      new = g.new;
      all = w.all ∙ ap (λ (ts : List Syntax). z.0 ++ ts) none ∙ append-nil z.0 ∙ g.all;
      fits = others_fit place k start b r ps g.new e g.parts;
      high = others_high place k b r g.new g.parts;
      nested = others_nested place k start b r ps g.new e g.parts;
      spelled = g.spelled
          ∙ ap (λ (xs : List Lexeme). spell_others start g.new ++ xs) (w.spelled ∙ ap (λ (ts : List Syntax). spell (syntaxes ts) ps ++ y.1) none)
          ∙ sym (append_assoc (spell_others start g.new) (spell NoSyntax ps) y.1)
          ∙ ap (λ (xs : List Lexeme). xs ++ y.1) (sym (others_spelled place k start ps g.new));
    }

pub name_is : (toks : List Lexeme) (x : Found) → name_at toks ≡ Some x → (n : List ℕ) × (rest : List Lexeme) × (toks ≡ Name n ∷ rest) × ((Called n, rest) ≡ x)
unfolding name_at
name_is (Name n ∷ rest) x e = (n, rest, refl, some_is (Called n, rest) x e)
name_is _ x e = absurd cc

-- what the pieces of a rule read, they fit and spell
pub row_sound : (read : Reader) (opening : Bool) (b r : ℕ) → (opening ≡ true → 0 < b) → IsSound b r read → (ps : List Piece) → tidy ps ≡ true → (front : List Syntax) (toks : List Lexeme) (y : Row) → row read opening ps front toks ≡ Some y → Rowed b r ps front toks y
unfolding row step spell spell_signs
row_sound read opening b r positive sound [] t front toks y e =
    subst (Rowed b r [] front toks) (some_is (front, toks) y e)
    (record { new = []; all = sym (append-nil front); fits = refl; high = omega arith; nested = signs_open_none b [] refl; spelled = refl })
row_sound read opening b r positive sound (pieces.Sign s ∷ ps) t front toks y e =
    let first = bind_some (after s toks >>= keep front) (λ z. row read opening ps z.0 z.1) y e in
    let found = bind_some (after s toks) (keep front) first.0 first.1 in
    rowed_sign b r s ps front toks found.0 y (after_is s toks found.0 found.1)
    (row_sound read opening b r positive sound ps t front found.0 y (ap (λ (z : Row). row read opening ps z.0 z.1) (some_is (front, found.0) first.0 found.2) ∙ first.2))
row_sound read opening b r positive sound (pieces.Open s ∷ ps) t front toks y e =
    let first = bind_some (cond opening (after (signs.Symbol s) toks >>= keep front) None) (λ z. row read opening ps z.0 z.1) y e in
    let test = guard_some opening (after (signs.Symbol s) toks >>= keep front) first.0 first.1 in
    let found = bind_some (after (signs.Symbol s) toks) (keep front) first.0 test.1 in
    rowed_open b r s ps front toks found.0 y (positive test.0) (after_is (signs.Symbol s) toks found.0 found.1)
    (row_sound read opening b r positive sound ps t front found.0 y (ap (λ (z : Row). row read opening ps z.0 z.1) (some_is (front, found.0) first.0 found.2) ∙ first.2))
row_sound read opening b r positive sound (pieces.Name ∷ ps) t front toks y e =
    let first = bind_some (name_at toks >>= put front) (λ z. row read opening ps z.0 z.1) y e in
    let found = bind_some (name_at toks) (put front) first.0 first.1 in
    let name = name_is toks found.0 found.1 in
    subst (λ (ts : List Lexeme). Rowed b r (pieces.Name ∷ ps) front ts y) (sym name.2)
    (rowed_name b r ps front name.0 name.1 y
    (row_sound read opening b r positive sound ps t (front ++ Called name.0 ∷ []) name.1 y
    (ap (λ (x : Found). row read opening ps (front ++ x.0 ∷ []) x.1) name.3
    ∙ ap (λ (z : Row). row read opening ps z.0 z.1) (some_is (front ++ found.0.0 ∷ [], found.0.1) first.0 found.2) ∙ first.2)))
row_sound read opening b r positive sound (pieces.Part place k ∷ ps) t front toks y e =
    let first = bind_some (read place k toks >>= put front) (λ z. row read opening ps z.0 z.1) y e in
    let found = bind_some (read place k toks) (put front) first.0 first.1 in
    let x = found.0 in
    rowed_part b r place k ps front toks x y (sound place k toks x found.1)
    (row_sound read opening b r positive sound ps t (front ++ x.0 ∷ []) x.1 y
    (ap (λ (z : Row). row read opening ps z.0 z.1) (some_is (front ++ x.0 ∷ [], x.1) first.0 found.2) ∙ first.2))
row_sound read opening b r positive sound (pieces.Others place k start ∷ ps) t front toks y e =
    let first = bind_some (others (read place k) start _ front toks) (λ z. row read opening ps z.0 z.1) y e in
    let z = first.0 in
    rowed_others b r place k start ps front toks z y t
    (others_sound place k start b r _ (read place k) (sound place k) front toks z first.1)
    (row_sound read opening b r positive sound ps (signs_tidy ps t) z.0 z.1 y first.2)
  where
    signs_tidy : (ps : List Piece) → only_signs ps ≡ true → tidy ps ≡ true
    signs_tidy [] h = refl
    signs_tidy (pieces.Sign s ∷ ps) h = signs_tidy ps h
    signs_tidy (p ∷ ps) h = absurd cc
