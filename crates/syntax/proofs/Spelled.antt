-- What is read, within the limits that it is read with, fits, and its tokens are those that were read.
use Rattle.std.proofs.Common.{◌≡◌, ℕ, zero, suc, ◌+◌, ◌<◌, ◌≤◌, List, [], ◌∷◌, ◌++◌, Bool, true, false, cond, not, Option, Some, None, refl, sym, ap, subst, ◌∙◌, append_assoc, arith}
use Rattle.std.specs.Prelude.{nat_lt}
use Rattle.std.proofs.lemmas.Bool.{ltb-true, leb-true, le-leb}
use Rattle.std.proofs.lemmas.List.{append-nil}
use Rattle.std.proofs.Math.Nat.{max-le}
use Rattle.tokens.specs.Lexeme.{Lexeme, Number}
use Rattle.tokens.specs.declared.symbol.Symbol.{Symbol}
use Rattle.syntax.specs.declared.operator.Operator.{Operator}
use Rattle.syntax.specs.declared.operator.Operator.TheVariants as operators
use Rattle.syntax.specs.declared.piece.Sign.{Sign as Signs}
use Rattle.syntax.specs.declared.piece.Kind.{Kind}
use Rattle.syntax.specs.declared.piece.Kind.TheVariants as kinds
use Rattle.syntax.specs.declared.piece.Place.TheVariants as places
use Rattle.syntax.specs.declared.piece.Piece.{Piece}
use Rattle.syntax.specs.declared.piece.Piece.TheVariants as pieces
use Rattle.syntax.specs.declared.form.Form.{Form}
use Rattle.syntax.specs.declared.form.Form.TheVariants as forms
use Rattle.syntax.specs.Operators.{opening, opens, level, behind}
use Rattle.syntax.specs.Rules.{rule, is_heavy, form_level}
use Rattle.syntax.specs.Grammar.{Syntax, Numeral, Node, Syntaxes, flat, spell, spell_signs, spell_part, height_of, highest, nesting, nests, nests_part, level_in, is, is_called, is_numeral, is_value, takes, left_fits, may_stand, Fits, FitAll}
use Rattle.syntax.specs.Script.{IsPhrase as IsOnePhrase, IsScript}
use Rattle.syntax.specs.Parsing.{◌>>=◌, Found, Row, Reader, syntaxes, name_at, number_at, numeral_at, may_be_number, is_alone, form_at, fields_of, turned, row, node_of, node, next_operator, may_begin, grown, climb_on, climb, pick, operand_on, operand, go_on, read_in, reads, inside, reader, may_open, ended, whole}
use Rattle.syntax.proofs.Sound.{bind_some, guard_some, some_is, some_of, name_is, fit_sign, fit_open, spell_sign, spell_open, nests_sign, nests_open, IsPart, IsSound, Rowed, row_sound, tidy}
use Rattle.syntax.proofs.Climbed.{next_goes}
use Rattle.syntax.proofs.Steps.{reads_suc, reads_no_room, reads_no_layer, heavy_turned}
use Rattle.syntax.proofs.Forms.{form_plain, kind_is}
use Rattle.syntax.proofs.Noded.{Noded, node_sound}

-- ---- what an operator begins with

-- one sign or one bracket, which the part on the left stands before
pub record Begins (op : Operator) : Type 0 where
  pub fit : (ts : Syntaxes) (ps : List Piece) → FitAll ts ps → FitAll ts (opening op ∷ ps)
  pub spelled : (ts : Syntaxes) (ps : List Piece) → spell ts (opening op ∷ ps) ≡ spell_signs (opening op ∷ []) ++ spell ts ps
  pub nest : (may : Bool) (b : ℕ) → (may ≡ true → 0 < b) → may_begin may op ≡ true → (ts : Syntaxes) (ps : List Piece) → nests ts ps ≤ b → nests ts (opening op ∷ ps) ≤ b

sign_spelled : (ts : Syntaxes) (s : Signs) (ps : List Piece) → spell ts (pieces.Sign s ∷ ps) ≡ spell_signs (pieces.Sign s ∷ []) ++ spell ts ps
unfolding spell_signs
sign_spelled ts s ps = spell_sign ts s ps

open_spelled : (ts : Syntaxes) (s : Symbol) (ps : List Piece) → spell ts (pieces.Open s ∷ ps) ≡ spell_signs (pieces.Open s ∷ []) ++ spell ts ps
unfolding spell_signs
open_spelled ts s ps = spell_open ts s ps

sign_begins : (op : Operator) (s : Signs) → opening op ≡ pieces.Sign s → Begins op
sign_begins op s e = record {
  fit = λ ts ps h. subst (λ (p : Piece). FitAll ts (p ∷ ps)) (sym e) (fit_sign ts s ps h);
  spelled = λ ts ps. subst (λ (p : Piece). spell ts (p ∷ ps) ≡ spell_signs (p ∷ []) ++ spell ts ps) (sym e) (sign_spelled ts s ps);
  nest = λ may b z m ts ps h. subst (λ (p : Piece). nests ts (p ∷ ps) ≤ b) (sym e) (nests_sign b ts s ps h);
}

may_is : (may : Bool) (op : Operator) → opens op ≡ true → may_begin may op ≡ true → may ≡ true
unfolding may_begin
may_is true op e m = refl
may_is false op e m = let no : not true ≡ true = ap not (sym e) ∙ m in absurd cc

open_begins : (op : Operator) (s : Symbol) → opening op ≡ pieces.Open s → opens op ≡ true → Begins op
open_begins op s e o = record {
  fit = λ ts ps h. subst (λ (p : Piece). FitAll ts (p ∷ ps)) (sym e) (fit_open ts s ps h);
  spelled = λ ts ps. subst (λ (p : Piece). spell ts (p ∷ ps) ≡ spell_signs (p ∷ []) ++ spell ts ps) (sym e) (open_spelled ts s ps);
  nest = λ may b z m ts ps h. subst (λ (p : Piece). nests ts (p ∷ ps) ≤ b) (sym e) (nests_open b ts s ps (z (may_is may op o m)) h);
}

begins : (op : Operator) → Begins op
unfolding opening opens
begins operators.Renaming = open_begins operators.Renaming _ refl refl
begins operators.Sharing = open_begins operators.Sharing _ refl refl
begins operators.Alphabetised = open_begins operators.Alphabetised _ refl refl
begins op = sign_begins op _ refl

tidy_behind : (op : Operator) → tidy (behind op) ≡ true
unfolding behind
tidy_behind operators.Renaming = refl
tidy_behind op = refl

-- ---- climbing

-- a phrase of this level was read from the front of the tokens
pub record IsPhrase (b r l : ℕ) (toks : List Lexeme) (x : Found) : Type 0 where
  pub fits : Fits x.0
  pub loose : level_in x.0 ≤ l
  pub high : height_of x.0 ≤ r
  pub nested : nesting x.0 ≤ b
  pub spelled : toks ≡ flat x.0 ++ x.1

abbrev GoesOn : (b r l : ℕ) → (Syntax → List Lexeme → Option Found) → Type 0
GoesOn b r l go = (left : Syntax) (toks : List Lexeme) (x : Found) → Fits left → level_in left ≤ l → height_of left ≤ suc r → nesting left ≤ b → go left toks ≡ Some x → IsPhrase b (suc r) l (flat left ++ toks) x

-- a part and what comes after an operator
pub record Grown (b r : ℕ) (op : Operator) (left : Syntax) (toks : List Lexeme) (y : Found) : Type 0 where
  pub fits : Fits y.0
  pub loose : level_in y.0 ≡ level op
  pub high : height_of y.0 ≤ suc r
  pub nested : nesting y.0 ≤ b
  pub spelled : flat y.0 ++ y.1 ≡ flat left ++ (spell_signs (opening op ∷ []) ++ toks)

grown_of : (may : Bool) (b r : ℕ) → (may ≡ true → 0 < b) → (op : Operator) (left : Syntax) (toks : List Lexeme) (z : Row) → may_begin may op ≡ true → left_fits op left ≡ true → Fits left → height_of left ≤ r → nesting left ≤ b → Rowed b r (behind op) (left ∷ []) toks z → Grown b r op left toks (Node (forms.Operation op) (syntaxes z.0), z.1)
unfolding rule form_level level_in is may_stand flat spell spell_part nesting nests nests_part is_heavy
grown_of may b r positive op left toks z m f fits high nested w =
    let g = begins op in
    let all : left ∷ w.new ≡ z.0 = sym w.all in
    let new = syntaxes w.new in
    subst (λ (ts : List Syntax). Grown b r op left toks (Node (forms.Operation op) (syntaxes ts), z.1)) all
    (record {
      fits = (refl, (fits, (f, g.fit new (behind op) w.fits)));
      loose = refl;
      high = omega (arith, max-le high w.high);
      nested = max-le nested (g.nest may b positive m new (behind op) w.nested);
      spelled = append_assoc (flat left) (spell new (opening op ∷ behind op)) z.1
          ∙ ap (λ (ts : List Lexeme). flat left ++ ts)
          (ap (λ (ts : List Lexeme). ts ++ z.1) (g.spelled new (behind op))
          ∙ append_assoc (spell_signs (opening op ∷ [])) (spell new (behind op)) z.1
          ∙ ap (λ (ts : List Lexeme). spell_signs (opening op ∷ []) ++ ts) (sym w.spelled));
    })

grown_sound : (read : Reader) (may : Bool) (b r : ℕ) → (may ≡ true → 0 < b) → IsSound b r read → (op : Operator) (left : Syntax) (toks : List Lexeme) (y : Found) → may_begin may op ≡ true → left_fits op left ≡ true → Fits left → height_of left ≤ r → nesting left ≤ b → grown read may op left toks ≡ Some y → Grown b r op left toks y
unfolding grown
grown_sound read may b r positive sound op left toks y m f fits high nested e =
    let found = bind_some (row read may (behind op) (left ∷ []) toks) (node_of (forms.Operation op)) y e in
    let z = found.0 in
    subst (Grown b r op left toks) (some_is (Node (forms.Operation op) (syntaxes z.0), z.1) y found.2)
    (grown_of may b r positive op left toks z m f fits high nested (row_sound read may b r positive sound (behind op) (tidy_behind op) (left ∷ []) toks z found.1))

on_sound : (read : Reader) (may : Bool) (go : Syntax → List Lexeme → Option Found) (b r l room : ℕ) → room ≤ suc r → (may ≡ true → 0 < b) → IsSound b r read → GoesOn b r l go → (left : Syntax) (toks : List Lexeme) (x : Found) → Fits left → level_in left ≤ l → height_of left ≤ suc r → nesting left ≤ b → (o : Option (Operator × List Lexeme)) → next_operator l left toks ≡ o → climb_on read may go room left toks o ≡ Some x → IsPhrase b (suc r) l (flat left ++ toks) x
on_sound read may go b r l room low positive sound goes left toks x f v h k None is e =
    subst (IsPhrase b (suc r) l (flat left ++ toks)) (some_is (left, toks) x e) (record { fits = f; loose = v; high = h; nested = k; spelled = refl })
on_sound read may go b r l room low positive sound goes left toks x f v h k (Some y) is e =
    let test = guard_some (nat_lt (height_of left) room) (cond (may_begin may y.0) (grown read may y.0 left y.1 >>= λ z. go z.0 z.1) None) x e in
    let begun = guard_some (may_begin may y.0) (grown read may y.0 left y.1 >>= λ z. go z.0 z.1) x test.1 in
    let found = bind_some (grown read may y.0 left y.1) (λ z. go z.0 z.1) x begun.1 in
    let z = found.0 in
    let w = next_goes l left toks y is in
    let top : height_of left ≤ r = omega (arith, ltb-true _ _ test.0) in
    let g = grown_sound read may b r positive sound y.0 left y.1 z begun.0 w.fits f top k found.1 in
    subst (λ (ts : List Lexeme). IsPhrase b (suc r) l ts x)
    (g.spelled ∙ ap (λ (ts : List Lexeme). flat left ++ ts) (sym w.spelled))
    (goes z.0 z.1 x g.fits (omega (arith, g.loose, w.low)) g.high g.nested found.2)

climb_sound : (read : Reader) (may : Bool) (b r l n : ℕ) → (may ≡ true → 0 < b) → IsSound b r read → GoesOn b r l (climb read may (suc r) l n)
unfolding climb
climb_sound read may b r l zero positive sound left toks x f v h k e =
    on_sound read may (λ p t. None) b r l 0 (omega arith) positive sound (λ _ _ _ _ _ _ _ e. absurd cc) left toks x f v h k (next_operator l left toks) refl e
climb_sound read may b r l (suc n) positive sound left toks x f v h k e =
    on_sound read may (climb read may (suc r) l n) b r l (suc r) (omega arith) positive sound (climb_sound read may b r l n positive sound) left toks x f v h k (next_operator l left toks) refl e

-- ---- a part of each kind

abbrev IsRead : (b r : ℕ) → Kind → List Lexeme → Found → Type 0
IsRead b r k toks x = IsPart k places.Outside b r toks x

alone : (b r : ℕ) (k : Kind) (toks : List Lexeme) (x : Found) → is_alone k ≡ true → name_at toks ≡ Some x → IsRead b r k toks x
unfolding is_alone is is_called flat nesting
alone b r kinds.Called toks x a e =
    let name = name_is toks x e in
    subst (λ (x : Found). IsRead b r kinds.Called toks x) name.3
    (record { fits = tt; kind = refl; high = omega arith; nested = omega arith; spelled = name.2 })
alone b r k toks x a e = absurd cc

number_kind : (k : Kind) (n : ℕ) → may_be_number k ≡ true → is k (Numeral n) ≡ true
unfolding may_be_number is level_in takes is_value is_numeral
number_kind (kinds.Phrase l) n e = le-leb _ _ (omega arith)
number_kind (kinds.Atom m) n e = refl
number_kind kinds.Value n e = refl
number_kind kinds.Number n e = refl
number_kind k n e = absurd cc

number_is : (toks : List Lexeme) (x : Found) → number_at toks ≡ Some x → (n : ℕ) × (rest : List Lexeme) × (toks ≡ Number n ∷ rest) × ((Numeral n, rest) ≡ x)
unfolding number_at
number_is (Number n ∷ rest) x e = (n, rest, refl, some_is (Numeral n, rest) x e)
number_is _ x e = absurd cc

number : (b r : ℕ) (k : Kind) (toks : List Lexeme) (x : Found) → numeral_at k toks ≡ Some x → IsRead b (suc r) k toks x
unfolding numeral_at flat nesting
number b r k toks x e =
    let test = guard_some (may_be_number k) (number_at toks) x e in
    let n = number_is toks x test.1 in
    subst (λ (x : Found). IsRead b (suc r) k toks x) n.3
    (record { fits = tt; kind = number_kind k n.0 test.0; high = omega arith; nested = omega arith; spelled = n.2 })

node_high : (f : Form) (toks : List Lexeme) (h s r : ℕ) → cond (is_heavy f) 1 0 + s ≤ r → h ≤ s → cond (is_heavy (turned f toks)) 1 0 + h ≤ r
node_high f toks h s r low le = subst (λ (heavy : Bool). cond heavy 1 0 + h ≤ r) (sym (heavy_turned f toks)) (omega (arith, low, le))

node_spelled : (f : Form) (ts : Syntaxes) → flat (Node f ts) ≡ spell ts (rule f)
unfolding flat
node_spelled f ts = refl

node_nested : (f : Form) (ts : Syntaxes) → nesting (Node f ts) ≡ nests ts (rule f)
unfolding nesting
node_nested f ts = refl

node_read : (b r s : ℕ) (k : Kind) (f : Form) (toks : List Lexeme) (x : Found) → form_at k toks ≡ some_of f → cond (is_heavy f) 1 0 + s ≤ r → Noded b s (fields_of k) f toks x → IsRead b r k toks x
node_read b r s k f toks x e low n =
    subst (λ (y : Found). IsRead b r k toks y) (ap (λ (t : Syntax). (t, x.1)) (sym n.is))
    (record {
      fits = (n.stands, n.fits);
      kind = kind_is k toks n.behind f n.parts e n.fits n.takes;
      high = node_high f n.behind (highest n.parts) s r low n.high;
      nested = subst (λ (m : ℕ). m ≤ b) (sym (node_nested (turned f n.behind) n.parts)) n.nested;
      spelled = n.spelled ∙ ap (λ (ts : List Lexeme). ts ++ x.1) (sym (node_spelled (turned f n.behind) n.parts));
    })

operand_sound : (heavy light : Reader) (may : Bool) (b r : ℕ) → (may ≡ true → 0 < b) → IsSound b r heavy → IsSound b (suc r) light → (k : Kind) (toks : List Lexeme) (x : Found) → operand heavy light may k toks ≡ Some x → IsRead b (suc r) k toks x
unfolding operand
operand_sound heavy light may b r positive hs ls k toks x e = at_alone (is_alone k) refl e
  where
    at_form : (f : Form) (h : Bool) → form_at k toks ≡ some_of f → is_heavy f ≡ h → node (pick heavy light h) may (fields_of k) f toks ≡ Some x → IsRead b (suc r) k toks x
    at_form f true i w e = node_read b (suc r) r k f toks x i (rw w (omega arith)) (node_sound heavy may b r positive hs (fields_of k) f toks x (form_plain k toks f i) e)
    at_form f false i w e = node_read b (suc r) (suc r) k f toks x i (rw w (omega arith)) (node_sound light may b (suc r) positive ls (fields_of k) f toks x (form_plain k toks f i) e)

    at_number : (o : Option Found) → numeral_at k toks ≡ o → operand_on heavy light may k toks o ≡ Some x → IsRead b (suc r) k toks x
    at_number (Some y) i e = subst (λ (x : Found). IsRead b (suc r) k toks x) (some_is y x e) (number b r k toks y i)
    at_number None i e =
        let found = bind_some (form_at k toks) (λ f. node (pick heavy light (is_heavy f)) may (fields_of k) f toks) x e in
        at_form found.0 (is_heavy found.0) found.1 refl found.2

    at_alone : (a : Bool) → is_alone k ≡ a → cond a (name_at toks) (operand_on heavy light may k toks (numeral_at k toks)) ≡ Some x → IsRead b (suc r) k toks x
    at_alone true a e = alone b (suc r) k toks x a e
    at_alone false a e = at_number (numeral_at k toks) refl e

go_on_sound : (heavy : Reader) (may : Bool) (b r : ℕ) → (may ≡ true → 0 < b) → IsSound b r heavy → (k : Kind) (toks : List Lexeme) (y x : Found) → IsRead b (suc r) k toks y → go_on heavy may (suc r) k y ≡ Some x → IsRead b (suc r) k toks x
unfolding go_on is
go_on_sound heavy may b r positive hs (kinds.Phrase l) toks y x g e =
    let p = climb_sound heavy may b r l (suc r) positive hs y.0 y.1 x g.fits (leb-true _ _ g.kind) g.high g.nested e in
    record { fits = p.fits; kind = le-leb _ _ p.loose; high = p.high; nested = p.nested; spelled = g.spelled ∙ p.spelled }
go_on_sound heavy may b r positive hs k toks y x g e = subst (λ (x : Found). IsRead b (suc r) k toks x) (some_is y x e) g

read_in_sound : (heavy light : Reader) (may : Bool) (b r : ℕ) → (may ≡ true → 0 < b) → IsSound b r heavy → IsSound b (suc r) light → (k : Kind) (toks : List Lexeme) (x : Found) → read_in heavy light may (suc r) k toks ≡ Some x → IsRead b (suc r) k toks x
unfolding read_in
read_in_sound heavy light may b r positive hs ls k toks x e =
    let found = bind_some (operand heavy light may k toks) (go_on heavy may (suc r) k) x e in
    go_on_sound heavy may b r positive hs k toks found.0 x (operand_sound heavy light may b r positive hs ls k toks found.0 found.1) found.2

-- ---- limits

-- what stands in brackets has one bracket less to open
abbrev SoundInside : ℕ → Type 0
SoundInside b = (r : ℕ) (k : Kind) (toks : List Lexeme) (x : Found) → inside b r k toks ≡ Some x → IsPart k places.Inside b r toks x

abbrev SoundReads : ℕ → ℕ → ℕ → Type 0
SoundReads b r t = (k : Kind) (toks : List Lexeme) (x : Found) → reads b r t k toks ≡ Some x → IsRead b r k toks x

sound_at : (b r t : ℕ) → SoundInside b → SoundReads b r t → IsSound b r (reader b r t)
sound_at b r t i o places.Outside k toks x e = o k toks x e
sound_at b r t i o places.Inside k toks x e = i r k toks x e

may_open_positive : (b : ℕ) → may_open b ≡ true → 0 < b
unfolding may_open
may_open_positive zero e = absurd cc
may_open_positive (suc b) e = omega arith

none_is : (o : Option Found) (x : Found) → o ≡ None → o ≡ Some x → ⊥
none_is o x p q = cc

sound_layers : (b r : ℕ) → SoundInside b → SoundReads b r 4 → (t : ℕ) → SoundReads b (suc r) t
sound_layers b r i lower zero k toks x e = absurd (none_is (reads b (suc r) 0 k toks) x (reads_no_layer b (suc r) 0 k toks refl) e)
sound_layers b r i lower (suc t) k toks x e =
    read_in_sound (reader b r 4) (reader b (suc r) t) (may_open b) b r (may_open_positive b)
    (sound_at b r 4 i lower) (sound_at b (suc r) t i (sound_layers b r i lower t)) k toks x (sym (reads_suc b r t k toks) ∙ e)

sound_rooms : (b : ℕ) → SoundInside b → (r t : ℕ) → SoundReads b r t
sound_rooms b i zero t k toks x e = absurd (none_is (reads b 0 t k toks) x (reads_no_room b 0 t k toks refl) e)
sound_rooms b i (suc r) t k toks x e = sound_layers b r i (sound_rooms b i r 4) t k toks x e

sound_inside : (b : ℕ) → SoundInside b
unfolding inside
sound_inside zero r k toks x e = absurd cc
sound_inside (suc b) r k toks x e =
    let g = sound_rooms b (sound_inside b) r 4 k toks x e in
    record { fits = g.fits; kind = g.kind; high = g.high; nested = omega (arith, g.nested); spelled = g.spelled }

-- what is read with so many brackets, so much room and so many layers fits, within these limits
pub reads_sound : (b r t : ℕ) → SoundReads b r t
reads_sound b r t = sound_rooms b (sound_inside b) r t

-- ---- scripts and phrases

ends : (k : Kind) (toks : List Lexeme) (x : Found) (t : Syntax) → ended x ≡ Some t → IsRead 250 250 k toks x → IsRead 250 250 k toks (t, [])
unfolding ended
ends k toks (u, []) t e g = subst (λ (t : Syntax). IsRead 250 250 k toks (t, [])) (some_is u t e) g
ends k toks (u, x ∷ rest) t e g = absurd cc

all_sound : (k : Kind) (toks : List Lexeme) (t : Syntax) → whole k toks ≡ Some t → IsRead 250 250 k toks (t, [])
unfolding whole
all_sound k toks t e =
    let found = bind_some (reads 250 250 4 k toks) ended t e in
    ends k toks found.0 t found.2 (reads_sound 250 250 4 k toks found.0 found.1)

-- tokens that are read are a script
pub whole_sound : (toks : List Lexeme) (t : Syntax) → whole kinds.Script toks ≡ Some t → IsScript toks t
unfolding is
whole_sound toks t e =
    let g = all_sound kinds.Script toks t e in
    record { kind = g.kind; fits = g.fits; high = g.high; nested = g.nested; spelled = g.spelled ∙ append-nil (flat t) }

-- or a phrase
pub phrase_sound : (toks : List Lexeme) (t : Syntax) → whole (kinds.Phrase 16) toks ≡ Some t → IsOnePhrase toks t
unfolding is
phrase_sound toks t e =
    let g = all_sound (kinds.Phrase 16) toks t e in
    record { kind = g.kind; fits = g.fits; high = g.high; nested = g.nested; spelled = g.spelled ∙ append-nil (flat t) }
