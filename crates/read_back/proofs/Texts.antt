-- The texts of values, events, sets and processes have the tokens of their trees.
use Rattle.std.proofs.Common.{◌≡◌, ℕ, suc, ◌<◌, ◌≤◌, pos, negsuc, List, [], ◌∷◌, ◌++◌, map, drop, false, refl, sym, ap, ap₂, ◌∙◌, subst, arith, append_assoc, append-nil}
use Rattle.std.specs.Prelude.{◌==◌, decimal}
use Rattle.std.specs.List.{flat_map}
use Rattle.alphabet.specs.Channels.{FieldValue, number, constant, Values, Parts, value_text, dotted, event_text}
use Rattle.tokens.specs.declared.symbol.Symbol.TheVariants as symbols
use Rattle.tokens.specs.Lexeme.{Lexeme, Name, Number, Sign}
use Rattle.tokens.specs.Text.{Holds}
use Rattle.syntax.specs.declared.form.Form.TheVariants as forms
use Rattle.syntax.specs.Grammar.{flat, spell, spell_part, spell_signs}
use Rattle.syntax.specs.Rules.{rule}
use Rattle.printing.specs.Printed.{joined, operation}
use Rattle.read_back.proofs.Trees.{value_tree, dotted_trees, event_tree}
use Rattle.read_back.proofs.Scanned.{token_read, other_byte, letter_high, digit_low, Ends, IsProper, proper_read, number_read, first_digit, open_at, close_at, dot_at, minus_at}

-- ---- texts with their tokens

-- before what passes the test, the text has these tokens
abbrev pub Reads : (List ℕ → Type 0) → List ℕ → List Lexeme → Type 0
Reads Q text tokens = (rest : List ℕ) (ws : List Lexeme) → Q rest → Holds rest ws → Holds (text ++ rest) (tokens ++ ws)

abbrev pub Any : List ℕ → Type 0
Any rest = Unit {0}

pub same_read : {text other : List ℕ} {tokens more : List Lexeme} → text ≡ other → tokens ≡ more → Holds other more → Holds text tokens
same_read {text = text} {other = other} {tokens = tokens} {more = more} e f h = subst (λ t. Holds t tokens) (sym e) (subst (λ ws. Holds other ws) (sym f) h)

module _ (P Q : List ℕ → Type 0) (left right : List ℕ) (m n : List Lexeme) where
  pub both_read : Reads P left m → Reads Q right n → ((rest : List ℕ) → Q rest → P (right ++ rest)) → Reads Q (left ++ right) (m ++ n)
  both_read h k f rest ws q r = same_read (append_assoc left right rest) (append_assoc m n ws) (h (right ++ rest) (n ++ ws) (f rest q) (k rest ws q r))

-- the same before anything
pub any_read : (Q : List ℕ → Type 0) (text : List ℕ) (tokens : List Lexeme) → Reads Any text tokens → Reads Q text tokens
any_read Q text tokens h rest ws q r = h rest ws tt r

-- ---- values

-- a value that has a text of one form: a number within the limits, or a constant by its name
abbrev pub IsShown : FieldValue → Type 0
IsShown (number (pos n)) = n ≤ 1000000
IsShown (number (negsuc n)) = n < 1000000
IsShown (constant n) = IsProper n

abbrev pub AllShown : Values → Type 0
AllShown [] = Unit {0}
AllShown (v ∷ vs) = IsShown v × AllShown vs

minus_read : (n : ℕ) (rest : List ℕ) (ws : List Lexeme) → n ≤ 1000000 → Ends rest → Holds rest ws → Holds (45 ∷ (decimal n ++ rest)) (Sign symbols.Minus ∷ Number n ∷ ws)
minus_read n rest ws h e r =
    let d = first_digit n h in
    let low = digit_low d.0 d.3 in
    let z : decimal n ++ rest ≡ d.0 ∷ (d.1 ++ rest) = ap (λ t. t ++ rest) d.2 in
    same_read (ap (λ t. 45 ∷ t) z) refl
    (token_read (45 ∷ d.0 ∷ (d.1 ++ rest)) (d.0 ∷ (d.1 ++ rest)) (Sign symbols.Minus) (Number n ∷ ws)
    (minus_at (d.1 ++ rest) d.0 (other_byte d.0 45 (λ x. omega (arith, low.0, x))) (other_byte 62 d.0 (λ x. omega (arith, low.1, x))))
    (subst (λ t. Holds t (Number n ∷ ws)) z (number_read n rest ws h e r)))

pub value_read : (v : FieldValue) → IsShown v → Reads Ends (value_text v) (flat (value_tree v))
unfolding flat spell spell_part spell_signs rule
value_read (number (pos n)) h rest ws e r = number_read n rest ws h e r
value_read (number (negsuc n)) h rest ws e r = minus_read (suc n) rest ws (omega (arith, h)) e r
value_read (constant n) h rest ws e r = proper_read n rest ws h e r

-- the first byte of a value's text is no dot
begins_value : (v : FieldValue) → IsShown v → (c : ℕ) × (cs : List ℕ) × (value_text v ≡ c ∷ cs) × ((46 == c) ≡ false)
begins_value (number (pos n)) h =
    let d = first_digit n h in
    let low = digit_low d.0 d.3 in
    (d.0, d.1, d.2, other_byte 46 d.0 (λ x. omega (arith, low.0, x)))
begins_value (number (negsuc n)) h = (45, decimal (suc n), refl, refl)
begins_value (constant n) h =
    let high = letter_high h.0.first h.0.letter in
    (h.0.first, h.0.body ++ h.0.primes, h.0.spelled, other_byte 46 h.0.first (λ x. omega (arith, high.0, x)))

-- a value after a dot
dotted_read : (v : FieldValue) → IsShown v → Reads Ends (46 ∷ value_text v) (Sign symbols.Dot ∷ flat (value_tree v))
dotted_read v h rest ws e r =
    let b = begins_value v h in
    let z : value_text v ++ rest ≡ b.0 ∷ (b.1 ++ rest) = ap (λ t. t ++ rest) b.2 in
    same_read (ap (λ t. 46 ∷ t) z) refl
    (token_read (46 ∷ b.0 ∷ (b.1 ++ rest)) (b.0 ∷ (b.1 ++ rest)) (Sign symbols.Dot) (flat (value_tree v) ++ ws) (dot_at (b.1 ++ rest) b.0 b.3)
    (subst (λ t. Holds t (flat (value_tree v) ++ ws)) z (value_read v h rest ws e r)))

-- ---- events

-- the tokens of fields, one after the other
abbrev pub field_tokens : Values → List Lexeme
field_tokens [] = []
field_tokens (v ∷ vs) = (Sign symbols.Dot ∷ flat (value_tree v)) ++ field_tokens vs

ends_dot : (vs : Values) (rest : List ℕ) → Ends rest → Ends (dotted vs ++ rest)
ends_dot [] rest e = e
ends_dot (v ∷ vs) rest e = (refl, refl)

fields_read : (vs : Values) → AllShown vs → Reads Ends (dotted vs) (field_tokens vs)
fields_read [] h = λ rest ws e r. r
fields_read (v ∷ vs) h = both_read Ends Ends (46 ∷ value_text v) (dotted vs) (Sign symbols.Dot ∷ flat (value_tree v)) (field_tokens vs) (dotted_read v h.0) (fields_read vs h.1) (λ rest e. ends_dot vs rest e)

-- the parts of an event after its channel
fields_flat : (vs : Values) → spell (dotted_trees vs) (drop 1 (rule forms.Event)) ≡ field_tokens vs
unfolding flat spell spell_part spell_signs rule
fields_flat [] = refl
fields_flat (v ∷ vs) = ap₂ (λ x y. (Sign symbols.Dot ∷ x) ++ y) (append-nil (flat (value_tree v))) (fields_flat vs)

event_flat : (p : Parts) → flat (event_tree p) ≡ (Name p.channel ∷ []) ++ field_tokens p.values
unfolding flat spell spell_part rule
event_flat p = ap (λ ws. Name p.channel ∷ ws) (fields_flat p.values)

pub event_read : (p : Parts) → IsProper p.channel → AllShown p.values → Reads Ends (event_text p) (flat (event_tree p))
event_read p h k rest ws e r =
    same_read refl (ap (λ ts. ts ++ ws) (event_flat p))
    (both_read Ends Ends p.channel (dotted p.values) (Name p.channel ∷ []) (field_tokens p.values) (λ rest ws e r. proper_read p.channel rest ws h e r) (fields_read p.values k) (λ rest e. ends_dot p.values rest e) rest ws e r)

-- ---- lists

-- each is read, with this between
module _ (between : List ℕ) (sign : Lexeme) (parts_it : Reads Any between (sign ∷ [])) (ends_it : (rest : List ℕ) → Ends (between ++ rest)) {X : Type 0} (text : X → List ℕ) (tokens : X → List Lexeme) where
  abbrev pub EachRead : List X → Type 0
  EachRead [] = Unit {0}
  EachRead (x ∷ xs) = Reads Ends (text x) (tokens x) × EachRead xs

  abbrev pub behind_tokens : List X → List Lexeme
  behind_tokens [] = []
  behind_tokens (x ∷ xs) = (sign ∷ tokens x) ++ behind_tokens xs

  ends_behind : (xs : List X) (rest : List ℕ) → Ends rest → Ends (flat_map (λ u. between ++ u) (map text xs) ++ rest)
  ends_behind [] rest e = e
  ends_behind (x ∷ xs) rest e =
      subst Ends (sym (append_assoc (between ++ text x) (flat_map (λ u. between ++ u) (map text xs)) rest ∙ append_assoc between (text x) (flat_map (λ u. between ++ u) (map text xs) ++ rest)))
      (ends_it (text x ++ (flat_map (λ u. between ++ u) (map text xs) ++ rest)))

  behind_read : (xs : List X) → EachRead xs → Reads Ends (flat_map (λ u. between ++ u) (map text xs)) (behind_tokens xs)
  behind_read [] h = λ rest ws e r. r
  behind_read (x ∷ xs) h =
      both_read Ends Ends (between ++ text x) (flat_map (λ u. between ++ u) (map text xs)) (sign ∷ tokens x) (behind_tokens xs)
      (both_read Any Ends between (text x) (sign ∷ []) (tokens x) parts_it h.0 (λ rest e. tt))
      (behind_read xs h.1) (λ rest e. ends_behind xs rest e)

  pub joined_read : (x : X) (xs : List X) → EachRead (x ∷ xs) → Reads Ends (joined between (map text (x ∷ xs))) (tokens x ++ behind_tokens xs)
  joined_read x xs h = both_read Ends Ends (text x) (flat_map (λ u. between ++ u) (map text xs)) (tokens x) (behind_tokens xs) h.0 (behind_read xs h.1) (λ rest e. ends_behind xs rest e)

-- ---- an operator in brackets

module _ (left between right : List ℕ) (l m n inner : List Lexeme) where
  pub operation_read : Reads Ends left l → Reads Any between m → ((rest : List ℕ) → Ends (between ++ rest)) → Reads Ends right n → inner ≡ l ++ (m ++ n) → Reads Any (operation left between right) (Sign symbols.OpenParenthesis ∷ (inner ++ (Sign symbols.CloseParenthesis ∷ [])))
  operation_read h k ends g e rest ws u r =
      let close : Holds (41 ∷ rest) (Sign symbols.CloseParenthesis ∷ ws) = token_read (41 ∷ rest) rest (Sign symbols.CloseParenthesis) ws (close_at rest) r in
      let last = g (41 ∷ rest) (Sign symbols.CloseParenthesis ∷ ws) (refl, refl) close in
      let middle = k (right ++ (41 ∷ rest)) (n ++ (Sign symbols.CloseParenthesis ∷ ws)) tt last in
      let first = h (between ++ (right ++ (41 ∷ rest))) (m ++ (n ++ (Sign symbols.CloseParenthesis ∷ ws))) (ends (right ++ (41 ∷ rest))) middle in
      let text : (((left ++ between) ++ right) ++ (41 ∷ [])) ++ rest ≡ left ++ (between ++ (right ++ (41 ∷ rest))) =
      append_assoc ((left ++ between) ++ right) (41 ∷ []) rest ∙ append_assoc (left ++ between) right (41 ∷ rest) ∙ append_assoc left between (right ++ (41 ∷ rest)) in
      let tokens : (inner ++ (Sign symbols.CloseParenthesis ∷ [])) ++ ws ≡ l ++ (m ++ (n ++ (Sign symbols.CloseParenthesis ∷ ws))) =
      append_assoc inner (Sign symbols.CloseParenthesis ∷ []) ws ∙ ap (λ t. t ++ (Sign symbols.CloseParenthesis ∷ ws)) e ∙ append_assoc l (m ++ n) (Sign symbols.CloseParenthesis ∷ ws) ∙ ap (λ t. l ++ t) (append_assoc m n (Sign symbols.CloseParenthesis ∷ ws)) in
      same_read (ap (λ t. 40 ∷ t) text) (ap (λ t. Sign symbols.OpenParenthesis ∷ t) tokens)
      (token_read (40 ∷ (left ++ (between ++ (right ++ (41 ∷ rest))))) (left ++ (between ++ (right ++ (41 ∷ rest)))) (Sign symbols.OpenParenthesis) (l ++ (m ++ (n ++ (Sign symbols.CloseParenthesis ∷ ws)))) (open_at (left ++ (between ++ (right ++ (41 ∷ rest))))) first)
