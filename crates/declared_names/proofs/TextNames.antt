-- The names in the tree of a text are names of the language.
use Rattle.std.proofs.Common.{◌≡◌, ◌≢◌, ℕ, List, [], ◌∷◌, ◌++◌, map, Bool, true, false, not, ◌&&◌, ◌||◌, cond, drop, nat_eq, nat_le, Option, Some, None, refl, sym, ap, subst, ◌∙◌}
use Rattle.std.specs.Prelude.{◌==◌}
use Rattle.std.specs.List.{list_all, list_any}
use Rattle.std.specs.Cmp.Lexicographic.{pointwise, bytes_decides}
use Rattle.alphabet.specs.Names.{is_letter, is_digit, is_word_byte, is_name_rest, kept_words, is_kept_word, is_name}
use Rattle.tokens.specs.Lexeme.{Lexeme, Name, Number, Kept, Sign}
use Rattle.tokens.specs.Scanning.{reserved_of}
use Rattle.tokens.specs.Spelling.{reserved_text, keyword_text, refused_word_text}
use Rattle.tokens.specs.Text.{is_name_byte, is_prime, All, IsName, Spells, Part, Blank, Line, Assertion, Block, Token, AreParts, tokens_of, HasTokens}
use Rattle.syntax.specs.declared.form.Form.{Form}
use Rattle.syntax.specs.Rules.{rule}
use Rattle.syntax.specs.declared.form.Form.TheVariants as forms
use Rattle.syntax.specs.declared.operator.Operator.{Operator}
use Rattle.syntax.specs.declared.operator.Operator.TheVariants as operators
use Rattle.syntax.specs.Operators.{opening, behind}
use Rattle.syntax.specs.Grammar.{Syntax, Called, Numeral, Node, Syntaxes, NoSyntax, MoreSyntax, spell_part, flat, spell, Fits, FitAll}
use Rattle.syntax.specs.Script.{HasTree}
use Rattle.declared_names.specs.LanguageNames.{has_names, have_names}
use Rattle.declared_names.proofs.Chains.{left, right, both}

-- ---- names of tokens

word_byte : (c : ℕ) → is_name_byte c ≡ true → is_word_byte c ≡ true
word_byte c h = by (is_digit c) (is_letter c) (c == 95) (split h)
  where
    by : (d l x : Bool) → ((d || l) || x) ≡ true → (l || (d || x)) ≡ true
    by true true x h = refl
    by true false x h = refl
    by false true x h = refl
    by false false x h = h

    regroup : (d u l x : Bool) → (((d || u) || l) || x) ≡ true → ((d || (u || l)) || x) ≡ true
    regroup true u l x h = refl
    regroup false u l x h = h

    split : is_name_byte c ≡ true → ((is_digit c || is_letter c) || c == 95) ≡ true
    split h = regroup (is_digit c) (nat_le 65 c && nat_le c 90) (nat_le 97 c && nat_le c 122) (c == 95) h

all_primes : (ps : List ℕ) → All is_prime ps → list_all (λ b. b == 39) ps ≡ true
all_primes [] h = refl
all_primes (c ∷ ps) h = both (c == 39) (list_all (λ b. b == 39) ps) h.0 (all_primes ps h.1)

name_end : (ps : List ℕ) → All is_prime ps → is_name_rest ps ≡ true
name_end [] h = refl
name_end (c ∷ ps) h = by (is_word_byte c) (name_end ps h.1)
  where
    by : (b : Bool) → is_name_rest ps ≡ true → cond b (is_name_rest ps) (list_all (λ b. b == 39) (c ∷ ps)) ≡ true
    by true ih = ih
    by false ih = all_primes (c ∷ ps) h

name_rest : (body ps : List ℕ) → All is_name_byte body → All is_prime ps → is_name_rest (body ++ ps) ≡ true
name_rest [] ps h k = name_end ps k
name_rest (c ∷ body) ps h k = ap (λ b. cond b (is_name_rest (body ++ ps)) (list_all (λ b. b == 39) (c ∷ (body ++ ps)))) (word_byte c h.0) ∙ name_rest body ps h.1 k

-- each of these is there, and has the text beside it
abbrev Have : {R : Type 0} → (R → List ℕ) → List (Option R) → List (List ℕ) → Type 0
Have text [] [] = Unit {0}
Have text [] (k ∷ ks) = ⊥
Have text (o ∷ os) [] = ⊥
Have text (None ∷ os) (k ∷ ks) = ⊥
Have text (Some r ∷ os) (k ∷ ks) = (text r ≡ k) × Have text os ks

not_any : {R : Type 0} (text : R → List ℕ) (w : List ℕ) → ((r : R) → w ≢ text r) → (os : List (Option R)) (ks : List (List ℕ)) → Have text os ks → list_any (λ kept. pointwise nat_eq w kept) ks ≡ false
not_any text w h [] [] f = refl
not_any text w h [] (k ∷ ks) f = absurd f
not_any text w h (o ∷ os) [] f = absurd f
not_any text w h (None ∷ os) (k ∷ ks) f = absurd f
not_any text w h (Some r ∷ os) (k ∷ ks) f = by (pointwise nat_eq w k) refl (not_any text w h os ks f.1)
  where
    by : (b : Bool) → pointwise nat_eq w k ≡ b → list_any (λ kept. pointwise nat_eq w kept) ks ≡ false → (b || list_any (λ kept. pointwise nat_eq w kept) ks) ≡ false
    by true e ih = absurd (h r ((bytes_decides w k).0 e ∙ sym f.0))
    by false e ih = ih

spelled_name : {R : Type 0} (text : R → List ℕ) (os : List (Option R)) → Have text os kept_words → (w : List ℕ) → IsName w → ((r : R) → w ≢ text r) → is_name w ≡ true
spelled_name text os f w h k =
    ap is_name h.spelled
    ∙ both (is_letter h.first && is_name_rest (h.body ++ h.primes)) (not (is_kept_word (h.first ∷ (h.body ++ h.primes))))
    (both (is_letter h.first) (is_name_rest (h.body ++ h.primes)) h.letter (name_rest h.body h.primes h.bytes h.ends))
    (ap not (not_any text (h.first ∷ (h.body ++ h.primes)) (λ r e. k r (h.spelled ∙ e)) os kept_words f))

-- ---- tokens

abbrev lexeme_named : Lexeme → Bool
lexeme_named (Name n) = is_name n
lexeme_named (Number n) = true
lexeme_named (Kept k) = true
lexeme_named (Sign s) = true

abbrev all_named : List Lexeme → Bool
all_named ws = list_all lexeme_named ws

token_named : (w : List ℕ) (x : Lexeme) → Spells w x → lexeme_named x ≡ true
unfolding keyword_text refused_word_text
token_named w (Name n) h =
    let kept : Have reserved_text (map reserved_of kept_words) kept_words = (refl, (refl, (refl, (refl, (refl, (refl, (refl, (refl, (refl, (refl, (refl, (refl, (refl, (refl, (refl, (refl, (refl, tt))))))))))))))))) in
    ap is_name h.0 ∙ spelled_name reserved_text (map reserved_of kept_words) kept w h.1 h.2
token_named w (Number n) h = refl
token_named w (Kept k) h = refl
token_named w (Sign s) h = refl

parts_named : (bytes : List ℕ) (ps : List Part) → AreParts bytes ps → all_named (tokens_of ps) ≡ true
parts_named bytes [] h = refl
parts_named bytes (Blank c ∷ ps) h = parts_named h.0 ps h.3
parts_named bytes (Line body ∷ ps) h = parts_named h.0 ps h.3
parts_named bytes (Assertion body ∷ ps) h = parts_named h.0 ps h.3
parts_named bytes (Block k ∷ ps) h = parts_named h.0 ps h.3
parts_named bytes (Token x w ∷ ps) h = both (lexeme_named x) (all_named (tokens_of ps)) (token_named w x h.2.0) (parts_named h.0 ps h.3)

pub tokens_named : (text : List ℕ) (ws : List Lexeme) → HasTokens text ws → all_named ws ≡ true
tokens_named text ws h = subst (λ xs. all_named xs ≡ true) h.1.are (parts_named text h.1.parts h.1.spelled)

-- ---- trees

all_split : (xs ys : List Lexeme) → all_named (xs ++ ys) ≡ true → (all_named xs ≡ true) × (all_named ys ≡ true)
all_split [] ys h = (refl, h)
all_split (x ∷ xs) ys h =
    let k = all_split xs ys (right (lexeme_named x) (all_named (xs ++ ys)) h) in
    (both (lexeme_named x) (all_named xs) (left (lexeme_named x) (all_named (xs ++ ys)) h) k.0, k.1)

-- what holds of each of the trees
abbrev AllOf : Syntaxes → Type 0
AllOf NoSyntax = Unit {0}
AllOf (MoreSyntax t ts) = (Fits t → all_named (flat t) ≡ true → has_names t ≡ true) × AllOf ts

-- the parts after the first pieces of a form's rule, so many, have names
abbrev NamedFrom : ℕ → Form → Type 0
NamedFrom k f = (ts : Syntaxes) → AllOf ts → FitAll ts (drop k (rule f)) → all_named (spell ts (drop k (rule f))) ≡ true → have_names ts ≡ true

-- a part, and after it the pieces from m on
abbrev PartThen : ℕ → ℕ → Form → Type 0
PartThen k m f =
    ((t : Syntax) (us : Syntaxes) → FitAll (MoreSyntax t us) (drop k (rule f)) → Fits t × FitAll us (drop m (rule f)))
    × ((t : Syntax) (us : Syntaxes) → all_named (spell (MoreSyntax t us) (drop k (rule f))) ≡ true → (all_named (flat t) ≡ true) × (all_named (spell us (drop m (rule f))) ≡ true))

next : (k m : ℕ) (f : Form) → PartThen k m f → NamedFrom m f → NamedFrom k f
unfolding has_names
next k m f p rest NoSyntax a fit h = refl
next k m f p rest (MoreSyntax t us) a fit h =
    let x = p.0 t us fit in
    let y = p.1 t us h in
    both (has_names t) (have_names us) (a.0 x.0 y.0) (rest us a.1 x.1 y.1)

-- any number of parts
many : (k : ℕ) (f : Form) → PartThen k k f → NamedFrom k f
unfolding has_names
many k f p NoSyntax a fit h = refl
many k f p (MoreSyntax t us) a fit h =
    let x = p.0 t us fit in
    let y = p.1 t us h in
    both (has_names t) (have_names us) (a.0 x.0 y.0) (many k f p us a.1 x.1 y.1)

-- no part
ends : (k : ℕ) (f : Form) → ((t : Syntax) (us : Syntaxes) → FitAll (MoreSyntax t us) (drop k (rule f)) → ⊥) → NamedFrom k f
unfolding has_names
ends k f n NoSyntax a fit h = refl
ends k f n (MoreSyntax t us) a fit h = absurd (n t us fit)

-- what comes after the first part of an operator
behind_first : (op : Operator) → NamedFrom 1 (forms.Operation op)
unfolding rule opening behind spell spell_part
behind_first operators.Renaming = next 1 3 (forms.Operation operators.Renaming) (λ t us h. (h.0, h.1.1), λ t us h. all_split (flat t) _ h) (many 3 (forms.Operation operators.Renaming) (λ t us h. (h.0, h.1.1), λ t us h. all_split (flat t) _ h))
behind_first operators.Times = next 1 3 (forms.Operation operators.Times) (λ t us h. (h.0, h.1.1), λ t us h. all_split (flat t) _ h) (ends 3 (forms.Operation operators.Times) (λ t us h. h.1))
behind_first operators.Remainder = next 1 3 (forms.Operation operators.Remainder) (λ t us h. (h.0, h.1.1), λ t us h. all_split (flat t) _ h) (ends 3 (forms.Operation operators.Remainder) (λ t us h. h.1))
behind_first operators.Plus = next 1 3 (forms.Operation operators.Plus) (λ t us h. (h.0, h.1.1), λ t us h. all_split (flat t) _ h) (ends 3 (forms.Operation operators.Plus) (λ t us h. h.1))
behind_first operators.Minus = next 1 3 (forms.Operation operators.Minus) (λ t us h. (h.0, h.1.1), λ t us h. all_split (flat t) _ h) (ends 3 (forms.Operation operators.Minus) (λ t us h. h.1))
behind_first operators.Equal = next 1 3 (forms.Operation operators.Equal) (λ t us h. (h.0, h.1.1), λ t us h. all_split (flat t) _ h) (ends 3 (forms.Operation operators.Equal) (λ t us h. h.1))
behind_first operators.NotEqual = next 1 3 (forms.Operation operators.NotEqual) (λ t us h. (h.0, h.1.1), λ t us h. all_split (flat t) _ h) (ends 3 (forms.Operation operators.NotEqual) (λ t us h. h.1))
behind_first operators.Less = next 1 3 (forms.Operation operators.Less) (λ t us h. (h.0, h.1.1), λ t us h. all_split (flat t) _ h) (ends 3 (forms.Operation operators.Less) (λ t us h. h.1))
behind_first operators.LessOrEqual = next 1 3 (forms.Operation operators.LessOrEqual) (λ t us h. (h.0, h.1.1), λ t us h. all_split (flat t) _ h) (ends 3 (forms.Operation operators.LessOrEqual) (λ t us h. h.1))
behind_first operators.Greater = next 1 3 (forms.Operation operators.Greater) (λ t us h. (h.0, h.1.1), λ t us h. all_split (flat t) _ h) (ends 3 (forms.Operation operators.Greater) (λ t us h. h.1))
behind_first operators.GreaterOrEqual = next 1 3 (forms.Operation operators.GreaterOrEqual) (λ t us h. (h.0, h.1.1), λ t us h. all_split (flat t) _ h) (ends 3 (forms.Operation operators.GreaterOrEqual) (λ t us h. h.1))
behind_first operators.And = next 1 3 (forms.Operation operators.And) (λ t us h. (h.0, h.1.1), λ t us h. all_split (flat t) _ h) (ends 3 (forms.Operation operators.And) (λ t us h. h.1))
behind_first operators.Or = next 1 3 (forms.Operation operators.Or) (λ t us h. (h.0, h.1.1), λ t us h. all_split (flat t) _ h) (ends 3 (forms.Operation operators.Or) (λ t us h. h.1))
behind_first operators.Prefix = next 1 3 (forms.Operation operators.Prefix) (λ t us h. (h.0, h.1.1), λ t us h. all_split (flat t) _ h) (ends 3 (forms.Operation operators.Prefix) (λ t us h. h.1))
behind_first operators.Guard = next 1 3 (forms.Operation operators.Guard) (λ t us h. (h.0, h.1.1), λ t us h. all_split (flat t) _ h) (ends 3 (forms.Operation operators.Guard) (λ t us h. h.1))
behind_first operators.Sequence = next 1 3 (forms.Operation operators.Sequence) (λ t us h. (h.0, h.1.1), λ t us h. all_split (flat t) _ h) (ends 3 (forms.Operation operators.Sequence) (λ t us h. h.1))
behind_first operators.Interrupt = next 1 3 (forms.Operation operators.Interrupt) (λ t us h. (h.0, h.1.1), λ t us h. all_split (flat t) _ h) (ends 3 (forms.Operation operators.Interrupt) (λ t us h. h.1))
behind_first operators.ExternalChoice = next 1 3 (forms.Operation operators.ExternalChoice) (λ t us h. (h.0, h.1.1), λ t us h. all_split (flat t) _ h) (ends 3 (forms.Operation operators.ExternalChoice) (λ t us h. h.1))
behind_first operators.InternalChoice = next 1 3 (forms.Operation operators.InternalChoice) (λ t us h. (h.0, h.1.1), λ t us h. all_split (flat t) _ h) (ends 3 (forms.Operation operators.InternalChoice) (λ t us h. h.1))
behind_first operators.Sharing = next 1 3 (forms.Operation operators.Sharing) (λ t us h. (h.0, h.1.1), λ t us h. all_split (flat t) _ h) (next 3 5 (forms.Operation operators.Sharing) (λ t us h. (h.0, h.1.1), λ t us h. all_split (flat t) _ h) (ends 5 (forms.Operation operators.Sharing) (λ t us h. h.1)))
behind_first operators.Alphabetised = next 1 3 (forms.Operation operators.Alphabetised) (λ t us h. (h.0, h.1.1), λ t us h. all_split (flat t) _ h) (next 3 5 (forms.Operation operators.Alphabetised) (λ t us h. (h.0, h.1.1), λ t us h. all_split (flat t) _ h) (next 5 7 (forms.Operation operators.Alphabetised) (λ t us h. (h.0, h.1.1), λ t us h. all_split (flat t) _ h) (ends 7 (forms.Operation operators.Alphabetised) (λ t us h. h.1))))
behind_first operators.Interleaving = next 1 3 (forms.Operation operators.Interleaving) (λ t us h. (h.0, h.1.1), λ t us h. all_split (flat t) _ h) (ends 3 (forms.Operation operators.Interleaving) (λ t us h. h.1))
behind_first operators.Hiding = next 1 3 (forms.Operation operators.Hiding) (λ t us h. (h.0, h.1.1), λ t us h. all_split (flat t) _ h) (ends 3 (forms.Operation operators.Hiding) (λ t us h. h.1))

form_named : (f : Form) → NamedFrom 0 f
unfolding rule spell spell_part
form_named forms.Stop = ends 0 forms.Stop (λ t us h. h.1)
form_named forms.Skip = ends 0 forms.Skip (λ t us h. h.1)
form_named forms.Events = ends 0 forms.Events (λ t us h. h.1)
form_named forms.True = ends 0 forms.True (λ t us h. h.1)
form_named forms.False = ends 0 forms.False (λ t us h. h.1)
form_named forms.EmptySet = ends 0 forms.EmptySet (λ t us h. h.1)
form_named forms.NoProductions = ends 0 forms.NoProductions (λ t us h. h.1)
form_named forms.Event = next 0 1 forms.Event (λ t us h. (h.0, h.1.1), λ t us h. all_split (flat t) _ h) (many 1 forms.Event (λ t us h. (h.0, h.1.1), λ t us h. all_split (flat t) _ h))
form_named forms.Call = next 0 1 forms.Call (λ t us h. (h.0, h.1.1), λ t us h. all_split (flat t) _ h) (next 1 3 forms.Call (λ t us h. (h.0, h.1.1), λ t us h. all_split (flat t) _ h) (many 3 forms.Call (λ t us h. (h.0, h.1.1), λ t us h. all_split (flat t) _ h)))
form_named forms.Brackets = next 0 2 forms.Brackets (λ t us h. (h.0, h.1.1), λ t us h. all_split (flat t) _ h) (ends 2 forms.Brackets (λ t us h. h.1))
form_named forms.Set = next 0 2 forms.Set (λ t us h. (h.0, h.1.1), λ t us h. all_split (flat t) _ h) (many 2 forms.Set (λ t us h. (h.0, h.1.1), λ t us h. all_split (flat t) _ h))
form_named forms.Range = next 0 2 forms.Range (λ t us h. (h.0, h.1.1), λ t us h. all_split (flat t) _ h) (next 2 4 forms.Range (λ t us h. (h.0, h.1.1), λ t us h. all_split (flat t) _ h) (ends 4 forms.Range (λ t us h. h.1)))
form_named forms.Productions = next 0 2 forms.Productions (λ t us h. (h.0, h.1.1), λ t us h. all_split (flat t) _ h) (many 2 forms.Productions (λ t us h. (h.0, h.1.1), λ t us h. all_split (flat t) _ h))
form_named forms.Union = next 0 3 forms.Union (λ t us h. (h.0, h.1.1), λ t us h. all_split (flat t) _ h) (next 3 5 forms.Union (λ t us h. (h.0, h.1.1), λ t us h. all_split (flat t) _ h) (ends 5 forms.Union (λ t us h. h.1)))
form_named forms.Intersection = next 0 3 forms.Intersection (λ t us h. (h.0, h.1.1), λ t us h. all_split (flat t) _ h) (next 3 5 forms.Intersection (λ t us h. (h.0, h.1.1), λ t us h. all_split (flat t) _ h) (ends 5 forms.Intersection (λ t us h. h.1)))
form_named forms.Difference = next 0 3 forms.Difference (λ t us h. (h.0, h.1.1), λ t us h. all_split (flat t) _ h) (next 3 5 forms.Difference (λ t us h. (h.0, h.1.1), λ t us h. all_split (flat t) _ h) (ends 5 forms.Difference (λ t us h. h.1)))
form_named forms.If = next 0 2 forms.If (λ t us h. (h.0, h.1.1), λ t us h. all_split (flat t) _ h) (next 2 4 forms.If (λ t us h. (h.0, h.1.1), λ t us h. all_split (flat t) _ h) (next 4 6 forms.If (λ t us h. (h.0, h.1.1), λ t us h. all_split (flat t) _ h) (ends 6 forms.If (λ t us h. h.1))))
form_named forms.ReplicatedExternal = next 0 2 forms.ReplicatedExternal (λ t us h. (h.0, h.1.1), λ t us h. all_split (flat t) _ h) (next 2 4 forms.ReplicatedExternal (λ t us h. (h.0, h.1.1), λ t us h. all_split (flat t) _ h) (ends 4 forms.ReplicatedExternal (λ t us h. h.1)))
form_named forms.ReplicatedInternal = next 0 2 forms.ReplicatedInternal (λ t us h. (h.0, h.1.1), λ t us h. all_split (flat t) _ h) (next 2 4 forms.ReplicatedInternal (λ t us h. (h.0, h.1.1), λ t us h. all_split (flat t) _ h) (ends 4 forms.ReplicatedInternal (λ t us h. h.1)))
form_named forms.ReplicatedInterleaving = next 0 2 forms.ReplicatedInterleaving (λ t us h. (h.0, h.1.1), λ t us h. all_split (flat t) _ h) (next 2 4 forms.ReplicatedInterleaving (λ t us h. (h.0, h.1.1), λ t us h. all_split (flat t) _ h) (ends 4 forms.ReplicatedInterleaving (λ t us h. h.1)))
form_named forms.Negation = next 0 2 forms.Negation (λ t us h. (h.0, h.1.1), λ t us h. all_split (flat t) _ h) (ends 2 forms.Negation (λ t us h. h.1))
form_named forms.Not = next 0 2 forms.Not (λ t us h. (h.0, h.1.1), λ t us h. all_split (flat t) _ h) (ends 2 forms.Not (λ t us h. h.1))
form_named forms.NegativeNumber = next 0 2 forms.NegativeNumber (λ t us h. (h.0, h.1.1), λ t us h. all_split (flat t) _ h) (ends 2 forms.NegativeNumber (λ t us h. h.1))
form_named forms.Dotted = next 0 2 forms.Dotted (λ t us h. (h.0, h.1.1), λ t us h. all_split (flat t) _ h) (ends 2 forms.Dotted (λ t us h. h.1))
form_named forms.Output = next 0 2 forms.Output (λ t us h. (h.0, h.1.1), λ t us h. all_split (flat t) _ h) (ends 2 forms.Output (λ t us h. h.1))
form_named forms.Input = next 0 2 forms.Input (λ t us h. (h.0, h.1.1), λ t us h. all_split (flat t) _ h) (ends 2 forms.Input (λ t us h. h.1))
form_named forms.Channels = next 0 2 forms.Channels (λ t us h. (h.0, h.1.1), λ t us h. all_split (flat t) _ h) (ends 2 forms.Channels (λ t us h. h.1))
form_named forms.Generators = next 0 1 forms.Generators (λ t us h. (h.0, h.1.1), λ t us h. all_split (flat t) _ h) (many 1 forms.Generators (λ t us h. (h.0, h.1.1), λ t us h. all_split (flat t) _ h))
form_named forms.Generator = next 0 1 forms.Generator (λ t us h. (h.0, h.1.1), λ t us h. all_split (flat t) _ h) (next 1 3 forms.Generator (λ t us h. (h.0, h.1.1), λ t us h. all_split (flat t) _ h) (ends 3 forms.Generator (λ t us h. h.1)))
form_named forms.Pair = next 0 1 forms.Pair (λ t us h. (h.0, h.1.1), λ t us h. all_split (flat t) _ h) (next 1 3 forms.Pair (λ t us h. (h.0, h.1.1), λ t us h. all_split (flat t) _ h) (ends 3 forms.Pair (λ t us h. h.1)))
form_named forms.RestrictedInput = next 0 2 forms.RestrictedInput (λ t us h. (h.0, h.1.1), λ t us h. all_split (flat t) _ h) (next 2 4 forms.RestrictedInput (λ t us h. (h.0, h.1.1), λ t us h. all_split (flat t) _ h) (ends 4 forms.RestrictedInput (λ t us h. h.1)))
form_named forms.Names = next 0 1 forms.Names (λ t us h. (h.0, h.1.1), λ t us h. all_split (flat t) _ h) (many 1 forms.Names (λ t us h. (h.0, h.1.1), λ t us h. all_split (flat t) _ h))
form_named forms.Constants = next 0 1 forms.Constants (λ t us h. (h.0, h.1.1), λ t us h. all_split (flat t) _ h) (many 1 forms.Constants (λ t us h. (h.0, h.1.1), λ t us h. all_split (flat t) _ h))
form_named forms.FieldSets = next 0 1 forms.FieldSets (λ t us h. (h.0, h.1.1), λ t us h. all_split (flat t) _ h) (many 1 forms.FieldSets (λ t us h. (h.0, h.1.1), λ t us h. all_split (flat t) _ h))
form_named forms.ChannelsWithFields = next 0 2 forms.ChannelsWithFields (λ t us h. (h.0, h.1.1), λ t us h. all_split (flat t) _ h) (next 2 4 forms.ChannelsWithFields (λ t us h. (h.0, h.1.1), λ t us h. all_split (flat t) _ h) (ends 4 forms.ChannelsWithFields (λ t us h. h.1)))
form_named forms.Datatype = next 0 2 forms.Datatype (λ t us h. (h.0, h.1.1), λ t us h. all_split (flat t) _ h) (next 2 4 forms.Datatype (λ t us h. (h.0, h.1.1), λ t us h. all_split (flat t) _ h) (ends 4 forms.Datatype (λ t us h. h.1)))
form_named forms.Definition = next 0 1 forms.Definition (λ t us h. (h.0, h.1.1), λ t us h. all_split (flat t) _ h) (next 1 3 forms.Definition (λ t us h. (h.0, h.1.1), λ t us h. all_split (flat t) _ h) (ends 3 forms.Definition (λ t us h. h.1)))
form_named forms.DefinitionWithParameters = next 0 1 forms.DefinitionWithParameters (λ t us h. (h.0, h.1.1), λ t us h. all_split (flat t) _ h) (next 1 3 forms.DefinitionWithParameters (λ t us h. (h.0, h.1.1), λ t us h. all_split (flat t) _ h) (next 3 6 forms.DefinitionWithParameters (λ t us h. (h.0, h.1.1), λ t us h. all_split (flat t) _ h) (ends 6 forms.DefinitionWithParameters (λ t us h. h.1))))
form_named forms.Script = many 0 forms.Script (λ t us h. (h.0, h.1.1), λ t us h. all_split (flat t) _ h)
form_named (forms.Operation op) = next 0 1 (forms.Operation op) (λ t us h. (h.0, h.1.1), λ t us h. all_split (flat t) _ h) (behind_first op)

mutual
  unfolding flat has_names

  tree_named : (t : Syntax) → Fits t → all_named (flat t) ≡ true → has_names t ≡ true
  tree_named (Called n) f h = left (is_name n) true h
  tree_named (Numeral n) f h = refl
  tree_named (Node form ts) f h = form_named form ts (all_of ts) f.1 h

  all_of : (ts : Syntaxes) → AllOf ts
  all_of NoSyntax = tt
  all_of (MoreSyntax t ts) = (tree_named t, all_of ts)

pub texts_have_names : (text : List ℕ) (t : Syntax) → HasTree text t → has_names t ≡ true
texts_have_names text t h = tree_named t h.is.fits (ap all_named (sym h.is.spelled) ∙ tokens_named text h.tokens h.read)
