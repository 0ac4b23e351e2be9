-- What a text is: its parts, and the tokens among them.
use Rattle.std.specs.Prelude.{◌≡◌, ◌≢◌, ℕ, ◌+◌, ◌*◌, ◌-◌, ◌≤◌, List, [], ◌∷◌, ◌++◌, Bool, true, false, Option, Some, None, ◌&&◌, ◌||◌, ◌==◌, ◌⊎◌, not, length, codes}
use Rattle.std.specs.Char.{is_ascii_digit, is_ascii_alphabetic, is_ascii_alphanumeric}
use Rattle.std.specs.List.{AllByRecursion}
use Rattle.tokens.specs.declared.reserved.Reserved.{Reserved}
use Rattle.tokens.specs.declared.mark.Mark.{Mark}
use Rattle.tokens.specs.Lexeme.{Lexeme, Name, Number, Kept, Sign}
use Rattle.tokens.specs.Spelling.{symbol_text, keyword_text, mark_text, reserved_text}

-- ---- bytes

-- a letter, a digit or `_`
abbrev pub is_name_byte : ℕ → Bool
is_name_byte c = is_ascii_alphanumeric c || c == 95

abbrev pub is_prime : ℕ → Bool
is_prime c = c == 39

-- a space, a tab, a carriage return or a line feed
abbrev pub is_blank : ℕ → Bool
is_blank c = c == 32 || c == 9 || c == 13 || c == 10

-- any byte but a line feed
abbrev pub is_of_line : ℕ → Bool
is_of_line c = not (c == 10)

abbrev pub All : (ℕ → Bool) → List ℕ → Type 0
All p bytes = AllByRecursion (λ c. p c ≡ true) bytes

-- ---- tokens

-- a letter, then letters, digits and `_`, then primes
pub record IsName (word : List ℕ) : Type 0 where
  pub first : ℕ
  pub body : List ℕ
  pub primes : List ℕ
  pub spelled : word ≡ first ∷ body ++ primes
  pub letter : is_ascii_alphabetic first ≡ true
  pub bytes : All is_name_byte body
  pub ends : All is_prime primes

-- digits, one at least
pub record IsDigits (word : List ℕ) : Type 0 where
  pub first : ℕ
  pub others : List ℕ
  pub spelled : word ≡ first ∷ others
  pub digits : All is_ascii_digit word

-- the number that digits mean, after those that mean n
abbrev pub value_of : ℕ → List ℕ → ℕ
value_of n [] = n
value_of n (d ∷ ds) = value_of (10 * n + (d - 48)) ds

-- the bytes are a token, taken or refused
abbrev pub IsWord : List ℕ → Type 0
IsWord w = IsName w ⊎ (IsDigits w ⊎ ((m : Mark) × (w ≡ mark_text m)))

-- the bytes are this token
abbrev pub Spells : List ℕ → Lexeme → Type 0
Spells w (Name n) = (n ≡ w) × IsName w × ((r : Reserved) → w ≢ reserved_text r)
Spells w (Number n) = (value_of 0 w ≡ n) × IsDigits w × (n ≤ 1000000)
Spells w (Kept k) = w ≡ keyword_text k
Spells w (Sign s) = w ≡ symbol_text s

-- no token that begins there is longer
abbrev pub IsLongest : List ℕ → List ℕ → Type 0
IsLongest w rest = (v r : List ℕ) → IsWord v → v ++ r ≡ w ++ rest → length v ≤ length w

-- ---- comments

-- what stands in an open block comment, up to its end
pub data Comment : Type 0 where
  Closed : Comment
  Byte : ℕ → Comment → Comment
  Nested : Comment → Comment → Comment

abbrev pub comment_bytes : Comment → List ℕ
comment_bytes Closed = codes "-}"
comment_bytes (Byte c k) = c ∷ comment_bytes k
comment_bytes (Nested j k) = codes "{-" ++ comment_bytes j ++ comment_bytes k

-- two bytes that open or close a block comment stand first
abbrev pub marks_comment : List ℕ → Bool
marks_comment [] = false
marks_comment (c ∷ []) = false
marks_comment (c ∷ e ∷ rest) = (c == 123 && e == 45) || (c == 45 && e == 125)

abbrev pub IsComment : Comment → Type 0
IsComment Closed = Unit {0}
IsComment (Byte c k) = (marks_comment (c ∷ comment_bytes k) ≡ false) × IsComment k
IsComment (Nested j k) = IsComment j × IsComment k

-- `--` or `{-` stands first
abbrev pub opens_comment : List ℕ → Bool
opens_comment [] = false
opens_comment (c ∷ []) = false
opens_comment (c ∷ e ∷ rest) = (c == 45 && e == 45) || (c == 123 && e == 45)

-- ---- the text

-- what a text is made of: a blank byte, `--` or `assert` with the rest of its line, a block comment, or a token with its bytes
pub data Part : Type 0 where
  Blank : ℕ → Part
  Line : List ℕ → Part
  Assertion : List ℕ → Part
  Block : Comment → Part
  Token : Lexeme → List ℕ → Part

abbrev pub bytes_of : Part → List ℕ
bytes_of (Blank c) = c ∷ []
bytes_of (Line body) = codes "--" ++ body
bytes_of (Assertion body) = codes "assert" ++ body
bytes_of (Block k) = codes "{-" ++ comment_bytes k
bytes_of (Token x w) = w

abbrev pub EndsLine : List ℕ → Type 0
EndsLine [] = Unit {0}
EndsLine (c ∷ rest) = c ≡ 10

-- a part, before what comes after it
abbrev pub IsPart : Part → List ℕ → Type 0
IsPart (Blank c) rest = is_blank c ≡ true
IsPart (Line body) rest = All is_of_line body × EndsLine rest
IsPart (Assertion body) rest = IsLongest (codes "assert") (body ++ rest) × All is_of_line body × EndsLine rest
IsPart (Block k) rest = IsComment k
IsPart (Token x w) rest = Spells w x × IsLongest w rest × (opens_comment (w ++ rest) ≡ false)

abbrev pub AreParts : List ℕ → List Part → Type 0
AreParts bytes [] = bytes ≡ []
AreParts bytes (p ∷ ps) = (rest : List ℕ) × (bytes ≡ bytes_of p ++ rest) × IsPart p rest × AreParts rest ps

abbrev pub token_of : Part → Option Lexeme
token_of (Token x w) = Some x
token_of _ = None

abbrev pub behind : Option Lexeme → List Lexeme → List Lexeme
behind None ws = ws
behind (Some w) ws = w ∷ ws

-- the tokens among the parts
abbrev pub tokens_of : List Part → List Lexeme
tokens_of [] = []
tokens_of (p ∷ ps) = behind (token_of p) (tokens_of ps)

-- the bytes are parts with these tokens
pub record Holds (bytes : List ℕ) (ws : List Lexeme) : Type 0 where
  pub parts : List Part
  pub spelled : AreParts bytes parts
  pub are : tokens_of parts ≡ ws

-- a text that isn't too large, and its tokens
abbrev pub HasTokens : List ℕ → List Lexeme → Type 0
HasTokens text ws = (length text ≤ 65536) × Holds text ws
