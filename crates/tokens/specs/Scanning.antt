-- Reading from left to right.
use Rattle.std.specs.Prelude.{◌≡◌, ℕ, ◌+◌, ◌*◌, ◌-◌, List, [], ◌∷◌, Bool, Option, Some, None, Result, Ok, Err, nat_eq, nat_le, ◌&&◌, ◌==◌, if◌then◌else◌, length, take, drop, take_while, find}
use Rattle.std.specs.Char.{is_ascii_digit, is_ascii_alphabetic}
use Rattle.std.specs.Cmp.Lexicographic.{pointwise}
use Rattle.tokens.specs.declared.mark.Mark.{Mark}
use Rattle.tokens.specs.declared.mark.Mark.TheVariants as marks
use Rattle.tokens.specs.declared.mark.TheConstants.{MARKS}
use Rattle.tokens.specs.declared.reserved.Reserved.{Reserved}
use Rattle.tokens.specs.declared.reserved.Reserved.TheVariants as reserved
use Rattle.tokens.specs.declared.reserved.TheConstants.{RESERVED}
use Rattle.tokens.specs.declared.error.ScriptErrorKind.{ScriptErrorKind}
use Rattle.tokens.specs.Lexeme.{Lexeme, Name, Number, Kept, Sign}
use Rattle.tokens.specs.Spelling.{symbol_text, reserved_text, begins}
use Rattle.tokens.specs.Text.{is_name_byte, is_prime, is_blank, is_of_line}

infixl 10 ◌>>=◌
abbrev pub ◌>>=◌ : {A B : Type 0} → Option A → (A → Option B) → Option B
(Some x) >>= f = f x
None >>= f = None

-- what a function returned, seen by view, is what reading gives
abbrev pub Tells : {X Y : Type 0} → (X → Y) → Result X ScriptErrorKind → Option Y → Type 0
Tells view (Ok x) read = read ≡ Some (view x)
Tells view (Err e) read = read ≡ None

-- ---- numbers

-- a number of digits that is not too large
unfoldable pub value_from : ℕ → List ℕ → Option ℕ
value_from n [] = Some n
value_from n (d ∷ ds) = if nat_le (10 * n + (d - 48)) 1000000 then value_from (10 * n + (d - 48)) ds else None

-- ---- comments

-- one step through a comment: how many are open then, and what comes after
unfoldable pub comment_step : ℕ → List ℕ → Option (ℕ × List ℕ)
comment_step d [] = None
comment_step d (c ∷ []) = Some (d, [])
comment_step d (c ∷ e ∷ rest) =
    if c == 123 && e == 45 then Some (d + 1, rest)
    else (if c == 45 && e == 125 then Some (d - 1, rest) else Some (d, e ∷ rest))

-- what comes after so many open comments
unfoldable pub behind_comments : List ℕ → ℕ → Option (List ℕ)
behind_comments [] d = if d == 0 then Some [] else None
behind_comments (c ∷ []) d = if d == 0 then Some (c ∷ []) else None
behind_comments (c ∷ e ∷ rest) d =
    if d == 0 then Some (c ∷ e ∷ rest)
    else (if c == 123 && e == 45 then behind_comments rest (d + 1)
    else (if c == 45 && e == 125 then behind_comments rest (d - 1) else behind_comments (e ∷ rest) d))

-- ---- parts

-- how many bytes at the front pass
abbrev pub run : (ℕ → Bool) → List ℕ → ℕ
run p text = length (take_while p text)

abbrev pub name_len : List ℕ → ℕ
name_len text = run is_name_byte text + run is_prime (drop (run is_name_byte text) text)

abbrev pub is_reserved_as : List ℕ → Reserved → Bool
is_reserved_as w r = pointwise nat_eq w (reserved_text r)

-- the reserved word that the bytes are
abbrev pub reserved_of : List ℕ → Option Reserved
reserved_of w = find (is_reserved_as w) RESERVED

-- a token, or none for what is left out, and the text after it
abbrev pub Step : Type 0
Step = Option Lexeme × List ℕ

unfoldable pub named : Option Reserved → List ℕ → List ℕ → Option Step
named None name rest = Some (Some (Name name), rest)
named (Some (reserved.Kept k)) name rest = Some (Some (Kept k), rest)
named (Some (reserved.Refused r)) name rest = None
named (Some reserved.Assert) name rest = Some (None, drop (run is_of_line rest) rest)

unfoldable pub name_at : List ℕ → Option Step
name_at text = named (reserved_of (take (name_len text) text)) (take (name_len text) text) (drop (name_len text) text)

unfoldable pub number_at : List ℕ → Option Step
number_at text = do
  n ← value_from 0 (take (run is_ascii_digit text) text)
  Some (Some (Number n), drop (run is_ascii_digit text) text)

unfoldable pub signed : Option Mark → List ℕ → Option Step
signed None text = None
signed (Some (marks.Taken s)) text = Some (Some (Sign s), drop (length (symbol_text s)) text)
signed (Some (marks.Refused r)) text = None

unfoldable pub sign_at : List ℕ → Option Step
sign_at text = signed (find (begins text) MARKS) text

unfoldable pub word_at : ℕ → List ℕ → Option Step
word_at c text = if is_ascii_alphabetic c then name_at text else (if is_ascii_digit c then number_at text else sign_at text)

unfoldable pub comment_at : List ℕ → Option Step
comment_at rest = do
  after ← behind_comments rest 1
  Some (None, after)

unfoldable pub next_at : List ℕ → Option Step
next_at [] = None
next_at (c ∷ []) = if is_blank c then Some (None, []) else word_at c (c ∷ [])
next_at (c ∷ e ∷ rest) =
    if is_blank c then Some (None, e ∷ rest)
    else (if c == 45 && e == 45 then Some (None, drop (run is_of_line rest) rest)
    else (if c == 123 && e == 45 then comment_at rest else word_at c (c ∷ e ∷ rest)))
