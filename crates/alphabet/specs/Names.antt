-- Names of the language: a letter, then letters, digits and `_`, then any number of `'`; and no word that the language keeps.
use Rattle.std.specs.Prelude.{ℕ, Bool, true, false, not, ◌&&◌, ◌||◌, ◌==◌, nat_eq, nat_le, if◌then◌else◌, List, [], ◌∷◌, codes}
use Rattle.std.specs.List.{list_any, list_all}
use Rattle.std.specs.Cmp.Lexicographic.{pointwise}

abbrev pub is_letter : ℕ → Bool
is_letter c = (nat_le 65 c && nat_le c 90) || (nat_le 97 c && nat_le c 122)

abbrev pub is_digit : ℕ → Bool
is_digit c = nat_le 48 c && nat_le c 57

-- a letter, a digit or `_`
abbrev pub is_word_byte : ℕ → Bool
is_word_byte c = is_letter c || (is_digit c || (c == 95))

-- letters, digits and `_`, and then nothing but `'`
abbrev pub is_name_rest : List ℕ → Bool
is_name_rest [] = true
is_name_rest (c ∷ cs) = if is_word_byte c then is_name_rest cs else list_all (λ b. b == 39) (c ∷ cs)

-- the words that the language keeps
abbrev pub kept_words : List (List ℕ)
kept_words =
    codes "channel" ∷ codes "datatype" ∷ codes "assert" ∷ codes "STOP" ∷ codes "SKIP" ∷ codes "Events" ∷ codes "union" ∷ codes "inter" ∷ codes "diff"
    ∷ codes "if" ∷ codes "then" ∷ codes "else" ∷ codes "and" ∷ codes "or" ∷ codes "not" ∷ codes "true" ∷ codes "false" ∷ []

abbrev pub is_kept_word : List ℕ → Bool
is_kept_word word = list_any (λ kept. pointwise nat_eq word kept) kept_words

abbrev pub is_name : List ℕ → Bool
is_name [] = false
is_name (c ∷ cs) = (is_letter c && is_name_rest cs) && not (is_kept_word (c ∷ cs))

-- how reports write termination, which no name is
abbrev pub tick_name : List ℕ
tick_name = codes "_tick"
