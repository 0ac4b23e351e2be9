-- Reserved words: what is found is one, and each is a name by its bytes.
use Rattle.std.proofs.Common.{◌≡◌, ◌≢◌, ℕ, List, [], ◌∷◌, Bool, true, false, Option, Some, None, refl, sym, ap, ◌∙◌}
use Rattle.std.specs.Prelude.{◌&&◌}
use Rattle.std.specs.Char.{is_ascii_alphabetic}
use Rattle.std.specs.Cmp.Lexicographic.{same_text}
use Rattle.std.proofs.lemmas.List.{append-nil}
use Rattle.tokens.specs.declared.reserved.Reserved.{Reserved}
use Rattle.tokens.specs.declared.reserved.TheConstants.{RESERVED}
use Rattle.tokens.specs.Scanning.{reserved_of, is_reserved_as}
use Rattle.tokens.specs.Spelling.{reserved_text, keyword_text, refused_word_text}
use Rattle.tokens.specs.Text.{All, IsName, is_name_byte}
use Rattle.tokens.proofs.Known.{known_word}
use Rattle.tokens.proofs.Names.{letter_is_name_byte}
use Rattle.tokens.proofs.Tables.{found_in, found_passes, all_pass, both, pass_in}

-- what is found is how the bytes are written
pub reserved_is : (w : List ℕ) (r : Reserved) → reserved_of w ≡ Some r → w ≡ reserved_text r
reserved_is w r e = same_text w (reserved_text r) (sym (found_passes (is_reserved_as w) RESERVED r e))

pub not_reserved : (w : List ℕ) → reserved_of w ≡ None → (r : Reserved) → w ≢ reserved_text r
not_reserved w e r is = no (reserved_of w) e (ap reserved_of is ∙ known_word r)
  where
    no : (o : Option Reserved) → o ≡ None → o ≡ Some r → ⊥
    no o e f = cc

-- bytes that are no reserved word are found to be none
pub none_reserved : (w : List ℕ) → ((r : Reserved) → w ≢ reserved_text r) → reserved_of w ≡ None
none_reserved w h = at (reserved_of w) refl
  where
    at : (o : Option Reserved) → reserved_of w ≡ o → o ≡ None
    at None e = refl
    at (Some r) e = absurd (h r (reserved_is w r e))

-- ---- each is a name by its bytes

abbrev are_letters : List ℕ → Bool
are_letters [] = true
are_letters (c ∷ others) = is_ascii_alphabetic c && are_letters others

abbrev is_letters : List ℕ → Bool
is_letters [] = false
is_letters (c ∷ others) = is_ascii_alphabetic c && are_letters others

table_letters : all_pass (λ r. is_letters (reserved_text r)) RESERVED ≡ true
unfolding keyword_text refused_word_text
table_letters = refl

letters_name_bytes : (w : List ℕ) → are_letters w ≡ true → All is_name_byte w
letters_name_bytes [] e = tt
letters_name_bytes (c ∷ others) e =
    let tests = both (is_ascii_alphabetic c) (are_letters others) e in
    (letter_is_name_byte c tests.0, letters_name_bytes others tests.1)

letters_name : (w : List ℕ) → is_letters w ≡ true → IsName w
letters_name [] e = absurd cc
letters_name (c ∷ others) e =
    let tests = both (is_ascii_alphabetic c) (are_letters others) e in
    record { first = c; body = others; primes = []; spelled = ap (λ (t : List ℕ). c ∷ t) (sym (append-nil others)); letter = tests.0; bytes = letters_name_bytes others tests.1; ends = tt }

pub reserved_name : (r : Reserved) → IsName (reserved_text r)
reserved_name r = letters_name (reserved_text r) (pass_in (λ r. is_letters (reserved_text r)) RESERVED r table_letters (found_in (is_reserved_as (reserved_text r)) RESERVED r (known_word r)))
