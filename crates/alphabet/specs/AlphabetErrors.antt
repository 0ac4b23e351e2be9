-- The numbers and words of the faults of an alphabet.
use Rattle.std.specs.Prelude.{ℕ, List, ◌++◌, codes, decimal}
use Rattle.alphabet.specs.declared.alphabet_error.AlphabetError.{AlphabetError}
use Rattle.alphabet.specs.declared.alphabet_error.AlphabetError.TheVariants.{Redeclared, TooManyEvents, Memory}

abbrev pub code_of : AlphabetError → ℕ
code_of Redeclared = 5
code_of TooManyEvents = 8
code_of Memory = 40

abbrev pub word_of : AlphabetError → List ℕ
word_of Redeclared = codes "redeclared"
word_of TooManyEvents = codes "events"
word_of Memory = codes "memory"

-- as messages show it
abbrev pub error_text : AlphabetError → List ℕ
error_text error = decimal (code_of error) ++ codes " " ++ word_of error
