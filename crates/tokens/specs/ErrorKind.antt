-- The numbers and words of the faults of a script.
use Rattle.std.specs.Prelude.{ℕ, List, ◌++◌, codes, decimal}
use Rattle.tokens.specs.declared.error.ScriptErrorKind.{ScriptErrorKind}
use Rattle.tokens.specs.declared.error.ScriptErrorKind.TheVariants.{BadByte, BadToken, Expected, UnknownName, Redeclared, WrongFields, OutOfRange, TooManyEvents, TooDeep, TooLarge, Unsupported, NoSuchProcess, Memory}

abbrev pub code_of : ScriptErrorKind → ℕ
code_of BadByte = 1
code_of BadToken = 2
code_of Expected = 3
code_of UnknownName = 4
code_of Redeclared = 5
code_of WrongFields = 6
code_of OutOfRange = 7
code_of TooManyEvents = 8
code_of TooDeep = 9
code_of TooLarge = 10
code_of Unsupported = 11
code_of NoSuchProcess = 12
code_of Memory = 40

abbrev pub word_of : ScriptErrorKind → List ℕ
word_of BadByte = codes "byte"
word_of BadToken = codes "token"
word_of Expected = codes "expected"
word_of UnknownName = codes "unknown"
word_of Redeclared = codes "redeclared"
word_of WrongFields = codes "fields"
word_of OutOfRange = codes "range"
word_of TooManyEvents = codes "events"
word_of TooDeep = codes "depth"
word_of TooLarge = codes "large"
word_of Unsupported = codes "unsupported"
word_of NoSuchProcess = codes "process"
word_of Memory = codes "memory"

-- as messages show it
abbrev pub kind_text : ScriptErrorKind → List ℕ
kind_text kind = decimal (code_of kind) ++ codes " " ++ word_of kind
