-- How messages show where something is wrong, and what.
use Rattle.std.specs.Prelude.{ℕ, List, ◌++◌, codes, decimal}
use Rattle.tokens.specs.declared.error.ScriptError.{ScriptError}
use Rattle.tokens.specs.declared.position.Position.{Position}
use Rattle.tokens.specs.declared.position.Position.TheVariants.{Line, Column}
use Rattle.tokens.specs.ErrorKind.{kind_text}

abbrev pub number_text : Position → List ℕ
number_text (Line number) = decimal number
number_text (Column number) = decimal number

abbrev pub error_text : ScriptError → List ℕ
error_text error = number_text error.line ++ codes ": " ++ kind_text error.kind
