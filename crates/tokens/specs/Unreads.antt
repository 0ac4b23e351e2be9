-- Why a part of a script isn't read.
use Rattle.tokens.specs.declared.error.ScriptError.{ScriptError}
use Rattle.tokens.specs.declared.error.ScriptErrorKind.TheVariants as kinds
use Rattle.tokens.specs.declared.position.Position.TheVariants as positions
use Rattle.tokens.specs.declared.read_error.ReadError.{ReadError}
use Rattle.tokens.specs.declared.read_error.ReadError.TheVariants.{Fault, Memory}

-- what is reported of it: out of memory on line 1
abbrev pub reported : ReadError → ScriptError
reported (Fault error) = error
reported Memory = record { line = positions.Line 1; kind = kinds.Memory }
