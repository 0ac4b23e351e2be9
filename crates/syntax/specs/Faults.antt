-- Where tokens are no script.
use Rattle.std.specs.Prelude.{List, [], ◌∷◌}
use Rattle.tokens.specs.declared.error.ScriptErrorKind.{ScriptErrorKind}
use Rattle.tokens.specs.declared.position.Position.{Position}
use Rattle.tokens.specs.declared.position.Position.TheVariants as positions
use Rattle.tokens.specs.declared.token.Token.{Token}
use Rattle.tokens.specs.declared.read_error.ReadError.{ReadError}
use Rattle.tokens.specs.declared.read_error.ReadError.TheVariants.{Fault}

-- where the first token stands; line 0 at the end of the text
abbrev pub first_line : {A : Type 0} → List (Token A) → Position
first_line [] = positions.Line 0
first_line (token ∷ tokens) = token.line

-- a fault of this kind where the first token stands
abbrev pub fault_at : {A : Type 0} → List (Token A) → ScriptErrorKind → ReadError
fault_at tokens kind = Fault (record { line = first_line tokens; kind = kind })
