-- The printed form of what a script denotes.
use Rattle.std.specs.Prelude.{◌≡◌, ◌≤◌, ℕ, List, length}
use Rattle.term.specs.Specs.{Specified}
use Rattle.tokens.specs.declared.error.ScriptErrorKind.TheVariants as kind
use Rattle.printing.specs.Names.{body_primes}
use Rattle.printing.specs.Printed.{printed, reference}
use Rattle.script.specs.Reading.{IsRead}
use Rattle.program.specs.declared.forms.PrintError.{PrintError}
use Rattle.program.specs.declared.forms.PrintError.TheVariants.{Script, Memory}

-- The script denotes a specification for the process, and this is its printed form: a script that denotes the same for its first
-- process, if it is no larger than a script may be.
pub record IsPrinted (script process text : List ℕ) : Type 0 where
  pub spec : Specified
  pub read : IsRead script process spec
  pub is : text ≡ printed spec
  pub reads_back : length text ≤ 65536 → IsRead text (reference (body_primes spec.alphabet (length spec.bodies)) 0) spec

-- memory ran out
abbrev pub IsUnprinted : PrintError → Type 0
IsUnprinted (Script fault) = fault.kind ≡ kind.Memory
IsUnprinted Memory = Unit {0}
