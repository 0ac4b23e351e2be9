-- One part after the other, where each step may fail.
use Rattle.std.specs.Prelude.{Option, Some, None}
use Rattle.syntax.specs.Grammar.{Syntax, Syntaxes, NoSyntax, MoreSyntax}
use Rattle.values.specs.Values.{◌>>=◌}

unfoldable pub steps : {X : Type 0} → (X → Syntax → Option X) → X → Syntaxes → Option X
steps f x NoSyntax = Some x
steps f x (MoreSyntax t ts) = f x t >>= λ y. steps f y ts

-- the only part
unfoldable pub only_of : Syntaxes → Option Syntax
only_of (MoreSyntax t NoSyntax) = Some t
only_of ts = None

-- the two parts
unfoldable pub two_of : Syntaxes → Option (Syntax × Syntax)
two_of (MoreSyntax t (MoreSyntax u NoSyntax)) = Some (t, u)
two_of ts = None

-- the three parts
unfoldable pub three_of : Syntaxes → Option (Syntax × Syntax × Syntax)
three_of (MoreSyntax t (MoreSyntax u (MoreSyntax v NoSyntax))) = Some (t, u, v)
three_of ts = None
