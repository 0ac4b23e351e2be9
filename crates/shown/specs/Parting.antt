-- Texts without a dot.
use Rattle.std.specs.Prelude.{◌≢◌, ℕ, List}
use Rattle.std.specs.List.{AllByRecursion}

abbrev pub LacksDot : List ℕ → Type 0
LacksDot text = AllByRecursion (λ b. b ≢ 46) text
