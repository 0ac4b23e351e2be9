-- Where the alphabet of a specification is.
use Rattle.std.specs.Prelude.{List}
use Rattle.std.specs.Arc.{arc_value}
use Rattle.alphabet.specs.Channels.{Channel}
use Rattle.term.specs.declared.spec.Held.{Held}
use Rattle.term.specs.declared.spec.Held.TheVariants.{Own, Shared}

-- the alphabet, wherever it is
abbrev pub alphabet_of : {A : Type 0} → Held A → List Channel
alphabet_of (Own alphabet) = alphabet
alphabet_of (Shared alphabet) = arc_value alphabet
