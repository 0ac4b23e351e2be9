-- Whether phrases have a name in them, and what is found one after the other.
use Rattle.std.specs.Prelude.{List, [], ◌∷◌, ◌++◌, filter, Bool, false, ◌||◌, Option, Some, None}
use Rattle.alphabet.specs.Channels.{Values}
use Rattle.term.specs.Traces.{Pairs}
use Rattle.syntax.specs.Grammar.{Syntax, Called, Numeral, Node, Syntaxes, NoSyntax, MoreSyntax}
use Rattle.values.specs.Names.{same_name}
use Rattle.values.specs.Values.{◌>>=◌, Name, is_among}
use Rattle.event_phrases.specs.Forms.{FieldPhrase, given, input, input_from, no_field}
use Rattle.event_phrases.specs.Prefixes.{all_pass, fields_pass}
use Rattle.event_phrases.specs.Scopes.{Scope, with_input, values_by}

unfoldable mutual
  pub mentions : Name → Syntax → Bool
  mentions x (Called n) = same_name n x
  mentions x (Numeral n) = false
  mentions x (Node f ts) = mention x ts

  pub mention : Name → Syntaxes → Bool
  mention x NoSyntax = false
  mention x (MoreSyntax t ts) = mentions x t || mention x ts

-- the name is in the phrase that a field gives a value or a set by
unfoldable pub is_within : Name → FieldPhrase → Bool
is_within x (given t) = mentions x t
is_within x (input y) = false
is_within x (input_from y t) = mentions x t
is_within x no_field = false

-- the name is in one of the fields up to the first without values
unfoldable pub is_used : Name → List FieldPhrase → List Values → Bool
is_used x [] sets = false
is_used x (f ∷ fs) [] = false
is_used x (f ∷ fs) ([] ∷ sets) = is_within x f
is_used x (f ∷ fs) ((v ∷ vs) ∷ sets) = is_within x f || is_used x fs sets

-- those of these values that are in the set that a phrase stands for
unfoldable pub chosen_values : Scope → Syntax → Values → Option Values
chosen_values s t vs = values_by s t >>= λ part. Some (filter (λ v. is_among v part) vs)

-- the fields after an input with each of these values, or without it
unfoldable pub passes_after : List FieldPhrase → List Values → Scope → Option (Name × Values) → Option (Unit {0})
passes_after fs sets s None = fields_pass fs sets s
passes_after fs sets s (Some p) = all_pass (λ v. fields_pass fs sets (with_input s p.0 v)) p.1

-- ---- what stands in front

-- these values, and those after them
unfoldable pub values_behind : Values → Option Values → Option Values
values_behind front o = o >>= λ vs. Some (front ++ vs)

-- the same of pairs
unfoldable pub behind_pairs : Pairs → Option Pairs → Option Pairs
behind_pairs front o = o >>= λ R. Some (front ++ R)
