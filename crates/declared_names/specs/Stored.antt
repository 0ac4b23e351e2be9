-- Declared names as they are stored.
use Rattle.std.specs.Prelude.{ℕ, List, map}
use Rattle.std.specs.declared.vec.Vec.{Vec}
use Rattle.syntax.specs.Parsing.{syntaxes}
use Rattle.syntax.specs.View.{shape, shapes}
use Rattle.values.specs.Names.{Meaning as Plain, channel, datatype, constant_name, definition, parametric, Entry as PlainEntry}
use Rattle.declared_names.specs.declared.entries.Meaning.{Meaning}
use Rattle.declared_names.specs.declared.entries.Meaning.TheVariants as meanings
use Rattle.declared_names.specs.declared.entries.Entry.{Entry}

-- what a name is declared as
abbrev pub meaning_of : {A : Type 0} → Meaning A → Plain
meaning_of (meanings.Channel sets) = channel (syntaxes (shapes sets.now))
meaning_of (meanings.Datatype constants) = datatype (map (λ c. c.items) constants.items)
meaning_of meanings.Constant = constant_name
meaning_of (meanings.Definition body) = definition (shape body.now)
meaning_of (meanings.WithParameters written names body) = parametric (map (λ n. n.items) names.items) (shape body.now)

-- names and what they are declared as
abbrev pub Stored : Type 0 → Type 0
Stored A = List (Vec ℕ A × Entry A)

-- the declared names in a table
abbrev pub listed : {A : Type 0} → Stored A → List PlainEntry
listed = map (λ e. (e.0.items, meaning_of e.1.meaning))
