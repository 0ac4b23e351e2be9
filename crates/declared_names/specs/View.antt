-- Trees and declared names in memory as plain values.
use Rattle.std.specs.Prelude.{List, Option, Some, None}
use Rattle.std.specs.Borrow.{Bor}
use Rattle.syntax.specs.Grammar.{Syntax, Called, Numeral, Node}
use Rattle.syntax.specs.Parsing.{syntaxes}
use Rattle.syntax.specs.View.{shapes}
use Rattle.syntax.specs.declared.tree.Tree.{Tree}
use Rattle.values.specs.Names.{Meaning as Plain, channel, constant_name, Entry as PlainEntry}
use Rattle.declared_names.specs.declared.part.Part.{Part}
use Rattle.declared_names.specs.declared.part.Part.TheVariants as parts
use Rattle.declared_names.specs.declared.entries.Entries.{Entries}
use Rattle.declared_names.specs.Stored.{listed}
pub use Rattle.declared_names.specs.Stored.{meaning_of}

-- a tree, one level of which is seen
abbrev pub part_shape : {A : Type 0} → Part A → Syntax
part_shape (parts.Name n) = Called n.now
part_shape (parts.Number n) = Numeral n
part_shape (parts.Node f ts) = Node f (syntaxes (shapes ts.now))

-- the declared names
abbrev pub entries : {A : Type 0} → Entries A → List PlainEntry
entries es = listed es.table.entries

-- what names are declared as: channels with these sets of fields, where there are any, else constants
abbrev pub role : {A : Type 0} → Option (Bor (List (Tree A))) → Plain
role (Some sets) = channel (syntaxes (shapes sets.now))
role None = constant_name
