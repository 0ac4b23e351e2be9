-- How the declared names are entered one by one, as the program does it. They are those that are declared, if none is there twice.
use Rattle.std.specs.Prelude.{List, [], ◌∷◌, ◌++◌, Bool, Option, Some, None, if◌then◌else◌}
use Rattle.std.specs.List.{list_any}
use Rattle.syntax.specs.declared.form.Form.{Form}
use Rattle.syntax.specs.declared.form.Form.TheVariants as forms
use Rattle.syntax.specs.Grammar.{Syntax, Called, Numeral, Node, Syntaxes, NoSyntax}
use Rattle.values.specs.Values.{◌>>=◌, Name}
use Rattle.values.specs.Names.{Meaning, channel, datatype, constant_name, definition, parametric, Entry, same_name, field_sets, declared, are_distinct}
use Rattle.declared_names.specs.Steps.{steps, only_of, two_of, three_of}

abbrev pub has_name : List Entry → Name → Bool
has_name es n = list_any (λ e. same_name n e.0) es

-- one more name, where it isn't there
unfoldable pub put : List Entry → Entry → Option (List Entry)
put es e = if has_name es e.0 then None else Some (es ++ e ∷ [])

-- a name that is declared as this
unfoldable pub put_name : Meaning → List Entry → Syntax → Option (List Entry)
put_name m es (Called n) = put es (n, m)
put_name m es (Numeral n) = None
put_name m es (Node f ts) = None

-- the parts of a list of names
unfoldable pub list_parts : Syntax → Option Syntaxes
list_parts (Node forms.Names ts) = Some ts
list_parts (Node forms.Constants ts) = Some ts
list_parts t = None

-- the names and one more
unfoldable pub add_name : List Name → Syntax → Option (List Name)
add_name ns (Called n) = Some (ns ++ n ∷ [])
add_name ns (Numeral n) = None
add_name ns (Node f ts) = None

-- channels with these sets of fields
unfoldable pub put_channels : List Entry → Syntax → Syntaxes → Option (List Entry)
put_channels es t sets = list_parts t >>= λ ts. steps (put_name (channel sets)) es ts

unfoldable pub put_fielded : List Entry → Syntax → Syntax → Option (List Entry)
put_fielded es t u = field_sets u >>= λ sets. put_channels es t sets

-- a datatype and its constants
unfoldable pub put_datatype : List Entry → Name → Syntaxes → Option (List Entry)
put_datatype es n ts = steps add_name [] ts >>= λ ns. put es (n, datatype ns) >>= λ fs. steps (put_name constant_name) fs ts

unfoldable pub put_typed : List Entry → Syntax → Syntax → Option (List Entry)
put_typed es (Called n) t = list_parts t >>= λ ts. put_datatype es n ts
put_typed es (Numeral n) t = None
put_typed es (Node f us) t = None

unfoldable pub put_defined : List Entry → Syntax → Syntax → Option (List Entry)
put_defined es (Called n) t = put es (n, definition t)
put_defined es (Numeral n) t = None
put_defined es (Node f us) t = None

-- a definition with parameters
unfoldable pub put_parametric : List Entry → Syntax → Syntax → Syntax → Option (List Entry)
put_parametric es (Called n) t u = list_parts t >>= λ ts. steps add_name [] ts >>= λ xs. put es (n, parametric xs u)
put_parametric es (Numeral n) t u = None
put_parametric es (Node f us) t u = None

-- the names of a declaration of this form
unfoldable pub put_form : List Entry → Form → Syntaxes → Option (List Entry)
put_form es forms.Channels ts = only_of ts >>= λ t. put_channels es t NoSyntax
put_form es forms.ChannelsWithFields ts = two_of ts >>= λ p. put_fielded es p.0 p.1
put_form es forms.Datatype ts = two_of ts >>= λ p. put_typed es p.0 p.1
put_form es forms.Definition ts = two_of ts >>= λ p. put_defined es p.0 p.1
put_form es forms.DefinitionWithParameters ts = three_of ts >>= λ p. put_parametric es p.0 p.1 p.2
put_form es f ts = None

unfoldable pub put_declaration : List Entry → Syntax → Option (List Entry)
put_declaration es (Node f ts) = put_form es f ts
put_declaration es (Called n) = None
put_declaration es (Numeral n) = None

-- the declarations of a script
unfoldable pub script_parts : Syntax → Option Syntaxes
script_parts (Node forms.Script ts) = Some ts
script_parts t = None

-- the names of a script, if none is there twice
unfoldable pub distinct_entries : Syntax → Option (List Entry)
distinct_entries t = declared t >>= λ es. if are_distinct es then Some es else None
