-- The tree of a printed specification.
use Rattle.std.specs.Prelude.{ℕ, suc, pos, negsuc, List, [], ◌∷◌, ◌++◌, map, length, slice_index_or}
use Rattle.std.specs.List.{range_with_len}
use Rattle.alphabet.specs.declared.events.Event.{Event}
use Rattle.alphabet.specs.declared.events.Event.TheVariants.{Tick as tick, Of as ev}
use Rattle.alphabet.specs.EventSets.{Set, members}
use Rattle.alphabet.specs.Channels.{FieldValue, number, constant, Values, Channel, Parts, events}
use Rattle.term.specs.Proc.{Proc, stop, skip, prefix, ext, int, seq, par, hide, ren, intr, name, bodies_of}
use Rattle.term.specs.Specs.{Specified}
use Rattle.syntax.specs.declared.operator.Operator.{Operator}
use Rattle.syntax.specs.declared.operator.Operator.TheVariants as operators
use Rattle.syntax.specs.declared.form.Form.{Form}
use Rattle.syntax.specs.declared.form.Form.TheVariants as forms
use Rattle.syntax.specs.Grammar.{Syntax, Called, Numeral, Node, Syntaxes, NoSyntax, MoreSyntax}
use Rattle.values.specs.Names.{Entry, channel, definition, datatype_entries}
use Rattle.printing.specs.Names.{Name, constants, primed, datatype_name, datatype_primes, body_primes}
use Rattle.printing.specs.Printed.{reference}

abbrev pub phrases : List Syntax → Syntaxes
phrases [] = NoSyntax
phrases (t ∷ ts) = MoreSyntax t (phrases ts)

abbrev pub node : Form → List Syntax → Syntax
node f ts = Node f (phrases ts)

-- a name where it stands alone
abbrev pub named : Name → Syntax
named n = node forms.Event (Called n ∷ [])

-- ---- events

-- a value in a field of an event
abbrev pub value_tree : FieldValue → Syntax
value_tree (number (pos n)) = Numeral n
value_tree (number (negsuc n)) = node forms.NegativeNumber (Numeral (suc n) ∷ [])
value_tree (constant n) = named n

abbrev pub dotted_trees : Values → Syntaxes
dotted_trees [] = NoSyntax
dotted_trees (v ∷ vs) = MoreSyntax (node forms.Dotted (value_tree v ∷ [])) (dotted_trees vs)

abbrev pub event_tree : Parts → Syntax
event_tree p = Node forms.Event (MoreSyntax (Called p.channel) (dotted_trees p.values))

-- what nothing is made of
abbrev pub no_parts : Parts
no_parts = record { channel = []; values = [] }

-- the event with this number, or tick, which no set of a specification has
abbrev pub tree_of_event : List Channel → Event → Syntax
tree_of_event cs tick = event_tree no_parts
tree_of_event cs (ev a) = event_tree (slice_index_or (events cs) a no_parts)

-- a set of phrases
abbrev pub braced : List Syntax → Syntax
braced [] = node forms.EmptySet []
braced (t ∷ ts) = node forms.Set (t ∷ ts)

abbrev pub set_tree : List Channel → Set → Syntax
set_tree cs A = braced (map (tree_of_event cs) (members A))

abbrev pub pair_tree : List Channel → ℕ × ℕ → Syntax
pair_tree cs p = node forms.Pair (tree_of_event cs (ev p.0) ∷ tree_of_event cs (ev p.1) ∷ [])

-- ---- processes

-- an operation in brackets of its own
abbrev pub operation : Operator → List Syntax → Syntax
operation op ts = node forms.Brackets (node (forms.Operation op) ts ∷ [])

-- over these channels, where the names of bodies have so many primes
module _ (cs : List Channel) (primes : ℕ) where
  unfoldable pub process_tree : Proc → Syntax
  process_tree stop = node forms.Stop []
  process_tree skip = node forms.Skip []
  process_tree (prefix a P) = operation operators.Prefix (tree_of_event cs (ev a) ∷ process_tree P ∷ [])
  process_tree (ext P Q) = operation operators.ExternalChoice (process_tree P ∷ process_tree Q ∷ [])
  process_tree (int P Q) = operation operators.InternalChoice (process_tree P ∷ process_tree Q ∷ [])
  process_tree (seq P Q) = operation operators.Sequence (process_tree P ∷ process_tree Q ∷ [])
  process_tree (par A P Q) = operation operators.Sharing (process_tree P ∷ set_tree cs A ∷ process_tree Q ∷ [])
  process_tree (hide A P) = operation operators.Hiding (process_tree P ∷ set_tree cs A ∷ [])
  process_tree (ren R P) = operation operators.Renaming (process_tree P ∷ map (pair_tree cs) R)
  process_tree (intr P Q) = operation operators.Interrupt (process_tree P ∷ process_tree Q ∷ [])
  process_tree (name k) = named (reference primes k)

-- ---- declarations

-- a value in a set, where a negative number is a phrase
abbrev pub member_tree : FieldValue → Syntax
member_tree (number (pos n)) = Numeral n
member_tree (number (negsuc n)) = node forms.Negation (Numeral (suc n) ∷ [])
member_tree (constant n) = named n

-- the values of a field
abbrev pub values_tree : Values → Syntax
values_tree vs = braced (map member_tree vs)

-- the names in a line of a channel, of which there is one
abbrev pub names_tree : Name → Syntax
names_tree n = node forms.Names (Called n ∷ [])

abbrev pub channel_tree_of : Name → List Values → Syntax
channel_tree_of n [] = node forms.Channels (names_tree n ∷ [])
channel_tree_of n (field ∷ fields) = node forms.ChannelsWithFields (names_tree n ∷ node forms.FieldSets (map values_tree (field ∷ fields)) ∷ [])

abbrev pub channel_tree : Channel → Syntax
channel_tree c = channel_tree_of c.name c.fields

abbrev pub called_trees : List Name → List Syntax
called_trees ns = map (λ n. Called n) ns

-- the datatype of these constants, where there are any, whose name has so many primes
abbrev pub datatype_trees : ℕ → List Name → List Syntax
datatype_trees primes [] = []
datatype_trees primes (n ∷ ns) = node forms.Datatype (Called (primed datatype_name primes) ∷ node forms.Constants (called_trees (n ∷ ns)) ∷ []) ∷ []

-- the definition of the body with this number
abbrev pub body_tree : List Channel → ℕ → ℕ → Proc → Syntax
body_tree cs primes k P = node forms.Definition (Called (reference primes k) ∷ process_tree cs primes P ∷ [])

abbrev pub body_trees : List Channel → ℕ → List Proc → List Syntax
body_trees cs primes Ps = map (λ k. body_tree cs primes k (bodies_of Ps k)) (range_with_len 0 (length Ps))

-- ---- the whole

abbrev pub printed_primes : Specified → ℕ
printed_primes spec = body_primes spec.alphabet (length spec.bodies)

abbrev pub script_tree : Specified → Syntax
script_tree spec =
    node forms.Script ((datatype_trees (datatype_primes spec.alphabet) (constants spec.alphabet) ++ map channel_tree spec.alphabet) ++ body_trees spec.alphabet (printed_primes spec) spec.bodies)

-- ---- what the printed script declares

abbrev pub typed_entries : ℕ → List Name → List Entry
typed_entries primes [] = []
typed_entries primes (n ∷ ns) = datatype_entries (primed datatype_name primes) (n ∷ ns)

abbrev pub channel_entry : Channel → Entry
channel_entry c = (c.name, channel (phrases (map values_tree c.fields)))

abbrev pub body_entry : List Channel → ℕ → List Proc → ℕ → Entry
body_entry cs primes Ps k = (reference primes k, definition (process_tree cs primes (bodies_of Ps k)))

abbrev pub body_entries : List Channel → ℕ → List Proc → List Entry
body_entries cs primes Ps = map (body_entry cs primes Ps) (range_with_len 0 (length Ps))

abbrev pub printed_entries : Specified → List Entry
printed_entries spec =
    (typed_entries (datatype_primes spec.alphabet) (constants spec.alphabet) ++ map channel_entry spec.alphabet) ++ body_entries spec.alphabet (printed_primes spec) spec.bodies
