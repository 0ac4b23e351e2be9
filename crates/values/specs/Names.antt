-- The names that a script declares, and what they mean.
use Rattle.std.specs.Prelude.{◌≡◌, ℕ, zero, suc, List, [], ◌∷◌, ◌++◌, map, length, Bool, true, false, not, ◌&&◌, Option, Some, None, if◌then◌else◌, nat_eq, ◌↔◌}
use Rattle.std.specs.List.{list_any}
use Rattle.std.specs.Cmp.Lexicographic.{pointwise}
use Rattle.alphabet.specs.Channels.{constant}
use Rattle.syntax.specs.declared.form.Form.{Form}
use Rattle.syntax.specs.declared.form.Form.TheVariants as forms
use Rattle.syntax.specs.declared.operator.Operator.{Operator}
use Rattle.syntax.specs.declared.operator.Operator.TheVariants as operators
use Rattle.syntax.specs.Grammar.{Syntax, Called, Numeral, Node, Syntaxes, NoSyntax, MoreSyntax}
use Rattle.values.specs.Values.{◌>>=◌, Name, set_of}
use Rattle.values.specs.Worths.{Worth, one, many, Known, worth}

-- what a name is declared as
pub data Meaning : Type 0 where
  -- a channel, with the sets of its fields as they are written
  channel : Syntaxes → Meaning
  -- a datatype, with its constants as they are written
  datatype : List Name → Meaning
  constant_name : Meaning
  -- a definition without parameters, with its body
  definition : Syntax → Meaning
  -- a definition with parameters, with its body
  parametric : List Name → Syntax → Meaning

-- a declared name
abbrev pub Entry : Type 0
Entry = Name × Meaning

abbrev pub same_name : Name → Name → Bool
same_name = pointwise nat_eq

unfoldable pub names_of : Syntaxes → Option (List Name)
names_of NoSyntax = Some []
names_of (MoreSyntax (Called n) ts) = names_of ts >>= λ ns. Some (n ∷ ns)
names_of (MoreSyntax (Numeral n) ts) = None
names_of (MoreSyntax (Node f us) ts) = None

-- the names in a list of names
unfoldable pub listed_names : Syntax → Option (List Name)
listed_names (Node forms.Names ts) = names_of ts
listed_names (Node forms.Constants ts) = names_of ts
listed_names t = None

-- the sets of a channel's fields
unfoldable pub field_sets : Syntax → Option Syntaxes
field_sets (Node forms.FieldSets ts) = Some ts
field_sets t = None

abbrev pub channel_entries : Syntaxes → List Name → List Entry
channel_entries sets ns = map (λ n. (n, channel sets)) ns

-- a datatype and its constants
abbrev pub datatype_entries : Name → List Name → List Entry
datatype_entries n constants = (n, datatype constants) ∷ map (λ c. (c, constant_name)) constants

-- the names of a declaration of this form, from left to right
unfoldable pub entries_of : Form → Syntaxes → Option (List Entry)
entries_of forms.Channels (MoreSyntax t NoSyntax) = listed_names t >>= λ ns. Some (channel_entries NoSyntax ns)
entries_of forms.ChannelsWithFields (MoreSyntax t (MoreSyntax u NoSyntax)) = listed_names t >>= λ ns. field_sets u >>= λ sets. Some (channel_entries sets ns)
entries_of forms.Datatype (MoreSyntax (Called n) (MoreSyntax t NoSyntax)) = listed_names t >>= λ ns. Some (datatype_entries n ns)
entries_of forms.Definition (MoreSyntax (Called n) (MoreSyntax t NoSyntax)) = Some ((n, definition t) ∷ [])
entries_of forms.DefinitionWithParameters (MoreSyntax (Called n) (MoreSyntax t (MoreSyntax u NoSyntax))) = listed_names t >>= λ xs. Some ((n, parametric xs u) ∷ [])
entries_of f ts = None

unfoldable pub declared_by : Syntax → Option (List Entry)
declared_by (Node f ts) = entries_of f ts
declared_by (Called n) = None
declared_by (Numeral n) = None

unfoldable pub declared_by_all : Syntaxes → Option (List Entry)
declared_by_all NoSyntax = Some []
declared_by_all (MoreSyntax t ts) = declared_by t >>= λ es. declared_by_all ts >>= λ fs. Some (es ++ fs)

-- the names that a script declares, in text order
unfoldable pub declared : Syntax → Option (List Entry)
declared (Node forms.Script ts) = declared_by_all ts
declared t = None

-- what a name is declared as
unfoldable pub meaning : List Entry → Name → Option Meaning
meaning [] n = None
meaning (e ∷ es) n = if same_name n e.0 then Some e.1 else meaning es n

-- no name is declared twice
unfoldable pub are_distinct : List Entry → Bool
are_distinct [] = true
are_distinct (e ∷ es) = not (list_any (λ f. same_name e.0 f.0) es) && are_distinct es

-- a name that is a constant's
unfoldable pub is_constant : Option Meaning → Bool
is_constant None = false
is_constant (Some (channel sets)) = false
is_constant (Some (datatype constants)) = false
is_constant (Some constant_name) = true
is_constant (Some (definition t)) = false
is_constant (Some (parametric xs t)) = false

-- parameters: none twice, and none with a constant's name
unfoldable pub are_parameters : List Entry → List Name → Bool
are_parameters es [] = true
are_parameters es (x ∷ xs) = not (list_any (same_name x) xs) && not (is_constant (meaning es x)) && are_parameters es xs

-- what a name is declared as has parameters that are in order, if it has any
unfoldable pub have_parameters : List Entry → Meaning → Bool
have_parameters es (channel sets) = true
have_parameters es (datatype constants) = true
have_parameters es constant_name = true
have_parameters es (definition t) = true
have_parameters es (parametric xs t) = are_parameters es xs

-- ---- what names mean

-- what a name with this meaning means, where these names are known
unfoldable pub worth_of : Known → Name → Meaning → Option Worth
worth_of known n (channel sets) = None
worth_of known n (datatype constants) = Some (many (set_of (map constant constants)))
worth_of known n constant_name = Some (one (constant n))
worth_of known n (definition t) = worth known t
worth_of known n (parametric xs t) = None

-- what names mean after so many steps, in each of which a definition is looked into
unfoldable pub known_in : List Entry → ℕ → Known
known_in es zero n = None
known_in es (suc k) n = meaning es n >>= worth_of (known_in es k) n

-- Each name means what it means after some number of steps, and nothing else. So a name that needs itself means nothing.
abbrev pub Stands : List Entry → Known → Type 0
Stands es known = (n : Name) (w : Worth) → (known n ≡ Some w) ↔ ((k : ℕ) × (known_in es k n ≡ Some w))

-- ---- how what names mean is found, step by step

-- what the first knows, the second knows too
abbrev pub IsWithin : Known → Known → Type 0
IsWithin f g = (n : Name) (w : Worth) → f n ≡ Some w → g n ≡ Some w

-- what definitions say where this is known
unfoldable pub next_known : List Entry → Known → Known
next_known es f n = meaning es n >>= worth_of f n

-- each is known after some number of steps
abbrev pub IsReached : List Entry → Known → Type 0
IsReached es f = (n : Name) (w : Worth) → f n ≡ Some w → (k : ℕ) × (known_in es k n ≡ Some w)

-- ---- processes

unfoldable pub is_process_operator : Operator → Bool
is_process_operator operators.Prefix = true
is_process_operator operators.Sequence = true
is_process_operator operators.Interrupt = true
is_process_operator operators.ExternalChoice = true
is_process_operator operators.InternalChoice = true
is_process_operator operators.Sharing = true
is_process_operator operators.Alphabetised = true
is_process_operator operators.Interleaving = true
is_process_operator operators.Hiding = true
is_process_operator operators.Renaming = true
is_process_operator operators.Guard = true
is_process_operator op = false

-- the forms of phrases that may be processes; a condition may choose a value too
unfoldable pub is_process_form : Form → Bool
is_process_form forms.Stop = true
is_process_form forms.Skip = true
is_process_form forms.Call = true
is_process_form forms.If = true
is_process_form forms.ReplicatedExternal = true
is_process_form forms.ReplicatedInternal = true
is_process_form forms.ReplicatedInterleaving = true
is_process_form (forms.Operation op) = is_process_operator op
is_process_form f = false

-- whether a phrase may be a process, where this says so of a bare name
unfoldable pub is_process_by : (Name → Bool) → Syntax → Bool
is_process_by name (Called n) = false
is_process_by name (Numeral n) = false
is_process_by name (Node forms.Brackets (MoreSyntax t NoSyntax)) = is_process_by name t
is_process_by name (Node forms.Event (MoreSyntax (Called n) NoSyntax)) = name n
is_process_by name (Node f ts) = is_process_form f

-- whether what a name is declared as may be a process, where this says so of a bare name
unfoldable pub is_process_meaning : (Name → Bool) → Option Meaning → Bool
is_process_meaning name None = false
is_process_meaning name (Some (channel sets)) = false
is_process_meaning name (Some (datatype constants)) = false
is_process_meaning name (Some constant_name) = false
is_process_meaning name (Some (definition t)) = is_process_by name t
is_process_meaning name (Some (parametric xs t)) = false

-- whether a name may be one of a process, where so many bare names are followed; more of them than there are names go in a circle, and that is a process
unfoldable pub is_process_in : List Entry → ℕ → Name → Bool
is_process_in es zero n = true
is_process_in es (suc k) n = is_process_meaning (is_process_in es k) (meaning es n)

abbrev pub is_process : List Entry → Name → Bool
is_process es n = is_process_in es (suc (length es)) n
