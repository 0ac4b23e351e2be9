-- What a table of names says that they mean.
use Rattle.std.specs.Prelude.{ℕ, List, [], ◌∷◌, map, Bool, true, false, Option, Some, None, if◌then◌else◌}
use Rattle.alphabet.specs.Channels.{FieldValue}
use Rattle.std.specs.declared.vec.Vec.{Vec}
use Rattle.values.specs.declared.worth.Worth.{Worth}
use Rattle.values.specs.Values.{Name}
use Rattle.values.specs.Worths.{Worth as Plain, one, many, truth, Known}
use Rattle.values.specs.Names.{same_name}
use Rattle.values.specs.declared.known.Known.{Known as Table}
use Rattle.values.specs.declared.input.Input.{Input}
use Rattle.values.specs.View.{value, worth}

-- the first entry with the name says what it means
unfoldable pub known_by : List (Name × Plain) → Known
known_by [] n = None
known_by (e ∷ es) n = if same_name n e.0 then Some e.1 else known_by es n

-- the entries of a table
abbrev pub entries : {A : Type 0} → List (Vec ℕ A × Worth A) → List (Name × Plain)
entries = map (λ e. (e.0.items, worth e.1))

-- what a table says that names mean
abbrev pub table : {A : Type 0} → Table A → Known
table t = known_by (entries t.worths.entries)

-- ---- inputs

-- an input's name and its value
abbrev pub input : {A : Type 0} → Input A → Name × FieldValue
input i = (i.name.items, value i.value)

-- the name of an input means its value
abbrev pub with_input : Known → Name → FieldValue → Known
with_input known x v n = if same_name n x then Some (one v) else known n

-- what names mean after these inputs, of which the last is the innermost
unfoldable pub behind : Known → List (Name × FieldValue) → Known
behind known [] = known
behind known (i ∷ is) = behind (with_input known i.0 i.1) is

-- the first that is there
abbrev pub or_else : {X : Type 0} → Option X → Option X → Option X
or_else (Some x) other = Some x
or_else None other = other

-- the value of the last input with this name
unfoldable pub last_of : List (Name × FieldValue) → Name → Option FieldValue
last_of [] n = None
last_of (i ∷ is) n = or_else (last_of is n) (if same_name n i.0 then Some i.1 else None)

-- what a name means is one value or a truth
unfoldable pub names_value : Option Plain → Bool
names_value None = false
names_value (Some (one v)) = true
names_value (Some (many vs)) = false
names_value (Some (truth b)) = true
