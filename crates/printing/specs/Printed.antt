-- The text of a specification.
use Rattle.std.specs.Prelude.{ℕ, pos, negsuc, List, [], ◌∷◌, ◌++◌, map, length, codes}
use Rattle.std.specs.List.{flat_map, range_with_len}
use Rattle.alphabet.specs.declared.events.Event.TheVariants.{Of as ev}
use Rattle.alphabet.specs.EventSets.{Set, members}
use Rattle.alphabet.specs.Channels.{number, constant, Values, Channel, value_text, name_of}
use Rattle.term.specs.Proc.{Proc, stop, skip, prefix, ext, int, seq, par, hide, ren, intr, name, bodies_of}
use Rattle.term.specs.Specs.{Specified}
use Rattle.printing.specs.Names.{Name, constants, primed, datatype_name, datatype_primes, body_name, body_primes}

-- the texts with a text between each two
abbrev pub joined : List ℕ → List (List ℕ) → List ℕ
joined between [] = []
joined between (t ∷ ts) = t ++ flat_map (λ u. between ++ u) ts

-- ---- declarations

-- a blank where the first value is negative, since `{-` opens a comment
abbrev pub gap : Values → List ℕ
gap [] = []
gap (constant n ∷ vs) = []
gap (number (pos n) ∷ vs) = []
gap (number (negsuc n) ∷ vs) = codes " "

-- the values of a field, as a set
abbrev pub field_text : Values → List ℕ
field_text vs = codes "{" ++ gap vs ++ joined (codes ", ") (map value_text vs) ++ codes "}"

abbrev pub fields_text : List Values → List ℕ
fields_text [] = []
fields_text (field ∷ fields) = codes " : " ++ joined (codes ".") (map field_text (field ∷ fields))

abbrev pub channel_line : Channel → List ℕ
channel_line c = codes "channel " ++ c.name ++ fields_text c.fields ++ codes "\n"

-- the datatype with these constants, where there are any, whose name has so many primes
abbrev pub datatype_line : ℕ → List Name → List ℕ
datatype_line primes [] = []
datatype_line primes (n ∷ ns) = codes "datatype " ++ primed datatype_name primes ++ codes " = " ++ joined (codes " | ") (n ∷ ns) ++ codes "\n"

-- ---- processes

-- the events of a set in alphabet order
unfoldable pub set_text : List Channel → Set → List ℕ
set_text cs A = codes "{" ++ joined (codes ", ") (map (name_of cs) (members A)) ++ codes "}"

-- what stands between the two parts of a parallel
unfoldable pub shared_text : List Channel → Set → List ℕ
shared_text cs A = codes " [| " ++ set_text cs A ++ codes " |] "

abbrev pub pair_text : List Channel → ℕ × ℕ → List ℕ
pair_text cs p = name_of cs (ev p.0) ++ codes " <- " ++ name_of cs (ev p.1)

-- the name of the body with this number, with so many primes
abbrev pub reference : ℕ → ℕ → List ℕ
reference primes k = primed (body_name k) primes

-- an operator between two processes, in brackets of its own
abbrev pub operation : List ℕ → List ℕ → List ℕ → List ℕ
operation left between right = codes "(" ++ left ++ between ++ right ++ codes ")"

-- what stands between the two parts of a choice, a sequence or an interrupt
abbrev pub mark : Proc → List ℕ
mark (ext P Q) = codes " [] "
mark (int P Q) = codes " |~| "
mark (seq P Q) = codes " ; "
mark (intr P Q) = codes " /\\ "
mark P = []

-- over these channels, where the names of bodies have so many primes
module _ (cs : List Channel) (primes : ℕ) where
  unfoldable pub process_text : Proc → List ℕ
  process_text stop = codes "STOP"
  process_text skip = codes "SKIP"
  process_text (prefix a P) = operation (name_of cs (ev a)) (codes " -> ") (process_text P)
  process_text (ext P Q) = operation (process_text P) (codes " [] ") (process_text Q)
  process_text (int P Q) = operation (process_text P) (codes " |~| ") (process_text Q)
  process_text (seq P Q) = operation (process_text P) (codes " ; ") (process_text Q)
  process_text (par A P Q) = operation (process_text P) (shared_text cs A) (process_text Q)
  process_text (hide A P) = operation (process_text P) (codes " \\ ") (set_text cs A)
  process_text (ren R P) = operation (process_text P) (codes " [[") (joined (codes ", ") (map (pair_text cs) R) ++ codes "]]")
  process_text (intr P Q) = operation (process_text P) (codes " /\\ ") (process_text Q)
  process_text (name k) = reference primes k

  -- the definition of the body with this number
  abbrev pub body_line : ℕ → Proc → List ℕ
  body_line k P = reference primes k ++ codes " = " ++ process_text P ++ codes "\n"

  abbrev pub body_lines : List Proc → List ℕ
  body_lines Ps = flat_map (λ k. body_line k (bodies_of Ps k)) (range_with_len 0 (length Ps))

-- ---- the whole

abbrev pub printed : Specified → List ℕ
printed s =
    datatype_line (datatype_primes s.alphabet) (constants s.alphabet)
    ++ flat_map channel_line s.alphabet
    ++ body_lines s.alphabet (body_primes s.alphabet (length s.bodies)) s.bodies
