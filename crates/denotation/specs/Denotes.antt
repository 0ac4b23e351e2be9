-- The specification that a script denotes for a root.
use Rattle.std.specs.Prelude.{◌≡◌, ℕ, suc, ◌+◌, ◌<◌, ◌≤◌, List, [], ◌∷◌, ◌++◌, length, take, map, Bool, true, false, Option, Some, None, if◌then◌else◌}
use Rattle.std.specs.List.{All, flat_map}
use Rattle.term.specs.Proc.{Proc}
use Rattle.term.specs.Sizes as terms
use Rattle.term.specs.Specs.{Specified}
use Rattle.alphabet.specs.Channels.{FieldValue, Values}
use Rattle.syntax.specs.Grammar.{Syntax}
use Rattle.values.specs.Values.{◌>>=◌, Name}
use Rattle.values.specs.Worths.{Known}
use Rattle.values.specs.Names.{Entry, Meaning, channel, datatype, constant_name, definition, parametric, meaning, is_process}
use Rattle.values.specs.Channels.{Declares}
use Rattle.event_phrases.specs.Events.{KnownEvents, EventsStand}
use Rattle.denotation.specs.Bodies.{Key, same_key, Body, names, numbered}
use Rattle.event_phrases.specs.Scopes.{Scope, within}
use Rattle.denotation.specs.Phrases.{Phrase, called, phrase_of, denoted}

-- ---- the body of a definition

unfoldable pub body_by : Scope → Option Meaning → Option Body
body_by s None = None
body_by s (Some (channel ts)) = None
body_by s (Some (datatype ns)) = None
body_by s (Some constant_name) = None
body_by s (Some (definition t)) = denoted (phrase_of t) s
body_by s (Some (parametric xs t)) = None

-- parameters with their values
unfoldable pub paired : List Name → Values → Option (List (Name × FieldValue))
paired [] [] = Some []
paired (x ∷ xs) (v ∷ vs) = paired xs vs >>= λ is. Some ((x, v) ∷ is)
paired xs vs = None

-- the body of a definition with parameters, for these values; it sees no other inputs
unfoldable pub called_by : Scope → Option Meaning → Values → Option Body
called_by s (Some (parametric xs t)) vs = paired xs vs >>= λ is. denoted (phrase_of t) (within s is)
called_by s m vs = None

-- the body of a definition with these values of its parameters
unfoldable pub body_of : Scope → Key → Option Body
body_of s (n, []) = if is_process s.entries n then body_by s (meaning s.entries n) else None
body_of s (n, v ∷ vs) = called_by s (meaning s.entries n) (v ∷ vs)

-- ---- the root

-- what is reached from: a process of the script by its name, or a phrase for a process, which is like the body of a definition without a
-- name
pub data Root : Type 0 where
  named : Name → Root
  phrased : Syntax → Root

-- the name that a phrase is
unfoldable pub name_called : Phrase → Option Name
name_called (called n) = Some n
name_called p = None

unfoldable pub root_by : Syntax → Option Name → Root
root_by t None = phrased t
root_by t (Some n) = named n

-- the root that a phrase is: a name alone is that process
abbrev pub root_of : Syntax → Root
root_of t = root_by t (name_called (phrase_of t))

-- the definition that a root is
unfoldable pub root_key : Root → Key
root_key (named n) = (n, [])
root_key (phrased t) = ([], [])

unfoldable pub is_nameless : Key → Bool
is_nameless ([], []) = true
is_nameless k = false

-- the body of a definition, where the one without a name is the root's phrase
unfoldable pub body_under : Root → Scope → Key → Option Body
body_under (named n) s k = body_of s k
body_under (phrased t) s k = if is_nameless k then denoted (phrase_of t) s else body_of s k

-- ---- numbers of definitions

-- the first place of a definition
unfoldable pub place : List Key → Key → ℕ
place [] k = 0
place (j ∷ js) k = if same_key j k then 0 else suc (place js k)

unfoldable pub has_key : List Key → Key → Bool
has_key [] k = false
has_key (j ∷ js) k = if same_key j k then true else has_key js k

-- the list, and after it what isn't in it yet
unfoldable pub with_key : List Key → Key → List Key
with_key ks k = if has_key ks k then ks else ks ++ k ∷ []

unfoldable pub with_keys : List Key → List Key → List Key
with_keys ks [] = ks
with_keys ks (n ∷ ns) = with_keys (with_key ks n) ns

-- the definitions in the order of their first place, where the root is read and then these bodies
unfoldable pub met : Key → List Body → List Key
met root bodies = with_keys (root ∷ []) (flat_map names bodies)

-- These are the definitions that are reached, by their numbers, and their bodies.
pub record Reached (body : Key → Option Body) (root : Key) (keys : List Key) (bodies : List Body) : Type 0 where
  -- each has a body
  pub each : map body keys ≡ map Some bodies
  -- they are numbered by their first place
  pub first : met root bodies ≡ keys
  -- each but the root stands in a body of a smaller number
  pub below : (i : ℕ) → i < length keys → i < length (met root (take i bodies))

-- ---- the whole

-- the nodes of all of them
unfoldable pub nodes : List Proc → ℕ
nodes [] = 0
nodes (p ∷ ps) = terms.size p + nodes ps

-- These are the bodies of what is reached from a root, by their numbers, and they keep the limits.
pub record Gathered (body : Key → Option Body) (root : Key) (ps : List Proc) : Type 0 where
  pub keys : List Key
  pub bodies : List Body
  pub reached : Reached body root keys bodies
  pub numbers : ps ≡ map (numbered (place keys)) bodies
  pub deep : All (λ p. terms.depth p ≤ 200) ps
  pub large : nodes ps ≤ 65536

-- The script with this tree denotes the alphabet and the bodies of this specification for a root.
pub record Denotes (t : Syntax) (root : Root) (spec : Specified) : Type 0 where
  pub entries : List Entry
  pub known : Known
  pub sets : KnownEvents
  -- what it declares, with at most 256 events
  pub declares : Declares t entries known spec.alphabet
  pub events : EventsStand spec.alphabet known entries sets
  -- what is reached from the root
  pub keys : List Key
  pub bodies : List Body
  pub reached : Reached (body_under root (record { entries = entries; channels = spec.alphabet; known = known; sets = sets })) (root_key root) keys bodies
  pub numbers : spec.bodies ≡ map (numbered (place keys)) bodies
  -- the limits of bodies
  pub deep : All (λ p. terms.depth p ≤ 200) spec.bodies
  pub large : nodes spec.bodies ≤ 65536
