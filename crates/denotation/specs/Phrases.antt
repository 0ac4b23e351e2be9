-- Phrases for processes, by what they are made of, and what they denote.
use Rattle.std.specs.Prelude.{ℕ, suc, ◌+◌, List, [], ◌∷◌, ◌++◌, map, Bool, true, false, Option, Some, None, if◌then◌else◌}
use Rattle.alphabet.specs.Channels.{Values, Parts, events, event_count}
use Rattle.alphabet.specs.EventSets.{Set, has}
use Rattle.term.specs.Traces.{Pairs}
use Rattle.syntax.specs.declared.form.Form.{Form}
use Rattle.syntax.specs.declared.form.Form.TheVariants as forms
use Rattle.syntax.specs.declared.operator.Operator.{Operator}
use Rattle.syntax.specs.declared.operator.Operator.TheVariants as operators
use Rattle.syntax.specs.Grammar.{Syntax, Syntaxes, NoSyntax, MoreSyntax}
use Rattle.values.specs.Values.{◌>>=◌, Name}
use Rattle.values.specs.Worths.{Known, worth, condition, the_value, the_set}
use Rattle.values.specs.Names.{Meaning, parametric, meaning, is_process}
use Rattle.event_phrases.specs.Events.{unless_value, masked, two_masked, both, outside, set_of, pairs_of, in_order}
use Rattle.event_phrases.specs.Fitting.{Fitting, event_fits}
use Rattle.event_phrases.specs.Forms.{node_of, name_of, if_none, first_of, one_of, two_of, three_of, four_of, read_by, event_of}
use Rattle.event_phrases.specs.Prefixes.{prefix_parts}
use Rattle.event_phrases.specs.Scopes.{Scope, with_input, unless_constant, events_by}
use Rattle.denotation.specs.Bodies.{Body, stop, skip, prefix, ext, int, seq, par, hide, ren, intr, name, choice_of, halved}
use Rattle.denotation.specs.declared.draft.Joint.{Joint}
use Rattle.denotation.specs.declared.draft.Joint.TheVariants as joints
use Rattle.denotation.specs.declared.draft.Operation.{Operation}
use Rattle.denotation.specs.declared.draft.Operation.TheVariants as operations
use Rattle.denotation.specs.declared.forms.Join.{Join}
use Rattle.denotation.specs.declared.forms.Join.TheVariants as joins

-- ---- phrases

-- what stands between two processes: a join, `[| A |]` or `[ A || B ]`
pub data Between : Type 0 where
  with_join : Join → Between
  with_set : Syntax → Between
  with_sets : Syntax → Syntax → Between

-- a phrase for a process
pub data Phrase : Type 0 where
  stops : Phrase
  skips : Phrase
  called : Name → Phrase
  inside : Phrase → Phrase
  prefixed : Syntax → Phrase → Phrase
  joined : Between → Phrase → Phrase → Phrase
  hiding : Phrase → Syntax → Phrase
  renaming : Phrase → Syntaxes → Phrase
  conditional : Syntax → Phrase → Phrase → Phrase
  calling : Name → List Syntax → Phrase
  replicated : Join → List Syntax → Phrase → Phrase
  -- what is no phrase for a process
  other : Phrase

-- a part of a phrase, as it is written and as a phrase for a process
abbrev pub Part : Type 0
Part = Syntax × Phrase

-- the parts as they are written
unfoldable pub written : List Part → Syntaxes
written [] = NoSyntax
written (t ∷ ts) = MoreSyntax t.0 (written ts)

unfoldable pub joined_phrase : Join → List Part → Option Phrase
joined_phrase j ts = two_of ts >>= λ p. Some (joined (with_join j) p.0.1 p.1.1)

-- the generators of a list of them
unfoldable pub generators_form : Form → List Syntax → Option (List Syntax)
generators_form forms.Generators ts = Some ts
generators_form f ts = None

unfoldable pub generators_of : Syntax → Option (List Syntax)
generators_of t = node_of t >>= λ n. generators_form n.0 n.1

unfoldable pub replicated_phrase : Join → List Part → Option Phrase
replicated_phrase j ts = two_of ts >>= λ p. generators_of p.0.0 >>= λ gs. Some (replicated j gs p.1.1)

unfoldable pub operation_phrase : Operator → List Part → Option Phrase
operation_phrase operators.Prefix ts = two_of ts >>= λ p. Some (prefixed p.0.0 p.1.1)
operation_phrase operators.Sequence ts = joined_phrase joins.Sequence ts
operation_phrase operators.Interrupt ts = joined_phrase joins.Interrupt ts
operation_phrase operators.ExternalChoice ts = joined_phrase joins.External ts
operation_phrase operators.InternalChoice ts = joined_phrase joins.Internal ts
operation_phrase operators.Interleaving ts = joined_phrase joins.Interleaving ts
operation_phrase operators.Sharing ts = three_of ts >>= λ p. Some (joined (with_set p.1.0) p.0.1 p.2.1)
operation_phrase operators.Alphabetised ts = four_of ts >>= λ p. Some (joined (with_sets p.1.0 p.2.0) p.0.1 p.3.1)
operation_phrase operators.Hiding ts = two_of ts >>= λ p. Some (hiding p.0.1 p.1.0)
operation_phrase operators.Renaming ts = first_of ts >>= λ p. Some (renaming p.0.1 (written p.1))
operation_phrase operators.Guard ts = two_of ts >>= λ p. Some (conditional p.0.0 p.1.1 stops)
operation_phrase op ts = None

unfoldable pub form_phrase : Form → List Part → Option Phrase
form_phrase forms.Stop ts = if_none ts stops
form_phrase forms.Skip ts = if_none ts skips
form_phrase forms.Event ts = one_of ts >>= λ t. name_of t.0 >>= λ n. Some (called n)
form_phrase forms.If ts = three_of ts >>= λ p. Some (conditional p.0.0 p.1.1 p.2.1)
form_phrase forms.Brackets ts = one_of ts >>= λ t. Some (inside t.1)
form_phrase (forms.Operation op) ts = operation_phrase op ts
form_phrase forms.Call ts = first_of ts >>= λ p. name_of p.0.0 >>= λ n. Some (calling n (map (λ t. t.0) p.1))
form_phrase forms.ReplicatedExternal ts = replicated_phrase joins.External ts
form_phrase forms.ReplicatedInternal ts = replicated_phrase joins.Internal ts
form_phrase forms.ReplicatedInterleaving ts = replicated_phrase joins.Interleaving ts
form_phrase f ts = None

-- what a tree is as a phrase for a process
abbrev pub phrase_of : Syntax → Phrase
phrase_of t = read_by form_phrase other t

abbrev pub part : Syntax → Part
part t = (t, phrase_of t)

-- how much stands in one another in a phrase
unfoldable pub weight : Phrase → ℕ
weight stops = 1
weight (inside t) = suc (weight t)
weight (prefixed e t) = suc (weight t)
weight (joined m t u) = suc (weight t + weight u)
weight skips = 1
weight (called n) = 1
weight (hiding t a) = suc (weight t)
weight (renaming t ts) = suc (weight t)
weight (conditional c t u) = suc (weight t + weight u)
weight (calling f ts) = 1
weight (replicated j gs t) = suc (weight t)
weight other = 0

-- the name and the set of a generator
unfoldable pub generator_form : Form → List Syntax → Option (Name × Syntax)
generator_form forms.Generator ts = two_of ts >>= λ p. name_of p.0 >>= λ x. Some (x, p.1)
generator_form f ts = None

unfoldable pub generator_of : Syntax → Option (Name × Syntax)
generator_of t = node_of t >>= λ n. generator_form n.0 n.1

-- ---- prefixes

-- a branch after the event with this number, if it fits, and then the rest
abbrev pub branch_on : (Scope → Option Body) → ℕ → Option (List Body) → Option Scope → Option (List Body)
branch_on next a rest None = rest
branch_on next a rest (Some s) = next s >>= λ p. rest >>= λ ps. Some (prefix a p ∷ ps)

-- the branches of the events that fit, where a is the first one's number
unfoldable pub branches : (Parts → Fitting) → (Scope → Option Body) → ℕ → List Parts → Option (List Body)
branches test next a [] = Some []
branches test next a (p ∷ ps) = test p >>= branch_on next a (branches test next (suc a) ps)

-- `event -> P`: the choice over the events that fit
unfoldable pub prefixed_by : Scope → Syntax → (Scope → Option Body) → Option Body
prefixed_by s e next = prefix_parts s (event_of e) >>= λ p. branches (event_fits p.0 p.1 p.2 s) next 0 (events s.channels) >>= λ ps. Some (choice_of ps)

-- ---- calls

-- there is a phrase for each of these names
unfoldable pub is_for_all : List Name → List Syntax → Bool
is_for_all [] [] = true
is_for_all (x ∷ xs) (t ∷ ts) = is_for_all xs ts
is_for_all xs ts = false

-- a definition with as many parameters as there are phrases
unfoldable pub takes : Option Meaning → List Syntax → Bool
takes (Some (parametric xs t)) ts = is_for_all xs ts
takes m ts = false

-- the values that phrases mean
unfoldable pub arguments : Known → List Syntax → Option Values
arguments known [] = Some []
arguments known (t ∷ ts) = worth known t >>= λ w. the_value w >>= λ v. arguments known ts >>= λ vs. Some (v ∷ vs)

-- the process of a call; the name of an input hides a definition's
unfoldable pub called_with : Name → List Syntax → Scope → Option Body
called_with f ts s = unless_value (s.known f) (if takes (meaning s.entries f) ts then (arguments s.known ts >>= λ vs. Some (name (f, vs))) else None)

-- ---- replicated forms

-- the values of a generator, whose set doesn't see its own name
abbrev pub generator_values : Scope → Name → Syntax → Option Values
generator_values s x t = unless_constant s x (worth s.known t >>= λ w. the_set w)

-- what there is for an input with each of these values
unfoldable pub for_each : (Scope → Option (List Body)) → Scope → Name → Values → Option (List Body)
for_each next s x [] = Some []
for_each next s x (v ∷ vs) = next (with_input s x v) >>= λ ps. for_each next s x vs >>= λ qs. Some (ps ++ qs)

-- one for all values of the generators, of which the last is the fastest
unfoldable pub over : List Syntax → (Scope → Option Body) → Scope → Option (List Body)
over [] next s = next s >>= λ p. Some (p ∷ [])
over (g ∷ gs) next s = generator_of g >>= λ p. generator_values s p.0 p.1 >>= for_each (over gs next) s p.0

-- ---- joins

unfoldable pub join_of : Join → Body → Body → Body
join_of joins.Sequence = seq
join_of joins.Interrupt = intr
join_of joins.External = ext
join_of joins.Internal = int
join_of joins.Interleaving = par 0

-- two that are joined so, or that share the events of the set
unfoldable pub joint_of : Joint → Body → Body → Body
joint_of (joints.Join j) = join_of j
joint_of (joints.Sharing A) = par A

-- no processes, joined so
unfoldable pub none_of : Join → Body
none_of joins.Interleaving = skip
none_of j = stop

-- all of these joined so, where that is a replicated form
unfoldable pub all_joined : Join → List Body → Option Body
all_joined joins.Sequence ps = None
all_joined joins.Interrupt ps = None
all_joined joins.Internal [] = None
all_joined j ps = Some (halved (join_of j) (none_of j) ps)

-- a renaming without any pair is the process itself
unfoldable pub renamed : ℕ → Pairs → Body → Body
renamed n [] p = p
renamed n (r ∷ R) p = ren (in_order n (r ∷ R)) p

-- `P [ A || B ] Q`
abbrev pub alphabetised_by : Scope → Set × Set → Body → Body → Body
alphabetised_by s S p q =
    par (set_of s.channels (both (has S.0) (has S.1))) (par (set_of s.channels (outside (event_count s.channels) (has S.0))) p skip) (par (set_of s.channels (outside (event_count s.channels) (has S.1))) q skip)

-- what stands between two processes, with the events of its sets
unfoldable pub operation_of : Scope → Between → Option Operation
operation_of s (with_join j) = Some (operations.Joint (joints.Join j))
operation_of s (with_set a) = masked s.channels (events_by s a) >>= λ A. Some (operations.Joint (joints.Sharing A))
operation_of s (with_sets a b) = two_masked s.channels (events_by s a) (events_by s b) >>= λ S. Some (operations.Alphabetised S.0 S.1)

unfoldable pub composed : Scope → Operation → Body → Body → Body
composed s (operations.Joint k) = joint_of k
composed s (operations.Alphabetised A B) = alphabetised_by s (A, B)

-- ---- processes

-- the process that a phrase denotes; what a condition doesn't choose isn't looked at
unfoldable pub denoted : Phrase → Scope → Option Body
denoted stops s = Some stop
denoted (inside t) s = denoted t s
denoted (prefixed e t) s = prefixed_by s e (denoted t)
denoted (joined m t u) s = denoted t s >>= λ p. operation_of s m >>= λ o. denoted u s >>= λ q. Some (composed s o p q)
denoted skips s = Some skip
denoted (called n) s = unless_value (s.known n) (if is_process s.entries n then Some (name (n, [])) else None)
denoted (hiding t a) s = denoted t s >>= λ p. masked s.channels (events_by s a) >>= λ A. Some (hide A p)
denoted (renaming t ts) s = denoted t s >>= λ p. pairs_of s.channels s.known ts >>= λ R. Some (renamed (event_count s.channels) R p)
denoted (conditional c t u) s = condition s.known c >>= λ b. if b then denoted t s else denoted u s
denoted (calling f ts) s = called_with f ts s
denoted (replicated j gs t) s = over gs (denoted t) s >>= all_joined j
denoted other s = None
