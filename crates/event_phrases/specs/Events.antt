-- What event phrases and phrases for sets of events mean, where Sigma is known.
use Rattle.std.specs.Prelude.{◌≡◌, ℕ, zero, suc, ◌+◌, ◌^◌, List, [], ◌∷◌, ◌++◌, length, drop, Bool, true, false, not, ◌&&◌, ◌||◌, Option, Some, None, if◌then◌else◌, nat_eq, nat_lt, filter, map, ◌↔◌}
use Rattle.std.specs.List.{list_any, flat_map, range_with_len}
use Rattle.std.specs.Cmp.Lexicographic.{pointwise}
use Rattle.alphabet.specs.Channels.{FieldValue, Values, Channel, Parts, events, event_count}
use Rattle.alphabet.specs.EventSets.{Set}
use Rattle.term.specs.Traces.{Pairs}
use Rattle.syntax.specs.Grammar.{Syntax, Syntaxes, NoSyntax, MoreSyntax}
use Rattle.values.specs.Values.{◌>>=◌, Name, is_among, is_same}
use Rattle.values.specs.Worths.{Worth, one, many, truth, Known, worth, condition, the_value}
use Rattle.event_phrases.specs.declared.forms.Extent.{Extent}
use Rattle.event_phrases.specs.declared.forms.Extent.TheVariants as extents
use Rattle.event_phrases.specs.declared.forms.Combination.{Combination}
use Rattle.event_phrases.specs.declared.forms.Combination.TheVariants as combinations
use Rattle.event_phrases.specs.Forms.{FieldPhrase, given, EventPhrase, event, event_inside, event_chosen, no_event, event_parts, SetPhrase, set_inside, set_called, nothing, everything, several, set_chosen, combined, no_set, set_phrase_of, sides_of}
use Rattle.values.specs.Names.{Entry, Meaning, channel, datatype, constant_name, definition, parametric, meaning, same_name}

-- a set of events: which numbers are in it
abbrev pub Events : Type 0
Events = ℕ → Bool

abbrev pub no_events : Events
no_events a = false

-- what names of sets of events mean
abbrev pub KnownEvents : Type 0
KnownEvents = Name → Option Events

-- a name that means a value or a truth, as an input's name does, hides its other uses
abbrev pub unless_value : {X : Type 0} → Option Worth → Option X → Option X
unless_value None x = x
unless_value (Some (one v)) x = None
unless_value (Some (many vs)) x = x
unless_value (Some (truth b)) x = None

-- the fields of a channel
unfoldable pub fields_named : List Channel → Name → Option (List Values)
fields_named [] n = None
fields_named (c ∷ cs) n = if same_name n c.name then Some c.fields else fields_named cs n

-- the fields of a channel whose name isn't hidden
abbrev pub channel_fields : List Channel → Known → Name → Option (List Values)
channel_fields cs known n = unless_value (known n) (fields_named cs n)

-- ---- events by their values

-- a field that gives a value
unfoldable pub field_value : Known → FieldPhrase → Option FieldValue
field_value known (given t) = worth known t >>= the_value
field_value known f = None

-- the value, if it is one of a field's set
unfoldable pub value_within : Option FieldValue → Values → Option FieldValue
value_within None set = None
value_within (Some v) set = if is_among v set then Some v else None

-- the values that fields give, each of which is one of its field's
unfoldable pub field_values : Known → List FieldPhrase → List Values → Option Values
field_values known [] sets = Some []
field_values known (f ∷ fs) [] = None
field_values known (f ∷ fs) (set ∷ sets) = value_within (field_value known f) set >>= λ v. field_values known fs sets >>= λ vs. Some (v ∷ vs)

-- the values begin with these
unfoldable pub begins : Values → Values → Bool
begins [] vs = true
begins (u ∷ us) [] = false
begins (u ∷ us) (v ∷ vs) = is_same u v && begins us vs

-- a channel and the first values of its events
abbrev pub Beginning : Type 0
Beginning = Name × Values

-- what an event phrase without inputs gives: a channel and values of its first fields
unfoldable pub beginning : List Channel → Known → EventPhrase → Option Beginning
beginning cs known e = event_parts e >>= λ p. channel_fields cs known p.0 >>= λ sets. field_values known p.1 sets >>= λ vs. Some (p.0, vs)

-- an event begins so
unfoldable pub begins_so : Beginning → Parts → Bool
begins_so b p = same_name b.0 p.channel && begins b.1 p.values

-- the event with this number, if there is one, passes the test
unfoldable pub at_number : (Parts → Bool) → List Parts → ℕ → Bool
at_number test [] a = false
at_number test (p ∷ ps) zero = test p
at_number test (p ∷ ps) (suc a) = at_number test ps a

-- all events that begin so
abbrev pub beginning_so : List Channel → Beginning → Events
beginning_so cs b = at_number (begins_so b) (events cs)

-- the event that a phrase without inputs gives, which has all its fields
unfoldable pub whole_event : List Channel → Known → EventPhrase → Option Beginning
whole_event cs known (event c fs) = channel_fields cs known c >>= λ sets. if nat_eq (length fs) (length sets) then (field_values known fs sets >>= λ vs. Some (c, vs)) else None
whole_event cs known (event_inside e) = whole_event cs known e
whole_event cs known (event_chosen t e f) = condition known t >>= λ b. if b then whole_event cs known e else whole_event cs known f
whole_event cs known no_event = None

-- ---- sets of events

abbrev pub either : Events → Events → Events
either A B a = A a || B a

abbrev pub both : Events → Events → Events
both A B a = A a && B a

-- the events outside a set
abbrev pub outside : ℕ → Events → Events
outside n A a = nat_lt a n && not (A a)

-- an event is in the set that is made of two, where these say whether it is in them
unfoldable pub is_in_both : Combination → Bool → Bool → Bool
is_in_both combinations.Union a b = a || b
is_in_both combinations.Intersection a b = a && b
is_in_both combinations.Difference a b = a && not b

unfoldable pub combine : Combination → Events → Events → Events
combine c A B a = is_in_both c (A a) (B a)

-- the events of one phrase in a set
unfoldable pub gives : List Channel → Known → Extent → EventPhrase → Option Events
gives cs known extents.Beginnings e = beginning cs known e >>= λ b. Some (beginning_so cs b)
gives cs known extents.Events e = whole_event cs known e >>= λ b. Some (beginning_so cs b)

-- the events that these phrases give together, where this says what one gives
unfoldable pub together : (EventPhrase → Option Events) → List EventPhrase → Option Events
together given_by [] = Some no_events
together given_by (e ∷ es) = given_by e >>= λ A. together given_by es >>= λ B. Some (either A B)

-- what a phrase for a set of events means
unfoldable pub event_set : List Channel → Known → KnownEvents → SetPhrase → Option Events
event_set cs known sets (set_inside p) = event_set cs known sets p
event_set cs known sets (set_called n) = unless_value (known n) (sets n)
event_set cs known sets nothing = Some no_events
event_set cs known sets everything = Some (λ a. nat_lt a (event_count cs))
event_set cs known sets (several e es) = together (gives cs known e) es
event_set cs known sets (set_chosen c p q) = condition known c >>= λ b. if b then event_set cs known sets p else event_set cs known sets q
event_set cs known sets (combined c p q) = event_set cs known sets p >>= λ A. event_set cs known sets q >>= λ B. Some (combine c A B)
event_set cs known sets no_set = None

-- what a name with this meaning means
unfoldable pub events_of : List Channel → Known → KnownEvents → Meaning → Option Events
events_of cs known sets (channel ts) = None
events_of cs known sets (datatype ns) = None
events_of cs known sets constant_name = None
events_of cs known sets (definition t) = event_set cs known sets (set_phrase_of t)
events_of cs known sets (parametric xs t) = None

-- what names mean after so many steps, in each of which a definition is looked into
unfoldable pub events_in : List Channel → Known → List Entry → ℕ → KnownEvents
events_in cs known es zero n = None
events_in cs known es (suc k) n = meaning es n >>= events_of cs known (events_in cs known es k)

-- Each name means what it means after some number of steps, and nothing else.
abbrev pub EventsStand : List Channel → Known → List Entry → KnownEvents → Type 0
EventsStand cs known es sets = (n : Name) (A : Events) → (sets n ≡ Some A) ↔ ((k : ℕ) × (events_in cs known es k n ≡ Some A))

-- the events below n that are in the set, as one number: the lowest bit is tick's, and bit a + 1 is that of event a
unfoldable pub set_below : ℕ → Events → Set
set_below zero A = 0
set_below (suc n) A = (if A n then 2 ^ (suc n) else 0) + set_below n A

abbrev pub set_of : List Channel → Events → Set
set_of cs A = set_below (event_count cs) A

-- the same where there may be none
unfoldable pub masked : List Channel → Option Events → Option Set
masked cs o = o >>= λ A. Some (set_of cs A)

-- the masks of two sets
unfoldable pub two_masked : List Channel → Option Events → Option Events → Option (Set × Set)
two_masked cs o u = masked cs o >>= λ A. masked cs u >>= λ B. Some (A, B)

-- ---- renamings

-- an event has this channel and these values
abbrev pub is_event_of : Beginning → Parts → Bool
is_event_of b p = same_name b.0 p.channel && pointwise is_same b.1 p.values

-- the number of the event with these parts
unfoldable pub number_in : List Parts → Beginning → Option ℕ
number_in [] b = None
number_in (p ∷ ps) b = if is_event_of b p then Some 0 else (number_in ps b >>= λ a. Some (suc a))

-- the pairs of `left <- right`: each of these events that begins with the left side, and the event of the right side followed by the same remaining values; a is the number of the first one
unfoldable pub pairs_from : List Channel → Beginning → Beginning → ℕ → List Parts → Option Pairs
pairs_from cs left right a [] = Some []
pairs_from cs left right a (p ∷ ps) =
    if begins_so left p then (number_in (events cs) (right.0, right.1 ++ drop (length left.1) p.values) >>= λ b. pairs_from cs left right (suc a) ps >>= λ R. Some ((a, b) ∷ R))
    else pairs_from cs left right (suc a) ps

-- the pairs of one `left <- right`
unfoldable pub pair_of : List Channel → Known → Syntax → Option Pairs
pair_of cs known t = sides_of t >>= λ p. beginning cs known p.0 >>= λ left. beginning cs known p.1 >>= λ right. pairs_from cs left right 0 (events cs)

unfoldable pub pairs_of : List Channel → Known → Syntaxes → Option Pairs
pairs_of cs known NoSyntax = Some []
pairs_of cs known (MoreSyntax t ts) = pair_of cs known t >>= λ R. pairs_of cs known ts >>= λ S. Some (R ++ S)

unfoldable pub is_pair_of : Pairs → ℕ → ℕ → Bool
is_pair_of R a b = list_any (λ p. nat_eq p.0 a && nat_eq p.1 b) R

-- the pairs by their left and then by their right event, none twice
unfoldable pub in_order : ℕ → Pairs → Pairs
in_order n R = flat_map (λ a. map (λ b. (a, b)) (filter (is_pair_of R a) (range_with_len 0 n))) (range_with_len 0 n)
