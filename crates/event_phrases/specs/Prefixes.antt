-- The channel and the fields of a prefix, and what its fields say where the channel has no event.
use Rattle.std.specs.Prelude.{List, [], ◌∷◌, length, map, filter, Bool, true, false, Option, Some, None, if◌then◌else◌, nat_eq}
use Rattle.alphabet.specs.Channels.{Values}
use Rattle.values.specs.Values.{◌>>=◌, Name, is_among}
use Rattle.event_phrases.specs.Events.{channel_fields}
use Rattle.event_phrases.specs.Forms.{FieldPhrase, given, input, input_from, no_field, EventPhrase, event_parts}
use Rattle.event_phrases.specs.Scopes.{Scope, with_input, unless_constant, value_by, values_by}

-- the scopes after a field, one for each value of its set that it lets through; nothing where the field is at fault
unfoldable pub scopes_after : FieldPhrase → Values → Scope → Option (List Scope)
scopes_after (given t) set s = value_by s t >>= λ v. if is_among v set then Some (s ∷ []) else None
scopes_after (input x) set s = unless_constant s x (Some (map (with_input s x) set))
scopes_after (input_from x t) set s = unless_constant s x (values_by s t >>= λ part. Some (map (with_input s x) (filter (λ v. is_among v part) set)))
scopes_after no_field set s = None

-- nothing is at fault at each of these
unfoldable pub all_pass : {X : Type 0} → (X → Option (Unit {0})) → List X → Option (Unit {0})
all_pass test [] = Some tt
all_pass test (x ∷ xs) = test x >>= λ u. all_pass test xs

-- No field is at fault, where each is looked at in all scopes after those before it: what is after a field that lets no value through isn't looked at.
unfoldable pub fields_pass : List FieldPhrase → List Values → Scope → Option (Unit {0})
fields_pass (f ∷ fs) (set ∷ sets) s = scopes_after f set s >>= all_pass (fields_pass fs sets)
fields_pass fs sets s = Some tt

-- a channel whose fields have these values has an event
unfoldable pub has_event : List Values → Bool
has_event [] = true
has_event ([] ∷ sets) = false
has_event ((v ∷ vs) ∷ sets) = has_event sets

-- Where there is an event, each field that is at fault is so for one of the events.
unfoldable pub at_no_fault : List FieldPhrase → List Values → Scope → Option (Unit {0})
at_no_fault fs sets s = if has_event sets then Some tt else fields_pass fs sets s

-- the channel of an event phrase before `->`, its fields and their sets
unfoldable pub prefix_parts : Scope → EventPhrase → Option (Name × List FieldPhrase × List Values)
prefix_parts s e =
    event_parts e >>= λ p. channel_fields s.channels s.known p.0 >>= λ sets. if nat_eq (length p.1) (length sets) then (at_no_fault p.1 sets s >>= λ u. Some (p.0, p.1, sets)) else None
