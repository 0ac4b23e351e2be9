-- Events held against the fields of a prefix.
use Rattle.std.specs.Prelude.{List, [], ◌∷◌, Option, Some, None, if◌then◌else◌}
use Rattle.alphabet.specs.Channels.{FieldValue, Values, Parts}
use Rattle.values.specs.Values.{Name, is_among, is_same}
use Rattle.values.specs.Names.{same_name}
use Rattle.event_phrases.specs.Forms.{FieldPhrase, given, input, input_from, no_field}
use Rattle.event_phrases.specs.Scopes.{Scope, with_input, unless_constant, value_by, values_by}

-- Nothing where a field is at fault; Some None where the event doesn't fit; else the scope after the fields.
abbrev pub Fitting : Type 0
Fitting = Option (Option Scope)

-- an event's value against a field that gives one: it is one of the field's set, and the event's value
unfoldable pub against : Values → FieldValue → Scope → Option FieldValue → Fitting
against set v s None = None
against set v s (Some w) = if is_among w set then (if is_same w v then Some (Some s) else Some None) else None

-- against an input: its name means the event's value
unfoldable pub against_input : FieldValue → Scope → Name → Fitting
against_input v s x = unless_constant s x (Some (Some (with_input s x v)))

-- against an input that ranges over what is also in a set
unfoldable pub against_part : FieldValue → Scope → Name → Option Values → Fitting
against_part v s x None = None
against_part v s x (Some part) = unless_constant s x (if is_among v part then Some (Some (with_input s x v)) else Some None)

-- against a field, whose set this is
unfoldable pub fits_field : FieldPhrase → Values → FieldValue → Scope → Fitting
fits_field (given t) set v s = against set v s (value_by s t)
fits_field (input x) set v s = against_input v s x
fits_field (input_from x t) set v s = against_part v s x (values_by s t)
fits_field no_field set v s = None

abbrev pub then_fits : Fitting → (Scope → Fitting) → Fitting
then_fits None more = None
then_fits (Some None) more = Some None
then_fits (Some (Some s)) more = more s

-- an event's values against the fields of a phrase, from left to right
unfoldable pub fitting : List FieldPhrase → List Values → Values → Scope → Fitting
fitting [] [] [] s = Some (Some s)
fitting (f ∷ fs) (set ∷ sets) (v ∷ vs) s = then_fits (fits_field f set v s) (λ inner. fitting fs sets vs inner)
fitting fs sets vs s = None

-- an event against a phrase with this channel, these fields and their sets
unfoldable pub event_fits : Name → List FieldPhrase → List Values → Scope → Parts → Fitting
event_fits c fs sets s p = if same_name c p.channel then fitting fs sets p.values s else Some None
