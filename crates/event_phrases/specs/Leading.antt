-- The first values of a prefix, which are found once, and the events that fit it, one after the other.
use Rattle.std.specs.Prelude.{ℕ, suc, List, [], ◌∷◌, Option, Some, None, if◌then◌else◌}
use Rattle.alphabet.specs.Channels.{FieldValue, Values, Parts}
use Rattle.values.specs.Values.{◌>>=◌, Name, is_same}
use Rattle.values.specs.Worths.{Known}
use Rattle.values.specs.Names.{same_name}
use Rattle.event_phrases.specs.Events.{field_value, value_within}
use Rattle.event_phrases.specs.Forms.{FieldPhrase}
use Rattle.event_phrases.specs.Fitting.{Fitting, fitting}
use Rattle.event_phrases.specs.Scopes.{Scope}

unfoldable pub before_more : Option FieldValue → Values → Values
before_more None vs = []
before_more (Some v) vs = v ∷ vs

-- the values of the first fields, as far as they give one of their set
unfoldable pub leading : Known → List FieldPhrase → List Values → Values
leading known [] sets = []
leading known (f ∷ fs) [] = []
leading known (f ∷ fs) (set ∷ sets) = before_more (value_within (field_value known f) set) (leading known fs sets)

-- an event's values against fields of which the first ones have these values
unfoldable pub led_fitting : Values → List FieldPhrase → List Values → Values → Scope → Fitting
led_fitting [] fs sets vs s = fitting fs sets vs s
led_fitting (u ∷ us) (f ∷ fs) (set ∷ sets) (v ∷ vs) s = if is_same u v then led_fitting us fs sets vs s else Some None
led_fitting us fs sets vs s = None

-- an event against a phrase with this channel, these first values, these fields and their sets
unfoldable pub led_fits : Name → Values → List FieldPhrase → List Values → Scope → Parts → Fitting
led_fits c us fs sets s p = if same_name c p.channel then led_fitting us fs sets p.values s else Some None

-- an event that fits: its number, the scope after the fields, and the events after it
abbrev pub Fit : Type 0
Fit = ℕ × Scope × List Parts

unfoldable pub fit_or : ℕ → List Parts → Option (Option Fit) → Option Scope → Option (Option Fit)
fit_or a ps more None = more
fit_or a ps more (Some s) = Some (Some (a, s, ps))

-- the first of these events that fits, where a is the first one's number; nothing where a field is at fault before
unfoldable pub first_fit : (Parts → Fitting) → ℕ → List Parts → Option (Option Fit)
first_fit test a [] = Some None
first_fit test a (p ∷ ps) = test p >>= fit_or a ps (first_fit test (suc a) ps)
