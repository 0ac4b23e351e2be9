-- Phrases in memory as plain values.
use Rattle.std.specs.Prelude.{map}
use Rattle.syntax.specs.View.{shape, shapes}
use Rattle.event_phrases.specs.declared.forms.FieldPhrase.{FieldPhrase as HeldField}
use Rattle.event_phrases.specs.declared.forms.FieldPhrase.TheVariants as field_phrases
use Rattle.event_phrases.specs.declared.forms.EventPhrase.{EventPhrase as HeldEvent}
use Rattle.event_phrases.specs.declared.forms.EventPhrase.TheVariants as event_phrases
use Rattle.event_phrases.specs.declared.forms.SetPhrase.{SetPhrase as HeldSet}
use Rattle.event_phrases.specs.declared.forms.SetPhrase.TheVariants as set_phrases
use Rattle.event_phrases.specs.Forms.{FieldPhrase, given, input, input_from, field_of, EventPhrase, event, event_inside, event_chosen, event_of, SetPhrase, set_inside, set_called, nothing, everything, several, set_chosen, combined, set_phrase_of}

abbrev pub plain_field : {A : Type 0} → HeldField A → FieldPhrase
plain_field (field_phrases.Given t) = given (shape t.now)
plain_field (field_phrases.Input x) = input x.now
plain_field (field_phrases.InputFrom x t) = input_from x.now (shape t.now)

abbrev pub plain_event : {A : Type 0} → HeldEvent A → EventPhrase
plain_event (event_phrases.Event c ts) = event c.now (map field_of (shapes ts.now))
plain_event (event_phrases.Inside t) = event_inside (event_of (shape t.now))
plain_event (event_phrases.Chosen c t u) = event_chosen (shape c.now) (event_of (shape t.now)) (event_of (shape u.now))

abbrev pub plain_set : {A : Type 0} → HeldSet A → SetPhrase
plain_set (set_phrases.Inside t) = set_inside (set_phrase_of (shape t.now))
plain_set (set_phrases.Called n) = set_called n.now
plain_set set_phrases.Nothing = nothing
plain_set set_phrases.Everything = everything
plain_set (set_phrases.Several e ts) = several e (map event_of (shapes ts.now))
plain_set (set_phrases.Chosen c t u) = set_chosen (shape c.now) (set_phrase_of (shape t.now)) (set_phrase_of (shape u.now))
plain_set (set_phrases.Combined c t u) = combined c (set_phrase_of (shape t.now)) (set_phrase_of (shape u.now))
