-- Beginnings and events, step by step.
use Rattle.std.proofs.Common.{◌≡◌, ◌<◌, List, [], ◌∷◌, length, Bool, true, false, cond, nat_eq, Option, Some, None, refl, sym, ap, ◌∙◌, arith}
use Rattle.std.specs.Option.{option_map}
use Rattle.alphabet.specs.Channels.{Values, Channel}
use Rattle.syntax.specs.Grammar.{Syntax}
use Rattle.tokens.specs.declared.read_error.ReadError.{ReadError}
use Rattle.values.specs.Values.{◌>>=◌, Name}
use Rattle.values.specs.Worths.{Known, condition}
use Rattle.values.specs.View.{Fails}
use Rattle.event_phrases.specs.Events.{Beginning, channel_fields, field_value, value_within, field_values, beginning, whole_event}
use Rattle.event_phrases.specs.Forms.{FieldPhrase, EventPhrase, event, event_chosen, event_parts}
use Rattle.event_phrases.proofs.Options.{bind_none}
use Rattle.syntax.proofs.Failing.{fails_on}

abbrev some_values : Values → Option Values
some_values vs = Some vs

abbrev pub begun : Name → Values → Option Beginning
begun c vs = Some (c, vs)

abbrev pub begun_with : Name → Values → Beginning
begun_with c vs = (c, vs)

mapped : (c : Name) (o : Option Values) → (o >>= λ vs. begun c vs) ≡ option_map (begun_with c) o
mapped c None = refl
mapped c (Some vs) = refl

pub begun_fails : (k : ReadError) (c : Name) (o : Option Values) → Fails k o → Fails k (option_map (begun_with c) o)
begun_fails k c o f = fails_on k o (option_map (begun_with c) o) (λ e. ap (option_map (begun_with c)) e) f

-- more fields than sets give nothing
pub too_many : (known : Known) (fs : List FieldPhrase) (sets : List Values) → length sets < length fs → field_values known fs sets ≡ None
unfolding field_values
too_many known [] sets h = absurd (omega (arith, h))
too_many known (f ∷ fs) [] h = refl
too_many known (f ∷ fs) (set ∷ sets) h =
    bind_none (value_within (field_value known f) set) (λ v. field_values known fs sets >>= λ vs. some_values (v ∷ vs)) (λ v. ap (λ o. o >>= λ vs. some_values (v ∷ vs)) (too_many known fs sets (omega (arith, h))))

module _ (cs : List Channel) (known : Known) where
  abbrev begin_in : Name → List FieldPhrase → Option (List Values) → Option Beginning
  begin_in c fs o = o >>= λ sets. field_values known fs sets >>= λ vs. begun c vs

  abbrev begin_by : Option (Name × List FieldPhrase) → Option Beginning
  begin_by o = o >>= λ p. begin_in p.0 p.1 (channel_fields cs known p.0)

  pub begins_not : (e : EventPhrase) → None ≡ event_parts e → beginning cs known e ≡ None
  unfolding beginning
  begins_not e h = ap begin_by (sym h)

  abbrev parts_as : Name → List FieldPhrase → Option (Name × List FieldPhrase)
  parts_as c fs = Some (c, fs)

  module _ (e : EventPhrase) (c : Name) (fs : List FieldPhrase) (h : parts_as c fs ≡ event_parts e) where
    pub begin_none : None ≡ channel_fields cs known c → beginning cs known e ≡ None
    unfolding beginning
    begin_none f = ap begin_by (sym h) ∙ ap (begin_in c fs) (sym f)

    pub begin_made : (sets : List Values) → Some sets ≡ channel_fields cs known c → beginning cs known e ≡ option_map (begun_with c) (field_values known fs sets)
    unfolding beginning
    begin_made sets f = ap begin_by (sym h) ∙ ap (begin_in c fs) (sym f) ∙ mapped c (field_values known fs sets)

  -- the event of a channel and fields
  module _ (c : Name) (fs : List FieldPhrase) where
    abbrev whole_in : Option (List Values) → Option Beginning
    whole_in o = o >>= λ sets. cond (nat_eq (length fs) (length sets)) (field_values known fs sets >>= λ vs. begun c vs) None

    pub whole_none : None ≡ channel_fields cs known c → whole_event cs known (event c fs) ≡ None
    unfolding whole_event
    whole_none f = ap whole_in (sym f)

    module _ (sets : List Values) (f : Some sets ≡ channel_fields cs known c) where
      whole_so_far : (b : Bool) → nat_eq (length fs) (length sets) ≡ b → whole_event cs known (event c fs) ≡ cond b (field_values known fs sets >>= λ vs. begun c vs) None
      unfolding whole_event
      whole_so_far b e = ap whole_in (sym f) ∙ ap (λ b. cond b (field_values known fs sets >>= λ vs. begun c vs) None) e

      pub whole_lacks : (length fs ≡ length sets → ⊥) → whole_event cs known (event c fs) ≡ None
      whole_lacks n = whole_so_far false (grind (arith, n))

      pub whole_made : length fs ≡ length sets → whole_event cs known (event c fs) ≡ option_map (begun_with c) (field_values known fs sets)
      whole_made l = whole_so_far true (grind (arith, l)) ∙ mapped c (field_values known fs sets)

  -- a choice of two
  module _ (t : Syntax) (e f : EventPhrase) where
    abbrev choice : Option Bool → Option Beginning
    choice o = o >>= λ b. cond b (whole_event cs known e) (whole_event cs known f)

    pub choice_fails : (k : ReadError) → Fails k (condition known t) → Fails k (whole_event cs known (event_chosen t e f))
    unfolding whole_event
    choice_fails k h = fails_on k (condition known t) (whole_event cs known (event_chosen t e f)) (λ n. ap choice n) h

    pub choice_so : (b : Bool) → condition known t ≡ Some b → whole_event cs known (event_chosen t e f) ≡ cond b (whole_event cs known e) (whole_event cs known f)
    unfolding whole_event
    choice_so b h = ap choice h
