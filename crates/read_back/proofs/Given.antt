-- What the texts of values give, and which values are the same.
use Rattle.std.proofs.Common.{◌≡◌, ℕ, suc, ◌-◌, ◌<◌, ◌≤◌, ℤ, pos, negsuc, ◌-ℤ◌, List, [], ◌∷◌, map, Bool, true, false, cond, ◌&&◌, ◌||◌, Option, Some, None, refl, sym, ap, ◌∙◌, subst, arith}
use Rattle.std.proofs.lemmas.Bool.{le-leb, lt-ltb}
use Rattle.std.specs.List.{list_any}
use Rattle.alphabet.specs.Channels.{FieldValue, number, constant, Values, Parts, choices}
use Rattle.alphabet.specs.Elements.{In, here, there}
use Rattle.alphabet.proofs.Lists.{In-map, In-flat_map}
use Rattle.syntax.specs.declared.form.Form.TheVariants as forms
use Rattle.syntax.specs.Grammar.{Syntax}
use Rattle.values.specs.Values.{◌>>=◌, is_same, is_among, limited}
use Rattle.values.specs.Worths.{Worth, one, worth, worths, formed, negated, the_only, the_number, the_value}
use Rattle.event_phrases.specs.Events.{field_value, value_within, field_values}
use Rattle.event_phrases.specs.Forms.{part_list, node_of, name_of, if_none, first_of, one_of, read_by, parts_by, FieldPhrase, given, field_form, field_of, EventPhrase, event, no_event, event_form, event_of}
use Rattle.event_phrases.specs.Scopes.{Scope}
use Rattle.read_back.proofs.Trees.{value_tree, dotted_trees, event_tree}
use Rattle.read_back.proofs.Readable.{IsGiven}
use Rattle.denotation.specs.CallLaws.{value_same}

-- ---- values that are the same

pub among-In : (v : FieldValue) (vs : Values) → In v vs → is_among v vs ≡ true
unfolding is_among
among-In v [] i = elim i [ ]
among-In v (w ∷ vs) here = ap (λ b. b || list_any (is_same v) vs) (value_same v)
among-In v (w ∷ vs) (there i) = ap (λ b. is_same v w || b) (among-In v vs i) ∙ either (is_same v w)
  where
    either : (b : Bool) → (b || true) ≡ true
    either true = refl
    either false = refl

-- ---- values of an event's fields

-- a value of each field
abbrev pub AreChosen : Values → List Values → Type 0
AreChosen [] [] = Unit {0}
AreChosen [] (set ∷ sets) = ⊥
AreChosen (v ∷ vs) [] = ⊥
AreChosen (v ∷ vs) (set ∷ sets) = In v set × AreChosen vs sets

pub chosen : (sets : List Values) (vs : Values) → In vs (choices sets) → AreChosen vs sets
chosen [] vs i = only i
  where
    only : {ws : Values} → In ws ([] ∷ []) → AreChosen ws []
    only here = tt
    only (there j) = elim j [ ]
chosen (set ∷ sets) vs i =
    let r = In-flat_map (λ v. map (λ ws. v ∷ ws) (choices sets)) set i in
    let m = In-map (λ ws. r.0 ∷ ws) (choices sets) r.2 in
    subst (λ ws. AreChosen ws (set ∷ sets)) (sym m.2) (r.1, chosen sets m.0 m.1)

abbrev pub AllGiven : Scope → Values → Type 0
AllGiven s [] = Unit {0}
AllGiven s (v ∷ vs) = IsGiven s v × AllGiven s vs

-- ---- what the text of a value gives

pub limited_pos : (n : ℕ) → n ≤ 1000000 → limited (pos n) ≡ Some (pos n)
unfolding limited
limited_pos n h = ap (λ b. cond b (Some (pos n)) None) (le-leb n 1000000 h)

pub limited_neg : (n : ℕ) → n < 1000000 → limited (negsuc n) ≡ Some (negsuc n)
unfolding limited
limited_neg n h = ap (λ b. cond (b && true) (Some (negsuc n)) None) (le-leb n 999999 (omega (arith, h)))

abbrev pub a_number : ℤ → Option Worth
a_number z = Some (one (number z))

pub turned : (n : ℕ) → (pos 0 -ℤ pos (suc n)) ≡ negsuc n
turned n =
    let e : suc n - 1 ≡ n = omega arith in
    ap (λ b. cond b (negsuc (suc n - 1)) (pos (0 - suc n))) (lt-ltb 0 (suc n) (omega arith)) ∙ ap negsuc e

pub value_given : (s : Scope) (v : FieldValue) → IsGiven s v → worth s.known (value_tree v) ≡ Some (one v)
unfolding worth worths formed negated the_only the_number
value_given s (number (pos n)) h = ap (λ o. o >>= a_number) (limited_pos n h)
value_given s (number (negsuc n)) h =
    ap (λ o. ((o >>= a_number) >>= λ w. Some (w ∷ [])) >>= λ ws. formed forms.NegativeNumber ws) (limited_pos (suc n) h)
    ∙ ap (λ z. limited z >>= a_number) (turned n)
    ∙ ap (λ o. o >>= a_number) (limited_neg n h)
value_given s (constant n) h = ap (λ o. (o >>= λ w. Some (w ∷ [])) >>= λ ws. formed forms.Event ws) h

-- ---- an event as it is read

abbrev pub given_fields : Values → List FieldPhrase
given_fields vs = map (λ v. given (value_tree v)) vs

dotted_fields : (vs : Values) → map (λ (t : Syntax × EventPhrase). field_of t.0) (parts_by event_form no_event (dotted_trees vs)) ≡ given_fields vs
unfolding parts_by field_of field_form node_of part_list one_of if_none
dotted_fields [] = refl
dotted_fields (v ∷ vs) = ap (λ fs. given (value_tree v) ∷ fs) (dotted_fields vs)

pub event_read : (p : Parts) → event_of (event_tree p) ≡ event p.channel (given_fields p.values)
unfolding read_by parts_by event_form first_of name_of
event_read p = ap (event p.channel) (dotted_fields p.values)

pub field_given : (s : Scope) (v : FieldValue) → IsGiven s v → field_value s.known (given (value_tree v)) ≡ Some v
unfolding field_value the_value
field_given s v h = ap (λ o. o >>= the_value) (value_given s v h)

pub fields_given : (s : Scope) (vs : Values) (sets : List Values) → AllGiven s vs → AreChosen vs sets → field_values s.known (given_fields vs) sets ≡ Some vs
unfolding field_values value_within
fields_given s [] [] h k = refl
fields_given s [] (set ∷ sets) h k = absurd k
fields_given s (v ∷ vs) [] h k = absurd k
fields_given s (v ∷ vs) (set ∷ sets) h k =
    ap (λ o. value_within o set >>= λ w. field_values s.known (given_fields vs) sets >>= λ ws. Some (w ∷ ws)) (field_given s v h.0)
    ∙ ap (λ b. cond b (Some v) None >>= λ w. field_values s.known (given_fields vs) sets >>= λ ws. Some (w ∷ ws)) (among-In v set k.0)
    ∙ ap (λ o. o >>= λ ws. Some (v ∷ ws)) (fields_given s vs sets h.1 k.1)
