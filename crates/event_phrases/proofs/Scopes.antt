-- Scopes after inputs, values of fields, and slices.
use Rattle.std.proofs.Common.{◌≡◌, ℕ, zero, suc, ◌-◌, ◌<◌, ◌≤◌, List, [], ◌∷◌, ◌++◌, length, take, drop, get_or, Bool, true, false, cond, Option, Some, None, refl, sym, ap, ◌∙◌, arith, append-nil, append_assoc}
use Rattle.std.proofs.lemmas.List.{length-drop}
use Rattle.alphabet.specs.Channels.{FieldValue, Values}
use Rattle.tokens.specs.declared.read_error.ReadError.{ReadError}
use Rattle.values.specs.Values.{◌>>=◌, Name, is_among}
use Rattle.values.specs.Worths.{Worth, one, many, truth, Known}
use Rattle.values.specs.Tables.{behind, names_value}
use Rattle.values.specs.View.{Fails}
use Rattle.values.proofs.Inputs.{behind-more}
use Rattle.event_phrases.specs.Events.{unless_value, field_value, value_within, field_values}
use Rattle.event_phrases.specs.Forms.{FieldPhrase}
use Rattle.event_phrases.specs.Uses.{values_behind}
use Rattle.event_phrases.specs.Scopes.{Scope, with_input, within}
use Rattle.syntax.proofs.Failing.{fails_on}

unless_is : {X : Type 0} (o : Option Worth) (x : Option X) → unless_value o x ≡ cond (names_value o) None x
unfolding names_value
unless_is None x = refl
unless_is (Some (one v)) x = refl
unless_is (Some (many vs)) x = refl
unless_is (Some (truth b)) x = refl

pub hidden : {X : Type 0} (o : Option Worth) (x : Option X) → names_value o ≡ true → unless_value o x ≡ None
hidden o x h = unless_is o x ∙ ap (λ b. cond b None x) h

pub seen : {X : Type 0} (o : Option Worth) (x : Option X) → names_value o ≡ false → unless_value o x ≡ x
seen o x h = unless_is o x ∙ ap (λ b. cond b None x) h

abbrev at_input : Scope → Known → Scope
at_input s k = record s { known = k }

-- a scope after one more input
pub behind_input : (s : Scope) (is js : List (Name × FieldValue)) (x : Name) (v : FieldValue) → js ≡ is ++ (x, v) ∷ [] → within s js ≡ with_input (within s is) x v
behind_input s is js x v h = ap (within s) h ∙ ap (at_input s) (behind-more s.known is x v)

-- a scope without inputs
pub no_inputs : (s : Scope) (is : List (Name × FieldValue)) → is ≡ [] → within s is ≡ s
unfolding behind
no_inputs s is h = ap (within s) h

-- ---- values of fields

abbrev some_values : Values → Option Values
some_values vs = Some vs

pub no_fields : (known : Known) (sets : List Values) (front : Values) → values_behind front (field_values known [] sets) ≡ Some front
unfolding values_behind field_values
no_fields known sets front = ap some_values (append-nil front)

front_more : (front : Values) (v : FieldValue) (o : Option Values) → values_behind front (o >>= λ vs. Some (v ∷ vs)) ≡ values_behind (front ++ v ∷ []) o
unfolding values_behind
front_more front v None = refl
front_more front v (Some vs) = ap some_values (sym (append_assoc front (v ∷ []) vs))

-- a value that is one of a set
module _ (o : Option FieldValue) (set : Values) where
  pub kept_within : (v : FieldValue) → o ≡ Some v → is_among v set ≡ true → value_within o set ≡ Some v
  unfolding value_within
  kept_within v h a = ap (λ o. value_within o set) h ∙ ap (λ b. cond b (Some v) None) a

  pub left_out : (v : FieldValue) → o ≡ Some v → is_among v set ≡ false → value_within o set ≡ None
  unfolding value_within
  left_out v h a = ap (λ o. value_within o set) h ∙ ap (λ b. cond b (Some v) None) a

pub no_value_within : (k : ReadError) (o : Option FieldValue) (set : Values) → Fails k o → Fails k (value_within o set)
unfolding value_within
no_value_within k o set f = fails_on k o (value_within o set) (λ e. ap (λ o. value_within o set) e) f

module _ (known : Known) (f : FieldPhrase) (fs : List FieldPhrase) (set : Values) (sets : List Values) (front : Values) where
  abbrev then_more : FieldValue → Option Values
  then_more v = field_values known fs sets >>= λ vs. some_values (v ∷ vs)

  pub one_value : (v : FieldValue) → value_within (field_value known f) set ≡ Some v → values_behind front (field_values known (f ∷ fs) (set ∷ sets)) ≡ values_behind (front ++ v ∷ []) (field_values known fs sets)
  unfolding field_values
  one_value v h = ap (λ o. values_behind front (o >>= then_more)) h ∙ front_more front v (field_values known fs sets)

  pub value_fails : (k : ReadError) → Fails k (value_within (field_value known f) set) → Fails k (values_behind front (field_values known (f ∷ fs) (set ∷ sets)))
  unfolding values_behind field_values
  value_fails k g = fails_on k (value_within (field_value known f) set) (values_behind front (field_values known (f ∷ fs) (set ∷ sets))) (λ e. ap (λ o. values_behind front (o >>= then_more)) e) g

-- without values in front
pub from_none : (o : Option Values) → values_behind [] o ≡ o
unfolding values_behind
from_none None = refl
from_none (Some vs) = refl

-- ---- slices

pub take_whole : {A : Type 0} (n : ℕ) (xs : List A) → length xs ≤ n → take n xs ≡ xs
take_whole zero [] h = refl
take_whole zero (x ∷ xs) h = absurd (omega (arith, h))
take_whole (suc n) [] h = refl
take_whole (suc n) (x ∷ xs) h = ap (λ ys. x ∷ ys) (take_whole n xs (omega (arith, h)))

pub no_items : {X : Type 0} (xs : List X) → length xs < 1 → xs ≡ []
no_items [] h = refl
no_items (x ∷ xs) h = absurd (omega (arith, h))

pub first_item : {X : Type 0} (xs : List X) (x : X) → 1 ≤ length xs → x ≡ get_or xs 0 x → xs ≡ x ∷ drop 1 xs
first_item [] x h is = absurd (omega (arith, h))
first_item (y ∷ ys) x h is = ap (λ z. z ∷ ys) (sym is)

-- the items after the first, as the code sees them
pub rest_is : {X : Type 0} (xs : List X) → take (length xs - 1) (drop 1 xs) ≡ drop 1 xs
rest_is xs = take_whole (length xs - 1) (drop 1 xs) (omega (arith, length-drop 1 xs))

pub no_sets : (known : Known) (f : FieldPhrase) (fs : List FieldPhrase) (front : Values) → values_behind front (field_values known (f ∷ fs) []) ≡ None
unfolding values_behind field_values
no_sets known f fs front = refl
