-- The fields of channels, from sets of values in memory.
use Rattle.std.proofs.Common.{◌≡◌, ℕ, ◌≤◌, List, [], ◌∷◌, ◌++◌, map, length, Bool, true, false, cond, Option, Some, None, Vec, refl, sym, ap, ◌∙◌, append_assoc, append-nil, arith}
use Rattle.std.proofs.lemmas.List.{map-append}
use Rattle.std.specs.Prelude.{int_lt}
use Rattle.std.specs.List.{list_all, AllByRecursion}
use Rattle.std.specs.List.Sorted.{IsStrictlySortedBy}
use Rattle.std.specs.Ordering.{on, is_lt}
use Rattle.std.specs.declared.cmp.Ordering.TheVariants.{Less, Equal, Greater}
use Rattle.alphabet.specs.declared.field_value.Value.{Value as FieldStored}
use Rattle.alphabet.specs.Channels.{FieldValue, number, constant, Values, is_below, is_rising}
use Rattle.alphabet.specs.Stored.{value_of, field_of}
use Rattle.tokens.specs.declared.read_error.ReadError.{ReadError}
use Rattle.syntax.specs.declared.tree.Tree.{Tree}
use Rattle.syntax.specs.Grammar.{Syntax, Syntaxes, MoreSyntax}
use Rattle.syntax.specs.Parsing.{syntaxes}
use Rattle.syntax.specs.View.{shapes}
use Rattle.syntax.proofs.Failing.{fails_on}
use Rattle.values.specs.declared.value.Value.{Value}
use Rattle.values.specs.Values.{◌>>=◌, value_cmp}
use Rattle.values.specs.Worths.{Worth, Known, worth, the_set}
use Rattle.values.specs.Channels.{fields_of}
use Rattle.values.specs.View.{Fails, value}
use Rattle.declarations.specs.Sigma.{add_field}
use Rattle.declared_names.proofs.Chains.{both, left, right}
use Rattle.declarations.proofs.Turns.{left_from, no_left}

-- ---- a set, taken value by value

pub field_start : {A : Type 0} (fs : List (FieldStored A)) (vs : List (Value A)) → fs ≡ [] → map value_of fs ++ map value vs ≡ map value vs
field_start {A = A} fs vs h = ap (λ (xs : List (FieldStored A)). map value_of xs ++ map value vs) h

pub field_more : {A : Type 0} (fs new : List (FieldStored A)) (vs us : List (Value A)) (f : FieldStored A) (v : Value A) (whole : Values) → map value_of fs ++ map value vs ≡ whole → vs ≡ v ∷ us → value_of f ≡ value v → new ≡ fs ++ f ∷ [] → map value_of new ++ map value us ≡ whole
field_more fs new vs us f v whole inv h is put =
    ap (λ xs. map value_of xs ++ map value us) put
    ∙ ap (λ xs. xs ++ map value us) (map-append value_of fs (f ∷ []) ∙ ap (λ x. map value_of fs ++ x ∷ []) is)
    ∙ append_assoc (map value_of fs) (value v ∷ []) (map value us)
    ∙ sym (ap (λ xs. map value_of fs ++ map value xs) h) ∙ inv

pub field_end : {A : Type 0} (fs : List (FieldStored A)) (vs : List (Value A)) (whole : Values) → map value_of fs ++ map value vs ≡ whole → length vs ≡ 0 → map value_of fs ≡ whole
field_end fs [] whole inv h = sym (append-nil (map value_of fs)) ∙ inv
field_end fs (v ∷ vs) whole inv h = absurd (omega (arith, h))

-- ---- a set is in order

pub below : (v w : FieldValue) → value_cmp v w ≡ Less → is_below v w ≡ true
below (number y) (number z) h = by (int_lt y z) (int_lt z y) h
  where
    by : (b c : Bool) → cond b Less (cond c Greater Equal) ≡ Less → b ≡ true
    by true c h = refl
    by false true h = absurd cc
    by false false h = absurd cc
below (number y) (constant n) h = refl
below (constant m) (number z) h = absurd cc
below (constant m) (constant n) h = ap is_lt h

all_below : {A : Type 0} (v : Value A) (vs : List (Value A)) → AllByRecursion (λ y. on value value_cmp v y ≡ Less) vs → list_all (λ w. is_below (value v) w) (map value vs) ≡ true
all_below v [] h = refl
all_below v (w ∷ ws) h = both (is_below (value v) (value w)) (list_all (λ w. is_below (value v) w) (map value ws)) (below (value v) (value w) h.0) (all_below v ws h.1)

pub rising : {A : Type 0} (vs : List (Value A)) → IsStrictlySortedBy (on value value_cmp) vs → is_rising (map value vs) ≡ true
unfolding IsStrictlySortedBy
rising [] h = refl
rising (v ∷ vs) h = both (list_all (λ w. is_below (value v) w) (map value vs)) (is_rising (map value vs)) (all_below v vs h.0) (rising vs h.1)

-- ---- lists of fields

pub pushed_field : {A : Type 0} (fs new : List (Vec (FieldStored A) A)) (f : Vec (FieldStored A) A) (vs : Values) → new ≡ fs ++ f ∷ [] → field_of f ≡ vs → map field_of new ≡ map field_of fs ++ vs ∷ []
pushed_field fs new f vs h e = ap (map field_of) h ∙ map-append field_of fs (f ∷ []) ∙ ap (λ x. map field_of fs ++ x ∷ []) e

all_last : (fs : List Values) (vs : Values) → list_all is_rising fs ≡ true → is_rising vs ≡ true → list_all is_rising (fs ++ vs ∷ []) ≡ true
all_last [] vs h k = both (is_rising vs) true k refl
all_last (f ∷ fs) vs h k = both (is_rising f) (list_all is_rising (fs ++ vs ∷ [])) (left (is_rising f) (list_all is_rising fs) h) (all_last fs vs (right (is_rising f) (list_all is_rising fs) h) k)

pub pushed_rising : {A : Type 0} (fs new : List (Vec (FieldStored A) A)) (f : Vec (FieldStored A) A) (vs : Values) → new ≡ fs ++ f ∷ [] → field_of f ≡ vs → list_all is_rising (map field_of fs) ≡ true → is_rising vs ≡ true → list_all is_rising (map field_of new) ≡ true
pushed_rising fs new f vs h e a b = ap (list_all is_rising) (pushed_field fs new f vs h e) ∙ all_last (map field_of fs) vs a b

-- ---- fields one by one

abbrev some_fields : List Values → Option (List Values)
some_fields fs = Some fs

abbrev added_to : List Values → Option Worth → Option (List Values)
added_to front o = o >>= λ w. the_set w >>= λ vs. some_fields (front ++ vs ∷ [])

pub field_added : (known : Known) (front all : List Values) (t : Syntax) (w : Worth) (vs : Values) → worth known t ≡ Some w → the_set w ≡ Some vs → all ≡ front ++ vs ∷ [] → add_field known front t ≡ Some all
unfolding add_field
field_added known front all t w vs a b c = ap (added_to front) a ∙ ap (λ o. o >>= λ vs. some_fields (front ++ vs ∷ [])) b ∙ ap some_fields (sym c)

-- nothing is added where the phrase stands for nothing, or for no set
pub worth_fails : (k : ReadError) (known : Known) (front : List Values) (t : Syntax) → Fails k (worth known t) → Fails k (add_field known front t)
unfolding add_field
worth_fails k known front t h = fails_on k (worth known t) (add_field known front t) (ap (added_to front)) h

pub set_fails : (k : ReadError) (known : Known) (front : List Values) (t : Syntax) (w : Worth) → worth known t ≡ Some w → Fails k (the_set w) → Fails k (add_field known front t)
unfolding add_field
set_fails k known front t w e h = fails_on k (the_set w) (add_field known front t) (λ n. ap (added_to front) e ∙ ap (λ o. o >>= λ vs. some_fields (front ++ vs ∷ [])) n) h

-- all fields behind these
abbrev pub with_fields : Known → List Values → Syntaxes → Option (List Values)
with_fields known front ts = fields_of known ts >>= λ fs. some_fields (front ++ fs)

pub one_field : (known : Known) (front : List Values) (t : Syntax) (ts : Syntaxes) → with_fields known front (MoreSyntax t ts) ≡ (add_field known front t >>= λ fs. with_fields known fs ts)
unfolding add_field fields_of
one_field known front t ts = by (worth known t)
  where
    last : (vs : Values) (o : Option (List Values)) → ((o >>= λ fs. some_fields (vs ∷ fs)) >>= λ fs. some_fields (front ++ fs)) ≡ (o >>= λ fs. some_fields ((front ++ vs ∷ []) ++ fs))
    last vs None = refl
    last vs (Some fs) = ap some_fields (sym (append_assoc front (vs ∷ []) fs))

    inner : (o : Option Values) → ((o >>= λ vs. fields_of known ts >>= λ fs. some_fields (vs ∷ fs)) >>= λ fs. some_fields (front ++ fs)) ≡ ((o >>= λ vs. some_fields (front ++ vs ∷ [])) >>= λ fs. with_fields known fs ts)
    inner None = refl
    inner (Some vs) = last vs (fields_of known ts)

    by : (o : Option Worth) → ((o >>= λ w. the_set w >>= λ vs. fields_of known ts >>= λ fs. some_fields (vs ∷ fs)) >>= λ fs. some_fields (front ++ fs)) ≡ ((o >>= λ w. the_set w >>= λ vs. some_fields (front ++ vs ∷ [])) >>= λ fs. with_fields known fs ts)
    by None = refl
    by (Some w) = inner (the_set w)

pub all_start : {A : Type 0} (known : Known) (ts : List (Tree A)) (front : List Values) → front ≡ [] → with_fields known front (left_from ts 0) ≡ fields_of known (syntaxes (shapes ts))
all_start known ts front h = ap (λ x. with_fields known x (left_from ts 0)) h ∙ by (fields_of known (left_from ts 0))
  where
    by : (o : Option (List Values)) → (o >>= λ fs. some_fields fs) ≡ o
    by None = refl
    by (Some fs) = refl

pub all_end : {A : Type 0} (known : Known) (ts : List (Tree A)) (i : ℕ) (front : List Values) (whole : Option (List Values)) → with_fields known front (left_from ts i) ≡ whole → length ts ≤ i → whole ≡ Some front
unfolding fields_of
all_end known ts i front whole inv h = sym inv ∙ ap (with_fields known front) (no_left ts i h) ∙ ap some_fields (append-nil front)
