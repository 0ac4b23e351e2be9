-- The printed channels are declared with the values of their fields.
use Rattle.std.proofs.Common.{◌≡◌, ℕ, suc, ◌<◌, ◌≤◌, pos, negsuc, List, [], ◌∷◌, ◌++◌, map, length, true, cond, Some, None, refl, ap, ◌∙◌, arith, append_assoc}
use Rattle.std.proofs.lemmas.Bool.{le-leb, false≢true}
use Rattle.std.proofs.lemmas.List.{length-append}
use Rattle.std.specs.Prelude.{int_lt, codes}
use Rattle.std.specs.List.{list_all, flat_map, range_with_len}
use Rattle.std.specs.Ordering.{is_lt, nat_cmp}
use Rattle.std.specs.BTreeSet.{insert_key}
use Rattle.std.specs.Cmp.Lexicographic.{slice_cmp}
use Rattle.std.specs.declared.cmp.Ordering.{Ordering}
use Rattle.std.specs.declared.cmp.Ordering.TheVariants.{Less, Equal, Greater}
use Rattle.alphabet.specs.Channels.{FieldValue, number, constant, Values, Channel, is_below, is_rising, value_text}
use Rattle.alphabet.specs.Elements.{In, here, there}
use Rattle.alphabet.proofs.Lists.{and-left, and-right}
use Rattle.term.specs.Proc.{Proc}
use Rattle.term.specs.Specs.{Specified}
use Rattle.syntax.specs.declared.form.Form.TheVariants as forms
use Rattle.values.specs.Values.{◌>>=◌, limited, value_cmp, set_of, fitting_set}
use Rattle.values.specs.Worths.{one, many, Known, the_only, the_number, the_value, the_set, all_values, set_of_all, set_with, nothing_of, negated, formed, worth, worths}
use Rattle.values.specs.Order.{value_total}
use Rattle.values.specs.Names.{Entry, channel, datatype, constant_name}
use Rattle.values.specs.Channels.{fields_of, with_channel, channels_of}
use Rattle.event_phrases.specs.Scopes.{Scope}
use Rattle.printing.specs.Names.{Name, constants, primed, datatype_name, datatype_primes}
use Rattle.printing.specs.Printed.{joined, gap, field_text, fields_text, channel_line, datatype_line, body_lines, printed}
use Rattle.read_back.proofs.Trees.{phrases, member_tree, values_tree, typed_entries, channel_entry, body_entry, body_entries, printed_primes, printed_entries}
use Rattle.read_back.proofs.Readable.{IsGiven}
use Rattle.read_back.proofs.Given.{AllGiven, limited_pos, limited_neg, turned, a_number}
use Rattle.read_back.proofs.Ordered.{Above, insert_front}

-- ---- sets of values

member_given : (s : Scope) (v : FieldValue) → IsGiven s v → worth s.known (member_tree v) ≡ Some (one v)
unfolding worth worths formed negated the_only the_number
member_given s (number (pos n)) h = ap (λ o. o >>= a_number) (limited_pos n h)
member_given s (number (negsuc n)) h =
    ap (λ o. ((o >>= a_number) >>= λ w. Some (w ∷ [])) >>= λ ws. formed forms.Negation ws) (limited_pos (suc n) h)
    ∙ ap (λ z. limited z >>= a_number) (turned n)
    ∙ ap (λ o. o >>= a_number) (limited_neg n h)
member_given s (constant n) h = ap (λ o. (o >>= λ w. Some (w ∷ [])) >>= λ ws. formed forms.Event ws) h

members_given : (s : Scope) (vs : Values) → AllGiven s vs → worths s.known (phrases (map member_tree vs)) ≡ Some (map one vs)
unfolding worths
members_given s [] h = refl
members_given s (v ∷ vs) h =
    ap (λ o. o >>= λ w. worths s.known (phrases (map member_tree vs)) >>= λ ws. Some (w ∷ ws)) (member_given s v h.0)
    ∙ ap (λ o. o >>= λ ws. Some (one v ∷ ws)) (members_given s vs h.1)

their_values : (vs : Values) → all_values (map one vs) ≡ Some vs
unfolding all_values the_value
their_values [] = refl
their_values (v ∷ vs) = ap (λ o. o >>= λ us. Some (v ∷ us)) (their_values vs)

less : (v w : FieldValue) → is_below v w ≡ true → value_cmp v w ≡ Less
less (number y) (number z) h = ap (λ b. cond b Less (cond (int_lt z y) Greater Equal)) h
less (number y) (constant n) h = refl
less (constant m) (number z) h = absurd (false≢true h)
less (constant m) (constant n) h = by (slice_cmp nat_cmp m n) h
  where
    by : (o : Ordering) → is_lt o ≡ true → o ≡ Less
    by Less h = refl
    by Equal h = absurd (false≢true h)
    by Greater h = absurd (false≢true h)

above_all : (v : FieldValue) (vs : Values) → list_all (λ w. is_below v w) vs ≡ true → Above value_cmp value_total v vs
above_all v [] h = tt
above_all v (w ∷ vs) h = (less v w (and-left (is_below v w) (list_all (λ w. is_below v w) vs) h), above_all v vs (and-right (is_below v w) (list_all (λ w. is_below v w) vs) h))

in_order : (vs : Values) → is_rising vs ≡ true → set_of vs ≡ vs
unfolding set_of
in_order [] h = refl
in_order (v ∷ vs) h =
    ap (λ us. insert_key value_cmp us v) (in_order vs (and-right (list_all (λ w. is_below v w) vs) (is_rising vs) h))
    ∙ insert_front value_cmp value_total v vs (above_all v vs (and-left (list_all (λ w. is_below v w) vs) (is_rising vs) h))

fits_set : (vs : Values) → length vs ≤ 65536 → fitting_set vs ≡ Some vs
unfolding fitting_set
fits_set vs h = ap (λ b. cond b (Some vs) None) (le-leb (length vs) 65536 h)

values_given : (s : Scope) (vs : Values) → AllGiven s vs → is_rising vs ≡ true → length vs ≤ 65536 → worth s.known (values_tree vs) ≡ Some (many vs)
unfolding worth worths formed nothing_of set_with set_of_all
values_given s [] h r l = refl
values_given s (v ∷ vs) h r l =
    ap (λ o. o >>= λ ws. formed forms.Set ws) (members_given s (v ∷ vs) h)
    ∙ ap (λ o. (o >>= λ us. Some (set_of us)) >>= λ us. fitting_set us >>= λ ts. Some (many ts)) (their_values (v ∷ vs))
    ∙ ap (λ us. fitting_set us >>= λ ts. Some (many ts)) (in_order (v ∷ vs) r)
    ∙ ap (λ o. o >>= λ ts. Some (many ts)) (fits_set (v ∷ vs) l)

-- ---- fields

-- each set is given by its text
abbrev pub AllFieldsGiven : Scope → List Values → Type 0
AllFieldsGiven s [] = Unit {0}
AllFieldsGiven s (vs ∷ fields) = (AllGiven s vs × (is_rising vs ≡ true) × (length vs ≤ 65536)) × AllFieldsGiven s fields

all_fields : (s : Scope) (fields : List Values) → AllFieldsGiven s fields → fields_of s.known (phrases (map values_tree fields)) ≡ Some fields
unfolding fields_of the_set
all_fields s [] h = refl
all_fields s (vs ∷ fields) h =
    ap (λ o. o >>= λ w. the_set w >>= λ us. fields_of s.known (phrases (map values_tree fields)) >>= λ fs. Some (us ∷ fs)) (values_given s vs h.0.0 h.0.1 h.0.2)
    ∙ ap (λ o. o >>= λ fs. Some (vs ∷ fs)) (all_fields s fields h.1)

-- ---- channels

module _ (s : Scope) (rest : List Entry) where
  channels_given : (cs : List Channel) → channels_of s.known rest ≡ Some [] → ((c : Channel) → In c cs → AllFieldsGiven s c.fields) → channels_of s.known (map channel_entry cs ++ rest) ≡ Some cs
  unfolding channels_of with_channel
  channels_given [] h g = h
  channels_given (c ∷ cs) h g =
      ap (λ o. o >>= with_channel s.known c.name (channel (phrases (map values_tree c.fields)))) (channels_given cs h (λ d i. g d (there i)))
      ∙ ap (λ o. o >>= λ fields. Some (record { name = c.name; fields = fields } ∷ cs)) (all_fields s c.fields (g c here))

  constants_pass : (ns : List Name) (cs : List Channel) → channels_of s.known rest ≡ Some cs → channels_of s.known (map (λ c. (c, constant_name)) ns ++ rest) ≡ Some cs
  unfolding channels_of with_channel
  constants_pass [] cs h = h
  constants_pass (n ∷ ns) cs h = ap (λ o. o >>= with_channel s.known n constant_name) (constants_pass ns cs h)

  typed_pass : (primes : ℕ) (ns : List Name) (cs : List Channel) → channels_of s.known rest ≡ Some cs → channels_of s.known (typed_entries primes ns ++ rest) ≡ Some cs
  unfolding channels_of with_channel
  typed_pass primes [] cs h = h
  typed_pass primes (n ∷ ns) cs h = ap (λ o. o >>= with_channel s.known (primed datatype_name primes) (datatype (n ∷ ns))) (constants_pass (n ∷ ns) cs h)

bodies_pass : (known : Known) (cs : List Channel) (primes : ℕ) (Ps : List Proc) (ks : List ℕ) → channels_of known (map (body_entry cs primes Ps) ks) ≡ Some []
unfolding channels_of with_channel
bodies_pass known cs primes Ps [] = refl
bodies_pass known cs primes Ps (k ∷ ks) = ap (λ o. o >>= with_channel known (body_entry cs primes Ps k).0 (body_entry cs primes Ps k).1) (bodies_pass known cs primes Ps ks)

pub printed_channels : (s : Scope) (spec : Specified) → ((c : Channel) → In c spec.alphabet → AllFieldsGiven s c.fields) → channels_of s.known (printed_entries spec) ≡ Some spec.alphabet
printed_channels s spec g =
    let cs = spec.alphabet in
    let defined = body_entries cs (printed_primes spec) spec.bodies in
    let typed = typed_entries (datatype_primes cs) (constants cs) in
    ap (channels_of s.known) (append_assoc typed (map channel_entry cs) defined)
    ∙ typed_pass s (map channel_entry cs ++ defined) (datatype_primes cs) (constants cs) cs
    (channels_given s defined cs (bodies_pass s.known cs (printed_primes spec) spec.bodies (range_with_len 0 (length spec.bodies))) g)

-- ---- a set in the text is no longer than the text

flat_longer : {X Y : Type 0} (f : X → List Y) (xs : List X) (x : X) → In x xs → length (f x) ≤ length (flat_map f xs)
flat_longer f [] x i = elim i [ ]
flat_longer f (y ∷ xs) x here = omega (arith, length-append (f y) (flat_map f xs))
flat_longer f (y ∷ xs) x (there i) = omega (arith, length-append (f y) (flat_map f xs), flat_longer f xs x i)

each_longer : (between : List ℕ) (ts : List (List ℕ)) → 0 < length between → length ts ≤ length (flat_map (λ u. between ++ u) ts)
each_longer between [] h = omega arith
each_longer between (t ∷ ts) h = omega (arith, length-append (between ++ t) (flat_map (λ u. between ++ u) ts), length-append between t, each_longer between ts h, h)

map_long : {X Y : Type 0} (f : X → Y) (xs : List X) → length (map f xs) ≡ length xs
map_long f [] = refl
map_long f (x ∷ xs) = ap suc (map_long f xs)

set_longer : (vs : Values) → length vs ≤ length (field_text vs)
set_longer [] = omega arith
set_longer (v ∷ vs) =
    let tail = flat_map (λ u. codes ", " ++ u) (map value_text vs) in
    let all = joined (codes ", ") (map value_text (v ∷ vs)) in
    let a = length-append (((123 ∷ []) ++ gap (v ∷ vs)) ++ all) (125 ∷ []) in
    let b = length-append ((123 ∷ []) ++ gap (v ∷ vs)) all in
    let c = length-append (value_text v) tail in
    let d = each_longer (codes ", ") (map value_text vs) (omega arith) in
    let e = map_long value_text vs in
    omega (arith, a, b, c, d, e)

tail_longer : (fields : List Values) (vs : Values) → In vs fields → length (field_text vs) ≤ length (flat_map (λ u. codes "." ++ u) (map field_text fields))
tail_longer [] vs i = elim i [ ]
tail_longer (f ∷ fields) vs here = omega (arith, length-append (46 ∷ field_text f) (flat_map (λ u. codes "." ++ u) (map field_text fields)))
tail_longer (f ∷ fields) vs (there i) = omega (arith, length-append (46 ∷ field_text f) (flat_map (λ u. codes "." ++ u) (map field_text fields)), tail_longer fields vs i)

field_longer : (fields : List Values) (vs : Values) → In vs fields → length (field_text vs) ≤ length (fields_text fields)
field_longer [] vs i = elim i [ ]
field_longer (f ∷ fields) vs i = omega (arith, joined_longer f fields vs i, length-append (codes " : ") (joined (codes ".") (map field_text (f ∷ fields))))
  where
    joined_longer : (f : Values) (fields : List Values) (vs : Values) → In vs (f ∷ fields) → length (field_text vs) ≤ length (joined (codes ".") (map field_text (f ∷ fields)))
    joined_longer f fields vs here = omega (arith, length-append (field_text f) (flat_map (λ u. codes "." ++ u) (map field_text fields)))
    joined_longer f fields vs (there i) = omega (arith, length-append (field_text f) (flat_map (λ u. codes "." ++ u) (map field_text fields)), tail_longer fields vs i)

line_longer : (c : Channel) (vs : Values) → In vs c.fields → length (field_text vs) ≤ length (channel_line c)
line_longer c vs i =
    omega (arith, field_longer c.fields vs i, length-append ((codes "channel " ++ c.name) ++ fields_text c.fields) (codes "\n"), length-append (codes "channel " ++ c.name) (fields_text c.fields))

pub printed_longer : (spec : Specified) (c : Channel) (vs : Values) → In c spec.alphabet → In vs c.fields → length vs ≤ length (printed spec)
printed_longer spec c vs i j =
    let cs = spec.alphabet in
    let typed = datatype_line (datatype_primes cs) (constants cs) in
    omega (arith, set_longer vs, line_longer c vs j, flat_longer channel_line cs c i, length-append typed (flat_map channel_line cs), length-append (typed ++ flat_map channel_line cs) (body_lines cs (printed_primes spec) spec.bodies))
