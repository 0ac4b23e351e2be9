-- The names of an alphabet's events: no two are the same, and none is tick's.
use Rattle.std.proofs.Common.{◌≡◌, ℕ, true, false, not, nat_eq, List, [], ◌∷◌, ◌++◌, map, refl, sym, ap, ◌∙◌, subst, arith, pos, negsuc, nat_lt}
use Rattle.std.proofs.lemmas.Bool.{false≢true, not-true}
use Rattle.std.proofs.lemmas.Bool.Decides.{nat_tests}
use Rattle.std.proofs.lemmas.List.{map-append}
use Rattle.std.proofs.lemmas.Map.Text.{is_eq-slice_cmp}
use Rattle.std.specs.declared.cmp.Ordering.{Ordering}
use Rattle.std.specs.declared.cmp.Ordering.TheVariants.{Less, Equal, Greater}
use Rattle.std.specs.List.{flat_map, list_all}
use Rattle.std.specs.Ordering.{nat_cmp, is_lt, is_eq}
use Rattle.std.specs.Cmp.Lexicographic.{pointwise, slice_cmp, bytes_decides}
use Rattle.alphabet.specs.Names.{is_letter, is_name, tick_name}
use Rattle.alphabet.specs.Channels.{FieldValue, number, constant, Values, Channel, Parts, dotted, event_text, choices, channel_events, events, names, is_below, is_rising, is_value, is_field, is_in_range, is_declared, are_distinct, IsAlphabet}
use Rattle.alphabet.specs.Naming.{own_names}
use Rattle.alphabet.specs.Elements.{In, here, there, Distinct}
use Rattle.alphabet.proofs.Lists.{In-map, In-under_map, In-flat_map, Distinct-append, Distinct-map, and-left, and-right, all-In, none-In}
use Rattle.alphabet.proofs.Texts.{IsPlain, ArePlain, no_dot_name, first_of_name, same_front, same_values}

-- ---- the ways to take a value of each field

abbrev with_each : Values → List Values → List Values
with_each vs rest = flat_map (λ v. map (λ ws. v ∷ ws) rest) vs

each_distinct : (vs : Values) (rest : List Values) → Distinct vs → Distinct rest → Distinct (with_each vs rest)
each_distinct [] rest d e = tt
each_distinct (v ∷ vs) rest d e =
    Distinct-append (map (λ ws. v ∷ ws) rest) (with_each vs rest)
    (Distinct-map (λ ws. v ∷ ws) rest (λ x y i j f. cc) e)
    (each_distinct vs rest d.1 e)
    (λ x i j.
    let l = In-map (λ ws. v ∷ ws) rest i in
    let r = In-flat_map (λ w. map (λ ws. w ∷ ws) rest) vs j in
    let m = In-map (λ ws. r.0 ∷ ws) rest r.2 in
    let same : v ≡ r.0 = cc (l.2, m.2) in
    d.0 (subst (λ w. In w vs) (sym same) r.1))

abbrev AllDistinct : List Values → Type 0
AllDistinct [] = Unit {0}
AllDistinct (f ∷ fs) = Distinct f × AllDistinct fs

choices_distinct : (fs : List Values) → AllDistinct fs → Distinct (choices fs)
choices_distinct [] d = ((λ i. elim i [ ]), tt)
choices_distinct (f ∷ fs) d = each_distinct f (choices fs) d.0 (choices_distinct fs d.1)

abbrev AllPlain : List Values → Type 0
AllPlain [] = Unit {0}
AllPlain (f ∷ fs) = ((v : FieldValue) → In v f → IsPlain v) × AllPlain fs

choices_plain : (fs : List Values) (vs : Values) → AllPlain fs → In vs (choices fs) → ArePlain vs
choices_plain [] vs p here = tt
choices_plain [] vs p (there i) = elim i [ ]
choices_plain (f ∷ fs) vs p i =
    let r = In-flat_map (λ v. map (λ ws. v ∷ ws) (choices fs)) f i in
    let m = In-map (λ ws. r.0 ∷ ws) (choices fs) r.2 in
    subst ArePlain (sym m.2) (p.0 r.0 r.1, choices_plain fs m.0 p.1 m.1)

-- ---- the fields of an alphabet's channels

not_less : (n : ℕ) → nat_lt n n ≡ false
not_less n = grind (arith, nat_tests)

not_lt_if_eq : (o : Ordering) → is_eq o ≡ true → is_lt o ≡ false
not_lt_if_eq Less e = absurd (false≢true e)
not_lt_if_eq Equal e = refl
not_lt_if_eq Greater e = refl

no_below_itself : (v : FieldValue) → is_below v v ≡ false
no_below_itself (number (pos n)) = not_less n
no_below_itself (number (negsuc n)) = not_less n
no_below_itself (constant n) = not_lt_if_eq (slice_cmp nat_cmp n n) (is_eq-slice_cmp n n ∙ (bytes_decides n n).1 refl)

rising_distinct : (vs : Values) → is_rising vs ≡ true → Distinct vs
rising_distinct [] h = tt
rising_distinct (v ∷ vs) h = (
  (λ i. false≢true (sym (no_below_itself v) ∙ all-In (λ w. is_below v w) vs (and-left (list_all (λ w. is_below v w) vs) (is_rising vs) h) i)),
  rising_distinct vs (and-right (list_all (λ w. is_below v w) vs) (is_rising vs) h),
)

fields_distinct : (fs : List Values) → list_all is_field fs ≡ true → AllDistinct fs
fields_distinct [] h = tt
fields_distinct (f ∷ fs) h = (
  rising_distinct f (and-right (list_all is_value f) (is_rising f) (and-left (is_field f) (list_all is_field fs) h)),
  fields_distinct fs (and-right (is_field f) (list_all is_field fs) h),
)

fields_plain : (fs : List Values) → list_all is_field fs ≡ true → list_all (list_all is_in_range) fs ≡ true → AllPlain fs
fields_plain [] h k = tt
fields_plain (f ∷ fs) h k = (
  (λ v i. (
    all-In is_value f (and-left (list_all is_value f) (is_rising f) (and-left (is_field f) (list_all is_field fs) h)) i,
    all-In is_in_range f (and-left (list_all is_in_range f) (list_all (list_all is_in_range) fs) k) i,
  )),
  fields_plain fs (and-right (is_field f) (list_all is_field fs) h) (and-right (list_all is_in_range f) (list_all (list_all is_in_range) fs) k),
)

-- ---- the names

-- what an alphabet keeps of one channel
pub record IsSound (c : Channel) : Type 0 where
  pub named : is_name c.name ≡ true
  pub fielded : list_all is_field c.fields ≡ true
  pub ranged : list_all (list_all is_in_range) c.fields ≡ true

-- a name of the channel's events
named_by : (c : Channel) (n : List ℕ) → In n (own_names c) → (vs : Values) × In vs (choices c.fields) × (n ≡ c.name ++ dotted vs)
named_by c n i =
    let p = In-map event_text (channel_events c) i in
    let q = In-map (λ vs. record { channel = c.name; values = vs }) (choices c.fields) p.1 in
    (q.0, q.1, p.2 ∙ ap event_text q.2)

own_distinct : (c : Channel) → IsSound c → Distinct (own_names c)
own_distinct c s =
    Distinct-map event_text (channel_events c)
    (λ x y i j e.
    let p = In-map (λ vs. record { channel = c.name; values = vs }) (choices c.fields) i in
    let q = In-map (λ vs. record { channel = c.name; values = vs }) (choices c.fields) j in
    let plain = fields_plain c.fields s.fielded s.ranged in
    let t : c.name ++ dotted p.0 ≡ c.name ++ dotted q.0 = ap event_text (sym p.2) ∙ e ∙ ap event_text q.2 in
    let f = same_front c.name c.name p.0 q.0 (no_dot_name c.name s.named) (no_dot_name c.name s.named) t in
    let v : p.0 ≡ q.0 = same_values p.0 q.0 (choices_plain c.fields p.0 plain p.1) (choices_plain c.fields q.0 plain q.1) f.1 in
    p.2 ∙ ap (λ vs. record { channel = c.name; values = vs }) v ∙ sym q.2)
    (Distinct-map (λ vs. record { channel = c.name; values = vs }) (choices c.fields)
    (λ x y i j e. ap (λ (p : Parts). p.values) e)
    (choices_distinct c.fields (fields_distinct c.fields s.fielded)))

-- two channels share no name of an event
channels_apart : (c d : Channel) (n : List ℕ) → IsSound c → IsSound d → In n (own_names c) → In n (own_names d) → c.name ≡ d.name
channels_apart c d n s t i j =
    let p = named_by c n i in
    let q = named_by d n j in
    (same_front c.name d.name p.0 q.0 (no_dot_name c.name s.named) (no_dot_name d.name t.named) (sym p.2 ∙ q.2)).0

-- ---- the names of all channels

names-cons : (c : Channel) (cs : List Channel) → names (c ∷ cs) ≡ own_names c ++ names cs
unfolding names
names-cons c cs = map-append event_text (channel_events c) (events cs)

In-names : (cs : List Channel) (n : List ℕ) → In n (names cs) → (c : Channel) × In c cs × In n (own_names c)
unfolding names
In-names cs n i =
    let p = In-map event_text (events cs) i in
    let q = In-flat_map channel_events cs p.1 in
    (q.0, q.1, subst (λ m. In m (own_names q.0)) (sym p.2) (In-under_map event_text (channel_events q.0) q.2))

other_name : (c d : Channel) (cs : List Channel) → is_declared cs c.name ≡ false → In d cs → c.name ≡ d.name → ⊥
other_name c d cs h i e = false≢true (sym (none-In (λ x. pointwise nat_eq c.name x.name) cs h i) ∙ (bytes_decides c.name d.name).1 e)

none_distinct : Distinct (names [])
unfolding names
none_distinct = tt

all_distinct : (cs : List Channel) → ((c : Channel) → In c cs → IsSound c) → are_distinct cs ≡ true → Distinct (names cs)
all_distinct [] sound d = none_distinct
all_distinct (c ∷ cs) sound d =
    let apart : is_declared cs c.name ≡ false = not-true (is_declared cs c.name) (and-left (not (is_declared cs c.name)) (are_distinct cs) d) in
    rw (names-cons c cs)
    (Distinct-append (own_names c) (names cs)
    (own_distinct c (sound c here))
    (all_distinct cs (λ e i. sound e (there i)) (and-right (not (is_declared cs c.name)) (are_distinct cs) d))
    (λ n i j.
    let o = In-names cs n j in
    other_name c o.0 cs apart o.1 (channels_apart c o.0 n (sound c here) (sound o.0 (there o.1)) i o.2)))

sound_channel : (cs : List Channel) → IsAlphabet cs → (c : Channel) → In c cs → IsSound c
sound_channel cs a c i =
    record {
      named = all-In (λ d. is_name d.name) cs a.named i;
      fielded = all-In (λ d. list_all is_field d.fields) cs a.fielded i;
      ranged = all-In (λ d. list_all (list_all is_in_range) d.fields) cs a.ranged i;
    }

-- no two events have one name
pub names_distinct : (cs : List Channel) → IsAlphabet cs → Distinct (names cs)
names_distinct cs a = all_distinct cs (sound_channel cs a) a.distinct

tick_is_no_name : (n : List ℕ) (vs : Values) → is_name n ≡ true → n ++ dotted vs ≡ tick_name → ⊥
tick_is_no_name n vs h e =
    let f = first_of_name n h in
    let t : f.0 ∷ (f.1 ++ dotted vs) ≡ tick_name = rw f.2 at e in
    let u : f.0 ≡ 95 = cc in
    false≢true (ap is_letter (sym u) ∙ f.3)

-- and none has tick's
pub names_without_tick : (cs : List Channel) (n : List ℕ) → IsAlphabet cs → In n (names cs) → n ≡ tick_name → ⊥
names_without_tick cs n a i e =
    let o = In-names cs n i in
    let p = named_by o.0 n o.2 in
    tick_is_no_name o.0.name p.0 (sound_channel cs a o.0 o.1).named (sym p.2 ∙ e)
