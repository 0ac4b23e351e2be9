-- What a script with a tree declares: an alphabet whose channels, constants and numbers have texts of one form.
use Rattle.std.proofs.Common.{◌≡◌, ℕ, zero, suc, ◌≤◌, ◌^◌, pos, negsuc, List, [], ◌∷◌, map, nat_eq, Bool, true, false, not, ◌||◌, Some, inl, inr, refl, sym, ap, subst, ◌∙◌, arith}
use Rattle.std.proofs.lemmas.Bool.{false≢true, lt-ltb}
use Rattle.std.proofs.lemmas.Int.{ints}
use Rattle.std.specs.List.{list_all, list_any}
use Rattle.std.specs.Cmp.Lexicographic.{pointwise, bytes_decides}
use Rattle.alphabet.specs.Channels.{FieldValue, number, constant, Values, Channel, IsAlphabet, event_count, is_value, is_below, is_rising, is_field, is_declared, is_apart_from, is_in_range}
use Rattle.alphabet.specs.Channels as alphabets
use Rattle.alphabet.specs.Names.{is_name}
use Rattle.alphabet.specs.Elements.{In, here, there}
use Rattle.alphabet.proofs.Lists.{none-from_In}
use Rattle.tokens.proofs.Marks.{not_true}
use Rattle.syntax.specs.Grammar.{Syntaxes, NoSyntax, MoreSyntax}
use Rattle.values.specs.Values.{◌>>=◌, Name, value_cmp}
use Rattle.values.specs.Worths.{Worth, one, many, truth, Known, worth, the_set}
use Rattle.values.specs.Order.{value_total}
use Rattle.values.specs.Names.{Entry, Meaning, channel, datatype, constant_name, definition, parametric, same_name, meaning, declared_by_all, are_distinct, worth_of, known_in, Stands}
use Rattle.values.specs.Channels.{fields_of, with_channel, channels_of}
use Rattle.declared_names.proofs.Chains.{bind_some, some_same, left, right, both}
use Rattle.declarations.proofs.Fields.{below}
use Rattle.declarations.proofs.Meanings as meanings
use Rattle.declarations.proofs.Meanings.{AreNamed, AllIn, in_named, means, meant, closed}
use Rattle.read_back.proofs.Ordered.{Above, Rises}
use Rattle.read_back.proofs.Scanned.{IsProper}
use Rattle.read_back.proofs.Texts.{IsShown}
use Rattle.read_back.proofs.Processes.{IsShownAlphabet}
use Rattle.read_back.proofs.KnownValues.{Fine, AllFine, FineWorth, set_fine, set_rises, worth_fine}
use Rattle.read_back.proofs.ProperNames.{EntriesProper}

proper_in : (es : List Entry) (e : Entry) → EntriesProper es → meanings.In e es → IsProper e.0
proper_in [] e h k = absurd k
proper_in (f ∷ es) e h k = elim k [ inl l ↦ subst (λ (x : Entry). IsProper x.0) l h.0 | inr l ↦ proper_in es e h.1 l ]

module _ (ts : Syntaxes) (es : List Entry) (known : Known) (all : declared_by_all ts ≡ Some es) (once : are_distinct es ≡ true) (stands : Stands es known) (proper : EntriesProper es) (named : AreNamed es) where
  -- the name of a constant that is declared
  abbrev IsConstant : Name → Type 0
  IsConstant n = IsProper n × (meaning es n ≡ Some constant_name) × (is_name n ≡ true)

  abbrev Good : Worth → Type 0
  Good w = FineWorth IsConstant w

  constants_good : (cs : List Name) → AllIn cs es → AllFine IsConstant (map constant cs)
  constants_good [] h = tt
  constants_good (c ∷ cs) h = ((proper_in es (c, constant_name) proper h.0, means es (c, constant_name) once h.0, in_named es (c, constant_name) named h.0), constants_good cs h.1)

  steps_good : (k : ℕ) (n : Name) (w : Worth) → known_in es k n ≡ Some w → Good w
  unfolding known_in worth_of
  steps_good zero n w e = absurd cc
  steps_good (suc j) n w e =
      let (m, a, b) = bind_some (meaning es n) (worth_of (known_in es j) n) w e in
      by m a b (steps_good j)
    where
      by : (m : Meaning) → meaning es n ≡ Some m → worth_of (known_in es j) n m ≡ Some w → ((n : Name) (w : Worth) → known_in es j n ≡ Some w → Good w) → Good w
      by (channel sets) a b rec = absurd cc
      by (datatype cs) a b rec = subst Good (some_same b) (set_fine IsConstant (map constant cs) (constants_good cs (closed ts es n cs all (meant es n (datatype cs) a))), set_rises (map constant cs))
      by constant_name a b rec = let i = meant es n constant_name a in subst Good (some_same b) (proper_in es (n, constant_name) proper i, a, in_named es (n, constant_name) named i)
      by (definition t) a b rec = worth_fine IsConstant (known_in es j) rec t w b
      by (parametric xs t) a b rec = absurd cc

  known_good : (n : Name) (w : Worth) → known n ≡ Some w → Good w
  known_good n w e = let r = (stands n w).0 e in steps_good r.0 n w r.1

  abbrev FieldsGood : List Values → Type 0
  FieldsGood [] = Unit {0}
  FieldsGood (vs ∷ fields) = Good (many vs) × FieldsGood fields

  a_set : (w : Worth) (vs : Values) → the_set w ≡ Some vs → Good w → Good (many vs)
  unfolding the_set
  a_set (one v) vs h k = absurd cc
  a_set (many us) vs h k = subst (λ xs. Good (many xs)) (some_same h) k
  a_set (truth t) vs h k = absurd cc

  fields_good : (sets : Syntaxes) (fields : List Values) → fields_of known sets ≡ Some fields → FieldsGood fields
  unfolding fields_of
  fields_good NoSyntax fields e = subst FieldsGood (some_same e) tt
  fields_good (MoreSyntax t ts) fields e =
      let (w, a, b) = bind_some (worth known t) (λ w. the_set w >>= λ vs. fields_of known ts >>= λ fs. Some (vs ∷ fs)) fields e in
      let (vs, c, d) = bind_some (the_set w) (λ vs. fields_of known ts >>= λ fs. Some (vs ∷ fs)) fields b in
      let (fs, f, g) = bind_some (fields_of known ts) (λ fs. Some (vs ∷ fs)) fields d in
      subst FieldsGood (some_same g) (a_set w vs c (worth_fine IsConstant known known_good t w a), fields_good ts fs f)

  -- ---- channels

  -- an entry of these declares it
  abbrev IsOf : List Entry → Channel → Type 0
  IsOf fs c = ((sets : Syntaxes) × meanings.In (c.name, channel sets) fs) × FieldsGood c.fields

  abbrev EachOf : List Entry → List Channel → Type 0
  EachOf fs [] = Unit {0}
  EachOf fs (c ∷ cs) = IsOf fs c × EachOf fs cs

  each_later : (e : Entry) (fs : List Entry) (cs : List Channel) → EachOf fs cs → EachOf (e ∷ fs) cs
  each_later e fs [] h = tt
  each_later e fs (c ∷ cs) h = (((h.0.0.0, inr h.0.0.1), h.0.1), each_later e fs cs h.1)

  with_one : (f : Entry) (fs : List Entry) (ds cs : List Channel) → EachOf fs ds → (m : Meaning) → f.1 ≡ m → with_channel known f.0 m ds ≡ Some cs → EachOf (f ∷ fs) cs
  unfolding with_channel
  with_one f fs ds cs h (channel sets) i e =
      let (fields, a, b) = bind_some (fields_of known sets) (λ fields. Some (record { name = f.0; fields = fields } ∷ ds)) cs e in
      let it : f ≡ (f.0, channel sets) = ap (λ m. (f.0, m)) i in
      subst (EachOf (f ∷ fs)) (some_same b) (((sets, inl it), fields_good sets fields a), each_later f fs ds h)
  with_one f fs ds cs h (datatype ns) i e = subst (EachOf (f ∷ fs)) (some_same e) (each_later f fs ds h)
  with_one f fs ds cs h constant_name i e = subst (EachOf (f ∷ fs)) (some_same e) (each_later f fs ds h)
  with_one f fs ds cs h (definition t) i e = subst (EachOf (f ∷ fs)) (some_same e) (each_later f fs ds h)
  with_one f fs ds cs h (parametric xs t) i e = subst (EachOf (f ∷ fs)) (some_same e) (each_later f fs ds h)

  channels_good : (fs : List Entry) (cs : List Channel) → channels_of known fs ≡ Some cs → EachOf fs cs
  unfolding channels_of
  channels_good [] cs e = subst (EachOf []) (some_same e) tt
  channels_good (f ∷ fs) cs e =
      let (ds, a, b) = bind_some (channels_of known fs) (with_channel known f.0 f.1) cs e in
      with_one f fs ds cs (channels_good fs ds a) f.1 refl b

  of_in : (fs : List Entry) (cs : List Channel) (c : Channel) → EachOf fs cs → In c cs → IsOf fs c
  of_in fs [] c h i = elim i [ ]
  of_in fs (d ∷ cs) c h here = h.0
  of_in fs (d ∷ cs) c h (there i) = of_in fs cs c h.1 i

  good_in : (fields : List Values) (vs : Values) → FieldsGood fields → In vs fields → Good (many vs)
  good_in [] vs h i = elim i [ ]
  good_in (us ∷ fields) vs h here = h.0
  good_in (us ∷ fields) vs h (there i) = good_in fields vs h.1 i

  fine_in : (vs : Values) (v : FieldValue) → AllFine IsConstant vs → In v vs → Fine IsConstant v
  fine_in [] v h i = elim i [ ]
  fine_in (u ∷ vs) v h here = h.0
  fine_in (u ∷ vs) v h (there i) = fine_in vs v h.1 i

  shows : (v : FieldValue) → Fine IsConstant v → IsShown v
  shows (number (pos n)) h = omega (arith, ints, h.1)
  shows (number (negsuc n)) h = omega (arith, ints, h.0)
  shows (constant n) h = h.0

  pub shown : (cs : List Channel) → channels_of known es ≡ Some cs → IsShownAlphabet cs
  shown cs e =
      let h = channels_good es cs e in
      record {
        named = λ c i. let o = of_in es cs c h i in proper_in es (c.name, channel o.0.0) proper o.0.1;
        valued = λ c vs v i j k. shows v (fine_in vs v (good_in c.fields vs (of_in es cs c h i).1 j).0 k);
      }

  -- ---- the rules of alphabets

  all_in : {X : Type 0} (p : X → Bool) (xs : List X) → ((x : X) → In x xs → p x ≡ true) → list_all p xs ≡ true
  all_in p [] h = refl
  all_in p (x ∷ xs) h = both (p x) (list_all p xs) (h x here) (all_in p xs (λ y i. h y (there i)))

  all_below : (v : FieldValue) (vs : Values) → Above value_cmp value_total v vs → list_all (λ w. is_below v w) vs ≡ true
  all_below v [] h = refl
  all_below v (w ∷ vs) h = both (is_below v w) (list_all (λ w. is_below v w) vs) (below v w h.0) (all_below v vs h.1)

  rising : (vs : Values) → Rises value_cmp value_total vs → is_rising vs ≡ true
  rising [] h = refl
  rising (v ∷ vs) h = both (list_all (λ w. is_below v w) vs) (is_rising vs) (all_below v vs h.0) (rising vs h.1)

  is_a_value : (v : FieldValue) → Fine IsConstant v → is_value v ≡ true
  is_a_value (number z) h = refl
  is_a_value (constant n) h = h.2

  a_field : (vs : Values) → Good (many vs) → is_field vs ≡ true
  a_field vs h = both (list_all is_value vs) (is_rising vs) (all_in is_value vs (λ v i. is_a_value v (fine_in vs v h.0 i))) (rising vs h.1)

  ranged : (v : FieldValue) → Fine IsConstant v → is_in_range v ≡ true
  ranged (number (pos n)) h = lt-ltb n (2 ^ 63) (omega (arith, ints, h.1))
  ranged (number (negsuc n)) h = lt-ltb n (2 ^ 63) (omega (arith, ints, h.0))
  ranged (constant n) h = refl

  other_name : (n m : Name) → (n ≡ m → ⊥) → (b : Bool) → pointwise nat_eq n m ≡ b → b ≡ false
  other_name n m h true e = absurd (h ((bytes_decides n m).0 e))
  other_name n m h false e = refl

  none_named : (fs : List Entry) (n : Name) (e : Entry) → list_any (λ g. same_name n g.0) fs ≡ false → meanings.In e fs → same_name n e.0 ≡ false
  none_named [] n e h i = absurd i
  none_named (f ∷ fs) n e h i = by (same_name n f.0) refl h (λ r l. none_named fs n e r l)
    where
      by : (b : Bool) → same_name n f.0 ≡ b → (b || list_any (λ g. same_name n g.0) fs) ≡ false → (list_any (λ g. same_name n g.0) fs ≡ false → meanings.In e fs → same_name n e.0 ≡ false) → same_name n e.0 ≡ false
      by true p r rec = absurd (false≢true (sym r))
      by false p r rec = elim i [ inl l ↦ ap (λ (x : Entry). same_name n x.0) (sym l) ∙ p | inr l ↦ rec r l ]

  not_declared : (n : Name) (ds : List Channel) → ((d : Channel) → In d ds → n ≡ d.name → ⊥) → is_declared ds n ≡ false
  not_declared n ds h = none-from_In (λ d. pointwise nat_eq n d.name) ds (λ d i. other_name n d.name (h d i) (pointwise nat_eq n d.name) refl)

  distinct_one : (f : Entry) (fs : List Entry) (ds cs : List Channel) → EachOf fs ds → are_distinct (f ∷ fs) ≡ true → alphabets.are_distinct ds ≡ true → (m : Meaning) → with_channel known f.0 m ds ≡ Some cs → alphabets.are_distinct cs ≡ true
  unfolding are_distinct with_channel
  distinct_one f fs ds cs h o d (channel sets) e =
      let (fields, a, b) = bind_some (fields_of known sets) (λ fields. Some (record { name = f.0; fields = fields } ∷ ds)) cs e in
      let free = not_true (list_any (λ g. same_name f.0 g.0) fs) (left (not (list_any (λ g. same_name f.0 g.0) fs)) (are_distinct fs) o) in
      let no : is_declared ds f.0 ≡ false = not_declared f.0 ds (λ c i p. let of = of_in fs ds c h i in false≢true (sym (none_named fs f.0 (c.name, channel of.0.0) free of.0.1) ∙ (bytes_decides f.0 c.name).1 p)) in
      ap alphabets.are_distinct (sym (some_same b)) ∙ both (not (is_declared ds f.0)) (alphabets.are_distinct ds) (ap not no) d
  distinct_one f fs ds cs h o d (datatype ns) e = ap alphabets.are_distinct (sym (some_same e)) ∙ d
  distinct_one f fs ds cs h o d constant_name e = ap alphabets.are_distinct (sym (some_same e)) ∙ d
  distinct_one f fs ds cs h o d (definition t) e = ap alphabets.are_distinct (sym (some_same e)) ∙ d
  distinct_one f fs ds cs h o d (parametric xs t) e = ap alphabets.are_distinct (sym (some_same e)) ∙ d

  distinct_channels : (fs : List Entry) (cs : List Channel) → are_distinct fs ≡ true → channels_of known fs ≡ Some cs → alphabets.are_distinct cs ≡ true
  unfolding channels_of are_distinct
  distinct_channels [] cs o e = ap alphabets.are_distinct (sym (some_same e))
  distinct_channels (f ∷ fs) cs o e =
      let (ds, a, b) = bind_some (channels_of known fs) (with_channel known f.0 f.1) cs e in
      distinct_one f fs ds cs (channels_good fs ds a) o (distinct_channels fs ds (right (not (list_any (λ g. same_name f.0 g.0) fs)) (are_distinct fs) o) a) f.1 b

  apart_value : (cs : List Channel) → channels_of known es ≡ Some cs → (v : FieldValue) → Fine IsConstant v → is_apart_from cs v ≡ true
  apart_value cs e (number z) h = refl
  apart_value cs e (constant n) h =
      ap not (not_declared n cs (λ c i p.
      let o = of_in es cs c (channels_good es cs e) i in
      let m : meaning es c.name ≡ Some (channel o.0.0) = means es (c.name, channel o.0.0) once o.0.1 in
      no o.0.0 (sym h.1 ∙ ap (meaning es) p ∙ m)))
    where
      no : (sets : Syntaxes) → Some constant_name ≡ Some (channel sets) → ⊥
      no sets e = let f : constant_name ≡ channel sets = some_same e in cc

  pub sound : (cs : List Channel) → channels_of known es ≡ Some cs → event_count cs ≤ 256 → IsAlphabet cs
  sound cs e small =
      let h = channels_good es cs e in
      let each : (c : Channel) (vs : Values) → In c cs → In vs c.fields → Good (many vs) = λ c vs i j. good_in c.fields vs (of_in es cs c h i).1 j in
      record {
        named = all_in (λ c. is_name c.name) cs (λ c i. let o = of_in es cs c h i in in_named es (c.name, channel o.0.0) named o.0.1);
        distinct = distinct_channels es cs once e;
        fielded = all_in (λ c. list_all is_field c.fields) cs (λ c i. all_in is_field c.fields (λ vs j. a_field vs (each c vs i j)));
        ranged = all_in (λ c. list_all (list_all is_in_range) c.fields) cs (λ c i. all_in (list_all is_in_range) c.fields (λ vs j. all_in is_in_range vs (λ v k. ranged v (fine_in vs v (each c vs i j).0 k))));
        apart = all_in (λ c. list_all (list_all (is_apart_from cs)) c.fields) cs (λ c i. all_in (list_all (is_apart_from cs)) c.fields (λ vs j. all_in (is_apart_from cs) vs (λ v k. apart_value cs e v (fine_in vs v (each c vs i j).0 k))));
        small = small;
      }
