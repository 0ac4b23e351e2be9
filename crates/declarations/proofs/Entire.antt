-- Channels behind others: those of all names at once are those that are entered one after the other.
use Rattle.std.proofs.Common.{◌≡◌, ℕ, ◌+◌, ◌<◌, ◌≤◌, List, [], ◌∷◌, ◌++◌, map, length, Bool, true, false, cond, Option, Some, None, refl, sym, ap, ◌∙◌, arith, append_assoc}
use Rattle.std.proofs.lemmas.List.{length-append, length-map}
use Rattle.std.proofs.lemmas.Bool.{ltb-true, ltb-false}
use Rattle.std.specs.Prelude.{nat_lt}
use Rattle.alphabet.specs.Channels.{Values, Channel, channel_events, events, event_text, names, event_count}
use Rattle.syntax.specs.declared.form.Form.{Form}
use Rattle.syntax.specs.declared.form.Form.TheVariants as forms
use Rattle.syntax.specs.Grammar.{Syntax, Called, Numeral, Node, Syntaxes, NoSyntax, MoreSyntax}
use Rattle.values.specs.Values.{◌>>=◌, Name}
use Rattle.values.specs.Worths.{Known}
use Rattle.values.specs.Names.{Meaning, channel, datatype, constant_name, parametric, Entry, names_of, listed_names, entries_of, declared_by, declared_by_all}
use Rattle.values.specs.Channels.{fields_of, with_channel, channels_of}
use Rattle.declared_names.specs.Steps.{only_of, two_of}
use Rattle.declarations.specs.Sigma.{small, with_names, with_entries, entered, channels_named}
use Rattle.declared_names.proofs.Chains.{bind_some, some_same}
use Rattle.declarations.proofs.Constants.{no_some}

abbrev pub some_of : {X : Type 0} → X → Option X
some_of x = Some x

abbrev pub made : List Values → Name → Channel
made fields n = record { name = n; fields = fields }

none_then : (o : Option (List Channel)) → None ≡ (o >>= λ cs. let n : Option (List Channel) = None in n)
none_then None = refl
none_then (Some cs) = refl

-- ---- the channels of entries

before_more : (known : Known) (n : Name) (m : Meaning) (cs ds : List Channel) → with_channel known n m (cs ++ ds) ≡ (with_channel known n m cs >>= λ cs. some_of (cs ++ ds))
unfolding with_channel
before_more known n (channel sets) cs ds = by (fields_of known sets)
  where
    by : (o : Option (List Values)) → (o >>= λ fields. some_of (made fields n ∷ (cs ++ ds))) ≡ ((o >>= λ fields. some_of (made fields n ∷ cs)) >>= λ cs. some_of (cs ++ ds))
    by None = refl
    by (Some fields) = refl
before_more known n m cs ds = refl

pub both_channels : (known : Known) (es fs : List Entry) → channels_of known (es ++ fs) ≡ (channels_of known fs >>= λ ds. channels_of known es >>= λ cs. some_of (cs ++ ds))
unfolding channels_of
both_channels known [] fs = by (channels_of known fs)
  where
    by : (o : Option (List Channel)) → o ≡ (o >>= λ ds. some_of ds)
    by None = refl
    by (Some ds) = refl
both_channels known (e ∷ es) fs = ap (λ o. o >>= with_channel known e.0 e.1) (both_channels known es fs) ∙ by (channels_of known fs)
  where
    inner : (ds : List Channel) (o : Option (List Channel)) → ((o >>= λ cs. some_of (cs ++ ds)) >>= with_channel known e.0 e.1) ≡ ((o >>= with_channel known e.0 e.1) >>= λ cs. some_of (cs ++ ds))
    inner ds None = refl
    inner ds (Some cs) = before_more known e.0 e.1 cs ds

    by : (o : Option (List Channel)) → ((o >>= λ ds. channels_of known es >>= λ cs. some_of (cs ++ ds)) >>= with_channel known e.0 e.1) ≡ (o >>= λ ds. (channels_of known es >>= with_channel known e.0 e.1) >>= λ cs. some_of (cs ++ ds))
    by None = refl
    by (Some ds) = inner ds (channels_of known es)

-- of names of one declaration
pub called : (known : Known) (sets : Syntaxes) (fields : List Values) → fields_of known sets ≡ Some fields → (ns : List Name) → channels_of known (map (λ n. (n, channel sets)) ns) ≡ Some (map (made fields) ns)
unfolding channels_of with_channel
called known sets fields h [] = refl
called known sets fields h (n ∷ ns) = ap (λ o. o >>= with_channel known n (channel sets)) (called known sets fields h ns) ∙ ap (λ o. o >>= λ fs. some_of (made fs n ∷ map (made fields) ns)) h

uncalled : (known : Known) (sets : Syntaxes) (n : Name) (ns : List Name) → fields_of known sets ≡ None → channels_of known (map (λ n. (n, channel sets)) (n ∷ ns)) ≡ None
unfolding channels_of with_channel
uncalled known sets n ns h = by (channels_of known (map (λ n. (n, channel sets)) ns))
  where
    by : (o : Option (List Channel)) → (o >>= with_channel known n (channel sets)) ≡ None
    by None = refl
    by (Some cs) = ap (λ o. o >>= λ fs. some_of (made fs n ∷ cs)) h

no_channels : (known : Known) (ns : List Name) → channels_of known (map (λ c. (c, constant_name)) ns) ≡ Some []
unfolding channels_of with_channel
no_channels known [] = refl
no_channels known (n ∷ ns) = ap (λ o. o >>= with_channel known n constant_name) (no_channels known ns)

-- other declarations have none
pub other_channels : (known : Known) (f : Form) (ts : Syntaxes) (es : List Entry) → (f ≡ forms.Channels → ⊥) → (f ≡ forms.ChannelsWithFields → ⊥) → entries_of f ts ≡ Some es → channels_of known es ≡ Some []
unfolding entries_of channels_of with_channel
other_channels known forms.Channels ts es a b h = absurd (a refl)
other_channels known forms.ChannelsWithFields ts es a b h = absurd (b refl)
other_channels known forms.Datatype (MoreSyntax (Called n) (MoreSyntax t NoSyntax)) es a b h =
    let (ns, c, d) = bind_some (listed_names t) (λ ns. Some ((n, datatype ns) ∷ map (λ c. (c, constant_name)) ns)) es h in
    ap (channels_of known) (sym (some_same d)) ∙ ap (λ o. o >>= with_channel known n (datatype ns)) (no_channels known ns)
other_channels known forms.Definition (MoreSyntax (Called n) (MoreSyntax t NoSyntax)) es a b h = ap (channels_of known) (sym (some_same h))
other_channels known forms.DefinitionWithParameters (MoreSyntax (Called n) (MoreSyntax t (MoreSyntax u NoSyntax))) es a b h =
    let (xs, c, d) = bind_some (listed_names t) (λ xs. Some ((n, parametric xs u) ∷ [])) es h in
    ap (channels_of known) (sym (some_same d))
other_channels known f ts es a b h = absurd (no_some h)

-- the two forms that have
only_channels : (ts : Syntaxes) → entries_of forms.Channels ts ≡ (only_of ts >>= λ t. channels_named (listed_names t) NoSyntax)
unfolding entries_of only_of
only_channels NoSyntax = refl
only_channels (MoreSyntax t NoSyntax) = refl
only_channels (MoreSyntax t (MoreSyntax u us)) = refl

two_channels : (ts : Syntaxes) → entries_of forms.ChannelsWithFields ts ≡ (two_of ts >>= λ p. entries_of forms.ChannelsWithFields (MoreSyntax p.0 (MoreSyntax p.1 NoSyntax)))
unfolding entries_of two_of
two_channels NoSyntax = refl
two_channels (MoreSyntax t NoSyntax) = refl
two_channels (MoreSyntax t (MoreSyntax u NoSyntax)) = refl
two_channels (MoreSyntax t (MoreSyntax u (MoreSyntax v vs))) = refl

module _ (f : Form) (ts : Syntaxes) where
  pub of_only : (o : Option Syntax) → f ≡ forms.Channels → only_of ts ≡ o → entries_of f ts ≡ (o >>= λ t. channels_named (listed_names t) NoSyntax)
  of_only o h k = ap (λ g. entries_of g ts) h ∙ only_channels ts ∙ ap (λ o. o >>= λ t. channels_named (listed_names t) NoSyntax) k

  pub of_two : (o : Option (Syntax × Syntax)) → f ≡ forms.ChannelsWithFields → two_of ts ≡ o → entries_of f ts ≡ (o >>= λ p. entries_of forms.ChannelsWithFields (MoreSyntax p.0 (MoreSyntax p.1 NoSyntax)))
  of_two o h k = ap (λ g. entries_of g ts) h ∙ two_channels ts ∙ ap (λ o. o >>= λ p. entries_of forms.ChannelsWithFields (MoreSyntax p.0 (MoreSyntax p.1 NoSyntax))) k

-- ---- at most 256 events

more_events : (cs ds : List Channel) → event_count (cs ++ ds) ≡ event_count cs + event_count ds
unfolding names
more_events [] ds = omega arith
more_events (c ∷ cs) ds =
    length-map (events ((c ∷ cs) ++ ds)) event_text ∙ length-append (channel_events c) (events (cs ++ ds))
    ∙ ap (λ n. length (channel_events c) + n) (sym (length-map (events (cs ++ ds)) event_text) ∙ more_events cs ds)
    ∙ (let e : length (channel_events c) + (event_count cs + event_count ds) ≡ length (channel_events c) + event_count cs + event_count ds = omega arith in e)
    ∙ ap (λ n. n + event_count ds) (ap (λ n. length (channel_events c) + n) (length-map (events cs) event_text) ∙ sym (length-append (channel_events c) (events cs)) ∙ sym (length-map (events (c ∷ cs)) event_text))

exceeds : (n : ℕ) → 256 < n → nat_lt 256 n ≡ true
exceeds n h = by (nat_lt 256 n) refl
  where
    by : (b : Bool) → nat_lt 256 n ≡ b → b ≡ true
    by true e = refl
    by false e = absurd (let k : n ≤ 256 = ltb-false 256 n e in omega (arith, h, k))

-- where some have too many, all have
pub small_then : (cs ds : List Channel) → small (cs ++ ds) ≡ (small cs >>= λ bs. small (bs ++ ds))
unfolding small
small_then cs ds = by (nat_lt 256 (event_count cs)) refl
  where
    by : (b : Bool) → nat_lt 256 (event_count cs) ≡ b → cond (nat_lt 256 (event_count (cs ++ ds))) None (some_of (cs ++ ds)) ≡ (cond b None (some_of cs) >>= λ bs. cond (nat_lt 256 (event_count (bs ++ ds))) None (some_of (bs ++ ds)))
    by true h = ap (λ b. cond b None (some_of (cs ++ ds))) (exceeds (event_count (cs ++ ds)) (let a : 256 < event_count cs = ltb-true 256 (event_count cs) h in omega (arith, a, more_events cs ds)))
    by false h = refl

pub small_same : (cs ds : List Channel) → small cs ≡ Some ds → cs ≡ ds
unfolding small
small_same cs ds h = by (nat_lt 256 (event_count cs)) h
  where
    by : (b : Bool) → cond b None (some_of cs) ≡ Some ds → cs ≡ ds
    by true h = absurd cc
    by false h = some_same h

-- ---- one after the other

small_twice : (cs ds es : List Channel) → small (cs ++ (ds ++ es)) ≡ (small (cs ++ ds) >>= λ bs. small (bs ++ es))
small_twice cs ds es = ap small (sym (append_assoc cs ds es)) ∙ small_then (cs ++ ds) es

pub with_then : (known : Known) (cs : List Channel) (es fs : List Entry) → with_entries known cs (es ++ fs) ≡ (with_entries known cs es >>= λ bs. with_entries known bs fs)
unfolding with_entries
with_then known cs es fs = ap (λ o. o >>= λ ds. small (cs ++ ds)) (both_channels known es fs) ∙ by (channels_of known fs) (channels_of known es)
  where
    by : (o p : Option (List Channel)) → ((o >>= λ ds. p >>= λ bs. some_of (bs ++ ds)) >>= λ ds. small (cs ++ ds)) ≡ ((p >>= λ bs. small (cs ++ bs)) >>= λ bs. o >>= λ ds. small (bs ++ ds))
    by None p = none_then (p >>= λ bs. small (cs ++ bs))
    by (Some ds) None = refl
    by (Some ds) (Some bs) = small_twice cs bs ds

pub all_entered : (known : Known) (cs : List Channel) (t : Syntax) (ts : Syntaxes) → entered known cs (declared_by_all (MoreSyntax t ts)) ≡ (entered known cs (declared_by t) >>= λ bs. entered known bs (declared_by_all ts))
unfolding declared_by_all
all_entered known cs t ts = by (declared_by t) (declared_by_all ts)
  where
    by : (o p : Option (List Entry)) → entered known cs (o >>= λ es. p >>= λ fs. some_of (es ++ fs)) ≡ (entered known cs o >>= λ bs. entered known bs p)
    by None p = refl
    by (Some es) None = none_then (with_entries known cs es)
    by (Some es) (Some fs) = with_then known cs es fs

pub all_named : (fields : List Values) (cs : List Channel) (t : Syntax) (ts : Syntaxes) → with_names fields cs (MoreSyntax t ts) ≡ (with_names fields cs (MoreSyntax t NoSyntax) >>= λ bs. with_names fields bs ts)
unfolding with_names names_of
all_named fields cs (Called n) ts = by (names_of ts)
  where
    by : (o : Option (List Name)) → ((o >>= λ ns. some_of (n ∷ ns)) >>= λ ns. small (cs ++ map (made fields) ns)) ≡ (small (cs ++ made fields n ∷ []) >>= λ bs. o >>= λ ns. small (bs ++ map (made fields) ns))
    by None = none_then (small (cs ++ made fields n ∷ []))
    by (Some ns) = small_twice cs (made fields n ∷ []) (map (made fields) ns)
all_named fields cs (Numeral n) ts = refl
all_named fields cs (Node f us) ts = refl

-- channels of names whose fields were found, or weren't
pub found_named : (known : Known) (sets ts : Syntaxes) (cs : List Channel) (fields : List Values) → fields_of known sets ≡ Some fields → entered known cs (channels_named (names_of ts) sets) ≡ with_names fields cs ts
unfolding with_entries with_names
found_named known sets ts cs fields h = by (names_of ts)
  where
    by : (o : Option (List Name)) → ((o >>= λ ns. some_of (map (λ n. (n, channel sets)) ns)) >>= λ es. channels_of known es >>= λ ds. small (cs ++ ds)) ≡ (o >>= λ ns. small (cs ++ map (made fields) ns))
    by None = refl
    by (Some ns) = ap (λ o. o >>= λ ds. small (cs ++ ds)) (called known sets fields h ns)

pub none_found : (known : Known) (sets ts : Syntaxes) (cs : List Channel) → (ts ≡ NoSyntax → ⊥) → fields_of known sets ≡ None → entered known cs (channels_named (names_of ts) sets) ≡ None
unfolding with_entries names_of
none_found known sets NoSyntax cs n h = absurd (n refl)
none_found known sets (MoreSyntax (Called m) ts) cs n h = by (names_of ts)
  where
    by : (o : Option (List Name)) → (((o >>= λ ns. some_of (m ∷ ns)) >>= λ ns. some_of (map (λ n. (n, channel sets)) ns)) >>= λ es. channels_of known es >>= λ ds. small (cs ++ ds)) ≡ None
    by None = refl
    by (Some ns) = ap (λ o. o >>= λ ds. small (cs ++ ds)) (uncalled known sets m ns h)
none_found known sets (MoreSyntax (Numeral m) ts) cs n h = refl
none_found known sets (MoreSyntax (Node f us) ts) cs n h = refl
