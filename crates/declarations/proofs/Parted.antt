-- What the alphabet asks of a channel, and what it answers.
use Rattle.std.proofs.Common.{◌≡◌, ℕ, ◌+◌, ◌<◌, ◌≤◌, List, [], ◌∷◌, ◌++◌, map, length, get_or, Bool, true, false, not, ◌&&◌, ◌||◌, cond, Option, Some, None, Vec, inl, inr, refl, sym, ap, subst, ◌∙◌, arith, append_assoc, append-nil}
use Rattle.std.proofs.lemmas.Bool.{ltb-true, ltb-false}
use Rattle.std.specs.Prelude.{nat_eq, nat_lt}
use Rattle.std.specs.List.{list_all, list_any}
use Rattle.std.specs.Cmp.Lexicographic.{pointwise, bytes_decides}
use Rattle.alphabet.specs.Channels.{FieldValue, number, constant, Values, Channel, event_count, is_value, is_rising, is_field, is_declared, is_apart_from, are_apart}
use Rattle.alphabet.specs.Names.{is_name}
use Rattle.alphabet.specs.declared.field_value.Value.{Value as FieldStored}
use Rattle.alphabet.specs.Stored.{field_of}
use Rattle.syntax.specs.declared.tree.Tree.{Tree}
use Rattle.syntax.specs.Grammar.{Syntax, Called, Numeral, Node, Syntaxes, NoSyntax, MoreSyntax}
use Rattle.syntax.specs.Parsing.{syntaxes}
use Rattle.syntax.specs.View.{shape, shapes}
use Rattle.tokens.specs.declared.read_error.ReadError.{ReadError}
use Rattle.tokens.proofs.Marks.{not_true}
use Rattle.values.specs.Values.{◌>>=◌, Name}
use Rattle.values.specs.Worths.{Worth, Known, worth, the_set}
use Rattle.values.specs.Names.{Meaning, channel, Entry, same_name, is_constant, meaning, are_distinct, names_of, listed_names, declared_by, declared_by_all}
use Rattle.values.specs.Channels.{fields_of, with_channel, channels_of}
use Rattle.values.specs.View.{Fails}
use Rattle.declared_names.specs.Entering.{list_parts}
use Rattle.declarations.specs.Passing.{passes, all_pass, pass}
use Rattle.declarations.specs.Sigma.{small, enter, with_names, with_entries, entered, channels_named, is_declared_constant, AreDeclared, Follow, Follows, CanBeNamed}
use Rattle.declared_names.proofs.Chains.{bind_some, some_same, left, right, both}
use Rattle.declared_names.proofs.Entered.{same_sym, parts_names}
use Rattle.syntax.proofs.Failing.{fails_on}
use Rattle.declarations.proofs.Constants.{no_some, worth_pass, sets_pass}
use Rattle.declarations.proofs.Entire.{some_of, made, both_channels, called, small_same, with_then, found_named, none_found}
use Rattle.declarations.proofs.Meanings.{In, in_front, in_back, in_either, any_of, means}
use Rattle.declarations.proofs.Turns.{left_from, first_left, no_left}

-- ---- lists in which all pass

all_imply : {X : Type 0} (q r : X → Bool) → ((x : X) → q x ≡ true → r x ≡ true) → (xs : List X) → list_all q xs ≡ true → list_all r xs ≡ true
all_imply q r h [] k = refl
all_imply q r h (x ∷ xs) k = both (r x) (list_all r xs) (h x (left (q x) (list_all q xs) k)) (all_imply q r h xs (right (q x) (list_all q xs) k))

is_not : (b : Bool) → b ≡ false → not b ≡ true
is_not b h = ap not h

module _ (p : Name → Bool) where
  -- a name that passes is no channel's
  undeclared : (cs : List Channel) (n : Name) → list_all (λ c. not (p c.name)) cs ≡ true → p n ≡ true → is_declared cs n ≡ false
  undeclared [] n h k = refl
  undeclared (c ∷ cs) n h k = by (pointwise nat_eq n c.name) refl (undeclared cs n (right (not (p c.name)) (list_all (λ c. not (p c.name)) cs) h) k)
    where
      by : (b : Bool) → pointwise nat_eq n c.name ≡ b → is_declared cs n ≡ false → (b || is_declared cs n) ≡ false
      by true e ih = absurd (let x : true ≡ false = sym k ∙ ap p ((bytes_decides n c.name).0 e) ∙ not_true (p c.name) (left (not (p c.name)) (list_all (λ c. not (p c.name)) cs) h) in cc)
      by false e ih = ih

  apart_value : (cs : List Channel) → list_all (λ c. not (p c.name)) cs ≡ true → (v : FieldValue) → passes p v ≡ true → is_apart_from cs v ≡ true
  apart_value cs h (number z) k = refl
  apart_value cs h (constant n) k = is_not (is_declared cs n) (undeclared cs n h k)

  clear_apart : (cs : List Channel) → list_all (λ c. not (p c.name)) cs ≡ true → list_all (λ c. list_all (all_pass p) c.fields) cs ≡ true → are_apart cs ≡ true
  clear_apart cs h k =
      all_imply (λ c. list_all (all_pass p) c.fields) (λ c. list_all (list_all (is_apart_from cs)) c.fields)
      (λ c k. all_imply (all_pass p) (list_all (is_apart_from cs)) (λ vs l. all_imply (passes p) (is_apart_from cs) (apart_value cs h) vs l) c.fields k)
      cs k

  -- the constants of fields pass
  fields_pass : (known : Known) → ((n : Name) (w : Worth) → known n ≡ Some w → pass p w ≡ true) → (ts : Syntaxes) (fields : List Values) → fields_of known ts ≡ Some fields → list_all (all_pass p) fields ≡ true
  unfolding fields_of
  fields_pass known h NoSyntax fields e = ap (list_all (all_pass p)) (sym (some_same e))
  fields_pass known h (MoreSyntax t ts) fields e =
      let (w, a, b) = bind_some (worth known t) (λ w. the_set w >>= λ vs. fields_of known ts >>= λ fs. Some (vs ∷ fs)) fields e in
      let (vs, c, d) = bind_some (the_set w) (λ vs. fields_of known ts >>= λ fs. Some (vs ∷ fs)) fields b in
      let (fs, f, g) = bind_some (fields_of known ts) (λ fs. Some (vs ∷ fs)) fields d in
      ap (list_all (all_pass p)) (sym (some_same g)) ∙ both (all_pass p vs) (list_all (all_pass p) fs) (sets_pass p w vs c (worth_pass p known h t w a)) (fields_pass known h ts fs f)

  value_named : ((n : Name) → p n ≡ true → is_name n ≡ true) → (v : FieldValue) → passes p v ≡ true → is_value v ≡ true
  value_named h (number z) k = refl
  value_named h (constant n) k = h n k

  fields_fielded : ((n : Name) → p n ≡ true → is_name n ≡ true) → (fields : List Values) → list_all (all_pass p) fields ≡ true → list_all is_rising fields ≡ true → list_all is_field fields ≡ true
  fields_fielded h [] k l = refl
  fields_fielded h (vs ∷ fs) k l =
      both (is_field vs) (list_all is_field fs)
      (both (list_all is_value vs) (is_rising vs) (all_imply (passes p) is_value (value_named h) vs (left (all_pass p vs) (list_all (all_pass p) fs) k)) (left (is_rising vs) (list_all is_rising fs) l))
      (fields_fielded h fs (right (all_pass p vs) (list_all (all_pass p) fs) k) (right (is_rising vs) (list_all is_rising fs) l))

-- ---- the channels of names

each_channel : (known : Known) (q : Channel → Bool) (es : List Entry) (cs : List Channel) → channels_of known es ≡ Some cs → ((n : Name) (sets : Syntaxes) (fields : List Values) → In (n, channel sets) es → fields_of known sets ≡ Some fields → q (made fields n) ≡ true) → list_all q cs ≡ true
unfolding channels_of with_channel
each_channel known q [] cs h k = ap (list_all q) (sym (some_same h))
each_channel known q (e ∷ es) cs h k =
    let (ds, a, b) = bind_some (channels_of known es) (with_channel known e.0 e.1) cs h in
    by e.1 refl ds b (each_channel known q es ds a (λ n sets fields l. k n sets fields (inr l)))
  where
    by : (m : Meaning) → e.1 ≡ m → (ds : List Channel) → with_channel known e.0 m ds ≡ Some cs → list_all q ds ≡ true → list_all q cs ≡ true
    by (channel sets) is ds b ih =
        let (fields, c, d) = bind_some (fields_of known sets) (λ fields. Some (made fields e.0 ∷ ds)) cs b in
        ap (list_all q) (sym (some_same d)) ∙ both (q (made fields e.0)) (list_all q ds) (k e.0 sets fields (inl (λ i. (e.0, is i))) c) ih
    by m is ds b ih = ap (list_all q) (sym (some_same b)) ∙ ih

-- no name before this one is the same
no_earlier : (front rest : List Entry) (e f : Entry) → are_distinct (front ++ e ∷ rest) ≡ true → In f front → same_name e.0 f.0 ≡ false
unfolding are_distinct
no_earlier [] rest e f h k = absurd k
no_earlier (g ∷ gs) rest e f h k = elim k [
  | inl l ↦ ap (λ (x : Entry). same_name e.0 x.0) (sym l) ∙ same_sym e.0 g.0 ∙ by (same_name g.0 e.0) refl (left (not (list_any (λ x. same_name g.0 x.0) (gs ++ e ∷ rest))) (are_distinct (gs ++ e ∷ rest)) h)
  | inr l ↦ no_earlier gs rest e f (right (not (list_any (λ x. same_name g.0 x.0) (gs ++ e ∷ rest))) (are_distinct (gs ++ e ∷ rest)) h) l
]
  where
    by : (b : Bool) → same_name g.0 e.0 ≡ b → not (list_any (λ x. same_name g.0 x.0) (gs ++ e ∷ rest)) ≡ true → b ≡ false
    by true q l = absurd (let x : true ≡ false = sym (any_of g.0 e (gs ++ e ∷ rest) (in_back e gs (e ∷ rest) (inl refl)) q) ∙ not_true (list_any (λ x. same_name g.0 x.0) (gs ++ e ∷ rest)) l in cc)
    by false q l = refl

-- What the alphabet asks of a new channel.
pub record IsNew (cs : List Channel) (n : Name) (fields : List Values) : Type 0 where
  pub named : is_name n ≡ true
  pub in_order : list_all is_field fields ≡ true
  pub apart : are_apart (cs ++ made fields n ∷ []) ≡ true
  pub fresh : is_declared cs n ≡ false

module _ (known : Known) (cs : List Channel) (n : Name) (sets : Syntaxes) (fields : List Values) (front rest : List Entry) (d : AreDeclared known (front ++ (n, channel sets) ∷ rest)) (before : channels_of known front ≡ Some cs) (found : fields_of known sets ≡ Some fields) where
  abbrev here : Entry
  here = (n, channel sets)

  abbrev all : List Entry
  all = front ++ here ∷ rest

  declared_as : (e : Entry) → In e all → meaning all e.0 ≡ Some e.1
  declared_as e l = means all e d.once l

  no_constant : (m : Name) (ss : Syntaxes) → In (m, channel ss) all → not (is_declared_constant all m) ≡ true
  unfolding is_constant
  no_constant m ss l = ap (λ o. not (is_constant o && is_name m)) (declared_as (m, channel ss) l)

  passing : (ss : Syntaxes) (fs : List Values) → fields_of known ss ≡ Some fs → list_all (all_pass (is_declared_constant all)) fs ≡ true
  passing ss fs h = fields_pass (is_declared_constant all) known d.constants ss fs h

  with_here : channels_of known (front ++ here ∷ []) ≡ Some (cs ++ made fields n ∷ [])
  with_here =
      both_channels known front (here ∷ [])
      ∙ ap (λ o. o >>= λ ds. channels_of known front >>= λ cs. some_of (cs ++ ds)) (called known sets fields found (n ∷ []))
      ∙ ap (λ o. o >>= λ cs. some_of (cs ++ made fields n ∷ [])) before

  among : (e : Entry) → In e (front ++ here ∷ []) → In e all
  among e l = elim (in_either e front (here ∷ []) l) [
    | inl k ↦ in_front e front (here ∷ rest) k
    | inr k ↦ in_back e front (here ∷ rest) (elim k [ inl q ↦ inl q | inr q ↦ absurd q ])
  ]

  same_itself : same_name n n ≡ true
  same_itself = (bytes_decides n n).1 refl

  is_new : list_all is_rising fields ≡ true → IsNew cs n fields
  is_new r = record {
    named = d.named n (channel sets) (declared_as here (in_back here front (here ∷ rest) (inl refl)));
    in_order = fields_fielded (is_declared_constant all) (λ m h. right (is_constant (meaning all m)) (is_name m) h) fields (passing sets fields found) r;
    apart =
        clear_apart (is_declared_constant all) (cs ++ made fields n ∷ [])
        (each_channel known (λ c. not (is_declared_constant all c.name)) (front ++ here ∷ []) (cs ++ made fields n ∷ []) with_here (λ m ss fs l h. no_constant m ss (among (m, channel ss) l)))
        (each_channel known (λ c. list_all (all_pass (is_declared_constant all)) c.fields) (front ++ here ∷ []) (cs ++ made fields n ∷ []) with_here (λ m ss fs l h. passing ss fs h));
    fresh = undeclared (same_name n) cs n (each_channel known (λ c. not (same_name n c.name)) front cs before (λ m ss fs l h. is_not (same_name n m) (no_earlier front rest here (m, channel ss) d.once l))) same_itself;
  }

-- ---- names that follow others

first_follows : (known : Known) (cs : List Channel) (es fs : List Entry) → Follow known cs (es ++ fs) → Follow known cs es
first_follows known cs es fs f = record {
  front = f.front;
  rest = fs ++ f.rest;
  all = subst (AreDeclared known) (ap (λ xs. f.front ++ xs) (append_assoc es fs f.rest)) f.all;
  entered = f.entered;
}

others_follow : (known : Known) (cs ds : List Channel) (es fs : List Entry) → Follow known cs (es ++ fs) → with_entries known cs es ≡ Some ds → Follow known ds fs
others_follow known cs ds es fs f h = record {
  front = f.front ++ es;
  rest = f.rest;
  all = subst (AreDeclared known) (ap (λ xs. f.front ++ xs) (append_assoc es fs f.rest) ∙ sym (append_assoc f.front es (fs ++ f.rest))) f.all;
  entered = with_then known [] f.front es ∙ ap (λ o. o >>= λ bs. with_entries known bs es) f.entered ∙ h;
}

channels_before : (known : Known) (cs : List Channel) (es : List Entry) (f : Follow known cs es) → (channels_of known f.front ≡ Some cs) × (small cs ≡ Some cs)
unfolding with_entries
channels_before known cs es f =
    let (ds, a, b) = bind_some (channels_of known f.front) (λ ds. small ds) cs f.entered in
    let same : ds ≡ cs = small_same ds cs b in
    (a ∙ ap some_of same, ap small (sym same) ∙ b)

-- names without channels
pub nothing_more : (known : Known) (cs : List Channel) (es : List Entry) → Follow known cs es → channels_of known es ≡ Some [] → with_entries known cs es ≡ Some cs
unfolding with_entries
nothing_more known cs es f h = ap (λ o. o >>= λ ds. small (cs ++ ds)) h ∙ ap small (append-nil cs) ∙ (channels_before known cs es f).1

pub no_more : (known : Known) (cs : List Channel) (o : Option (List Entry)) → Follows known cs o → ((es : List Entry) → o ≡ Some es → channels_of known es ≡ Some []) → entered known cs o ≡ Some cs
no_more known cs o f h = ap (entered known cs) f.1 ∙ nothing_more known cs f.0 f.2 (h f.0 f.1)

pub new_channel : (cs : List Channel) (t : Syntax) (n : Name) (fields : List Values) → CanBeNamed cs (MoreSyntax t NoSyntax) fields → t ≡ Called n → IsNew cs n fields
unfolding names_of
new_channel cs t n fields b h =
    let f = subst (λ u. Follows b.known cs (channels_named (names_of (MoreSyntax u NoSyntax)) b.sets)) h b.follows in
    let one : Follow b.known cs ((n, channel b.sets) ∷ []) = subst (Follow b.known cs) (sym (some_same f.1)) f.2 in
    is_new b.known cs n b.sets fields one.front one.rest one.all (channels_before b.known cs ((n, channel b.sets) ∷ []) one).0 b.found b.rising

pub named_one : (cs : List Channel) (t : Syntax) (n : Name) (fields : List Values) → CanBeNamed cs (MoreSyntax t NoSyntax) fields → t ≡ Called n → with_names fields cs (MoreSyntax t NoSyntax) ≡ enter cs (made fields n)
unfolding with_names names_of enter
named_one cs t n fields b h =
    ap (λ u. with_names fields cs (MoreSyntax u NoSyntax)) h
    ∙ sym (ap (λ b. cond b None (small (cs ++ made fields n ∷ []))) (new_channel cs t n fields b h).fresh)

no_names : (known : Known) (sets : Syntaxes) (es : List Entry) → channels_named (names_of NoSyntax) sets ≡ Some es → channels_of known es ≡ Some []
unfolding names_of channels_of
no_names known sets es e = ap (channels_of known) (sym (some_same e))

no_declarations : (known : Known) (es : List Entry) → declared_by_all NoSyntax ≡ Some es → channels_of known es ≡ Some []
unfolding declared_by_all channels_of
no_declarations known es e = ap (channels_of known) (sym (some_same e))

-- ---- what the loops ask

-- the first names, and the others when their channels were entered
both_follow : (known : Known) (cs : List Channel) (o p : Option (List Entry)) → Follows known cs (o >>= λ es. p >>= λ fs. some_of (es ++ fs)) → Follows known cs o × ((ds : List Channel) → entered known cs o ≡ Some ds → Follows known ds p)
both_follow known cs None p f = absurd (no_some f.1)
both_follow known cs (Some es) None f = absurd (no_some f.1)
both_follow known cs (Some es) (Some fs) f =
    let g = subst (Follow known cs) (sym (some_same f.1)) f.2 in
    ((es, refl, first_follows known cs es fs g), λ ds h. (fs, refl, others_follow known cs ds es fs g h))

part_named : (sets : Syntaxes) (t : Syntax) (ts : Syntaxes) → channels_named (names_of (MoreSyntax t ts)) sets ≡ (channels_named (names_of (MoreSyntax t NoSyntax)) sets >>= λ es. channels_named (names_of ts) sets >>= λ fs. some_of (es ++ fs))
unfolding names_of
part_named sets (Called n) ts = by (names_of ts)
  where
    by : (o : Option (List Name)) → channels_named (o >>= λ ns. some_of (n ∷ ns)) sets ≡ (channels_named o sets >>= λ fs. some_of ((n, channel sets) ∷ fs))
    by None = refl
    by (Some ns) = refl
part_named sets (Numeral n) ts = refl
part_named sets (Node f us) ts = refl

module _ {A : Type 0} (cs : List Channel) (ts : List (Tree A)) (i : ℕ) (fields : List Values) (b : CanBeNamed cs (left_from ts i) fields) where
  split_named : (t : Tree A) → i < length ts → t ≡ get_or ts i t → Follows b.known cs (channels_named (names_of (MoreSyntax (shape t) NoSyntax)) b.sets) × ((ds : List Channel) → entered b.known cs (channels_named (names_of (MoreSyntax (shape t) NoSyntax)) b.sets) ≡ Some ds → Follows b.known ds (channels_named (names_of (left_from ts (i + 1))) b.sets))
  split_named t h is =
      let one = channels_named (names_of (MoreSyntax (shape t) NoSyntax)) b.sets in
      let others = channels_named (names_of (left_from ts (i + 1))) b.sets in
      both_follow b.known cs one others (subst (Follows b.known cs) (ap (λ xs. channels_named (names_of xs) b.sets) (first_left ts i t h is) ∙ part_named b.sets (shape t) (left_from ts (i + 1))) b.follows)

  pub first_named : (t : Tree A) → i < length ts → t ≡ get_or ts i t → CanBeNamed cs (MoreSyntax (shape t) NoSyntax) fields
  first_named t h is = record { known = b.known; sets = b.sets; found = b.found; rising = b.rising; follows = (split_named t h is).0 }

  pub others_named : (t : Tree A) (ds : List Channel) → i < length ts → t ≡ get_or ts i t → with_names fields cs (MoreSyntax (shape t) NoSyntax) ≡ Some ds → CanBeNamed ds (left_from ts (i + 1)) fields
  others_named t ds h is e =
      let named = found_named b.known b.sets (MoreSyntax (shape t) NoSyntax) cs fields b.found ∙ e in
      record { known = b.known; sets = b.sets; found = b.found; rising = b.rising; follows = (split_named t h is).1 ds named }

  pub end_named : length ts ≤ i → with_names fields cs (left_from ts i) ≡ Some cs
  end_named h =
      sym (found_named b.known b.sets (left_from ts i) cs fields b.found)
      ∙ no_more b.known cs (channels_named (names_of (left_from ts i)) b.sets) b.follows (λ es e. no_names b.known b.sets es (sym (ap (λ xs. channels_named (names_of xs) b.sets) (no_left ts i h)) ∙ e))

module _ {A : Type 0} (known : Known) (cs : List Channel) (ts : List (Tree A)) (i : ℕ) (f : Follows known cs (declared_by_all (left_from ts i))) where
  split_declared : (t : Tree A) → i < length ts → t ≡ get_or ts i t → Follows known cs (declared_by (shape t)) × ((ds : List Channel) → entered known cs (declared_by (shape t)) ≡ Some ds → Follows known ds (declared_by_all (left_from ts (i + 1))))
  unfolding declared_by_all
  split_declared t h is = both_follow known cs (declared_by (shape t)) (declared_by_all (left_from ts (i + 1))) (subst (λ xs. Follows known cs (declared_by_all xs)) (first_left ts i t h is) f)

  pub first_declared : (t : Tree A) → i < length ts → t ≡ get_or ts i t → Follows known cs (declared_by (shape t))
  first_declared t h is = (split_declared t h is).0

  pub others_declared : (t : Tree A) (ds : List Channel) → i < length ts → t ≡ get_or ts i t → entered known cs (declared_by (shape t)) ≡ Some ds → Follows known ds (declared_by_all (left_from ts (i + 1)))
  others_declared t ds h is = (split_declared t h is).1 ds

  pub end_declared : length ts ≤ i → entered known cs (declared_by_all (left_from ts i)) ≡ Some cs
  end_declared h = no_more known cs (declared_by_all (left_from ts i)) f (λ es e. no_declarations known es (sym (ap declared_by_all (no_left ts i h)) ∙ e))

-- ---- names of one declaration

pub names_none : {A : Type 0} (known : Known) (sets : Syntaxes) (cs : List Channel) (ns : List (Tree A)) → length ns ≡ 0 → Follows known cs (channels_named (names_of (syntaxes (shapes ns))) sets) → entered known cs (channels_named (names_of (syntaxes (shapes ns))) sets) ≡ Some cs
names_none known sets cs [] h f = no_more known cs (channels_named (names_of NoSyntax) sets) f (no_names known sets)
names_none known sets cs (n ∷ ns) h f = absurd (omega (arith, h))

not_none : (t : Syntax) (ts : Syntaxes) → MoreSyntax t ts ≡ NoSyntax → ⊥
not_none t ts e = cc

pub names_fail : {A : Type 0} (k : ReadError) (known : Known) (sets : Syntaxes) (cs : List Channel) (ns : List (Tree A)) → (length ns ≡ 0 → ⊥) → Fails k (fields_of known sets) → Fails k (entered known cs (channels_named (names_of (syntaxes (shapes ns))) sets))
names_fail k known sets cs [] h f = absurd (h refl)
names_fail k known sets cs (n ∷ ns) h f = fails_on k (fields_of known sets) (entered known cs (channels_named (names_of (syntaxes (shapes (n ∷ ns)))) sets)) (none_found known sets (syntaxes (shapes (n ∷ ns))) cs (not_none (shape n) (syntaxes (shapes ns)))) f

pub can_be_named : {A : Type 0} (known : Known) (cs : List Channel) (sets ts : Syntaxes) (items slice : List (Vec (FieldStored A) A)) → Follows known cs (channels_named (names_of ts) sets) → fields_of known sets ≡ Some (map field_of items) → list_all is_rising (map field_of items) ≡ true → slice ≡ items → CanBeNamed cs ts (map field_of slice)
can_be_named known cs sets ts items slice f h r same =
    subst (λ xs. CanBeNamed cs ts (map field_of xs)) (sym same) (record { known = known; sets = sets; found = h; rising = r; follows = f })

-- a list of names
pub names_in_list : (t : Syntax) (ts : Syntaxes) → list_parts t ≡ Some ts → listed_names t ≡ names_of ts
names_in_list t ts h = parts_names t ∙ ap (λ o. o >>= names_of) h

pub no_list : (k : ReadError) (known : Known) (cs : List Channel) (t : Syntax) (sets : Syntaxes) → Fails k (list_parts t) → Fails k (entered known cs (channels_named (listed_names t) sets))
no_list k known cs t sets h = fails_on k (list_parts t) (entered known cs (channels_named (listed_names t) sets)) (λ n. ap (λ o. entered known cs (channels_named o sets)) (parts_names t ∙ ap (λ o. o >>= names_of) n)) h

-- ---- the answers of the alphabet

pub entered_ok : (cs new : List Channel) (c : Channel) → (is_declared cs c.name ≡ true → ⊥) → (is_declared cs c.name ≡ false → 256 < event_count (cs ++ c ∷ []) → ⊥) → new ≡ cs ++ c ∷ [] → enter cs c ≡ Some new
unfolding enter small
entered_ok cs new c h k is = by (is_declared cs c.name) (nat_lt 256 (event_count (cs ++ c ∷ []))) refl refl
  where
    by : (b d : Bool) → is_declared cs c.name ≡ b → nat_lt 256 (event_count (cs ++ c ∷ [])) ≡ d → cond b None (cond d None (Some (cs ++ c ∷ []))) ≡ Some new
    by true d p q = absurd (h p)
    by false true p q = absurd (k p (ltb-true 256 (event_count (cs ++ c ∷ [])) q))
    by false false p q = ap (λ xs. let o : Option (List Channel) = Some xs in o) (sym is)

pub entered_twice : (cs : List Channel) (c : Channel) → is_declared cs c.name ≡ true → enter cs c ≡ None
unfolding enter
entered_twice cs c h = ap (λ b. let o : Option (List Channel) = cond b None (small (cs ++ c ∷ [])) in o) h

pub entered_many : (cs : List Channel) (c : Channel) → is_declared cs c.name ≡ false → 256 < event_count (cs ++ c ∷ []) → enter cs c ≡ None
unfolding enter small
entered_many cs c h k = ap (λ b. let o : Option (List Channel) = cond b None (cond (nat_lt 256 (event_count (cs ++ c ∷ []))) None (Some (cs ++ c ∷ []))) in o) h ∙ by (nat_lt 256 (event_count (cs ++ c ∷ []))) refl
  where
    by : (d : Bool) → nat_lt 256 (event_count (cs ++ c ∷ [])) ≡ d → cond d None (Some (cs ++ c ∷ [])) ≡ None
    by true q = refl
    by false q = absurd (let l : event_count (cs ++ c ∷ []) ≤ 256 = ltb-false 256 (event_count (cs ++ c ∷ [])) q in omega (arith, k, l))
