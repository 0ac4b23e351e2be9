-- What phrases denote has a text: its events, sets and pairs lie in Sigma, and its renamings are in order.
use Rattle.std.proofs.Common.{◌≡◌, ℕ, zero, suc, ◌+◌, ◌<◌, ◌≤◌, List, [], ◌∷◌, ◌++◌, map, length, take, drop, nat_lt, Bool, true, false, cond, ◌&&◌, Option, Some, None, refl, sym, ap, subst, ◌∙◌, arith}
use Rattle.std.proofs.lemmas.Bool.{ltb-true, false≢true}
use Rattle.std.proofs.lemmas.List.{length-map}
use Rattle.std.specs.List.{flat_map}
use Rattle.std.specs.Cmp.Lexicographic.{pointwise}
use Rattle.alphabet.specs.declared.events.Event.TheVariants.{Tick as tick, Of as ev}
use Rattle.alphabet.specs.EventSets.{Set, has}
use Rattle.alphabet.specs.Channels.{FieldValue, Values, Channel, Parts, events, event_count}
use Rattle.alphabet.proofs.Lists.{and-left}
use Rattle.alphabet.proofs.ChannelPlaces.{event_count-is}
use Rattle.term.specs.Proc.{Proc, bodies_of}
use Rattle.term.specs.Traces.{Pairs}
use Rattle.term.specs.Specs.{SetInSigma}
use Rattle.syntax.specs.Grammar.{Syntax, Syntaxes, NoSyntax, MoreSyntax}
use Rattle.values.specs.Values.{◌>>=◌, Name, is_among, is_same}
use Rattle.values.specs.Worths.{Worth, one, many, truth, Known, condition}
use Rattle.values.specs.Names.{Meaning, channel, definition, parametric, is_constant, meaning, same_name, is_process}
use Rattle.event_phrases.specs.Events.{Events, Beginning, unless_value, beginning, begins_so, number_in, pairs_from, pair_of, pairs_of, set_below, set_of, masked, two_masked, both, outside}
use Rattle.event_phrases.specs.Forms.{FieldPhrase, given, input, input_from, no_field, event_of, sides_of}
use Rattle.denotation.specs.Bodies.{Key, Body, stop, skip, prefix, ext, int, seq, par, hide, ren, intr, name, names, numbered, half, halved_in, halved, choice_of}
use Rattle.event_phrases.specs.Fitting.{Fitting, against, against_input, against_part, fits_field, then_fits, fitting, event_fits}
use Rattle.event_phrases.specs.Prefixes.{prefix_parts}
use Rattle.event_phrases.specs.Scopes.{Scope, within, with_input, value_by, values_by, events_by}
use Rattle.denotation.specs.declared.draft.Joint.TheVariants as joints
use Rattle.denotation.specs.declared.draft.Operation.{Operation}
use Rattle.denotation.specs.declared.draft.Operation.TheVariants as operations
use Rattle.denotation.specs.declared.forms.Join.{Join}
use Rattle.denotation.specs.declared.forms.Join.TheVariants as joins
use Rattle.denotation.specs.Phrases.{Between, with_join, with_set, with_sets, Phrase, stops, skips, called, inside, prefixed, joined, hiding, renaming, conditional, calling, replicated, other, phrase_of, generator_of, branch_on, branches, prefixed_by, takes, arguments, called_with, generator_values, for_each, over, join_of, joint_of, none_of, all_joined, renamed, operation_of, composed, denoted}
use Rattle.denotation.specs.Denotes.{Root, named, phrased, body_by, paired, called_by, body_of, is_nameless, body_under, place, Reached}
use Rattle.event_phrases.proofs.SetsBelow.{member_is}
use Rattle.declared_names.proofs.Chains.{bind_some, some_same}
use Rattle.read_back.proofs.Readable.{IsRenaming, IsWritten}
use Rattle.read_back.proofs.Numbers.{at_place, AllHave, all_named, all_left, all_right}
use Rattle.read_back.proofs.Reaching.{reached_many}
use Rattle.read_back.proofs.PairsInOrder.{a_renaming}

-- ---- bodies in Sigma

abbrev Lies : ℕ → Body → Type 0
Lies n stop = Unit {0}
Lies n skip = Unit {0}
Lies n (prefix a p) = (a < n) × Lies n p
Lies n (ext p q) = Lies n p × Lies n q
Lies n (int p q) = Lies n p × Lies n q
Lies n (seq p q) = Lies n p × Lies n q
Lies n (par A p q) = SetInSigma n A × Lies n p × Lies n q
Lies n (hide A p) = SetInSigma n A × Lies n p
Lies n (ren R p) = IsRenaming n R × Lies n p
Lies n (intr p q) = Lies n p × Lies n q
Lies n (name k) = Unit {0}

abbrev AllLie : ℕ → List Body → Type 0
AllLie n [] = Unit {0}
AllLie n (p ∷ ps) = Lies n p × AllLie n ps

-- ---- sets

below_sigma : (n : ℕ) (A : Events) → SetInSigma n (set_below n A)
below_sigma n A tick h = absurd (false≢true (sym (member_is n A tick) ∙ h))
below_sigma n A (ev a) h = ltb-true a n (and-left (nat_lt a n) (A a) (sym (member_is n A (ev a)) ∙ h))

none_sigma : (n : ℕ) → SetInSigma n 0
unfolding set_below
none_sigma n tick h = absurd (false≢true (sym (member_is 0 (λ a. false) tick) ∙ h))
none_sigma n (ev a) h = let l : a < 0 = ltb-true a 0 (and-left (nat_lt a 0) false (sym (member_is 0 (λ a. false) (ev a)) ∙ h)) in omega (arith, l)

-- ---- lists of bodies, joined in halves

take_lies : (n k : ℕ) (ps : List Body) → AllLie n ps → AllLie n (take k ps)
take_lies n zero ps h = tt
take_lies n (suc k) [] h = tt
take_lies n (suc k) (p ∷ ps) h = (h.0, take_lies n k ps h.1)

drop_lies : (n k : ℕ) (ps : List Body) → AllLie n ps → AllLie n (drop k ps)
drop_lies n zero ps h = h
drop_lies n (suc k) [] h = tt
drop_lies n (suc k) (p ∷ ps) h = drop_lies n k ps h.1

both_lie : (n : ℕ) (ps qs : List Body) → AllLie n ps → AllLie n qs → AllLie n (ps ++ qs)
both_lie n [] qs h k = k
both_lie n (p ∷ ps) qs h k = (h.0, both_lie n ps qs h.1 k)

module _ (n : ℕ) (join : Body → Body → Body) (none : Body) (joins : (p q : Body) → Lies n p → Lies n q → Lies n (join p q)) (rests : Lies n none) where
  halves_lie : (k : ℕ) (ps : List Body) → AllLie n ps → Lies n (halved_in join none k ps)
  unfolding halved_in
  halves_lie k [] h = rests
  halves_lie k (p ∷ []) h = h.0
  halves_lie zero (p ∷ q ∷ ps) h = rests
  halves_lie (suc k) (p ∷ q ∷ ps) h =
      joins (halved_in join none k (take (half (p ∷ q ∷ ps)) (p ∷ q ∷ ps))) (halved_in join none k (drop (half (p ∷ q ∷ ps)) (p ∷ q ∷ ps)))
      (halves_lie k (take (half (p ∷ q ∷ ps)) (p ∷ q ∷ ps)) (take_lies n (half (p ∷ q ∷ ps)) (p ∷ q ∷ ps) h))
      (halves_lie k (drop (half (p ∷ q ∷ ps)) (p ∷ q ∷ ps)) (drop_lies n (half (p ∷ q ∷ ps)) (p ∷ q ∷ ps) h))

  halved_lies : (ps : List Body) → AllLie n ps → Lies n (halved join none ps)
  unfolding halved
  halved_lies ps h = halves_lie (length ps) ps h

choice_lies : (n : ℕ) (ps : List Body) → AllLie n ps → Lies n (choice_of ps)
choice_lies n ps h = halved_lies n ext stop (λ p q i j. (i, j)) tt ps h

-- ---- fields

abbrev some_scope : Scope → Fitting
some_scope s = Some (Some s)

against_same : (set : Values) (v : FieldValue) (s : Scope) (o : Option FieldValue) (inner : Scope) → against set v s o ≡ some_scope inner → inner.channels ≡ s.channels
unfolding against
against_same set v s None inner e = absurd cc
against_same set v s (Some w) inner e = by (is_among w set) (is_same w v) e
  where
    by : (a b : Bool) → cond a (cond b (Some (Some s)) (Some None)) None ≡ some_scope inner → inner.channels ≡ s.channels
    by true true e = ap (λ (x : Scope). x.channels) (sym (some_same (some_same e)))
    by true false e = absurd cc
    by false b e = absurd cc

input_same : (v : FieldValue) (s : Scope) (x : Name) (inner : Scope) → against_input v s x ≡ some_scope inner → inner.channels ≡ s.channels
unfolding against_input
input_same v s x inner e = by (is_constant (meaning s.entries x)) e
  where
    by : (b : Bool) → cond b None (Some (Some (with_input s x v))) ≡ some_scope inner → inner.channels ≡ s.channels
    by true e = absurd cc
    by false e = ap (λ (x : Scope). x.channels) (sym (some_same (some_same e)))

part_same : (v : FieldValue) (s : Scope) (x : Name) (o : Option Values) (inner : Scope) → against_part v s x o ≡ some_scope inner → inner.channels ≡ s.channels
unfolding against_part
part_same v s x None inner e = absurd cc
part_same v s x (Some part) inner e = by (is_constant (meaning s.entries x)) (is_among v part) e
  where
    by : (b c : Bool) → cond b None (cond c (Some (Some (with_input s x v))) (Some None)) ≡ some_scope inner → inner.channels ≡ s.channels
    by true c e = absurd cc
    by false true e = ap (λ (x : Scope). x.channels) (sym (some_same (some_same e)))
    by false false e = absurd cc

field_same : (f : FieldPhrase) (set : Values) (v : FieldValue) (s inner : Scope) → fits_field f set v s ≡ some_scope inner → inner.channels ≡ s.channels
unfolding fits_field
field_same (given t) set v s inner e = against_same set v s (value_by s t) inner e
field_same (input x) set v s inner e = input_same v s x inner e
field_same (input_from x t) set v s inner e = part_same v s x (values_by s t) inner e
field_same no_field set v s inner e = absurd cc

fitting_same : (fs : List FieldPhrase) (sets : List Values) (vs : Values) (s inner : Scope) → fitting fs sets vs s ≡ some_scope inner → inner.channels ≡ s.channels
unfolding fitting
fitting_same [] [] [] s inner e = ap (λ (x : Scope). x.channels) (sym (some_same (some_same e)))
fitting_same (f ∷ fs) (set ∷ sets) (v ∷ vs) s inner e = by (fits_field f set v s) refl e (λ m g. fitting_same fs sets vs m inner g)
  where
    by : (o : Fitting) → fits_field f set v s ≡ o → then_fits o (λ m. fitting fs sets vs m) ≡ some_scope inner → ((m : Scope) → fitting fs sets vs m ≡ some_scope inner → inner.channels ≡ m.channels) → inner.channels ≡ s.channels
    by None p q rec = absurd cc
    by (Some None) p q rec = absurd cc
    by (Some (Some m)) p q rec = rec m q ∙ field_same f set v s m p
fitting_same fs sets vs s inner e = absurd cc

-- ---- branches

-- what is denoted after the fields lies in Sigma
abbrev NextLies : List Channel → (Scope → Option Body) → Type 0
NextLies cs next = (s : Scope) (b : Body) → s.channels ≡ cs → next s ≡ Some b → Lies (event_count cs) b

event_same : (c : Name) (fs : List FieldPhrase) (sets : List Values) (s : Scope) (r : Parts) (inner : Scope) → event_fits c fs sets s r ≡ some_scope inner → inner.channels ≡ s.channels
unfolding event_fits
event_same c fs sets s r inner e = by (same_name c r.channel) e
  where
    by : (b : Bool) → cond b (fitting fs sets r.values s) (Some None) ≡ some_scope inner → inner.channels ≡ s.channels
    by true e = fitting_same fs sets r.values s inner e
    by false e = absurd cc

module _ (cs : List Channel) (next : Scope → Option Body) (h : NextLies cs next) (c : Name) (fs : List FieldPhrase) (sets : List Values) (s : Scope) (same : s.channels ≡ cs) where
  -- the branches of these events, where a is the first one's number
  abbrev branches_from : ℕ → List Parts → Option (List Body)
  branches_from a rs = branches (event_fits c fs sets s) next a rs

  branches_lie : (rs : List Parts) (a : ℕ) (ps : List Body) → a + length rs ≤ event_count cs → branches_from a rs ≡ Some ps → AllLie (event_count cs) ps
  unfolding branches
  branches_lie [] a ps l e = subst (AllLie (event_count cs)) (some_same e) tt
  branches_lie (r ∷ rs) a ps l e =
      let (x, u, v) = bind_some (event_fits c fs sets s r) (branch_on next a (branches_from (suc a) rs)) ps e in
      by x u v (λ qs f. branches_lie rs (suc a) qs (omega (arith, l)) f)
    where
      by : (x : Option Scope) → event_fits c fs sets s r ≡ Some x → branch_on next a (branches_from (suc a) rs) x ≡ Some ps → ((qs : List Body) → branches_from (suc a) rs ≡ Some qs → AllLie (event_count cs) qs) → AllLie (event_count cs) ps
      by None u v rec = rec ps v
      by (Some m) u v rec =
          let (p, w, x) = bind_some (next m) (λ p. branches_from (suc a) rs >>= λ qs. Some (prefix a p ∷ qs)) ps v in
          let (qs, y, z) = bind_some (branches_from (suc a) rs) (λ qs. Some (prefix a p ∷ qs)) ps x in
          subst (AllLie (event_count cs)) (some_same z) ((omega (arith, l), h m p (event_same c fs sets s r m u ∙ same) w), rec qs y)

prefixed_lies : (cs : List Channel) (next : Scope → Option Body) → NextLies cs next → (s : Scope) (t : Syntax) (b : Body) → s.channels ≡ cs → prefixed_by s t next ≡ Some b → Lies (event_count cs) b
unfolding prefixed_by
prefixed_lies cs next h s t b same e =
    let (p, u, v) = bind_some (prefix_parts s (event_of t)) (λ p. branches (event_fits p.0 p.1 p.2 s) next 0 (events s.channels) >>= λ ps. Some (choice_of ps)) b e in
    let (ps, x, y) = bind_some (branches (event_fits p.0 p.1 p.2 s) next 0 (events s.channels)) (λ ps. Some (choice_of ps)) b v in
    let z : length (events s.channels) ≡ length (events cs) = ap (λ ds. length (events ds)) same in
    subst (Lies (event_count cs)) (some_same y) (choice_lies (event_count cs) ps (branches_lie cs next h p.0 p.1 p.2 s same (events s.channels) 0 ps (omega (arith, z, event_count-is cs)) x))

-- ---- renamings

abbrev AllPairs : ℕ → Pairs → Type 0
AllPairs n [] = Unit {0}
AllPairs n (p ∷ R) = (p.0 < n) × (p.1 < n) × AllPairs n R

both_pairs : (n : ℕ) (R S : Pairs) → AllPairs n R → AllPairs n S → AllPairs n (R ++ S)
both_pairs n [] S h k = k
both_pairs n (p ∷ R) S h k = (h.0, h.1, both_pairs n R S h.2 k)

number_below : (ps : List Parts) (b : Beginning) (k : ℕ) → number_in ps b ≡ Some k → k < length ps
unfolding number_in
number_below [] b k e = absurd cc
number_below (p ∷ ps) b k e = by (same_name b.0 p.channel && pointwise is_same b.1 p.values) e (λ j f. number_below ps b j f)
  where
    by : (t : Bool) → cond t (Some 0) (number_in ps b >>= λ a. Some (suc a)) ≡ Some k → ((j : ℕ) → number_in ps b ≡ Some j → j < length ps) → k < suc (length ps)
    by true e rec = let z : 0 ≡ k = some_same e in omega (arith, z)
    by false e rec = let (j, u, v) = bind_some (number_in ps b) (λ a. Some (suc a)) k e in let z : suc j ≡ k = some_same v in omega (arith, z, rec j u)

pairs_below : (cs : List Channel) (left right : Beginning) (ps : List Parts) (a : ℕ) (R : Pairs) → a + length ps ≤ event_count cs → pairs_from cs left right a ps ≡ Some R → AllPairs (event_count cs) R
unfolding pairs_from
pairs_below cs left right [] a R l e = subst (AllPairs (event_count cs)) (some_same e) tt
pairs_below cs left right (p ∷ ps) a R l e = by (begins_so left p) e (λ S f. pairs_below cs left right ps (suc a) S (omega (arith, l)) f)
  where
    by : (t : Bool) → cond t (number_in (events cs) (right.0, right.1 ++ drop (length left.1) p.values) >>= λ b. pairs_from cs left right (suc a) ps >>= λ S. Some ((a, b) ∷ S)) (pairs_from cs left right (suc a) ps) ≡ Some R → ((S : Pairs) → pairs_from cs left right (suc a) ps ≡ Some S → AllPairs (event_count cs) S) → AllPairs (event_count cs) R
    by true e rec =
        let (b, u, v) = bind_some (number_in (events cs) (right.0, right.1 ++ drop (length left.1) p.values)) (λ b. pairs_from cs left right (suc a) ps >>= λ S. Some ((a, b) ∷ S)) R e in
        let (S, x, y) = bind_some (pairs_from cs left right (suc a) ps) (λ S. Some ((a, b) ∷ S)) R v in
        let low = number_below (events cs) (right.0, right.1 ++ drop (length left.1) p.values) b u in
        subst (AllPairs (event_count cs)) (some_same y) (omega (arith, l), omega (arith, low, event_count-is cs), rec S x)
    by false e rec = rec R e

pair_below : (cs : List Channel) (known : Known) (t : Syntax) (R : Pairs) → pair_of cs known t ≡ Some R → AllPairs (event_count cs) R
unfolding pair_of
pair_below cs known t R e =
    let (p, u, v) = bind_some (sides_of t) (λ p. beginning cs known p.0 >>= λ left. beginning cs known p.1 >>= λ right. pairs_from cs left right 0 (events cs)) R e in
    let (left, a, b) = bind_some (beginning cs known p.0) (λ left. beginning cs known p.1 >>= λ right. pairs_from cs left right 0 (events cs)) R v in
    let (right, c, d) = bind_some (beginning cs known p.1) (λ right. pairs_from cs left right 0 (events cs)) R b in
    pairs_below cs left right (events cs) 0 R (omega (arith, event_count-is cs)) d

all_below : (cs : List Channel) (known : Known) (ts : Syntaxes) (R : Pairs) → pairs_of cs known ts ≡ Some R → AllPairs (event_count cs) R
unfolding pairs_of
all_below cs known NoSyntax R e = subst (AllPairs (event_count cs)) (some_same e) tt
all_below cs known (MoreSyntax t ts) R e =
    let (S, a, b) = bind_some (pair_of cs known t) (λ S. pairs_of cs known ts >>= λ T. Some (S ++ T)) R e in
    let (T, c, d) = bind_some (pairs_of cs known ts) (λ T. Some (S ++ T)) R b in
    subst (AllPairs (event_count cs)) (some_same d) (both_pairs (event_count cs) S T (pair_below cs known t S a) (all_below cs known ts T c))

renamed_lies : (n : ℕ) (R : Pairs) (p : Body) → AllPairs n R → Lies n p → Lies n (renamed n R p)
unfolding renamed
renamed_lies n [] p h k = k
renamed_lies n (r ∷ R) p h k = (a_renaming n r R h.0 h.1, k)

-- ---- phrases

module _ (cs : List Channel) where
  abbrev n : ℕ
  n = event_count cs

  sigma : (ds : List Channel) (A : Events) → ds ≡ cs → SetInSigma n (set_of ds A)
  sigma ds A same = subst (λ es. SetInSigma (event_count es) (set_of ds A)) same (below_sigma (event_count ds) A)

  mask_lies : (ds : List Channel) (o : Option Events) (A : Set) → ds ≡ cs → masked ds o ≡ Some A → SetInSigma n A
  unfolding masked
  mask_lies ds o A same e =
      let (B, u, v) = bind_some o (λ B. Some (set_of ds B)) A e in
      subst (SetInSigma n) (some_same v) (sigma ds B same)

  named_lies : (o : Option Worth) (r : Option Body) (b : Body) → ((p : Body) → r ≡ Some p → Lies n p) → unless_value o r ≡ Some b → Lies n b
  named_lies None r b h e = h b e
  named_lies (Some (one v)) r b h e = absurd cc
  named_lies (Some (many vs)) r b h e = h b e
  named_lies (Some (truth t)) r b h e = absurd cc

  name_lies : (c : Name) (t : Bool) (p : Body) → cond t (Some (name (c, []))) None ≡ Some p → Lies n p
  name_lies c true p e = subst (Lies n) (some_same e) tt
  name_lies c false p e = absurd cc

  -- a call is a name
  call_lies : (f : Name) (ts : List Syntax) (s : Scope) (b : Body) → called_with f ts s ≡ Some b → Lies n b
  unfolding called_with
  call_lies f ts s b e = named_lies (s.known f) (cond (takes (meaning s.entries f) ts) (arguments s.known ts >>= λ vs. Some (name (f, vs))) None) b (λ p g. by (takes (meaning s.entries f) ts) p g) e
    where
      by : (t : Bool) (p : Body) → cond t (arguments s.known ts >>= λ vs. Some (name (f, vs))) None ≡ Some p → Lies n p
      by true p g = let (vs, u, v) = bind_some (arguments s.known ts) (λ vs. Some (name (f, vs))) p g in subst (Lies n) (some_same v) tt
      by false p g = absurd cc

  -- what a condition chooses
  chosen_lies : (c : Option Bool) (o r : Option Body) (b : Body) → (o ≡ Some b → Lies n b) → (r ≡ Some b → Lies n b) → (c >>= λ t. cond t o r) ≡ Some b → Lies n b
  chosen_lies c o r b h k e = let (t, u, v) = bind_some c (λ t. cond t o r) b e in by t v
    where
      by : (t : Bool) → cond t o r ≡ Some b → Lies n b
      by true v = h v
      by false v = k v

  -- ---- replicated forms

  -- each of what is denoted lies in Sigma
  abbrev EachLies : (Scope → Option (List Body)) → Type 0
  EachLies next = (s : Scope) (ps : List Body) → s.channels ≡ cs → next s ≡ Some ps → AllLie n ps

  each_lies : (next : Scope → Option (List Body)) → EachLies next → (x : Name) (vs : Values) (s : Scope) (ps : List Body) → s.channels ≡ cs → for_each next s x vs ≡ Some ps → AllLie n ps
  unfolding for_each
  each_lies next h x [] s ps same e = subst (AllLie n) (some_same e) tt
  each_lies next h x (v ∷ vs) s ps same e =
      let (qs, a, b) = bind_some (next (with_input s x v)) (λ qs. for_each next s x vs >>= λ rs. Some (qs ++ rs)) ps e in
      let (rs, c, d) = bind_some (for_each next s x vs) (λ rs. Some (qs ++ rs)) ps b in
      subst (AllLie n) (some_same d) (both_lie n qs rs (h (with_input s x v) qs same a) (each_lies next h x vs s rs same c))

  over_lies : (gs : List Syntax) (next : Scope → Option Body) → NextLies cs next → EachLies (over gs next)
  unfolding over
  over_lies [] next h s ps same e =
      let (p, a, b) = bind_some (next s) (λ p. Some (p ∷ [])) ps e in
      subst (AllLie n) (some_same b) (h s p same a, tt)
  over_lies (g ∷ gs) next h s ps same e =
      let (p, a, b) = bind_some (generator_of g) (λ p. generator_values s p.0 p.1 >>= for_each (over gs next) s p.0) ps e in
      let (vs, c, d) = bind_some (generator_values s p.0 p.1) (for_each (over gs next) s p.0) ps b in
      each_lies (over gs next) (over_lies gs next h) p.0 vs s ps same d

  -- ---- joins

  join_lies : (j : Join) (p q : Body) → Lies n p → Lies n q → Lies n (join_of j p q)
  unfolding join_of
  join_lies joins.Sequence p q h k = (h, k)
  join_lies joins.Interrupt p q h k = (h, k)
  join_lies joins.External p q h k = (h, k)
  join_lies joins.Internal p q h k = (h, k)
  join_lies joins.Interleaving p q h k = (none_sigma n, h, k)

  none_lies : (j : Join) → Lies n (none_of j)
  unfolding none_of
  none_lies joins.Sequence = tt
  none_lies joins.Interrupt = tt
  none_lies joins.External = tt
  none_lies joins.Internal = tt
  none_lies joins.Interleaving = tt

  halves : (j : Join) (ps : List Body) (b : Body) → AllLie n ps → Some (halved (join_of j) (none_of j) ps) ≡ Some b → Lies n b
  halves j ps b h e = subst (Lies n) (some_same e) (halved_lies n (join_of j) (none_of j) (join_lies j) (none_lies j) ps h)

  all_joined_lie : (j : Join) (ps : List Body) (b : Body) → AllLie n ps → all_joined j ps ≡ Some b → Lies n b
  unfolding all_joined
  all_joined_lie joins.Sequence ps b h e = absurd cc
  all_joined_lie joins.Interrupt ps b h e = absurd cc
  all_joined_lie joins.Internal [] b h e = absurd cc
  all_joined_lie joins.Internal (p ∷ ps) b h e = halves joins.Internal (p ∷ ps) b h e
  all_joined_lie joins.External ps b h e = halves joins.External ps b h e
  all_joined_lie joins.Interleaving ps b h e = halves joins.Interleaving ps b h e

  -- ---- what stands between two

  composed_lies : (s : Scope) (m : Between) (o : Operation) (p q : Body) → s.channels ≡ cs → operation_of s m ≡ Some o → Lies n p → Lies n q → Lies n (composed s o p q)
  unfolding operation_of composed joint_of
  composed_lies s (with_join j) o p q same e h k = subst (λ o. Lies n (composed s o p q)) (some_same e) (join_lies j p q h k)
  composed_lies s (with_set a) o p q same e h k =
      let (A, x, y) = bind_some (masked s.channels (events_by s a)) (λ A. Some (operations.Joint (joints.Sharing A))) o e in
      subst (λ o. Lies n (composed s o p q)) (some_same y) (mask_lies s.channels (events_by s a) A same x, h, k)
  composed_lies s (with_sets a c) o p q same e h k =
      let (S, x, y) = bind_some (two_masked s.channels (events_by s a) (events_by s c)) (λ S. Some (operations.Alphabetised S.0 S.1)) o e in
      subst (λ o. Lies n (composed s o p q)) (some_same y)
      (sigma s.channels (both (has S.0) (has S.1)) same, (sigma s.channels (outside (event_count s.channels) (has S.0)) same, h, tt), (sigma s.channels (outside (event_count s.channels) (has S.1)) same, k, tt))

  -- ---- each phrase

  pub lies : (t : Phrase) (s : Scope) (b : Body) → s.channels ≡ cs → denoted t s ≡ Some b → Lies n b
  unfolding denoted
  lies stops s b same e = subst (Lies n) (some_same e) tt
  lies (inside t) s b same e = lies t s b same e
  lies (prefixed u t) s b same e = prefixed_lies cs (denoted t) (λ m p g f. lies t m p g f) s u b same e
  lies (joined m t u) s b same e =
      let (p, v, w) = bind_some (denoted t s) (λ p. operation_of s m >>= λ o. denoted u s >>= λ q. Some (composed s o p q)) b e in
      let (o, x, y) = bind_some (operation_of s m) (λ o. denoted u s >>= λ q. Some (composed s o p q)) b w in
      let (q, z, r) = bind_some (denoted u s) (λ q. Some (composed s o p q)) b y in
      subst (Lies n) (some_same r) (composed_lies s m o p q same x (lies t s p same v) (lies u s q same z))
  lies skips s b same e = subst (Lies n) (some_same e) tt
  lies (called c) s b same e = named_lies (s.known c) (cond (is_process s.entries c) (Some (name (c, []))) None) b (λ p f. name_lies c (is_process s.entries c) p f) e
  lies (hiding t a) s b same e =
      let (p, v, w) = bind_some (denoted t s) (λ p. masked s.channels (events_by s a) >>= λ A. Some (hide A p)) b e in
      let (A, x, y) = bind_some (masked s.channels (events_by s a)) (λ A. Some (hide A p)) b w in
      subst (Lies n) (some_same y) (mask_lies s.channels (events_by s a) A same x, lies t s p same v)
  lies (renaming t ts) s b same e =
      let (p, v, w) = bind_some (denoted t s) (λ p. pairs_of s.channels s.known ts >>= λ R. Some (renamed (event_count s.channels) R p)) b e in
      let (R, x, y) = bind_some (pairs_of s.channels s.known ts) (λ R. Some (renamed (event_count s.channels) R p)) b w in
      let h : AllPairs n R = subst (λ ds. AllPairs (event_count ds) R) same (all_below s.channels s.known ts R x) in
      subst (Lies n) (ap (λ ds. renamed (event_count ds) R p) (sym same) ∙ some_same y) (renamed_lies n R p h (lies t s p same v))
  lies (conditional c t u) s b same e = chosen_lies (condition s.known c) (denoted t s) (denoted u s) b (λ g. lies t s b same g) (λ g. lies u s b same g) e
  lies (calling f ts) s b same e = call_lies f ts s b e
  lies (replicated j gs t) s b same e =
      let (ps, u, v) = bind_some (over gs (denoted t) s) (all_joined j) b e in
      all_joined_lie j ps b (over_lies gs (denoted t) (λ m p g f. lies t m p g f) s ps same u) v
  lies other s b same e = absurd cc

-- ---- bodies with numbers

by_lies : (cs : List Channel) (s : Scope) (m : Option Meaning) (b : Body) → s.channels ≡ cs → body_by s m ≡ Some b → Lies (event_count cs) b
unfolding body_by
by_lies cs s None b same e = absurd cc
by_lies cs s (Some (definition t)) b same e = lies cs (phrase_of t) s b same e
by_lies cs s (Some m) b same e = absurd cc

called_lies : (cs : List Channel) (s : Scope) (m : Option Meaning) (vs : Values) (b : Body) → s.channels ≡ cs → called_by s m vs ≡ Some b → Lies (event_count cs) b
unfolding called_by
called_lies cs s (Some (parametric xs t)) vs b same e =
    let (is, u, v) = bind_some (paired xs vs) (λ is. denoted (phrase_of t) (within s is)) b e in
    lies cs (phrase_of t) (within s is) b same v
called_lies cs s m vs b same e = absurd cc

body_lies : (s : Scope) (k : Key) (b : Body) → body_of s k ≡ Some b → Lies (event_count s.channels) b
unfolding body_of
body_lies s (c, []) b e = by (is_process s.entries c) e
  where
    by : (t : Bool) → cond t (body_by s (meaning s.entries c)) None ≡ Some b → Lies (event_count s.channels) b
    by true e = by_lies s.channels s (meaning s.entries c) b refl e
    by false e = absurd cc
body_lies s (c, v ∷ vs) b e = called_lies s.channels s (meaning s.entries c) (v ∷ vs) b refl e

phrase_lies : (t : Syntax) (s : Scope) (k : Key) (b : Body) → body_under (phrased t) s k ≡ Some b → Lies (event_count s.channels) b
unfolding body_under
phrase_lies t s k b e = by (is_nameless k) e
  where
    by : (n : Bool) → cond n (denoted (phrase_of t) s) (body_of s k) ≡ Some b → Lies (event_count s.channels) b
    by true e = lies s.channels (phrase_of t) s b refl e
    by false e = body_lies s k b e

under_lies : (root : Root) (s : Scope) (k : Key) (b : Body) → body_under root s k ≡ Some b → Lies (event_count s.channels) b
unfolding body_under
under_lies (named n) s k b e = body_lies s k b e
under_lies (phrased t) s k b e = phrase_lies t s k b e

bodies_lie : (root : Root) (s : Scope) (ks : List Key) (bs : List Body) → map (body_under root s) ks ≡ map Some bs → AllLie (event_count s.channels) bs
bodies_lie root s [] [] e = tt
bodies_lie root s [] (b ∷ bs) e = absurd cc
bodies_lie root s (k ∷ ks) [] e = absurd cc
bodies_lie root s (k ∷ ks) (b ∷ bs) e =
    let h : body_under root s k ≡ Some b = cc in
    let t : map (body_under root s) ks ≡ map Some bs = cc in
    (under_lies root s k b h, bodies_lie root s ks bs t)

to_written : (n : ℕ) (keys : List Key) (b : Body) → Lies n b → AllHave keys (names b) → IsWritten n (length keys) (numbered (place keys) b)
unfolding names numbered
to_written n keys stop h k = tt
to_written n keys skip h k = tt
to_written n keys (prefix a p) h k = (h.0, to_written n keys p h.1 k)
to_written n keys (ext p q) h k = (to_written n keys p h.0 (all_left keys (names p) (names q) k), to_written n keys q h.1 (all_right keys (names p) (names q) k))
to_written n keys (int p q) h k = (to_written n keys p h.0 (all_left keys (names p) (names q) k), to_written n keys q h.1 (all_right keys (names p) (names q) k))
to_written n keys (seq p q) h k = (to_written n keys p h.0 (all_left keys (names p) (names q) k), to_written n keys q h.1 (all_right keys (names p) (names q) k))
to_written n keys (par A p q) h k = (h.0, to_written n keys p h.1 (all_left keys (names p) (names q) k), to_written n keys q h.2 (all_right keys (names p) (names q) k))
to_written n keys (hide A p) h k = (h.0, to_written n keys p h.1 k)
to_written n keys (ren R p) h k = (h.0, to_written n keys p h.1 k)
to_written n keys (intr p q) h k = (to_written n keys p h.0 (all_left keys (names p) (names q) k), to_written n keys q h.1 (all_right keys (names p) (names q) k))
to_written n keys (name j) h k = (at_place keys j j k.0).0

all_written : (n : ℕ) (keys : List Key) (bs : List Body) → AllLie n bs → AllHave keys (flat_map names bs) → (k : ℕ) → k < length (map (numbered (place keys)) bs) → IsWritten n (length keys) (bodies_of (map (numbered (place keys)) bs) k)
all_written n keys [] h a k l = absurd (omega (arith, l))
all_written n keys (b ∷ bs) h a zero l = to_written n keys b h.0 (all_left keys (names b) (flat_map names bs) a)
all_written n keys (b ∷ bs) h a (suc k) l = all_written n keys bs h.1 (all_right keys (names b) (flat_map names bs) a) k (omega (arith, l))

-- what is reached has a text
pub reached_written : (s : Scope) (root : Root) (first : Key) (keys : List Key) (bodies : List Body) (Ps : List Proc) → Reached (body_under root s) first keys bodies → Ps ≡ map (numbered (place keys)) bodies → (k : ℕ) → k < length Ps → IsWritten (event_count s.channels) (length Ps) (bodies_of Ps k)
reached_written s root first keys bodies Ps r e k l =
    let there = subst (λ ks. AllHave ks (flat_map names bodies)) r.first (all_named first bodies) in
    let a = reached_many (body_under root s) first keys bodies r in
    let long : length keys ≡ length Ps = a ∙ sym (length-map bodies (numbered (place keys))) ∙ sym (ap length e) in
    let h : (k : ℕ) → k < length Ps → IsWritten (event_count s.channels) (length keys) (bodies_of Ps k) =
    subst (λ Qs. (k : ℕ) → k < length Qs → IsWritten (event_count s.channels) (length keys) (bodies_of Qs k)) (sym e) (all_written (event_count s.channels) keys bodies (bodies_lie root s keys bodies r.each) there) in
    subst (λ m. IsWritten (event_count s.channels) m (bodies_of Ps k)) long (h k l)
