-- The tree of a printed script fits the grammar, within its limits.
use Rattle.std.proofs.Common.{◌≡◌, ℕ, zero, suc, ◌+◌, ◌<◌, ◌≤◌, pos, negsuc, List, [], ◌∷◌, ◌++◌, map, length, drop, Bool, true, false, not, ◌&&◌, ◌||◌, refl, ap, ap₂, ◌∙◌, arith}
use Rattle.std.specs.Prelude.{nat_le}
use Rattle.std.specs.List.{range_with_len}
use Rattle.alphabet.specs.Channels.{FieldValue, number, constant, Values, Channel, event_count}
use Rattle.term.specs.Proc.{Proc, bodies_of}
use Rattle.term.specs.Specs.{Specified}
use Rattle.term.specs.Sizes.{depth}
use Rattle.syntax.specs.declared.form.Form.TheVariants as forms
use Rattle.syntax.specs.Grammar.{Syntax, height_of, highest, nesting, nests, nests_part, is_open, is_last, level_in, is_called, is_declaration, is_names, is_constants, is_field_sets, is_script, is, shut, may_stand, Fits, FitAll, takes, flat}
use Rattle.syntax.specs.Rules.{rule, form_level, is_heavy, ending}
use Rattle.syntax.specs.Script.{IsScript}
use Rattle.printing.specs.Names.{Name, constants, datatype_primes}
use Rattle.read_back.proofs.Trees.{node, phrases, member_tree, values_tree, channel_tree_of, channel_tree, called_trees, datatype_trees, body_tree, body_trees, printed_primes, script_tree}
use Rattle.read_back.proofs.Readable.{IsWritten}
use Rattle.read_back.proofs.Fitting.{process_fits, process_high, process_nested, process_level}

-- ---- sets of values

member_level : (v : FieldValue) → nat_le (level_in (member_tree v)) 16 ≡ true
unfolding level_in form_level
member_level (number (pos n)) = refl
member_level (number (negsuc n)) = refl
member_level (constant n) = refl

member_fits : (v : FieldValue) → Fits (member_tree v)
unfolding rule is level_in form_level is_called may_stand shut
member_fits (number (pos n)) = tt
member_fits (number (negsuc n)) = (refl, (tt, (refl, refl)))
member_fits (constant n) = (refl, (tt, (refl, refl)))

member_high : (v : FieldValue) → height_of (member_tree v) ≤ 2
unfolding is_heavy
member_high (number (pos n)) = omega arith
member_high (number (negsuc n)) = omega arith
member_high (constant n) = omega arith

member_nested : (v : FieldValue) → nesting (member_tree v) ≡ 0
unfolding nesting nests nests_part rule
member_nested (number (pos n)) = refl
member_nested (number (negsuc n)) = refl
member_nested (constant n) = refl

members_fit : (vs : Values) → FitAll (phrases (map member_tree vs)) (drop 2 (rule forms.Set))
unfolding rule is
members_fit [] = refl
members_fit (v ∷ vs) = (member_fits v, (member_level v, members_fit vs))

values_fit : (vs : Values) → Fits (values_tree vs)
unfolding rule is may_stand
values_fit [] = (refl, refl)
values_fit (v ∷ vs) = (refl, (member_fits v, (member_level v, members_fit vs)))

members_high : (vs : Values) → highest (phrases (map member_tree vs)) ≤ 2
members_high [] = omega arith
members_high (v ∷ vs) = omega (arith, member_high v, members_high vs)

values_high : (vs : Values) → height_of (values_tree vs) ≤ 3
unfolding is_heavy
values_high [] = omega arith
values_high (v ∷ vs) = omega (arith, member_high v, members_high vs)

members_nested : (vs : Values) → nests (phrases (map member_tree vs)) (drop 2 (rule forms.Set)) ≤ 1
unfolding nests nests_part rule
members_nested [] = omega arith
members_nested (v ∷ vs) = omega (arith, member_nested v, members_nested vs)

values_nested : (vs : Values) → nesting (values_tree vs) ≤ 1
unfolding nesting nests nests_part rule
values_nested [] = omega arith
values_nested (v ∷ vs) = omega (arith, member_nested v, members_nested vs)

values_open : (vs : Values) → is_open (values_tree vs) ≡ false
unfolding is_open ending
values_open [] = refl
values_open (v ∷ vs) = refl

-- ---- fields

fields_shut : (fields : List Values) → shut (phrases (map values_tree fields)) ≡ true
unfolding shut
fields_shut [] = refl
fields_shut (vs ∷ fields) = ap₂ (λ a b. (is_last (phrases (map values_tree fields)) || not a) && b) (values_open vs) (fields_shut fields) ∙ either (is_last (phrases (map values_tree fields)))
  where
    either : (b : Bool) → ((b || true) && true) ≡ true
    either true = refl
    either false = refl

fields_fit : (fields : List Values) → FitAll (phrases (map values_tree fields)) (drop 1 (rule forms.FieldSets))
unfolding rule is takes level_in form_level
fields_fit [] = refl
fields_fit ([] ∷ fields) = (values_fit [], (refl, fields_fit fields))
fields_fit ((v ∷ vs) ∷ fields) = (values_fit (v ∷ vs), (refl, fields_fit fields))

sets_fit : (vs : Values) (fields : List Values) → Fits (node forms.FieldSets (map values_tree (vs ∷ fields)))
unfolding rule is takes level_in form_level may_stand
sets_fit [] fields = (fields_shut ([] ∷ fields), (values_fit [], (refl, fields_fit fields)))
sets_fit (v ∷ vs) fields = (fields_shut ((v ∷ vs) ∷ fields), (values_fit (v ∷ vs), (refl, fields_fit fields)))

fields_high : (fields : List Values) → highest (phrases (map values_tree fields)) ≤ 3
fields_high [] = omega arith
fields_high (vs ∷ fields) = omega (arith, values_high vs, fields_high fields)

fields_nested : (fields : List Values) → nests (phrases (map values_tree fields)) (drop 1 (rule forms.FieldSets)) ≤ 1
unfolding nests nests_part rule
fields_nested [] = omega arith
fields_nested (vs ∷ fields) = omega (arith, values_nested vs, fields_nested fields)

sets_nested : (vs : Values) (fields : List Values) → nesting (node forms.FieldSets (map values_tree (vs ∷ fields))) ≤ 1
unfolding nesting nests nests_part rule
sets_nested vs fields = omega (arith, values_nested vs, fields_nested fields)

-- ---- declarations

-- A declaration that fits, and is within the limits of a script.
record IsFine (t : Syntax) : Type 0 where
  pub declares : is_declaration t ≡ true
  pub fits : Fits t
  pub high : height_of t ≤ 202
  pub nested : nesting t ≤ 201

abbrev AllFine : List Syntax → Type 0
AllFine [] = Unit {0}
AllFine (t ∷ ts) = IsFine t × AllFine ts

all_both : (ts us : List Syntax) → AllFine ts → AllFine us → AllFine (ts ++ us)
all_both [] us h k = k
all_both (t ∷ ts) us h k = (h.0, all_both ts us h.1 k)

channel_fine : (n : Name) (fields : List Values) → IsFine (channel_tree_of n fields)
unfolding is_declaration rule is is_names is_called is_field_sets may_stand is_heavy nesting nests nests_part
channel_fine n [] = record { declares = refl; fits = (refl, ((refl, (tt, (refl, refl))), (refl, refl))); high = omega arith; nested = omega arith }
channel_fine n (vs ∷ fields) = record {
  declares = refl;
  fits = (refl, ((refl, (tt, (refl, refl))), (refl, (sets_fit vs fields, (refl, refl)))));
  high = omega (arith, values_high vs, fields_high fields);
  nested = omega (arith, sets_nested vs fields);
}

channels_fine : (cs : List Channel) → AllFine (map channel_tree cs)
channels_fine [] = tt
channels_fine (c ∷ cs) = (channel_fine c.name c.fields, channels_fine cs)

names_fit : (ns : List Name) → FitAll (phrases (called_trees ns)) (drop 1 (rule forms.Constants))
unfolding rule is is_called
names_fit [] = refl
names_fit (n ∷ ns) = (tt, (refl, names_fit ns))

names_high : (ns : List Name) → highest (phrases (called_trees ns)) ≤ 0
names_high [] = omega arith
names_high (n ∷ ns) = omega (arith, names_high ns)

names_nested : (ns : List Name) → nests (phrases (called_trees ns)) (drop 1 (rule forms.Constants)) ≤ 0
unfolding nesting nests nests_part rule
names_nested [] = omega arith
names_nested (n ∷ ns) = omega (arith, names_nested ns)

datatype_fine : (primes : ℕ) (ns : List Name) → AllFine (datatype_trees primes ns)
unfolding is_declaration rule is is_constants is_called may_stand is_heavy nesting nests nests_part
datatype_fine primes [] = tt
datatype_fine primes (n ∷ ns) =
    (record { declares = refl; fits = (refl, (tt, (refl, ((refl, (tt, (refl, names_fit ns))), (refl, refl))))); high = omega (arith, names_high ns); nested = omega (arith, names_nested ns) }, tt)

body_fine : (cs : List Channel) (primes k n m : ℕ) (P : Proc) → IsWritten n m P → depth P ≤ 200 → IsFine (body_tree cs primes k P)
unfolding is_declaration rule is is_called may_stand is_heavy nesting nests nests_part
body_fine cs primes k n m P w d = record {
  declares = refl;
  fits = (refl, (tt, (refl, (process_fits cs primes n m P w, (ap (λ l. nat_le l 16) (process_level cs primes P), refl)))));
  high = omega (arith, process_high cs primes P, d);
  nested = omega (arith, process_nested cs primes P, d);
}

bodies_fine : (cs : List Channel) (primes n m : ℕ) (Ps : List Proc) → ((k : ℕ) → k < length Ps → IsWritten n m (bodies_of Ps k) × (depth (bodies_of Ps k) ≤ 200)) → (start count : ℕ) → start + count ≤ length Ps → AllFine (map (λ k. body_tree cs primes k (bodies_of Ps k)) (range_with_len start count))
bodies_fine cs primes n m Ps h start zero l = tt
bodies_fine cs primes n m Ps h start (suc count) l =
    let (w, d) = h start (omega (arith, l)) in
    (body_fine cs primes start n m (bodies_of Ps start) w d, bodies_fine cs primes n m Ps h (start + 1) count (omega (arith, l)))

-- ---- the whole

parts_fit : (ts : List Syntax) → AllFine ts → FitAll (phrases ts) (rule forms.Script)
unfolding rule is
parts_fit [] h = refl
parts_fit (t ∷ ts) h = (h.0.fits, (h.0.declares, parts_fit ts h.1))

parts_high : (ts : List Syntax) → AllFine ts → highest (phrases ts) ≤ 202
parts_high [] h = omega arith
parts_high (t ∷ ts) h = omega (arith, h.0.high, parts_high ts h.1)

parts_nested : (ts : List Syntax) → AllFine ts → nests (phrases ts) (rule forms.Script) ≤ 201
unfolding nests nests_part rule
parts_nested [] h = omega arith
parts_nested (t ∷ ts) h = omega (arith, h.0.nested, parts_nested ts h.1)

script_is : (ts : List Syntax) → AllFine ts → IsScript (flat (node forms.Script ts)) (node forms.Script ts)
unfolding is_script may_stand is_heavy nesting
script_is ts h = record { kind = refl; fits = (refl, parts_fit ts h); high = omega (arith, parts_high ts h); nested = omega (arith, parts_nested ts h); spelled = refl }

pub whole_is : (spec : Specified) → ((k : ℕ) → k < length spec.bodies → IsWritten (event_count spec.alphabet) (length spec.bodies) (bodies_of spec.bodies k) × (depth (bodies_of spec.bodies k) ≤ 200)) → IsScript (flat (script_tree spec)) (script_tree spec)
whole_is spec h =
    let cs = spec.alphabet in
    let primes = printed_primes spec in
    script_is ((datatype_trees (datatype_primes cs) (constants cs) ++ map channel_tree cs) ++ body_trees cs primes spec.bodies)
    (all_both (datatype_trees (datatype_primes cs) (constants cs) ++ map channel_tree cs) (body_trees cs primes spec.bodies)
    (all_both (datatype_trees (datatype_primes cs) (constants cs)) (map channel_tree cs) (datatype_fine (datatype_primes cs) (constants cs)) (channels_fine cs))
    (bodies_fine cs primes (event_count cs) (length spec.bodies) spec.bodies h 0 (length spec.bodies) (omega arith)))
