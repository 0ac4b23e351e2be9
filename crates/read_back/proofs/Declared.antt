-- What a printed script declares: each name once.
use Rattle.std.proofs.Common.{◌≡◌, ℕ, zero, suc, ◌+◌, ◌<◌, ◌≤◌, List, [], ◌∷◌, ◌++◌, map, length, nat_eq, Bool, true, false, not, ◌&&◌, ◌⊎◌, Some, inl, inr, refl, sym, ap, ap₂, ◌∙◌, subst, arith, append_assoc, append-nil}
use Rattle.std.proofs.lemmas.Bool.{false≢true, not-true}
use Rattle.std.proofs.lemmas.List.{map-append}
use Rattle.std.proofs.lemmas.List.Folds.{list_all-append}
use Rattle.std.specs.List.{list_all, range_with_len}
use Rattle.std.specs.Cmp.Lexicographic.{pointwise, bytes_decides}
use Rattle.alphabet.specs.Channels.{constant, Values, Channel, IsAlphabet, is_declared, is_apart_from}
use Rattle.alphabet.specs.Channels as alphabets
use Rattle.alphabet.specs.Elements.{In, here, there, Distinct}
use Rattle.alphabet.proofs.Lists.{In-map, In-under_map, In-append, In-append_left, In-append_right, Distinct-append, all-In, none-In, none-from_In, and-left, and-right}
use Rattle.term.specs.Proc.{Proc, bodies_of}
use Rattle.term.specs.Specs.{Specified}
use Rattle.syntax.specs.Grammar.{Syntax}
use Rattle.values.specs.Values.{◌>>=◌}
use Rattle.values.specs.Names.{Entry, channel, datatype, constant_name, definition, same_name, names_of, listed_names, field_sets, entries_of, declared_by, declared_by_all, declared, meaning, are_distinct, have_parameters, datatype_entries}
use Rattle.declared_names.proofs.Chains.{bind_some}
use Rattle.declarations.proofs.Meanings as meanings
use Rattle.printing.specs.Names.{Name, constants, primed, datatype_name, datatype_primes}
use Rattle.printing.specs.Printed.{reference}
use Rattle.read_back.proofs.Trees.{phrases, values_tree, channel_tree_of, channel_tree, called_trees, datatype_trees, process_tree, body_tree, body_trees, printed_primes, script_tree, typed_entries, channel_entry, body_entry, body_entries, printed_entries}
use Rattle.read_back.proofs.Ordered.{in_range, range_in}
use Rattle.read_back.proofs.Reaching.{reference_is}
use Rattle.read_back.proofs.Primes.{constants_distinct, of_fields, body_is_no_constant, body_is_no_channel, datatype_is_no_constant, datatype_is_no_channel, datatype_is_no_body}

-- ---- the entries of trees

abbrev DeclareAll : List Syntax → List Entry → Type 0
DeclareAll ts es = declared_by_all (phrases ts) ≡ Some es

declare_both : (ts us : List Syntax) (es fs : List Entry) → DeclareAll ts es → DeclareAll us fs → DeclareAll (ts ++ us) (es ++ fs)
unfolding declared_by_all
declare_both [] us es fs h k = k ∙ ap (λ xs. Some (xs ++ fs)) none
  where
    none : [] ≡ es
    none = cc
declare_both (t ∷ ts) us es fs h k =
    let (a, p, q) = bind_some (declared_by t) (λ a. declared_by_all (phrases ts) >>= λ b. Some (a ++ b)) es h in
    let (b, r, s) = bind_some (declared_by_all (phrases ts)) (λ b. Some (a ++ b)) es q in
    let same : a ++ b ≡ es = cc in
    ap (λ o. o >>= λ a. declared_by_all (phrases (ts ++ us)) >>= λ b. Some (a ++ b)) p
    ∙ ap (λ o. o >>= λ b. Some (a ++ b)) (declare_both ts us b fs r k)
    ∙ ap (λ xs. Some xs) (sym (append_assoc a b fs)) ∙ ap (λ xs. Some (xs ++ fs)) same

called_names : (ns : List Name) → names_of (phrases (called_trees ns)) ≡ Some ns
unfolding names_of
called_names [] = refl
called_names (n ∷ ns) = ap (λ o. o >>= λ ms. Some (n ∷ ms)) (called_names ns)

typed_declared : (primes : ℕ) (ns : List Name) → DeclareAll (datatype_trees primes ns) (typed_entries primes ns)
unfolding declared_by_all declared_by entries_of listed_names
typed_declared primes [] = refl
typed_declared primes (n ∷ ns) = ap (λ o. (o >>= λ ms. Some (datatype_entries (primed datatype_name primes) ms)) >>= λ es. Some (es ++ [])) (called_names (n ∷ ns)) ∙ ap (λ es. Some es) (append-nil (datatype_entries (primed datatype_name primes) (n ∷ ns)))

channel_declared : (n : Name) (fields : List Values) → declared_by (channel_tree_of n fields) ≡ Some ((n, channel (phrases (map values_tree fields))) ∷ [])
unfolding declared_by entries_of listed_names names_of field_sets
channel_declared n [] = refl
channel_declared n (vs ∷ fields) = refl

channels_declared : (cs : List Channel) → DeclareAll (map channel_tree cs) (map channel_entry cs)
unfolding declared_by_all
channels_declared [] = refl
channels_declared (c ∷ cs) =
    ap (λ o. o >>= λ es. declared_by_all (phrases (map channel_tree cs)) >>= λ fs. Some (es ++ fs)) (channel_declared c.name c.fields)
    ∙ ap (λ o. o >>= λ fs. Some (channel_entry c ∷ fs)) (channels_declared cs)

bodies_declared : (cs : List Channel) (primes : ℕ) (Ps : List Proc) (ks : List ℕ) → DeclareAll (map (λ k. body_tree cs primes k (bodies_of Ps k)) ks) (map (body_entry cs primes Ps) ks)
unfolding declared_by_all declared_by entries_of
bodies_declared cs primes Ps [] = refl
bodies_declared cs primes Ps (k ∷ ks) = ap (λ o. o >>= λ fs. Some (body_entry cs primes Ps k ∷ fs)) (bodies_declared cs primes Ps ks)

pub script_declared : (spec : Specified) → declared (script_tree spec) ≡ Some (printed_entries spec)
unfolding declared
script_declared spec =
    let cs = spec.alphabet in
    let primes = printed_primes spec in
    declare_both (datatype_trees (datatype_primes cs) (constants cs) ++ map channel_tree cs) (body_trees cs primes spec.bodies) (typed_entries (datatype_primes cs) (constants cs) ++ map channel_entry cs) (body_entries cs primes spec.bodies)
    (declare_both (datatype_trees (datatype_primes cs) (constants cs)) (map channel_tree cs) (typed_entries (datatype_primes cs) (constants cs)) (map channel_entry cs) (typed_declared (datatype_primes cs) (constants cs)) (channels_declared cs))
    (bodies_declared cs primes spec.bodies (range_with_len 0 (length spec.bodies)))

-- ---- each name once

abbrev named : Entry → Name
named e = e.0

distinct_entries : (es : List Entry) → Distinct (map named es) → are_distinct es ≡ true
unfolding are_distinct
distinct_entries [] d = refl
distinct_entries (e ∷ es) d = ap₂ (λ a b. not a && b) (none-from_In (λ f. same_name e.0 f.0) es (λ f i. other f i (same_name e.0 f.0) refl)) (distinct_entries es d.1)
  where
    other : (f : Entry) → In f es → (b : Bool) → same_name e.0 f.0 ≡ b → b ≡ false
    other f i true h = absurd (d.0 (subst (λ n. In n (map named es)) (sym ((bytes_decides e.0 f.0).0 h)) (In-under_map named es i)))
    other f i false h = refl

channel_names : (cs : List Channel) → alphabets.are_distinct cs ≡ true → Distinct (map named (map channel_entry cs))
channel_names [] d = tt
channel_names (c ∷ cs) d = (
  (λ i. let (e, j, p) = In-map named (map channel_entry cs) i in
      let (a, k, q) = In-map channel_entry cs j in
      let no : is_declared cs c.name ≡ false = not-true (is_declared cs c.name) (and-left (not (is_declared cs c.name)) (alphabets.are_distinct cs) d) in
      let same : c.name ≡ a.name = p ∙ ap named q in
      false≢true (sym (none-In (λ x. pointwise nat_eq c.name x.name) cs no k) ∙ (bytes_decides c.name a.name).1 same)),
  channel_names cs (and-right (not (is_declared cs c.name)) (alphabets.are_distinct cs) d),
)

body_names : (cs : List Channel) (primes : ℕ) (Ps : List Proc) (start n : ℕ) → start + n ≤ 65536 → Distinct (map named (map (body_entry cs primes Ps) (range_with_len start n)))
body_names cs primes Ps start zero l = tt
body_names cs primes Ps start (suc n) l = (
  (λ i. let (e, j, p) = In-map named (map (body_entry cs primes Ps) (range_with_len (start + 1) n)) i in
      let (k, m, q) = In-map (body_entry cs primes Ps) (range_with_len (start + 1) n) j in
      let b = in_range k (start + 1) n m in
      let same : start ≡ k = reference_is primes start k (omega (arith, l)) (omega (arith, l, b.1)) (p ∙ ap named q) in
      omega (arith, b.0, same)),
  body_names cs primes Ps (start + 1) n (omega (arith, l)),
)

constants_named : (ns : List Name) → map named (map (λ c. (c, constant_name)) ns) ≡ ns
constants_named [] = refl
constants_named (n ∷ ns) = ap (λ ms. n ∷ ms) (constants_named ns)

typed_of : (primes : ℕ) (ns : List Name) (x : Name) → In x (map named (typed_entries primes ns)) → (x ≡ primed datatype_name primes) ⊎ In x ns
typed_of primes [] x i = elim i [ ]
typed_of primes (n ∷ ns) x i = by i
  where
    by : {y : Name} → In y (primed datatype_name primes ∷ map named (map (λ c. (c, constant_name)) (n ∷ ns))) → (y ≡ primed datatype_name primes) ⊎ In y (n ∷ ns)
    by here = inl refl
    by {y = y} (there j) = inr (subst (λ ms. In y ms) (constants_named (n ∷ ns)) j)

typed_distinct : (primes : ℕ) (ns : List Name) → Distinct ns → ((n : Name) → In n ns → primed datatype_name primes ≡ n → ⊥) → Distinct (map named (typed_entries primes ns))
typed_distinct primes [] d h = tt
typed_distinct primes (n ∷ ns) d h =
    ((λ i. h (primed datatype_name primes) (subst (λ ms. In (primed datatype_name primes) ms) (constants_named (n ∷ ns)) i) refl), subst Distinct (sym (constants_named (n ∷ ns))) d)

channel_of_name : (cs : List Channel) (x : Name) → In x (map named (map channel_entry cs)) → (c : Channel) × In c cs × (x ≡ c.name)
channel_of_name cs x i =
    let (e, j, p) = In-map named (map channel_entry cs) i in
    let (c, k, q) = In-map channel_entry cs j in
    (c, k, p ∙ ap named q)

body_of_name : (cs : List Channel) (primes : ℕ) (Ps : List Proc) (x : Name) → In x (map named (body_entries cs primes Ps)) → (k : ℕ) × (k < length Ps) × (x ≡ reference primes k)
body_of_name cs primes Ps x i =
    let (e, j, p) = In-map named (body_entries cs primes Ps) i in
    let (k, m, q) = In-map (body_entry cs primes Ps) (range_with_len 0 (length Ps)) j in
    let b = in_range k 0 (length Ps) m in
    (k, omega (arith, b.1), p ∙ ap named q)

-- a constant is no channel
constant_apart : (cs : List Channel) → IsAlphabet cs → (x : Name) (c : Channel) → In x (constants cs) → In c cs → x ≡ c.name → ⊥
constant_apart cs a x c i j e =
    let (d, vs, k, l, m) = of_fields cs x i in
    let fields = all-In (λ c. list_all (list_all (is_apart_from cs)) c.fields) cs a.apart k in
    let values = all-In (list_all (is_apart_from cs)) d.fields fields l in
    let it : not (is_declared cs x) ≡ true = all-In (is_apart_from cs) vs values m in
    false≢true (sym (none-In (λ c. pointwise nat_eq x c.name) cs (not-true (is_declared cs x) it) j) ∙ (bytes_decides x c.name).1 e)

-- ---- no parameters

module _ (es : List Entry) where
  -- the entry has parameters that are in order, if it has any
  abbrev fits : Entry → Bool
  fits e = have_parameters es e.1

  constants_fit : (ns : List Name) → list_all fits (map (λ c. (c, constant_name)) ns) ≡ true
  unfolding have_parameters
  constants_fit [] = refl
  constants_fit (n ∷ ns) = constants_fit ns

  typed_fit : (p : ℕ) (ns : List Name) → list_all fits (typed_entries p ns) ≡ true
  unfolding have_parameters
  typed_fit p [] = refl
  typed_fit p (n ∷ ns) = constants_fit (n ∷ ns)

  channels_fit : (cs : List Channel) → list_all fits (map channel_entry cs) ≡ true
  unfolding have_parameters
  channels_fit [] = refl
  channels_fit (c ∷ cs) = channels_fit cs

  bodies_fit : (cs : List Channel) (primes : ℕ) (Ps : List Proc) (ks : List ℕ) → list_all fits (map (body_entry cs primes Ps) ks) ≡ true
  unfolding have_parameters
  bodies_fit cs primes Ps [] = refl
  bodies_fit cs primes Ps (k ∷ ks) = bodies_fit cs primes Ps ks

  all_fit : (cs : List Channel) (primes : ℕ) (Ps : List Proc) → list_all fits ((typed_entries (datatype_primes cs) (constants cs) ++ map channel_entry cs) ++ body_entries cs primes Ps) ≡ true
  all_fit cs primes Ps =
      list_all-append fits (typed_entries (datatype_primes cs) (constants cs) ++ map channel_entry cs) (body_entries cs primes Ps)
      ∙ ap₂ (λ a b. a && b)
      (list_all-append fits (typed_entries (datatype_primes cs) (constants cs)) (map channel_entry cs) ∙ ap₂ (λ a b. a && b) (typed_fit (datatype_primes cs) (constants cs)) (channels_fit cs))
      (bodies_fit cs primes Ps (range_with_len 0 (length Ps)))

module _ (spec : Specified) (sound : IsAlphabet spec.alphabet) (few : length spec.bodies ≤ 65536) where
  abbrev cs : List Channel
  cs = spec.alphabet

  abbrev primes : ℕ
  primes = printed_primes spec

  abbrev typed : List Entry
  typed = typed_entries (datatype_primes cs) (constants cs)

  abbrev channelled : List Entry
  channelled = map channel_entry cs

  abbrev defined : List Entry
  defined = body_entries cs primes spec.bodies

  front_distinct : Distinct (map named typed ++ map named channelled)
  front_distinct =
      Distinct-append (map named typed) (map named channelled)
      (typed_distinct (datatype_primes cs) (constants cs) (constants_distinct cs) (λ n i e. datatype_is_no_constant cs n i e))
      (channel_names cs sound.distinct)
      (λ x i j. let (c, k, e) = channel_of_name cs x j in elim (typed_of (datatype_primes cs) (constants cs) x i) [ inl f ↦ datatype_is_no_channel cs c k (sym f ∙ e) | inr l ↦ constant_apart cs sound x c l k e ])

  all_distinct : Distinct ((map named typed ++ map named channelled) ++ map named defined)
  all_distinct =
      Distinct-append (map named typed ++ map named channelled) (map named defined) front_distinct
      (body_names cs primes spec.bodies 0 (length spec.bodies) (omega (arith, few)))
      (λ x i j. let (k, l, e) = body_of_name cs primes spec.bodies x j in
      elim (In-append (map named typed) (map named channelled) i) [
        | inl m ↦ (elim (typed_of (datatype_primes cs) (constants cs) x m) [ inl f ↦ datatype_is_no_body (datatype_primes cs) primes k (sym f ∙ e) | inr n ↦ body_is_no_constant cs (length spec.bodies) k x l n (sym e) ])
        | inr m ↦ (let (c, n, f) = channel_of_name cs x m in body_is_no_channel cs (length spec.bodies) k c l n (sym e ∙ f))
      ])

  pub once : are_distinct (printed_entries spec) ≡ true
  once = distinct_entries (printed_entries spec) (subst Distinct (sym (map-append named (typed ++ channelled) defined ∙ ap (λ ns. ns ++ map named defined) (map-append named typed channelled))) all_distinct)

  -- none of them has parameters
  pub no_parameters : list_all (λ e. have_parameters (printed_entries spec) e.1) (printed_entries spec) ≡ true
  no_parameters = all_fit (printed_entries spec) cs primes spec.bodies

  -- ---- what names are declared as

  entry_in : (es : List Entry) (e : Entry) → In e es → meanings.In e es
  entry_in [] e i = elim i [ ]
  entry_in (f ∷ es) e i = by i (λ j. entry_in es e j)
    where
      by : {x : Entry} → In x (f ∷ es) → (In x es → meanings.In x es) → meanings.In x (f ∷ es)
      by here g = inl refl
      by (there j) g = inr (g j)

  in_entry : (es : List Entry) (e : Entry) → meanings.In e es → In e es
  in_entry [] e i = absurd i
  in_entry (f ∷ es) e i = elim i [ inl h ↦ subst (λ x. In x (f ∷ es)) h here | inr j ↦ there (in_entry es e j) ]

  means_so : (e : Entry) → In e (printed_entries spec) → meaning (printed_entries spec) e.0 ≡ Some e.1
  means_so e i = meanings.means (printed_entries spec) e once (entry_in (printed_entries spec) e i)

  pub body_means : (k : ℕ) → k < length spec.bodies → meaning (printed_entries spec) (reference primes k) ≡ Some (definition (process_tree cs primes (bodies_of spec.bodies k)))
  body_means k l =
      means_so (body_entry cs primes spec.bodies k)
      (In-append_right (typed ++ channelled) defined (In-under_map (body_entry cs primes spec.bodies) (range_with_len 0 (length spec.bodies)) (range_in k 0 (length spec.bodies) (omega arith) (omega (arith, l)))))

  pub channel_means : (c : Channel) → In c cs → meaning (printed_entries spec) c.name ≡ Some (channel (phrases (map values_tree c.fields)))
  channel_means c i = means_so (channel_entry c) (In-append_left defined (In-append_right typed channelled (In-under_map channel_entry cs i)))

  typed_in : (p : ℕ) (ns : List Name) (n : Name) → In n ns → In (n, constant_name) (typed_entries p ns)
  typed_in p [] n i = elim i [ ]
  typed_in p (m ∷ ns) n i = there (In-under_map (λ (c : Name). let e : Entry = (c, constant_name) in e) (m ∷ ns) i)

  pub constant_means : (n : Name) → In n (constants cs) → meaning (printed_entries spec) n ≡ Some constant_name
  constant_means n i = means_so (n, constant_name) (In-append_left defined (In-append_left channelled (typed_in (datatype_primes cs) (constants cs) n i)))

  typed_is : (p : ℕ) (ns : List Name) (e : Entry) → In e (typed_entries p ns) → (t : Syntax) → e.1 ≡ definition t → ⊥
  typed_is p [] e i t h = elim i [ ]
  typed_is p (m ∷ ns) e i t h = by i h
    where
      one : {x : Entry} → In x (map (λ c. (c, constant_name)) (m ∷ ns)) → x.1 ≡ definition t → ⊥
      one j h = let (c, k, q) = In-map (λ (c : Name). let e : Entry = (c, constant_name) in e) (m ∷ ns) j in let e : constant_name ≡ definition t = sym (ap (λ (x : Entry). x.1) q) ∙ h in cc

      by : {x : Entry} → In x (typed_entries p (m ∷ ns)) → x.1 ≡ definition t → ⊥
      by here h = let e : datatype (m ∷ ns) ≡ definition t = h in cc
      by (there j) h = one j h

  -- each definition is that of a body
  pub definition_is : (n : Name) (t : Syntax) → meaning (printed_entries spec) n ≡ Some (definition t) → (k : ℕ) × (k < length spec.bodies) × (n ≡ reference primes k) × (t ≡ process_tree cs primes (bodies_of spec.bodies k))
  definition_is n t h = elim (In-append (typed ++ channelled) defined (in_entry (printed_entries spec) (n, definition t) (meanings.meant (printed_entries spec) n (definition t) h))) [
    | inl i ↦ absurd (elim (In-append typed channelled i) [
      | inl j ↦ typed_is (datatype_primes cs) (constants cs) (n, definition t) j t refl
      | inr j ↦ (let (c, k, q) = In-map channel_entry cs j in let e : channel (phrases (map values_tree c.fields)) ≡ definition t = sym (ap (λ (x : Entry). x.1) q) in cc)
    ])
    | inr i ↦ body i
  ]
    where
      body : In (n, definition t) defined → (k : ℕ) × (k < length spec.bodies) × (n ≡ reference primes k) × (t ≡ process_tree cs primes (bodies_of spec.bodies k))
      body i =
          let (k, m, q) = In-map (body_entry cs primes spec.bodies) (range_with_len 0 (length spec.bodies)) i in
          let b = in_range k 0 (length spec.bodies) m in
          let e : definition t ≡ definition (process_tree cs primes (bodies_of spec.bodies k)) = ap (λ (x : Entry). x.1) q in
          let f : t ≡ process_tree cs primes (bodies_of spec.bodies k) = cc in
          (k, omega (arith, b.1), ap (λ (x : Entry). x.0) q, f)
