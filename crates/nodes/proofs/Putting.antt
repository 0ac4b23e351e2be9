-- A node that is looked up in a table, and one that is put into it.
use Rattle.std.proofs.Common.{◌≡◌, ℕ, ◌+◌, ◌<◌, ◌≤◌, ◌^◌, inl, inr, Bool, true, false, not, cond, nat_eq, Option, None, Some, List, [], ◌∷◌, ◌++◌, length, get_or, map, position, refl, sym, ap, ◌∙◌, subst, arith, length-append, true≢false, is_some, slice_get}
use Rattle.std.specs.List.{position_or_len}
use Rattle.std.specs.Map.{keys_of, values_of}
use Rattle.std.specs.declared.vec.Vec.{Vec}
use Rattle.std.proofs.lemmas.List.{append-nil, get_or_append_left, get_or_push, map-append, length-map, get_or-map}
use Rattle.std.proofs.lemmas.Option.{slice_get_within, get_or_from_slice_get}
use Rattle.std.proofs.lemmas.List.Quantifiers.{position-Some}
use Rattle.std.proofs.lemmas.List.Sums.{prefix_len_passes}
use Rattle.std.proofs.lemmas.Bool.{cases_lt, lt-ltb, eqb-true, eq-eqb}
use Rattle.indexmap.specs.IndexMap.{IndexMap, get, insert_entry}
use Rattle.indexmap.proofs.CallerLemmas.{insert_entry-new}
use Rattle.alphabet.specs.EventSets.{Set}
use Rattle.term.specs.Traces.{Pairs}
use Rattle.term.specs.Proc.{Proc, stop}
use Rattle.term.specs.Same.{same_pairs}
use Rattle.term.specs.SameLaws.{same_pairs-eq, same_pairs-refl}
use Rattle.nodes.specs.declared.node.Node.{Node}
use Rattle.nodes.specs.declared.node.Node.TheVariants.{Stop}
use Rattle.nodes.specs.declared.facts.Facts.{Facts}
use Rattle.nodes.specs.Known.{IsKnown, AllKnown}
use Rattle.nodes.specs.SameNodes.{same_node, same_node-eq, same_node-refl}
use Rattle.nodes.specs.Shapes.{Parameters, at, shape, IsWithin, processes, AllWithin}
use Rattle.nodes.specs.Tables.{Tabled, tabled, relations_of, is_relation, NoneTwice, HasMore, HasGrown, IsNumber, AreParameters, IsTable}
use Rattle.nodes.proofs.Listing.{once-push, begins-same, begins-at, begins-longer, begins-on, more-same, more-on, shape-same, within-more, length-listed, listed-append, listed-at, listed-more, within-at, within-push, all-more}

pub count : (S : Parameters) (xs : List Node) → length (processes S xs) ≡ length xs
count S xs = length-listed S xs [] ∙ omega arith

pub of-node : (S : Parameters) (xs : List Node) (k : ℕ) → AllWithin S 0 xs → k < length xs → at (processes S xs) k ≡ shape S (processes S xs) (get_or xs k Stop)
of-node S xs k w h = listed-at S xs [] 0 k k w refl h (omega arith)

pub node-within : (S : Parameters) (xs : List Node) (k : ℕ) → AllWithin S 0 xs → k < length xs → IsWithin S k (get_or xs k Stop)
node-within S xs k w h = within-at S 0 k k xs w h (omega arith)

-- ---- growth
pub same-grown : (t : Tabled) → HasGrown t t
same-grown t = record { parameters = more-same t.parameters; processes = begins-same stop t.processes }

pub grown-on : (t u v : Tabled) → HasGrown t u → HasGrown u v → HasGrown t v
grown-on t u v g h = record {
  parameters = more-on t.parameters u.parameters v.parameters g.parameters h.parameters;
  processes = begins-on stop t.processes u.processes v.processes g.processes h.processes;
}

pub longer : (t u : Tabled) → HasGrown t u → length t.processes ≤ length u.processes
longer t u g = begins-longer stop t.processes u.processes g.processes

pub number-on : (t u : Tabled) (n : ℕ) (P : Proc) → HasGrown t u → IsNumber t n P → IsNumber u n P
number-on t u n P g s = record {
  within = omega (arith, s.within, longer t u g);
  is = begins-at stop t.processes u.processes n g.processes s.within ∙ s.is;
}

-- ---- a node that is there
pub put-found : (S : Parameters) (xs : List Node) (fs : List Facts) → IsTable S xs fs → (x : Node) (k : ℕ) → position (same_node x) xs ≡ Some k → IsNumber (tabled S xs) k (shape S (processes S xs) x)
put-found S xs fs t x k e =
    let p = position-Some (same_node x) xs k Stop e in
    let same = same_node-eq x (get_or xs k Stop) p.1 in
    record {
      within = omega (arith, p.0, count S xs);
      is = of-node S xs k t.within p.0 ∙ sym (ap (shape S (processes S xs)) same);
    }

-- ---- a node that isn't
pub absent : {X : Type 0} (p : X → Bool) (xs : List X) (d : X) → position p xs ≡ None → (k : ℕ) → k < length xs → p (get_or xs k d) ≡ true → ⊥
absent p xs d e k h t =
    elim (cases_lt (position_or_len p xs) (length xs)) [
      | inl l ↦
          let f : position p xs ≡ Some (position_or_len p xs) = ap (λ b. cond b (Some (position_or_len p xs)) None) (lt-ltb (position_or_len p xs) (length xs) l) in
          absurd (cc)
      | inr g ↦ true≢false (sym (prefix_len_passes (λ x. not (p x)) xs k d (omega arith)) ∙ ap not t)
    ]

pub known-push : (fs : List Facts) (ps : List Proc) (f : Facts) (P : Proc) → AllKnown fs ps → length fs ≡ length ps → IsKnown f P → AllKnown (fs ++ f ∷ []) (ps ++ P ∷ [])
known-push fs ps f P a n i k d h =
    elim (cases_lt k (length fs)) [
      | inl l ↦
          let K : Facts → Type 0 = λ g. IsKnown g (at (ps ++ P ∷ []) k) in
          subst K (sym (get_or_append_left fs (f ∷ []) d k l))
          (subst (IsKnown (get_or fs k d)) (sym (get_or_append_left ps (P ∷ []) stop k (omega arith))) (a k d l))
      | inr g ↦
          let e : length fs ≡ k = omega (arith, length-append fs (f ∷ [])) in
          let K : Facts → Type 0 = λ g. IsKnown g (at (ps ++ P ∷ []) k) in
          subst K (sym (get_or_push fs f d k e)) (subst (IsKnown f) (sym (get_or_push ps P stop k (sym n ∙ e))) i)
    ]

pub put-new : (S : Parameters) (xs : List Node) (fs : List Facts) → IsTable S xs fs → (x : Node) (f : Facts) → position (same_node x) xs ≡ None → IsWithin S (length (processes S xs)) x → length xs + 1 < 2 ^ 32 → IsKnown f (shape S (processes S xs) x) → IsTable S (xs ++ x ∷ []) (fs ++ f ∷ [])
put-new S xs fs t x v e w few fact =
    record {
      parameters = t.parameters;
      within = within-push S 0 (length (processes S xs)) xs x t.within (count S xs ∙ omega arith) w;
      once = subst (NoneTwice stop) (sym (listed-append S xs (x ∷ []) [])) (once-push stop (processes S xs) (shape S (processes S xs) x) t.once fresh);
      few = omega (arith, length-append xs (x ∷ []));
      count = length-append fs (v ∷ []) ∙ omega (arith, length-append xs (x ∷ []), t.count);
      known = subst (AllKnown (fs ++ v ∷ [])) (sym (listed-append S xs (x ∷ []) [])) (known-push fs (processes S xs) v (shape S (processes S xs) x) t.known (t.count ∙ sym (count S xs)) fact);
    }
  where
    fresh : (i : ℕ) → i < length (processes S xs) → at (processes S xs) i ≡ shape S (processes S xs) x → ⊥
    fresh i h f =
        let n = count S xs in
        let l : i < length xs = omega (arith, n) in
        let v = within-more S S i (length (processes S xs)) (get_or xs i Stop) (more-same S) (omega arith) (node-within S xs i t.within l) in
        let q = shape-same S (processes S xs) t.parameters t.once x (get_or xs i Stop) w v (sym f ∙ of-node S xs i t.within l) in
        absent (same_node x) xs Stop e i l (subst (λ y. same_node x y ≡ true) q (same_node-refl x))

pub new-number : (S : Parameters) (xs : List Node) (x : Node) (n : ℕ) → n ≡ length xs → IsNumber (tabled S (xs ++ x ∷ [])) n (shape S (processes S xs) x)
new-number S xs x n e =
    record {
      within = omega (arith, e, count S (xs ++ x ∷ []), length-append xs (x ∷ []));
      is = ap (λ l. at l n) (listed-append S xs (x ∷ []) []) ∙ get_or_push (processes S xs) (shape S (processes S xs) x) stop n (count S xs ∙ sym e);
    }

pub new-grown : (S : Parameters) (xs : List Node) (x : Node) → HasGrown (tabled S xs) (tabled S (xs ++ x ∷ []))
new-grown S xs x = record { parameters = more-same S; processes = (shape S (processes S xs) x ∷ [], listed-append S xs (x ∷ []) []) }

-- ---- the keys of a map with one more
none-of : {X : Type 0} (o : Option X) → is_some o ≡ false → o ≡ None
none-of None e = refl
none-of (Some x) e = absurd (cc)

pub none-when : {X : Type 0} (o : Option X) → ((x : X) → o ≡ Some x → ⊥) → o ≡ None
none-when None h = refl
none-when (Some x) h = absurd (h x refl)

pub entries-new : {V H : Type 0} (m : IndexMap Node V H) (es : List (Node × V)) (x : Node) (v : V) (r : Option ℕ) → r ≡ None → is_some r ≡ is_some (get same_node m x) → es ≡ insert_entry same_node m.entries x v → (keys_of es ≡ keys_of m.entries ++ x ∷ []) × (values_of es ≡ values_of m.entries ++ v ∷ [])
entries-new m es x v r n f e =
    let all = e ∙ insert_entry-new same_node m x v (none-of (get same_node m x) (sym f ∙ ap is_some n)) in
    (ap keys_of all ∙ map-append (λ e. e.0) m.entries ((x, v) ∷ []), ap values_of all ∙ map-append (λ e. e.1) m.entries ((x, v) ∷ []))

pub same-nodes : (S : Parameters) (xs ys : List Node) → ys ≡ xs → HasGrown (tabled S xs) (tabled S ys)
same-nodes S xs ys e = subst (λ (l : List Node). HasGrown (tabled S xs) (tabled S l)) (sym e) (same-grown (tabled S xs))

-- ---- more parameters
pub parameters-more : (S T : Parameters) (xs : List Node) (fs : List Facts) → IsTable S xs fs → HasMore S T → AreParameters T → IsTable T xs fs
parameters-more S T xs fs t m a =
    let same = sym (listed-more S T xs 0 [] m t.within) in
    record {
      parameters = a;
      within = all-more S T 0 xs m t.within;
      once = subst (NoneTwice stop) same t.once;
      few = t.few;
      count = t.count;
      known = subst (AllKnown fs) same t.known;
    }

pub parameters-grown : (S T : Parameters) (xs : List Node) → AllWithin S 0 xs → HasMore S T → HasGrown (tabled S xs) (tabled T xs)
parameters-grown S T xs w m = record { parameters = m; processes = ([], listed-more S T xs 0 [] m w ∙ sym (append-nil (processes S xs))) }

-- ---- sets
pub set-more : (S : Parameters) (s : Set) → HasMore S (record { sets = S.sets ++ s ∷ []; relations = S.relations })
set-more S s = record { sets = (s ∷ [], refl); relations = begins-same [] S.relations }

pub set-new : (S : Parameters) (s : Set) → AreParameters S → position (nat_eq s) S.sets ≡ None → length S.sets + 1 < 2 ^ 32 → AreParameters (record { sets = S.sets ++ s ∷ []; relations = S.relations })
set-new S s a e few =
    record {
      once_set = once-push 0 S.sets s a.once_set (λ i h f. absent (nat_eq s) S.sets 0 e i h (eq-eqb s (get_or S.sets i 0) (sym f)));
      once_relation = a.once_relation;
      few_sets = omega (arith, length-append S.sets (s ∷ []));
      few_relations = a.few_relations;
    }

pub set-found : (S : List Set) (s : Set) (k : ℕ) → position (nat_eq s) S ≡ Some k → (k < length S) × (get_or S k 0 ≡ s)
set-found S s k e = let p = position-Some (nat_eq s) S k 0 e in (p.0, sym (eqb-true s (get_or S k 0) p.1))

-- ---- relations
pub relation-more : (S : Parameters) (r : Pairs) → HasMore S (record { sets = S.sets; relations = S.relations ++ r ∷ [] })
relation-more S r = record { sets = begins-same 0 S.sets; relations = (r ∷ [], refl) }

pub relation-new : (S : Parameters) (r : Pairs) → AreParameters S → position (same_pairs r) S.relations ≡ None → length S.relations + 1 < 2 ^ 32 → AreParameters (record { sets = S.sets; relations = S.relations ++ r ∷ [] })
relation-new S r a e few =
    record {
      once_set = a.once_set;
      once_relation = once-push [] S.relations r a.once_relation (λ i h f. absent (same_pairs r) S.relations [] e i h (subst (λ (q : Pairs). same_pairs r q ≡ true) (sym f) (same_pairs-refl r)));
      few_sets = a.few_sets;
      few_relations = omega (arith, length-append S.relations (r ∷ []));
    }

pub relation-found : (S : List Pairs) (r : Pairs) (k : ℕ) → position (same_pairs r) S ≡ Some k → (k < length S) × (get_or S k [] ≡ r)
relation-found S r k e = let p = position-Some (same_pairs r) S k [] e in (p.0, sym (same_pairs-eq r (get_or S k []) p.1))

place-map : {X Y : Type 0} (f : X → Y) (p : Y → Bool) (xs : List X) → position_or_len p (map f xs) ≡ position_or_len (λ x. p (f x)) xs
place-map f p [] = refl
place-map f p (x ∷ xs) = ap (λ k. cond (not (p (f x))) (1 + k) 0) (place-map f p xs)

position-map : {X Y : Type 0} (f : X → Y) (p : Y → Bool) (xs : List X) → position p (map f xs) ≡ position (λ x. p (f x)) xs
position-map f p xs = rw (place-map f p xs, length-map xs f) refl

pub relation-place : {A : Type 0} (r : Pairs) (rs : List (Vec (ℕ × ℕ) A)) → position (same_pairs r) (relations_of rs) ≡ position (is_relation r) rs
relation-place {A} r rs = position-map (λ (v : Vec (ℕ × ℕ) A). v.items) (same_pairs r) rs

pub relation-push : {A : Type 0} (rs : List (Vec (ℕ × ℕ) A)) (v : Vec (ℕ × ℕ) A) → relations_of (rs ++ v ∷ []) ≡ relations_of rs ++ v.items ∷ []
relation-push {A} rs v = map-append (λ (v : Vec (ℕ × ℕ) A). v.items) rs (v ∷ [])

pub same-pair : (x y : ℕ × ℕ) → (y.0 ≡ x.0) × (y.1 ≡ x.1) → y ≡ x
same-pair x y e = rw (e.0, e.1) refl

-- ---- a node by its number
pub key-at : (es : List (Node × Facts)) (k : ℕ) (e : Node × Facts) → Some e ≡ slice_get es k → (k < length (keys_of es)) × (get_or (keys_of es) k Stop ≡ e.0)
key-at es k e f =
    let l = slice_get_within es k e (sym f) in
    let n = length-map es (λ (p : Node × Facts). p.0) in
    (omega (arith, l, n), get_or-map (λ (p : Node × Facts). p.0) es k e Stop l ∙ ap (λ (p : Node × Facts). p.0) (get_or_from_slice_get es k e e (sym f)))

pub node-within-at : (S : Parameters) (xs : List Node) (fs : List Facts) (k : ℕ) (x : Node) → IsTable S xs fs → (k < length xs) × (get_or xs k Stop ≡ x) → IsWithin S k x
node-within-at S xs fs k x t p = subst (IsWithin S k) p.1 (node-within S xs k t.within p.0)

pub node-shape-at : (S : Parameters) (xs : List Node) (fs : List Facts) (k : ℕ) (x : Node) → IsTable S xs fs → (k < length xs) × (get_or xs k Stop ≡ x) → at (processes S xs) k ≡ shape S (processes S xs) x
node-shape-at S xs fs k x t p = of-node S xs k t.within p.0 ∙ ap (shape S (processes S xs)) p.1

-- ---- no processes
pub empty : (S : Parameters) → S.sets ≡ [] → S.relations ≡ [] → AreParameters S
empty S e f = record {
  once_set = record { same = λ i j h k q. absurd (omega (arith, ap length e, h)) };
  once_relation = record { same = λ i j h k q. absurd (omega (arith, ap length f, h)) };
  few_sets = omega (arith, ap length e);
  few_relations = omega (arith, ap length f);
}
