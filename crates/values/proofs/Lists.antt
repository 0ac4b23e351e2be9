-- Lists of what phrases stand for.
use Rattle.std.proofs.Common.{◌≡◌, ◌≢◌, ℕ, zero, suc, ◌+◌, ◌<◌, ◌≤◌, take, get_or, ap₂, List, [], ◌∷◌, ◌++◌, map, length, Option, Some, None, Bool, true, false, cond, Vec, Bor, ◌↔◌, IsSome, refl, sym, ap, ◌∙◌, arith, eqb-true}
use Rattle.std.proofs.lemmas.List.{map-append, length-append, take_more, take_all}
use Rattle.values.specs.declared.worth.Worth.{Worth}
use Rattle.values.specs.declared.value.Value.{Value}
use Rattle.std.specs.Ordering.{on}
use Rattle.std.specs.Option.{option_map, option_copied}
use Rattle.std.specs.Prelude.{nat_eq}
use Rattle.std.specs.Map.{lookup}
use Rattle.indexmap.specs.IndexMap.{insert_entry}
use Rattle.std.specs.Cmp.Lexicographic.{pointwise, bytes_decides}
use Rattle.std.specs.BTreeSet.{insert_key}
use Rattle.std.specs.List.{AllZip}
use Rattle.tokens.specs.declared.read_error.ReadError.{ReadError}
use Rattle.alphabet.specs.Channels.{FieldValue, constant, Values}
use Rattle.values.specs.Values.{◌>>=◌, Name, value_cmp, set_of}
use Rattle.values.specs.Names.{same_name}
use Rattle.values.specs.Worths.{Worth as Plain, the_only, the_two, the_value, all_values, set_of_all, nothing_of, truth_of, one, many, truth}
use Rattle.values.specs.Tables.{known_by, entries}
use Rattle.values.proofs.ValueSets.{insert_view}
use Rattle.values.specs.View.{value, worth, Fails}
use Rattle.syntax.proofs.Failing.{fails_on}

pub only_one : {A : Type 0} (ws front : List (Worth A)) (w : Worth A) → length ws ≡ 1 → ws ≡ front ++ w ∷ [] → the_only (map worth ws) ≡ Some (worth w)
unfolding the_only
only_one ws [] w l h = ap (λ xs. the_only (map worth xs)) h
only_one ws (x ∷ xs) w l h = absurd (omega (arith, l, ap length h, length-append xs (w ∷ [])))

pub not_one : {A : Type 0} (ws : List (Worth A)) → (length ws ≢ 1) → the_only (map worth ws) ≡ None
unfolding the_only
not_one [] n = refl
not_one (x ∷ []) n = absurd (n refl)
not_one (x ∷ y ∷ ws) n = refl

pub only_two : {A : Type 0} (ws front last : List (Worth A)) (v w : Worth A) → length ws ≡ 2 → ws ≡ front ++ w ∷ [] → front ≡ last ++ v ∷ [] → the_two (map worth ws) ≡ Some (worth v, worth w)
unfolding the_two
only_two ws front [] v w l h k = ap (λ xs. the_two (map worth xs)) (h ∙ ap (λ xs. xs ++ w ∷ []) k)
only_two ws front (x ∷ xs) v w l h k = absurd (omega (arith, l, ap length h, length-append front (w ∷ []), ap length k, length-append xs (v ∷ [])))

pub not_two : {A : Type 0} (ws : List (Worth A)) → (length ws ≢ 2) → the_two (map worth ws) ≡ None
unfolding the_two
not_two [] n = refl
not_two (x ∷ []) n = refl
not_two (x ∷ y ∷ []) n = absurd (n refl)
not_two (x ∷ y ∷ z ∷ ws) n = refl

pub no_parts : {A : Type 0} (ws : List (Worth A)) → length ws ≡ 0 → nothing_of (map worth ws) ≡ Some (many [])
unfolding nothing_of
no_parts [] h = refl
no_parts (w ∷ ws) h = absurd (omega (arith, h))

pub some_parts : {A : Type 0} (ws : List (Worth A)) → nat_eq (length ws) 0 ≡ false → nothing_of (map worth ws) ≡ None
unfolding nothing_of
some_parts [] h = absurd cc
some_parts (w ∷ ws) h = refl

pub truth_alone : {A : Type 0} (b : Bool) (ws : List (Worth A)) → nat_eq (length ws) 0 ≡ true → truth_of b (map worth ws) ≡ Some (truth b)
unfolding truth_of
truth_alone b [] h = refl
truth_alone b (w ∷ ws) h = absurd (omega (arith, eqb-true (length (w ∷ ws)) 0 h))

pub truth_with : {A : Type 0} (b : Bool) (ws : List (Worth A)) → nat_eq (length ws) 0 ≡ false → truth_of b (map worth ws) ≡ None
unfolding truth_of
truth_with b [] h = absurd cc
truth_with b (w ∷ ws) h = refl

-- ---- tables

pub looked_up : {A : Type 0} (es : List (Vec ℕ A × Worth A)) (n : Name) → option_map worth (lookup (λ (k : Vec ℕ A). pointwise nat_eq n k.items) es) ≡ known_by (entries es) n
unfolding known_by
looked_up [] n = refl
looked_up {A = A} (e ∷ es) n = by (pointwise nat_eq n e.0.items) (looked_up es n)
  where
    by : (b : Bool) → option_map worth (lookup (λ (k : Vec ℕ A). pointwise nat_eq n k.items) es) ≡ known_by (entries es) n → option_map worth (cond b (Some e.1) (lookup (λ (k : Vec ℕ A). pointwise nat_eq n k.items) es)) ≡ cond b (Some (worth e.1)) (known_by (entries es) n)
    by true h = refl
    by false h = h

pub copied : {X Y : Type 0} (f : X → Y) (r : Option (Bor X)) → option_map (λ w. f w.now) r ≡ option_map f (option_copied r)
copied f None = refl
copied f (Some w) = refl

-- ---- options

-- what is empty has length 0
pub none_left : {X : Type 0} (o : Option X) (n : ℕ) → o ≡ None → IsSome o ↔ (0 < n) → n ≡ 0
none_left o zero e v = refl
none_left None (suc n) e v = absurd (let h : false ≡ true = v.1 (omega arith) in cc)
none_left (Some x) (suc n) e v = absurd cc

-- ---- lists of values, from their ends

-- the values put in a set from the last one on
abbrev pub put_all : Values → Values → Values
put_all [] us = us
put_all (v ∷ vs) us = insert_key value_cmp (put_all vs us) v

-- the values of a list put in a set
unfoldable pub onto : List Plain → Values → Option Values
onto ws us = all_values ws >>= λ vs. Some (put_all vs us)

set_put : (vs : Values) → put_all vs [] ≡ set_of vs
unfolding set_of
set_put [] = refl
set_put (v ∷ vs) = ap (λ us. insert_key value_cmp us v) (set_put vs)

put_last : (vs us : Values) (v : FieldValue) → put_all (vs ++ v ∷ []) us ≡ put_all vs (insert_key value_cmp us v)
put_last [] us v = refl
put_last (w ∷ ws) us v = ap (λ xs. insert_key value_cmp xs w) (put_last ws us v)

abbrev some_values : Values → Option Values
some_values vs = Some vs

values_last : (ws : List Plain) (w : Plain) → all_values (ws ++ w ∷ []) ≡ (the_value w >>= λ v. all_values ws >>= λ vs. Some (vs ++ v ∷ []))
unfolding all_values
values_last [] w = by (the_value w)
  where
    by : (o : Option FieldValue) → (some_values [] >>= λ vs. o >>= λ v. Some (v ∷ vs)) ≡ (o >>= λ v. some_values [] >>= λ vs. Some (vs ++ v ∷ []))
    by None = refl
    by (Some v) = refl
values_last (x ∷ xs) w = by (all_values (xs ++ w ∷ [])) (the_value w) (all_values xs) (the_value x) (values_last xs w)
  where
    by : (o : Option Values) (p : Option FieldValue) (q : Option Values) (r : Option FieldValue) → o ≡ (p >>= λ v. q >>= λ vs. Some (vs ++ v ∷ [])) → (o >>= λ vs. r >>= λ v. some_values (v ∷ vs)) ≡ (p >>= λ v. (q >>= λ vs. r >>= λ x. Some (x ∷ vs)) >>= λ vs. Some (vs ++ v ∷ []))
    by o None q r h = ap (λ o. o >>= λ vs. r >>= λ v. some_values (v ∷ vs)) h
    by o (Some v) None r h = ap (λ o. o >>= λ vs. r >>= λ v. some_values (v ∷ vs)) h
    by o (Some v) (Some vs) None h = ap (λ o. o >>= λ vs. None >>= λ v. some_values (v ∷ vs)) h
    by o (Some v) (Some vs) (Some x) h = ap (λ o. o >>= λ vs. Some x >>= λ v. some_values (v ∷ vs)) h

onto_last : (ws : List Plain) (w : Plain) (us : Values) → onto (ws ++ w ∷ []) us ≡ (the_value w >>= λ v. onto ws (insert_key value_cmp us v))
unfolding onto
onto_last ws w us = ap (λ o. o >>= λ vs. some_values (put_all vs us)) (values_last ws w) ∙ by (the_value w) (all_values ws)
  where
    by : (p : Option FieldValue) (q : Option Values) → ((p >>= λ v. q >>= λ vs. Some (vs ++ v ∷ [])) >>= λ vs. some_values (put_all vs us)) ≡ (p >>= λ v. q >>= λ vs. Some (put_all vs (insert_key value_cmp us v)))
    by None q = refl
    by (Some v) None = refl
    by (Some v) (Some vs) = ap some_values (put_last vs us v)

pub listed_start : {A : Type 0} (ws : List (Worth A)) (ks : List (Value A)) → ks ≡ [] → onto (map worth ws) (map value ks) ≡ set_of_all (map worth ws)
unfolding onto set_of_all
listed_start ws ks h = ap (λ us. all_values (map worth ws) >>= λ vs. some_values (put_all vs (map value us))) h ∙ by (all_values (map worth ws))
  where
    by : (o : Option Values) → (o >>= λ vs. some_values (put_all vs [])) ≡ (o >>= λ vs. Some (set_of vs))
    by None = refl
    by (Some vs) = ap some_values (set_put vs)

listed_next : {A : Type 0} (ws front : List (Worth A)) (w : Worth A) (us : Values) → ws ≡ front ++ w ∷ [] → onto (map worth ws) us ≡ (the_value (worth w) >>= λ v. onto (map worth front) (insert_key value_cmp us v))
listed_next ws front w us h = ap (λ xs. onto (map worth xs) us) h ∙ ap (λ xs. onto xs us) (map-append worth front (w ∷ [])) ∙ onto_last (map worth front) (worth w) us

pub listed_more : {A : Type 0} (ws front : List (Worth A)) (w : Worth A) (ks ls : List (Value A)) (v : Value A) (whole : Option Values) → onto (map worth ws) (map value ks) ≡ whole → ws ≡ front ++ w ∷ [] → the_value (worth w) ≡ Some (value v) → ls ≡ insert_key (on value value_cmp) ks v → onto (map worth front) (map value ls) ≡ whole
listed_more ws front w ks ls v whole inv h is put =
    ap (λ xs. onto (map worth front) xs) (ap (map value) put ∙ insert_view ks v)
    ∙ sym (listed_next ws front w (map value ks) h ∙ ap (λ o. o >>= λ v. onto (map worth front) (insert_key value_cmp (map value ks) v)) is) ∙ inv

pub listed_fails : {A : Type 0} (k : ReadError) (ws front : List (Worth A)) (w : Worth A) (ks : List (Value A)) (whole : Option Values) → onto (map worth ws) (map value ks) ≡ whole → ws ≡ front ++ w ∷ [] → Fails k (the_value (worth w)) → Fails k whole
listed_fails k ws front w ks whole inv h f =
    fails_on k (the_value (worth w)) whole (λ e. sym inv ∙ listed_next ws front w (map value ks) h ∙ ap (λ o. o >>= λ v. onto (map worth front) (insert_key value_cmp (map value ks) v)) e) f

pub listed_end : {A : Type 0} (ws : List (Worth A)) (ks : List (Value A)) (whole : Option Values) → onto (map worth ws) (map value ks) ≡ whole → length ws ≡ 0 → whole ≡ Some (map value ks)
unfolding onto all_values
listed_end [] ks whole inv h = sym inv
listed_end (w ∷ ws) ks whole inv h = absurd (omega (arith, h))

-- ---- lists of constants

pub same_bytes : (xs ys : List ℕ) → AllZip (λ x y. y ≡ x) xs ys → ys ≡ xs
same_bytes [] [] h = refl
same_bytes [] (y ∷ ys) h = absurd h
same_bytes (x ∷ xs) [] h = absurd h
same_bytes (x ∷ xs) (y ∷ ys) h = ap₂ (λ v vs. v ∷ vs) h.0 (same_bytes xs ys h.1)

abbrev pub constant_worth : {A : Type 0} → Vec ℕ A → Plain
constant_worth n = one (constant n.items)

pub constants_start : {A : Type 0} (ns : List (Vec ℕ A)) (ws : List (Worth A)) → ws ≡ [] → map worth ws ≡ map constant_worth (take 0 ns)
constants_start ns ws h = ap (map worth) h

pub constants_more : {A : Type 0} (ns : List (Vec ℕ A)) (i : ℕ) (n m : Vec ℕ A) (ws new : List (Worth A)) (w : Worth A) → map worth ws ≡ map constant_worth (take i ns) → i < length ns → n ≡ get_or ns i n → m.items ≡ n.items → worth w ≡ constant_worth m → new ≡ ws ++ w ∷ [] → map worth new ≡ map constant_worth (take (i + 1) ns)
constants_more ns i n m ws new w inv h is same made put =
    ap (map worth) put ∙ map-append worth ws (w ∷ []) ∙ ap₂ (λ xs x. xs ++ x ∷ []) inv (made ∙ ap (λ x. one (constant x)) same)
    ∙ sym (map-append constant_worth (take i ns) (n ∷ [])) ∙ sym (ap (map constant_worth) (take_more ns i n h ∙ ap (λ x. take i ns ++ x ∷ []) (sym is)))

constants_all : {A : Type 0} (ns : List (Vec ℕ A)) → all_values (map constant_worth ns) ≡ Some (map (λ n. constant n.items) ns)
unfolding all_values the_value
constants_all [] = refl
constants_all (n ∷ ns) = ap (λ o. o >>= λ vs. Some (constant n.items) >>= λ v. some_values (v ∷ vs)) (constants_all ns)

pub constants_end : {A : Type 0} (ns : List (Vec ℕ A)) (ws : List (Worth A)) (i : ℕ) → map worth ws ≡ map constant_worth (take i ns) → length ns ≤ i → set_of_all (map worth ws) ≡ Some (set_of (map (λ n. constant n.items) ns))
unfolding set_of_all
constants_end ns ws i inv h = ap (λ xs. all_values xs >>= λ vs. some_values (set_of vs)) (inv ∙ ap (map constant_worth) (take_all i ns h)) ∙ ap (λ o. o >>= λ vs. some_values (set_of vs)) (constants_all ns)

-- a table with what a name stands for
pub inserted : {A : Type 0} (es : List (Vec ℕ A × Worth A)) (key : Vec ℕ A) (w : Worth A) (n : Name) → known_by (entries (insert_entry (λ a b. pointwise nat_eq a.items b.items) es key w)) n ≡ cond (same_name n key.items) (Some (worth w)) (known_by (entries es) n)
unfolding known_by
inserted [] key w n = refl
inserted {A = A} (e ∷ es) key w n = by (pointwise nat_eq key.items e.0.items) (same_name n key.items) (same_name n e.0.items) refl refl refl (insert_entry (λ a b. pointwise nat_eq a.items b.items) es key w) (inserted es key w n)
  where
    by : (b c d : Bool) → pointwise nat_eq key.items e.0.items ≡ b → same_name n key.items ≡ c → same_name n e.0.items ≡ d → (fs : List (Vec ℕ A × Worth A)) → known_by (entries fs) n ≡ cond (same_name n key.items) (Some (worth w)) (known_by (entries es) n)
        → known_by (entries (cond b ((e.0, w) ∷ es) (e ∷ fs))) n ≡ cond (same_name n key.items) (Some (worth w)) (cond (same_name n e.0.items) (Some (worth e.1)) (known_by (entries es) n))
    by true true true p q r fs ih = rw (q, r) refl
    by true true false p q r fs ih = absurd (let k : true ≡ false = sym q ∙ ap (same_name n) ((bytes_decides key.items e.0.items).0 p) ∙ r in cc)
    by true false true p q r fs ih = absurd (let k : true ≡ false = sym r ∙ ap (same_name n) (sym ((bytes_decides key.items e.0.items).0 p)) ∙ q in cc)
    by true false false p q r fs ih = rw (q, r) refl
    by false true true p q r fs ih = absurd (let k : true ≡ false = sym ((bytes_decides key.items e.0.items).1 (sym ((bytes_decides n key.items).0 q) ∙ (bytes_decides n e.0.items).0 r)) ∙ p in cc)
    by false true false p q r fs ih = rw (r, ih) refl
    by false false true p q r fs ih = rw (q, r) refl
    by false false false p q r fs ih = rw (r, ih) refl

pub kept : {A : Type 0} (es fs : List (Vec ℕ A × Worth A)) (n : Name) → fs ≡ es → known_by (entries fs) n ≡ known_by (entries es) n
kept es fs n h = ap (λ xs. known_by (entries xs) n) h
