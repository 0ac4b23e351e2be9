-- The table of declared names.
use Rattle.std.proofs.Common.{◌≡◌, ℕ, zero, suc, ◌<◌, length, get_or, arith, List, [], ◌∷◌, ◌++◌, map, Bool, true, false, cond, ◌||◌, Option, Some, None, Vec, is_some, refl, sym, ap, ◌∙◌}
use Rattle.std.proofs.lemmas.List.{map-append}
use Rattle.std.proofs.lemmas.List.Quantifiers.{position-Some}
use Rattle.std.specs.List.{position}
use Rattle.std.specs.Option.{option_map}
use Rattle.std.specs.Prelude.{nat_eq, slice_get, MatchOption}
use Rattle.std.specs.Map.{lookup}
use Rattle.std.specs.Cmp.Lexicographic.{pointwise, bytes_decides}
use Rattle.indexmap.specs.IndexMap.{insert_entry}
use Rattle.values.specs.Values.{Name}
use Rattle.alphabet.specs.Channels.{Values, constant}
use Rattle.values.specs.Values.{set_of}
use Rattle.values.specs.Worths.{Worth, many, Known}
use Rattle.values.specs.Names.{meaning, worth_of}
use Rattle.declared_names.specs.declared.entries.Entry.{Entry}
use Rattle.declared_names.specs.declared.entries.Meaning.{Meaning}
use Rattle.declared_names.specs.declared.entries.Meaning.TheVariants.{Datatype}
use Rattle.declared_names.specs.Stored.{meaning_of, Stored, listed}
use Rattle.declared_names.specs.Entering.{has_name}
use Rattle.declared_names.specs.ProcessAnswers.{name_in}

pub looked_up : {A : Type 0} (es : Stored A) (n : Name) → option_map (λ (e : Entry A). meaning_of e.meaning) (lookup (λ (k : Vec ℕ A). pointwise nat_eq n k.items) es) ≡ meaning (listed es) n
unfolding meaning
looked_up [] n = refl
looked_up {A = A} (e ∷ es) n = by (pointwise nat_eq n e.0.items) (looked_up es n)
  where
    by : (b : Bool) → option_map (λ (e : Entry A). meaning_of e.meaning) (lookup (λ (k : Vec ℕ A). pointwise nat_eq n k.items) es) ≡ meaning (listed es) n → option_map (λ (e : Entry A). meaning_of e.meaning) (cond b (Some e.1) (lookup (λ (k : Vec ℕ A). pointwise nat_eq n k.items) es)) ≡ cond b (Some (meaning_of e.1.meaning)) (meaning (listed es) n)
    by true h = refl
    by false h = h

-- a name that is found is among the names
pub is_there : {A : Type 0} (es : Stored A) (n : Name) → is_some (lookup (λ (k : Vec ℕ A). pointwise nat_eq n k.items) es) ≡ has_name (listed es) n
is_there [] n = refl
is_there {A = A} (e ∷ es) n = by (pointwise nat_eq n e.0.items) (is_there es n)
  where
    by : (b : Bool) → is_some (lookup (λ (k : Vec ℕ A). pointwise nat_eq n k.items) es) ≡ has_name (listed es) n → is_some (cond b (Some e.1) (lookup (λ (k : Vec ℕ A). pointwise nat_eq n k.items) es)) ≡ (b || has_name (listed es) n)
    by true h = refl
    by false h = h

-- what stands at a place
pub meaning_at : {A : Type 0} (es : Stored A) (i : ℕ) (o : Option (Vec ℕ A × Entry A)) → o ≡ slice_get es i → option_map (λ (e : Vec ℕ A × Entry A). meaning_of e.1.meaning) o ≡ option_map (λ e. e.1) (slice_get (listed es) i)
meaning_at {A = A} [] i o h = ap (option_map (λ (e : Vec ℕ A × Entry A). meaning_of e.1.meaning)) h
meaning_at {A = A} (e ∷ es) zero o h = ap (option_map (λ (e : Vec ℕ A × Entry A). meaning_of e.1.meaning)) h
meaning_at (e ∷ es) (suc i) o h = meaning_at es i o h

pub name_at : {A : Type 0} (es : Stored A) (i : ℕ) (o : Option (Vec ℕ A × Entry A)) → o ≡ slice_get es i → option_map (λ (e : Vec ℕ A × Entry A). e.0.items) o ≡ option_map (λ e. e.0) (slice_get (listed es) i)
name_at {A = A} [] i o h = ap (option_map (λ (e : Vec ℕ A × Entry A). e.0.items)) h
name_at {A = A} (e ∷ es) zero o h = ap (option_map (λ (e : Vec ℕ A × Entry A). e.0.items)) h
name_at (e ∷ es) (suc i) o h = name_at es i o h

-- the place of a name
at_key : {A : Type 0} (es : Stored A) (i : ℕ) (d : Vec ℕ A) → i < length (map (λ (e : Vec ℕ A × Entry A). e.0) es) → name_in (listed es) i ≡ Some ((get_or (map (λ (e : Vec ℕ A × Entry A). e.0) es) i d).items)
at_key [] i d h = absurd (omega (arith, h))
at_key (e ∷ es) zero d h = refl
at_key (e ∷ es) (suc i) d h = at_key es i d (omega (arith, h))

pub placed : {A : Type 0} (es : Stored A) (n : Name) (r : Option ℕ) → r ≡ position (λ (k : Vec ℕ A). pointwise nat_eq n k.items) (map (λ (e : Vec ℕ A × Entry A). e.0) es) → is_some r ≡ is_some (lookup (λ (k : Vec ℕ A). pointwise nat_eq n k.items) es) → MatchOption r (meaning (listed es) n ≡ None) (λ i. name_in (listed es) i ≡ Some n)
placed {A = A} es n None h k = sym (looked_up es n) ∙ none (lookup (λ (k : Vec ℕ A). pointwise nat_eq n k.items) es) k
  where
    none : (o : Option (Entry A)) → false ≡ is_some o → option_map (λ (e : Entry A). meaning_of e.meaning) o ≡ None
    none None e = refl
    none (Some x) e = absurd cc
placed [] n (Some i) h k = absurd cc
placed {A = A} (e ∷ es) n (Some i) h k =
    let p = position-Some (λ (k : Vec ℕ A). pointwise nat_eq n k.items) (map (λ (e : Vec ℕ A × Entry A). e.0) (e ∷ es)) i e.0 (sym h) in
    at_key (e ∷ es) i e.0 p.0
    ∙ ap (λ m. let o : Option Name = Some m in o) (sym ((bytes_decides n (get_or (map (λ (e : Vec ℕ A × Entry A). e.0) (e ∷ es)) i e.0).items).0 p.1))

-- a new name comes after the others
insert_new : {A : Type 0} (es : Stored A) (k : Vec ℕ A) (v : Entry A) → has_name (listed es) k.items ≡ false → insert_entry (λ a b. pointwise nat_eq a.items b.items) es k v ≡ es ++ (k, v) ∷ []
insert_new [] k v h = refl
insert_new {A = A} (e ∷ es) k v h = by (pointwise nat_eq k.items e.0.items) h (insert_new es k v)
  where
    by : (b : Bool) → (b || has_name (listed es) k.items) ≡ false → (has_name (listed es) k.items ≡ false → insert_entry (λ a b. pointwise nat_eq a.items b.items) es k v ≡ es ++ (k, v) ∷ []) → cond b ((e.0, v) ∷ es) (e ∷ insert_entry (λ a b. pointwise nat_eq a.items b.items) es k v) ≡ e ∷ (es ++ (k, v) ∷ [])
    by true h ih = absurd cc
    by false h ih = ap (λ xs. e ∷ xs) (ih h)

pub appended : {A : Type 0} (es new : Stored A) (k : Vec ℕ A) (v : Entry A) (n : Name) → k.items ≡ n → has_name (listed es) n ≡ false → new ≡ insert_entry (λ a b. pointwise nat_eq a.items b.items) es k v → listed new ≡ listed es ++ (n, meaning_of v.meaning) ∷ []
appended es new k v n i h e =
    ap listed (e ∙ insert_new es k v (ap (has_name (listed es)) i ∙ h))
    ∙ map-append (λ e. (e.0.items, meaning_of e.1.meaning)) es ((k, v) ∷ [])
    ∙ ap (λ m. listed es ++ (m, meaning_of v.meaning) ∷ []) i

pub pushed : {A : Type 0} (ns new : List (Vec ℕ A)) (n : Vec ℕ A) (m : Name) → new ≡ ns ++ n ∷ [] → n.items ≡ m → map (λ (v : Vec ℕ A). v.items) new ≡ map (λ (v : Vec ℕ A). v.items) ns ++ m ∷ []
pushed ns new n m h e = ap (map (λ v. v.items)) h ∙ map-append (λ v. v.items) ns (n ∷ []) ∙ ap (λ x. map (λ v. v.items) ns ++ x ∷ []) e

-- ---- datatypes

two_maps : {A : Type 0} (ns : List (Vec ℕ A)) → map constant (map (λ (n : Vec ℕ A). n.items) ns) ≡ map (λ (n : Vec ℕ A). constant n.items) ns
two_maps [] = refl
two_maps (n ∷ ns) = ap (λ vs. constant n.items ∷ vs) (two_maps ns)

abbrev many_of : Option Values → Option Worth
many_of None = None
many_of (Some vs) = Some (many vs)

pub datatype_worth : {A : Type 0} (f : Known) (n : Name) (m : Meaning A) (v : Vec (Vec ℕ A) A) (ns : List (Vec ℕ A)) (vs : Values) → m ≡ Datatype v → ns ≡ v.items → Some (set_of (map (λ (n : Vec ℕ A). constant n.items) ns)) ≡ Some vs → worth_of f n (meaning_of m) ≡ Some (many vs)
unfolding worth_of
datatype_worth f n m v ns vs h is e =
    ap (λ x. worth_of f n (meaning_of x)) h
    ∙ ap (λ xs. let o : Option Worth = Some (many (set_of xs)) in o) (two_maps v.items)
    ∙ ap (λ xs. let o : Option Worth = Some (many (set_of (map (λ n. constant n.items) xs))) in o) (sym is)
    ∙ ap many_of e
