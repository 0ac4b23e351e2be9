-- What is found of names one after the other is right.
use Rattle.std.proofs.Common.{◌≡◌, ◌≢◌, ℕ, zero, suc, ◌+◌, ◌<◌, ◌≤◌, List, [], ◌∷◌, length, set, replicate, Bool, true, false, cond, Option, Some, None, is_some, inl, inr, refl, sym, ap, subst, ◌∙◌, arith}
use Rattle.std.proofs.lemmas.Bool.Decides.{eqb_tells}
use Rattle.std.proofs.lemmas.List.{length-set, length-replicate}
use Rattle.std.specs.Prelude.{MatchOption}
use Rattle.std.specs.Option.{unwrap_or}
use Rattle.values.specs.Values.{Name}
use Rattle.values.specs.Names.{Entry, meaning, is_process_in, is_process_meaning}
use Rattle.declared_names.specs.ProcessAnswers.{name_in, found_in, count_found, IsAnswer, AreFound, LeadsOn, MayLeadOn, AreAnswers}
use Rattle.declared_names.proofs.Chains.{some_same}

-- ---- places

pub within : (es : List Entry) (i : ℕ) (n : Name) → name_in es i ≡ Some n → i < length es
within [] i n h = absurd cc
within (e ∷ es) zero n h = omega arith
within (e ∷ es) (suc i) n h = let k : i < length es = within es i n h in omega (arith, k)

set_same : (ts : List (Option Bool)) (i : ℕ) (t : Option Bool) → i < length ts → found_in (set ts i t) i ≡ t
set_same [] i t h = absurd (omega (arith, h))
set_same (x ∷ ts) zero t h = refl
set_same (x ∷ ts) (suc i) t h = set_same ts i t (omega (arith, h))

set_other : (ts : List (Option Bool)) (i j : ℕ) (t : Option Bool) → (j ≢ i) → found_in (set ts i t) j ≡ found_in ts j
set_other [] i j t n = refl
set_other (x ∷ ts) zero zero t n = absurd (n refl)
set_other (x ∷ ts) zero (suc j) t n = refl
set_other (x ∷ ts) (suc i) zero t n = refl
set_other (x ∷ ts) (suc i) (suc j) t n = set_other ts i j t (λ e. n (ap suc e))

count_set : (ts : List (Option Bool)) (i : ℕ) (b : Bool) → i < length ts → found_in ts i ≡ None → count_found (set ts i (Some b)) ≡ suc (count_found ts)
unfolding count_found
count_set [] i b h none = absurd (omega (arith, h))
count_set (x ∷ ts) zero b h none = rw none (omega arith)
count_set (x ∷ ts) (suc i) b h none =
    let k : count_found (set ts i (Some b)) ≡ suc (count_found ts) = count_set ts i b (omega (arith, h)) none in
    omega (arith, k)

count_within : (ts : List (Option Bool)) → count_found ts ≤ length ts
unfolding count_found
count_within [] = omega arith
count_within (t ∷ ts) = by (is_some t) (count_within ts)
  where
    by : (b : Bool) → count_found ts ≤ length ts → cond b 1 0 + count_found ts ≤ length (t ∷ ts)
    by true h = omega (arith, h)
    by false h = omega (arith, h)

-- ---- what is found

nothing_found : (m i : ℕ) → found_in (replicate m None) i ≡ None
nothing_found zero i = refl
nothing_found (suc m) zero = refl
nothing_found (suc m) (suc i) = nothing_found m i

pub found_none : (es : List Entry) (ts : List (Option Bool)) → ts ≡ replicate (length es) None → AreFound es ts
found_none es ts h = subst (AreFound es) (sym h) (record {
  each = length-replicate (length es) None;
  right = λ i n b at is. absurd (let x : None ≡ Some b = sym (nothing_found (length es) i) ∙ is in cc);
})

pub find_at : (es : List Entry) (ts new : List (Option Bool)) (i : ℕ) (n : Name) (b : Bool) → AreFound es ts → name_in es i ≡ Some n → found_in ts i ≡ None → IsAnswer es (suc (count_found ts)) n b → new ≡ set ts i (Some b) → AreFound es new
find_at es ts new i n b found at none answer is = subst (AreFound es) (sym is) (record {
  each = length-set ts i (Some b) ∙ found.each;
  right = λ j m a here said k more. elim (eqb_tells j i) [
    | inl h ↦ (let same : n ≡ m = some_same (sym at ∙ ap (name_in es) (sym h.1) ∙ here) in
        let found_b : b ≡ a = some_same (sym (set_same ts i (Some b) inside) ∙ ap (found_in (set ts i (Some b))) (sym h.1) ∙ said) in
        ap (is_process_in es k) (sym same) ∙ answer k (subst (λ x. x < k) counted more) ∙ found_b)
    | inr h ↦ found.right j m a here (sym (set_other ts i j (Some b) h.1) ∙ said) k (omega (arith, counted, more))
  ];
})
  where
    inside : i < length ts
    inside = let e : length ts ≡ length es = found.each in let h : i < length es = within es i n at in omega (arith, e, h)

    counted : count_found (set ts i (Some b)) ≡ suc (count_found ts)
    counted = count_set ts i b inside none

pub none_found : (o : Option Bool) → is_some o ≡ false → o ≡ None
none_found None h = refl
none_found (Some b) h = absurd cc

-- ---- the answer for a name

-- the definition says it itself
pub answer_known : (es : List Entry) (m : ℕ) (n : Name) (b : Bool) → ((k : ℕ) → is_process_in es (suc k) n ≡ b) → IsAnswer es (suc m) n b
answer_known es m n b h zero more = absurd (omega (arith, more))
answer_known es m n b h (suc k) more = h k

-- it says the same as a name that is found of
pub answer_same : (es : List Entry) (ts : List (Option Bool)) (n next : Name) (j : ℕ) (b : Bool) → AreFound es ts → ((k : ℕ) → is_process_in es (suc k) n ≡ is_process_in es k next) → name_in es j ≡ Some next → found_in ts j ≡ Some b → IsAnswer es (suc (count_found ts)) n b
answer_same es ts n next j b found h at is zero more = absurd (omega (arith, more))
answer_same es ts n next j b found h at is (suc k) more = h k ∙ found.right j next b at is k (omega (arith, more))

pub answer_said : (es : List Entry) (ts : List (Option Bool)) (n next : Name) (j : ℕ) (o : Option Bool) → AreFound es ts → ((k : ℕ) → is_process_in es (suc k) n ≡ is_process_in es k next) → name_in es j ≡ Some next → o ≡ found_in ts j → MatchOption o (LeadsOn es ts n) (λ b. IsAnswer es (suc (count_found ts)) n b)
answer_said es ts n next j None found h at is = record { next = next; place = j; stands = at; not_found = sym is; same = h }
answer_said es ts n next j (Some b) found h at is = answer_same es ts n next j b found h at (sym is)

-- it says the same as a name that isn't declared
pub answer_none : (es : List Entry) (m : ℕ) (n next : Name) → ((k : ℕ) → is_process_in es (suc k) n ≡ is_process_in es k next) → meaning es next ≡ None → IsAnswer es (suc m) n false
unfolding is_process_in is_process_meaning
answer_none es m n next h none zero more = absurd (omega (arith, more))
answer_none es m n next h none (suc zero) more = absurd (omega (arith, more))
answer_none es m n next h none (suc (suc k)) more = h (suc k) ∙ ap (is_process_meaning (is_process_in es k)) none

-- ---- names that lead on for ever

leads_on : (es : List Entry) (ts : List (Option Bool)) → ((i : ℕ) → i < length es → MayLeadOn es ts i) → (k i : ℕ) (n : Name) → name_in es i ≡ Some n → found_in ts i ≡ None → is_process_in es k n ≡ true
unfolding is_process_in
leads_on es ts h zero i n at none = refl
leads_on es ts h (suc k) i n at none =
    let l = h i (within es i n at) n at none in
    l.same k ∙ leads_on es ts h k l.place l.next l.stands l.not_found

pub answers : (es : List Entry) (ts : List (Option Bool)) → AreFound es ts → ((i : ℕ) → i < length es → MayLeadOn es ts i) → AreAnswers es ts
answers es ts found h i n None at is = sym (leads_on es ts h (suc (length es)) i n at (ap (λ o. unwrap_or o None) is))
answers es ts found h i n (Some b) at is =
    sym (found.right i n b at (ap (λ o. unwrap_or o None) is) (suc (length es)) (let few : count_found ts ≤ length ts = count_within ts in let e : length ts ≡ length es = found.each in omega (arith, few, e)))

-- ---- the names one after the other

pub may_none : (es : List Entry) (ts : List (Option Bool)) (j : ℕ) → j < 0 → MayLeadOn es ts j
may_none es ts j h = absurd (omega (arith, h))

pub may_more : (es : List Entry) (ts : List (Option Bool)) (i : ℕ) → ((j : ℕ) → j < i → MayLeadOn es ts j) → MayLeadOn es ts i → (j : ℕ) → j < i + 1 → MayLeadOn es ts j
may_more es ts i below here j lt = elim (eqb_tells j i) [
  | inl h ↦ subst (MayLeadOn es ts) (sym h.1) here
  | inr h ↦ below j (let n : j ≢ i = h.1 in omega (arith, lt, n))
]
