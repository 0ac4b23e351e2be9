-- What is learned of names, one after the other, in a table of any kind.
use Rattle.std.proofs.Common.{◌≡◌, ℕ, zero, suc, ◌+◌, ◌<◌, ◌≤◌, List, [], ◌∷◌, length, ◌≢◌, Bool, true, false, cond, ◌||◌, Option, Some, None, is_some, inl, inr, refl, sym, ap, subst, ◌∙◌, arith}
use Rattle.std.specs.Option.{option_map}
use Rattle.std.proofs.lemmas.Bool.Decides.{eqb_tells}
use Rattle.std.specs.Prelude.{slice_get}
use Rattle.std.specs.Cmp.Lexicographic.{bytes_decides}
use Rattle.values.specs.Values.{Name}
use Rattle.values.specs.Names.{Entry, Meaning, same_name, meaning}
use Rattle.declared_names.specs.Standing.{lacking, Keeps, Learns, SettlesFirst, LearnsFirst}
use Rattle.declared_names.proofs.Chains.{some_same}

pub same_self : (n : Name) → same_name n n ≡ true
same_self n = (bytes_decides n n).1 refl

-- what stands at a place
at_place : (es : List Entry) (i : ℕ) (n : Name) → Some n ≡ option_map (λ (e : Entry). e.0) (slice_get es i) → (e : Entry) × (slice_get es i ≡ Some e) × (n ≡ e.0)
at_place es i n h = by (slice_get es i) refl h
  where
    by : (o : Option Entry) → slice_get es i ≡ o → Some n ≡ option_map (λ (e : Entry). e.0) o → (e : Entry) × (slice_get es i ≡ Some e) × (n ≡ e.0)
    by None p q = absurd cc
    by (Some e) p q = (e, p, some_same q)

pub there : (es : List Entry) (i : ℕ) → i < length es → None ≡ option_map (λ (e : Entry). e.0) (slice_get es i) → ⊥
there [] i h p = omega (arith, h)
there (e ∷ es) zero h p = absurd cc
there (e ∷ es) (suc i) h p = there es i (omega (arith, h)) p

-- a name that means something stands somewhere
pub place_of : (es : List Entry) (n : Name) (m : Meaning) → meaning es n ≡ Some m → (j : ℕ) × (e : Entry) × (slice_get es j ≡ Some e) × (n ≡ e.0) × (j < length es)
unfolding meaning
place_of [] n m h = absurd cc
place_of (e ∷ es) n m h = by (same_name n e.0) refl h (λ q. place_of es n m q)
  where
    by : (b : Bool) → same_name n e.0 ≡ b → cond b (Some e.1) (meaning es n) ≡ Some m → (meaning es n ≡ Some m → (j : ℕ) × (d : Entry) × (slice_get es j ≡ Some d) × (n ≡ d.0) × (j < length es)) → (j : ℕ) × (d : Entry) × (slice_get (e ∷ es) j ≡ Some d) × (n ≡ d.0) × (j < length (e ∷ es))
    by true s q rec = (0, e, refl, (bytes_decides n e.0).0 s, omega arith)
    by false s q rec =
        let (j, d, p, r, lt) = rec q in
        (suc j, d, p, r, omega (arith, lt))

-- ---- a table of values of names

-- the table with this value of the name
abbrev pub with_value : {V : Type 0} → (Name → Option V) → Name → V → Name → Option V
with_value f n v m = cond (same_name m n) (Some v) (f m)

-- what is known stays known
pub kept : {V : Type 0} (f g : Name → Option V) (n : Name) (v : V) → ((m : Name) → g m ≡ with_value f n v m) → (m : Name) → is_some (f m) ≡ true → is_some (g m) ≡ true
kept f g n v is m h = ap is_some (is m) ∙ by (same_name m n) h
  where
    by : (b : Bool) → is_some (f m) ≡ true → is_some (cond b (Some v) (f m)) ≡ true
    by true p = refl
    by false p = p

-- the name is known
pub added : {V : Type 0} (f g : Name → Option V) (n : Name) (v : V) → ((m : Name) → g m ≡ with_value f n v m) → is_some (g n) ≡ true
added f g n v is = ap is_some (is n ∙ ap (λ b. cond b (Some v) (f n)) (same_self n))

-- ---- one name after the other

module _ {T : Type 0} (knows : T → Name → Bool) where
  lacking_same : (es : List Entry) (f g : T) → Keeps knows f g → lacking knows es g ≤ lacking knows es f
  unfolding lacking
  lacking_same [] f g h = omega arith
  lacking_same (e ∷ es) f g h = by (knows f e.0) (knows g e.0) (h e.0) (lacking_same es f g h)
    where
      by : (b c : Bool) → (b ≡ true → c ≡ true) → lacking knows es g ≤ lacking knows es f → cond c 0 1 + lacking knows es g ≤ cond b 0 1 + lacking knows es f
      by true true h k = omega (arith, k)
      by true false h k = absurd (let x : false ≡ true = h refl in cc)
      by false true h k = omega (arith, k)
      by false false h k = omega (arith, k)

  -- one name more that is known
  lacking_less : (es : List Entry) (f g : T) (i : ℕ) (e : Entry) → Keeps knows f g → slice_get es i ≡ Some e → knows f e.0 ≡ false → knows g e.0 ≡ true → lacking knows es g < lacking knows es f
  unfolding lacking
  lacking_less [] f g i e h at none has = absurd cc
  lacking_less (d ∷ es) f g zero e h at none has =
      let same : d ≡ e = some_same at in
      rw (ap (λ (x : Entry). knows f x.0) same ∙ none, ap (λ (x : Entry). knows g x.0) same ∙ has) (let k : lacking knows es g ≤ lacking knows es f = lacking_same es f g h in omega (arith, k))
  lacking_less (d ∷ es) f g (suc i) e h at none has = by (knows f d.0) (knows g d.0) (h d.0) (lacking_less es f g i e h at none has)
    where
      by : (b c : Bool) → (b ≡ true → c ≡ true) → lacking knows es g < lacking knows es f → cond c 0 1 + lacking knows es g < cond b 0 1 + lacking knows es f
      by true true h k = omega (arith, k)
      by true false h k = absurd (let x : false ≡ true = h refl in cc)
      by false true h k = omega (arith, k)
      by false false h k = omega (arith, k)

module _ {T : Type 0} (knows : T → Name → Bool) (Reached : T → Type 0) (Settled : T → Name → Type 0) where
  -- what is known before a look at a further name is reached
  pub still_reached : (es : List Entry) (f g : T) (b : Bool) (i : ℕ) → Reached f → LearnsFirst knows Reached Settled es f g b i → Reached g
  still_reached es f g true i h l = l.0
  still_reached es f g false i h l = subst Reached (sym l.0) h

  pub reached_then : (f g : T) (b : Bool) (n : Name) → Reached f → Learns knows Reached Settled f g b n → Reached g
  reached_then f g true n h l = l.0
  reached_then f g false n h l = subst Reached (sym l.0) h

  settled_more : (es : List Entry) (f : T) (i : ℕ) (e : Entry) → SettlesFirst Settled es f i → slice_get es i ≡ Some e → Settled f e.0 → SettlesFirst Settled es f (i + 1)
  settled_more es f i e below at here j d lt p = elim (eqb_tells j i) [
    | inl h ↦ (let same : e ≡ d = some_same (sym at ∙ ap (slice_get es) (sym h.1) ∙ p) in subst (λ (k : Entry). Settled f k.0) same here)
    | inr h ↦ below j d (let n : j ≢ i = h.1 in omega (arith, lt, n)) p
  ]

  -- a name more that is learned leaves fewer to be learned
  less : (es : List Entry) (g h : T) (i : ℕ) (n : Name) → Some n ≡ option_map (λ (e : Entry). e.0) (slice_get es i) → Learns knows Reached Settled g h true n → lacking knows es h < lacking knows es g
  less es g h i n at m =
      let (e, p, q) = at_place es i n at in
      lacking_less knows es g h i e m.1 p (subst (λ x. knows g x ≡ false) q m.2) (subst (λ x. knows h x ≡ true) q m.3)

  pub first_more : (es : List Entry) (f g h : T) (any new : Bool) (i : ℕ) (n : Name) → LearnsFirst knows Reached Settled es f g any i → Some n ≡ option_map (λ (e : Entry). e.0) (slice_get es i) → Learns knows Reached Settled g h new n → LearnsFirst knows Reached Settled es f h (any || new) (i + 1)
  first_more es f g h true true i n l at m = (m.0, let a : lacking knows es g < lacking knows es f = l.1 in let b : lacking knows es h < lacking knows es g = less es g h i n at m in omega (arith, a, b))
  first_more es f g h true false i n l at m = (subst Reached (sym m.0) l.0, subst (λ k. lacking knows es k < lacking knows es f) (sym m.0) l.1)
  first_more es f g h false true i n l at m = (m.0, subst (λ k. lacking knows es h < lacking knows es k) l.0 (less es g h i n at m))
  first_more es f g h false false i n l at m =
      let (e, p, q) = at_place es i n at in
      (m.0 ∙ l.0, settled_more es f i e l.1 p (subst (λ x. Settled f x) q (subst (λ k. Settled k n) l.0 m.1)))

  -- the same, where the table and the answer are known by equations
  pub first_step : (es : List Entry) (f g h k : T) (any new b : Bool) (i : ℕ) (n : Name) → LearnsFirst knows Reached Settled es f g any i → Some n ≡ option_map (λ (e : Entry). e.0) (slice_get es i) → Learns knows Reached Settled g h new n → k ≡ h → b ≡ (any || new) → LearnsFirst knows Reached Settled es f k b (i + 1)
  first_step es f g h k any new b i n l at m p q =
      subst (λ x. LearnsFirst knows Reached Settled es f x b (i + 1)) (sym p) (subst (λ x. LearnsFirst knows Reached Settled es f h x (i + 1)) (sym q) (first_more es f g h any new i n l at m))
