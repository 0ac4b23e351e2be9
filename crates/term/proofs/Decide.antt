-- Whether a term can take a step is decided by going down the term.
use Rattle.std.proofs.Common.{◌≡◌, ℕ, Bool, true, false, ◌⊎◌, inl, inr, List, [], ◌∷◌, refl, sym, subst, nat_eq}
use Rattle.std.proofs.lemmas.Bool.{eqb-true, cases_eq}
use Rattle.term.specs.Events.{ev}
use Rattle.alphabet.specs.EventSets.{Set, has}
use Rattle.term.specs.Traces.{Refusal, Pairs, images, partners, or_itself, In, here, there, some_in}
use Rattle.term.specs.Proc.{Proc, stop, skip, prefix, ext, int, seq, par, hide, ren, intr, name}
use Rattle.term.specs.Steps.{is_skip, Ticks, t-skip, t-ext-l, t-ext-r, t-par, t-hide, t-ren, t-intr-l, t-intr-r, Act, a-prefix, a-ext-l, a-ext-r, a-seq, a-par-l, a-par-r, a-par-b, a-hide, a-ren, a-intr-l, a-intr-r}
use Rattle.term.proofs.Bools.{true-or-false, not-both, or-cases, or-left, or-right}

abbrev pub Decided : Type 0 → Type 0
Decided T = T ⊎ (T → ⊥)

abbrev pub Offers : Proc → ℕ → Type 0
Offers P a = (P' : Proc) × Act P a P'

-- ---- sets and lists
pub some_in-In : (bs : List ℕ) (X : Refusal) → some_in bs X ≡ true → (b : ℕ) × In b bs × (X (ev b) ≡ true)
some_in-In [] X e = absurd (cc)
some_in-In (b ∷ bs) X e =
    elim (or-cases (X (ev b)) (some_in bs X) e) [
      | inl h ↦ (b, here, h)
      | inr h ↦ let (c, i, k) = some_in-In bs X h in (c, there i, k)
    ]

pub In-some_in : {b : ℕ} {bs : List ℕ} → In b bs → (X : Refusal) → X (ev b) ≡ true → some_in bs X ≡ true
In-some_in (here {x = b} {xs = bs}) X e = or-left (X (ev b)) (some_in bs X) e
In-some_in (there {y = c} {xs = bs} i) X e = or-right (X (ev c)) (some_in bs X) (In-some_in i X e)

In-first : {b c : ℕ} {bs : List ℕ} → In b (c ∷ bs) → (b ≡ c) ⊎ In b bs
In-first here = inl refl
In-first (there i) = inr i

pub In-dec : (b : ℕ) (bs : List ℕ) → Decided (In b bs)
In-dec b [] = inr (λ i. elim i [ ])
In-dec b (c ∷ bs) =
    elim (cases_eq b c) [
      | inl e ↦ inl (subst (λ v. In v (c ∷ bs)) (sym e) here)
      | inr n ↦ elim (In-dec b bs) [
        | inl i ↦ inl (there i)
        | inr m ↦ inr (λ i. elim (In-first i) [ inl e ↦ n e | inr j ↦ m j ])
      ]
    ]

abbrev pub lefts : Pairs → List ℕ
lefts [] = []
lefts (p ∷ ps) = p.0 ∷ lefts ps

pub partners-left : (R : Pairs) (a b : ℕ) → In b (partners R a) → In a (lefts R)
partners-left [] a b i = elim i [ ]
partners-left (p ∷ ps) a b i = go (partners-left ps a b) (nat_eq p.0 a) refl i
  where
    go : (In b (partners ps a) → In a (lefts ps)) → (v : Bool) → nat_eq p.0 a ≡ v → In b (elim v [ true ↦ p.1 ∷ partners ps a | false ↦ partners ps a ]) → In a (lefts (p ∷ ps))
    go ih true e i = subst (λ v. In v (p.0 ∷ lefts ps)) (eqb-true p.0 a e) here
    go ih false e i = there (ih i)

or_itself-In : (bs : List ℕ) (a b : ℕ) → In b (or_itself bs a) → In b bs ⊎ (b ≡ a)
or_itself-In [] a b i = elim (In-first i) [ inl e ↦ inr e | inr j ↦ elim j [ ] ]
or_itself-In (c ∷ cs) a b i = inl i

-- where a is related to b, it is b or on a left side
pub image-left : (R : Pairs) (a b : ℕ) → In b (images R a) → In a (b ∷ lefts R)
image-left R a b i =
    elim (or_itself-In (partners R a) a b i) [
      | inl j ↦ there (partners-left R a b j)
      | inr e ↦ subst (λ v. In v (b ∷ lefts R)) e here
    ]

-- ---- decided facts
module _ {T V : Type 0} where
  pub dec-map : Decided T → (T → V) → (V → T) → Decided V
  dec-map (inl t) f g = inl (f t)
  dec-map (inr n) f g = inr (λ v. n (g v))

module _ {T U V : Type 0} where
  pub dec-or : Decided T → Decided U → (T → V) → (U → V) → (V → T ⊎ U) → Decided V
  dec-or (inl t) u f g h = inl (f t)
  dec-or (inr n) (inl u) f g h = inl (g u)
  dec-or (inr n) (inr m) f g h = inr (λ v. elim (h v) [ inl t ↦ n t | inr u ↦ m u ])

  pub dec-and : Decided T → Decided U → (T → U → V) → (V → T × U) → Decided V
  dec-and (inl t) (inl u) f g = inl (f t u)
  dec-and (inl t) (inr m) f g = inr (λ v. m (g v).1)
  dec-and (inr n) u f g = inr (λ v. n (g v).0)

pub dec-some : (T : ℕ → Type 0) → ((a : ℕ) → Decided (T a)) → (as' : List ℕ) → Decided ((a : ℕ) × In a as' × T a)
dec-some T d [] = inr (λ (a, i, t). elim i [ ])
dec-some T d (a ∷ as') =
    dec-or (d a) (dec-some T d as') (λ t. (a, here, t)) (λ (b, i, t). (b, there i, t)) (λ (b, i, t). turn b i t)
  where
    turn : (b : ℕ) → In b (a ∷ as') → T b → T a ⊎ ((b : ℕ) × In b as' × T b)
    turn b i t = elim (In-first i) [ inl e ↦ inl (subst T e t) | inr j ↦ inr (b, j, t) ]

-- ---- ticks
pub is_skip-is : (P : Proc) → is_skip P ≡ true → P ≡ skip
is_skip-is skip e = refl
is_skip-is stop e = absurd (cc)
is_skip-is (prefix a P) e = absurd (cc)
is_skip-is (ext P Q) e = absurd (cc)
is_skip-is (int P Q) e = absurd (cc)
is_skip-is (seq P Q) e = absurd (cc)
is_skip-is (par A P Q) e = absurd (cc)
is_skip-is (hide A P) e = absurd (cc)
is_skip-is (ren R P) e = absurd (cc)
is_skip-is (intr P Q) e = absurd (cc)
is_skip-is (name k) e = absurd (cc)

pub ext-ticks : {P Q : Proc} → Ticks (ext P Q) → Ticks P ⊎ Ticks Q
ext-ticks (t-ext-l d) = inl d
ext-ticks (t-ext-r d) = inr d

pub intr-ticks : {P Q : Proc} → Ticks (intr P Q) → Ticks P ⊎ Ticks Q
intr-ticks (t-intr-l d) = inl d
intr-ticks (t-intr-r d) = inr d

pub par-ticks : {A : Set} {P Q : Proc} → Ticks (par A P Q) → (is_skip P ≡ true) × (is_skip Q ≡ true)
par-ticks t-par = (refl, refl)

pub par-parts : {A : Set} {P Q : Proc} → Ticks (par A P Q) → Ticks P × Ticks Q
par-parts t-par = (t-skip, t-skip)

pub hide-ticks : {A : Set} {P : Proc} → Ticks (hide A P) → Ticks P
hide-ticks (t-hide d) = d

pub ren-ticks : {R : Pairs} {P : Proc} → Ticks (ren R P) → Ticks P
ren-ticks (t-ren d) = d

pub skips-tick : {A : Set} (P Q : Proc) → is_skip P ≡ true → is_skip Q ≡ true → Ticks (par A P Q)
skips-tick {A} P Q e f =
    subst (λ p. Ticks (par A p Q)) (sym (is_skip-is P e)) (subst (λ q. Ticks (par A skip q)) (sym (is_skip-is Q f)) t-par)

pub Bool-dec : (b : Bool) → Decided (b ≡ true)
Bool-dec true = inl refl
Bool-dec false = inr (λ e. cc)

pub Ticks-dec : (P : Proc) → Decided (Ticks P)
Ticks-dec stop = inr (λ t. elim t [ ])
Ticks-dec skip = inl t-skip
Ticks-dec (prefix a P) = inr (λ t. elim t [ ])
Ticks-dec (ext P Q) = dec-or (Ticks-dec P) (Ticks-dec Q) t-ext-l t-ext-r ext-ticks
Ticks-dec (int P Q) = inr (λ t. elim t [ ])
Ticks-dec (seq P Q) = inr (λ t. elim t [ ])
Ticks-dec (par A P Q) = dec-and (Bool-dec (is_skip P)) (Bool-dec (is_skip Q)) (skips-tick P Q) par-ticks
Ticks-dec (hide A P) = dec-map (Ticks-dec P) t-hide hide-ticks
Ticks-dec (ren R P) = dec-map (Ticks-dec P) t-ren ren-ticks
Ticks-dec (intr P Q) = dec-or (Ticks-dec P) (Ticks-dec Q) t-intr-l t-intr-r intr-ticks
Ticks-dec (name k) = inr (λ t. elim t [ ])

-- ---- events
pub prefix-act : {a b : ℕ} {P P' : Proc} → Act (prefix b P) a P' → b ≡ a
prefix-act a-prefix = refl

pub ext-act : {a : ℕ} {P Q R : Proc} → Act (ext P Q) a R → Offers P a ⊎ Offers Q a
ext-act (a-ext-l {P' = P'} d) = inl (P', d)
ext-act (a-ext-r {Q' = Q'} d) = inr (Q', d)

pub intr-act : {a : ℕ} {P Q R : Proc} → Act (intr P Q) a R → Offers P a ⊎ Offers Q a
intr-act (a-intr-l {P' = P'} d) = inl (P', d)
intr-act (a-intr-r {Q' = Q'} d) = inr (Q', d)

pub seq-act : {a : ℕ} {P Q R : Proc} → Act (seq P Q) a R → Offers P a
seq-act (a-seq {P' = P'} d) = (P', d)

pub par-act-in : {A : Set} {a : ℕ} {P Q R : Proc} → has A a ≡ true → Act (par A P Q) a R → Offers P a × Offers Q a
par-act-in y (a-par-l n d) = absurd (not-both y n)
par-act-in y (a-par-r n d) = absurd (not-both y n)
par-act-in y (a-par-b {P' = P'} {Q' = Q'} y' d d') = ((P', d), (Q', d'))

pub par-act-out : {A : Set} {a : ℕ} {P Q R : Proc} → has A a ≡ false → Act (par A P Q) a R → Offers P a ⊎ Offers Q a
par-act-out n (a-par-l {P' = P'} n' d) = inl (P', d)
par-act-out n (a-par-r {Q' = Q'} n' d) = inr (Q', d)
par-act-out n (a-par-b y d d') = absurd (not-both y n)

pub hide-act : {A : Set} {a : ℕ} {P R : Proc} → Act (hide A P) a R → (has A a ≡ false) × Offers P a
hide-act (a-hide {P' = P'} n d) = (n, (P', d))

pub ren-act : {S : Pairs} {b : ℕ} {P R : Proc} → Act (ren S P) b R → (a : ℕ) × In b (images S a) × Offers P a
ren-act (a-ren {a = a} {P' = P'} i d) = (a, i, (P', d))

pub Offers-dec : (P : Proc) (a : ℕ) → Decided (Offers P a)
Offers-dec stop a = inr (λ (P', d). elim d [ ])
Offers-dec skip a = inr (λ (P', d). elim d [ ])
Offers-dec (prefix b P) a =
    dec-map (cases_eq b a) (λ e. (P, subst (λ v. Act (prefix b P) v P) e a-prefix)) (λ (P', d). prefix-act d)
Offers-dec (ext P Q) a =
    dec-or (Offers-dec P a) (Offers-dec Q a) (λ (P', d). (P', a-ext-l d)) (λ (Q', d). (Q', a-ext-r d)) (λ (R, d). ext-act d)
Offers-dec (int P Q) a = inr (λ (P', d). elim d [ ])
Offers-dec (seq P Q) a = dec-map (Offers-dec P a) (λ (P', d). (seq P' Q, a-seq d)) (λ (R, d). seq-act d)
Offers-dec (par A P Q) a =
    elim (true-or-false (has A a)) [
      | inl y ↦ dec-and (Offers-dec P a) (Offers-dec Q a) (λ (P', d) (Q', d'). (par A P' Q', a-par-b y d d')) (λ (R, d). par-act-in y d)
      | inr n ↦ dec-or (Offers-dec P a) (Offers-dec Q a) (λ (P', d). (par A P' Q, a-par-l n d)) (λ (Q', d). (par A P Q', a-par-r n d)) (λ (R, d). par-act-out n d)
    ]
Offers-dec (hide A P) a =
    elim (true-or-false (has A a)) [
      | inl y ↦ inr (λ (R, d). not-both y (hide-act d).0)
      | inr n ↦ dec-map (Offers-dec P a) (λ (P', d). (hide A P', a-hide n d)) (λ (R, d). (hide-act d).1)
    ]
Offers-dec (ren S P) b =
    dec-map
    (dec-some (λ a. In b (images S a) × Offers P a) (λ a. dec-and (In-dec b (images S a)) (Offers-dec P a) (λ i o. (i, o)) (λ p. p)) (b ∷ lefts S))
    (λ (a, j, p). (ren S p.1.0, a-ren p.0 p.1.1))
    (λ (R, d). let (a, i, o) = ren-act d in (a, image-left S a b i, (i, o)))
Offers-dec (intr P Q) a =
    dec-or (Offers-dec P a) (Offers-dec Q a) (λ (P', d). (intr P' Q, a-intr-l d)) (λ (Q', d). (Q', a-intr-r d)) (λ (R, d). intr-act d)
Offers-dec (name k) a = inr (λ (P', d). elim d [ ])
