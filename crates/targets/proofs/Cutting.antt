-- Cuts of a whole, made of cuts of its parts.
use Rattle.std.proofs.Common.{◌≡◌, ◌↔◌, ℕ, suc, ◌+◌, ◌<◌, ◌≤◌, ◌⊎◌, inl, inr, List, [], ◌∷◌, ◌++◌, length, map, take, drop, min, refl, sym, ap, ◌∙◌, subst, arith, length-append}
use Rattle.std.proofs.lemmas.List.{take-append-drop, take_all, length-take, length-map}
use Rattle.std.proofs.lemmas.Bool.{cases_lt}
use Rattle.term.specs.Traces.{In, here, there}
use Rattle.term.specs.Proc.{Proc}
use Rattle.term.specs.Limits.{Terms, Distinct}
use Rattle.targets.specs.Targets.{pairs_of}
use Rattle.targets.proofs.Members.{append-In, In-append_l, In-map, map-In, In-pairs, pairs-In}
use Rattle.targets.specs.Cuts.{CutOf}
use Rattle.targets.specs.Among.{InEither}

-- ---- lists without repeats
-- the list without the member at this place
less : {P : Proc} {l : List Proc} → In P l → List Proc
less (here {xs = l}) = l
less (there {y = Q} i) = Q ∷ less i

less-length : {P : Proc} {l : List Proc} (i : In P l) → length l ≡ suc (length (less i))
unfolding less
less-length here = refl
less-length (there i) = ap suc (less-length i)

less-In : {P Q : Proc} {l : List Proc} (i : In P l) → In Q l → (Q ≡ P → ⊥) → In Q (less i)
unfolding less
less-In here here h = absurd (h refl)
less-In here (there j) h = j
less-In (there i) here h = here
less-In (there i) (there j) h = there (less-In i j h)

-- a list without repeats is no longer than one that has all its members
pub no-longer : (l m : List Proc) → Distinct l → ((Q : Proc) → In Q l → In Q m) → length l ≤ length m
no-longer [] m d h = omega arith
no-longer (P ∷ l) m d h =
    let i = h P here in
    let e = less-length i in
    let k = no-longer l (less i) d.1 (λ Q j. less-In i (h Q (there j)) (λ q. d.0 (subst (λ v. In v l) q j))) in
    omega arith

distinct-append : (l m : List Proc) → Distinct l → Distinct m → ((Q : Proc) → In Q l → In Q m → ⊥) → Distinct (l ++ m)
distinct-append [] m d e h = e
distinct-append (P ∷ l) m d e h =
    ((λ i. elim (append-In l m P i) [ inl j ↦ d.0 j | inr j ↦ h P here j ]), distinct-append l m d.1 e (λ Q i j. h Q (there i) j))

pub distinct-front : (l m : List Proc) → Distinct (l ++ m) → Distinct l
distinct-front [] m d = tt
distinct-front (P ∷ l) m d = ((λ i. d.0 (In-append_l i m)), distinct-front l m d.1)

pub nothing : {P : Proc} {l : List Proc} → In P l → l ≡ [] → ⊥
nothing here e = cc
nothing (there i) e = cc

pub only : {P Q : Proc} {l : List Proc} → In P l → l ≡ Q ∷ [] → P ≡ Q
only here e = cc
only (there i) e = absurd (nothing i (cc))

pub distinct-push : (l : List Proc) (P : Proc) → Distinct l → (In P l → ⊥) → Distinct (l ++ P ∷ [])
distinct-push l P d h = distinct-append l (P ∷ []) d ((λ i. elim i [ ]), tt) (λ Q i j. h (subst (λ v. In v l) (only j refl) i))

-- ---- cuts
-- a set under another name
pub cut-to : (S T : Terms) (n : ℕ) (l : List Proc) → ((Q : Proc) → S Q ↔ T Q) → CutOf S n l → CutOf T n l
cut-to S T n l e c =
    record {
      once = c.once;
      only = λ Q i. (e Q).0 (c.only Q i);
      all = elim c.all [ inl h ↦ inl h | inr f ↦ inr (λ Q s. f Q ((e Q).1 s)) ];
    }

-- of nothing
pub cut-none : (S : Terms) (n : ℕ) → ((Q : Proc) → S Q → ⊥) → CutOf S n []
cut-none S n h = record { once = tt; only = λ Q i. elim i [ ]; all = inr (λ Q s. absurd (h Q s)) }

-- of one process
pub cut-one : (n : ℕ) (P : Proc) → CutOf (λ Q. Q ≡ P) n (P ∷ [])
cut-one n P =
    record {
      once = ((λ i. elim i [ ]), tt);
      only = λ Q i. only i refl;
      all = inr (λ Q e. subst (λ v. In v (P ∷ [])) (sym e) here);
    }

-- of a list without repeats, the whole list
pub cut-all : (n : ℕ) (l : List Proc) → Distinct l → CutOf (λ Q. In Q l) n l
cut-all n l d = record { once = d; only = λ Q i. i; all = inr (λ Q i. i) }

-- of two sets together, where they were cut and their cuts joined
pub cut-join : (S T : Terms) (n : ℕ) (l r t : List Proc) → CutOf S n l → CutOf T n r → CutOf (InEither l r) n t → CutOf (λ Q. S Q ⊎ T Q) n t
cut-join S T n l r t c d j =
    record {
      once = j.once;
      only = λ Q i. elim (j.only Q i) [ inl k ↦ inl (c.only Q k) | inr k ↦ inr (d.only Q k) ];
      all = elim j.all [ inl h ↦ inl h | inr f ↦ go f c.all d.all ];
    }
  where
    go : ((Q : Proc) → InEither l r Q → In Q t) → (n < length l) ⊎ ((Q : Proc) → S Q → In Q l) → (n < length r) ⊎ ((Q : Proc) → T Q → In Q r) → (n < length t) ⊎ ((Q : Proc) → S Q ⊎ T Q → In Q t)
    go f (inl h) b = let k = no-longer l t c.once (λ Q i. f Q (inl i)) in inl (omega arith)
    go f (inr a) (inl h) = let k = no-longer r t d.once (λ Q i. f Q (inr i)) in inl (omega arith)
    go f (inr a) (inr b) = inr (λ Q s. elim s [ inl x ↦ f Q (inl (a Q x)) | inr y ↦ f Q (inr (b Q y)) ])

-- What f makes of the members of S.
abbrev pub Image : (Proc → Proc) → Terms → Terms
Image f S R = (P : Proc) × S P × (R ≡ f P)

module _ (f : Proc → Proc) (inj : (P Q : Proc) → f P ≡ f Q → P ≡ Q) where
  distinct-map : (l : List Proc) → Distinct l → Distinct (map f l)
  distinct-map [] d = tt
  distinct-map (P ∷ l) d =
      ((λ i. let (Q, j, e) = map-In f l (f P) i in d.0 (subst (λ v. In v l) (inj Q P e) j)), distinct-map l d.1)

  -- of what f makes of a set
  pub cut-map : (S : Terms) (n : ℕ) (l : List Proc) → CutOf S n l → CutOf (Image f S) n (map f l)
  cut-map S n l c =
      record {
        once = distinct-map l c.once;
        only = λ R i. let (P, j, e) = map-In f l R i in (P, c.only P j, sym e);
        all = elim c.all [
          | inl h ↦ let k = length-map l f in inl (omega arith)
          | inr g ↦ inr (λ R (P, s, e). subst (λ v. In v (map f l)) (sym e) (In-map f (g P s)))
        ];
      }

-- What f makes of a member of S and one of T.
abbrev pub Pairs : (Proc → Proc → Proc) → Terms → Terms → Terms
Pairs f S T R = (P Q : Proc) × S P × T Q × (R ≡ f P Q)

some : {Q : Proc} {l : List Proc} → In Q l → 0 < length l
some here = omega arith
some (there i) = omega arith

module _ (f : Proc → Proc → Proc) (inj : (P Q R S : Proc) → f P Q ≡ f R S → (P ≡ R) × (Q ≡ S)) where
  distinct-pairs : (l m : List Proc) → Distinct l → Distinct m → Distinct (pairs_of f l m)
  distinct-pairs [] m d e = tt
  distinct-pairs (P ∷ l) m d e =
      distinct-append (map (f P) m) (pairs_of f l m) (distinct-map (f P) (λ Q R g. (inj P Q P R g).1) m e) (distinct-pairs l m d.1 e) apart
    where
      apart : (R : Proc) → In R (map (f P) m) → In R (pairs_of f l m) → ⊥
      apart R i j =
          let (Q, k, g) = map-In (f P) m R i in
          let (P', Q', k', l', g') = pairs-In f l m R j in
          d.0 (subst (λ v. In v l) (inj P' Q' P Q (g' ∙ sym g)).0 k')

  rows : (l m : List Proc) {Q : Proc} → In Q m → length l ≤ length (pairs_of f l m)
  rows [] m i = omega arith
  rows (P ∷ l) m i =
      let k = rows l m i in
      let s = some i in
      let e = length-append (map (f P) m) (pairs_of f l m) in
      let g = length-map m (f P) in
      omega arith

  cols : (l m : List Proc) {P : Proc} → In P l → length m ≤ length (pairs_of f l m)
  cols (P ∷ l) m i =
      let e = length-append (map (f P) m) (pairs_of f l m) in
      let g = length-map m (f P) in
      omega arith
  cols [] m i = elim i [ ]

  -- of all pairs, where their parts were cut, and their list after that
  pub cut-pairs : (S T : Terms) (n : ℕ) (l m t : List Proc) → CutOf S n l → CutOf T n m → t ≡ take (n + 1) (pairs_of f l m) → CutOf (Pairs f S T) n t
  cut-pairs S T n l m t c d e =
      record {
        once = distinct-front t (drop (n + 1) ps) (subst Distinct (sym whole) (distinct-pairs l m c.once d.once));
        only = λ R i. let (P, Q, j, k, g) = pairs-In f l m R (subst (In R) whole (In-append_l i (drop (n + 1) ps))) in (P, Q, c.only P j, d.only Q k, sym g);
        all = elim (cases_lt n (length t)) [ inl h ↦ inl h | inr h ↦ inr (λ R (P, Q, s, u, g). subst (λ v. In v t) (sym g) (go (few h) P Q s u c.all d.all)) ];
      }
    where
      ps : List Proc
      ps = pairs_of f l m

      whole : t ++ drop (n + 1) ps ≡ ps
      whole = ap (λ v. v ++ drop (n + 1) ps) e ∙ take-append-drop (n + 1) ps

      few : length t ≤ n → (length ps ≤ n) × (t ≡ ps)
      few h =
          let g : length t ≡ min (n + 1) (length ps) = ap length e ∙ length-take (n + 1) ps in
          let k : length ps ≤ n = omega arith in
          (k, e ∙ take_all (n + 1) ps (omega arith))

      go : (length ps ≤ n) × (t ≡ ps) → (P Q : Proc) → S P → T Q → (n < length l) ⊎ ((P : Proc) → S P → In P l) → (n < length m) ⊎ ((Q : Proc) → T Q → In Q m) → In (f P Q) t
      go (h, w) P Q s u (inr a) (inr b) = subst (λ v. In (f P Q) v) (sym w) (In-pairs f (a P s) m (b Q u))
      go (h, w) P Q s u (inl x) (inr b) = let k = rows l m (b Q u) in absurd (omega arith)
      go (h, w) P Q s u (inr a) (inl y) = let k = cols l m (a P s) in absurd (omega arith)
      go (h, w) P Q s u (inl x) (inl y) = absurd (long l refl)
        where
          long : (v : List Proc) → l ≡ v → ⊥
          long [] g = let z = ap length g in omega arith
          long (V ∷ v) g = let k = cols l m (subst (In V) (sym g) here) in omega arith
