-- Steps stay within a specification: what a process of it leads to is one of its processes.
use Rattle.std.proofs.Common.{◌≡◌, ℕ, suc, arith, ◌<◌, length, ◌⊎◌, inl, inr, List, [], ◌∷◌, Bool, true, false, nat_eq, refl, sym, subst}
use Rattle.term.specs.Events.{Event}
use Rattle.term.specs.Traces.{Pairs, partners, or_itself, images, In, here, there}
use Rattle.std.proofs.lemmas.List.Elements.{All-get_or}
use Rattle.alphabet.specs.Channels.{event_count}
use Rattle.term.specs.Proc.{Proc, stop, bodies_of}
use Rattle.term.specs.Steps.{Act, a-prefix, a-ext-l, a-ext-r, a-seq, a-par-l, a-par-r, a-par-b, a-hide, a-ren, a-intr-l, a-intr-r, Hid, h-int-l, h-int-r, h-ext-l, h-ext-r, h-seq, h-seq-t, h-par-l, h-par-r, h-par-tl, h-par-tr, h-hide, h-hide-a, h-ren, h-intr-l, h-intr-r, h-name, done, hid, act, end}
use Rattle.term.specs.Specs.{Specified, PairsInSigma, LiesIn, IsProcessOf, IsClosed}
use Rattle.term.specs.Limits.{Reach}

In-first : (b c : ℕ) (bs : List ℕ) → In b (c ∷ bs) → (b ≡ c) ⊎ In b bs
In-first b c bs here = inl refl
In-first b c bs (there i) = inr i

module _ (n m : ℕ) where
  pairs-tail : (p : ℕ × ℕ) (R : Pairs) → PairsInSigma n (p ∷ R) → PairsInSigma n R
  pairs-tail p R l k d h = l (suc k) d (omega arith)

  partner-in : (R : Pairs) (a b : ℕ) → PairsInSigma n R → In b (partners R a) → b < n
  partner-in [] a b l i = elim i [ ]
  partner-in (p ∷ R) a b l i = go (partner-in R a b (pairs-tail p R l)) (l 0 p (omega arith)).1 (nat_eq p.0 a) i
    where
      go : (In b (partners R a) → b < n) → p.1 < n → (v : Bool) → In b (elim v [ true ↦ p.1 ∷ partners R a | false ↦ partners R a ]) → b < n
      go rest l true i = elim (In-first b p.1 (partners R a) i) [ inl e ↦ subst (λ k. k < n) (sym e) l | inr j ↦ rest j ]
      go rest l false i = rest i

  image-in : (R : Pairs) (a b : ℕ) → PairsInSigma n R → a < n → In b (images R a) → b < n
  image-in R a b l k i = go (partners R a) (partner-in R a b l) i
    where
      go : (bs : List ℕ) → (In b bs → b < n) → In b (or_itself bs a) → b < n
      go [] h i = elim (In-first b a [] i) [ inl e ↦ subst (λ k. k < n) (sym e) k | inr j ↦ h j ]
      go (c ∷ bs) h i = h i

  -- the event of a step is one of Sigma
  pub act-in : {a : ℕ} {P P' : Proc} → Act P a P' → LiesIn n m P → a < n
  act-in a-prefix l = l.0
  act-in (a-ext-l d) l = act-in d l.0
  act-in (a-ext-r d) l = act-in d l.1
  act-in (a-seq d) l = act-in d l.0
  act-in (a-par-l o d) l = act-in d l.1
  act-in (a-par-r o d) l = act-in d l.2
  act-in (a-par-b o d d') l = act-in d l.1
  act-in (a-hide o d) l = act-in d l.1
  act-in (a-ren {R = R} {a = a} {b = b} i d) l = image-in R a b l.0 (act-in d l.1) i
  act-in (a-intr-l d) l = act-in d l.0
  act-in (a-intr-r d) l = act-in d l.1

  pub act-lies : {a : ℕ} {P P' : Proc} → Act P a P' → LiesIn n m P → LiesIn n m P'
  act-lies a-prefix l = l.1
  act-lies (a-ext-l d) l = act-lies d l.0
  act-lies (a-ext-r d) l = act-lies d l.1
  act-lies (a-seq d) l = (act-lies d l.0, l.1)
  act-lies (a-par-l o d) l = (l.0, act-lies d l.1, l.2)
  act-lies (a-par-r o d) l = (l.0, l.1, act-lies d l.2)
  act-lies (a-par-b o d d') l = (l.0, act-lies d l.1, act-lies d' l.2)
  act-lies (a-hide o d) l = (l.0, act-lies d l.1)
  act-lies (a-ren i d) l = (l.0, act-lies d l.1)
  act-lies (a-intr-l d) l = (act-lies d l.0, l.1)
  act-lies (a-intr-r d) l = act-lies d l.1

  module _ (B : ℕ → Proc) (bodies : (k : ℕ) → k < m → LiesIn n m (B k)) where
    pub hid-lies : {P P' : Proc} → Hid B P P' → LiesIn n m P → LiesIn n m P'
    hid-lies h-int-l l = l.0
    hid-lies h-int-r l = l.1
    hid-lies (h-ext-l d) l = (hid-lies d l.0, l.1)
    hid-lies (h-ext-r d) l = (l.0, hid-lies d l.1)
    hid-lies (h-seq d) l = (hid-lies d l.0, l.1)
    hid-lies (h-seq-t t) l = l.1
    hid-lies (h-par-l d) l = (l.0, hid-lies d l.1, l.2)
    hid-lies (h-par-r d) l = (l.0, l.1, hid-lies d l.2)
    hid-lies (h-par-tl o t) l = (l.0, tt, l.2)
    hid-lies (h-par-tr o t) l = (l.0, l.1, tt)
    hid-lies (h-hide d) l = (l.0, hid-lies d l.1)
    hid-lies (h-hide-a o d) l = (l.0, act-lies d l.1)
    hid-lies (h-ren d) l = (l.0, hid-lies d l.1)
    hid-lies (h-intr-l d) l = (hid-lies d l.0, l.1)
    hid-lies (h-intr-r d) l = (l.0, hid-lies d l.1)
    hid-lies (h-name {k = k} e) l = subst (LiesIn n m) (sym e) (bodies k l)

    pub reach-lies : {Q P : Proc} {u : List Event} → Reach B P u Q → LiesIn n m P → LiesIn n m Q
    reach-lies (done e) l = subst (LiesIn n m) e l
    reach-lies (hid d r) l = reach-lies r (hid-lies d l)
    reach-lies (act d r) l = reach-lies r (act-lies d l)
    reach-lies (end t r) l = reach-lies r tt

pub processes-stay : (s : Specified) (P Q : Proc) (u : List Event) → IsClosed s → IsProcessOf s P → Reach (bodies_of s.bodies) P u Q → IsProcessOf s Q
processes-stay s P Q u c l r =
    reach-lies (event_count s.alphabet) (length s.bodies) (bodies_of s.bodies) (λ k h. All-get_or (IsProcessOf s) s.bodies k stop h c.1) r l
