-- Where a part has many targets, the whole has.
use Rattle.std.proofs.Common.{◌≡◌, ℕ, ◌⊎◌, inl, inr, Bool, true, false, Result, Ok, Err, IfOk, length, sym, ◌∙◌, subst, arith}
use Rattle.std.proofs.lemmas.List.{length-map}
use Rattle.alphabet.specs.EventSets.{Set, has}
use Rattle.term.specs.Traces.{Pairs as Relation}
use Rattle.term.specs.Limits.{Terms, HasMany, most_states}
use Rattle.term.specs.Proc.{Proc, bodies_of, ext, seq, par, hide, ren, intr}
use Rattle.term.specs.Steps.{Act, a-ext-l, a-ext-r, a-seq, a-par-l, a-par-r, a-par-b, a-hide, a-intr-l, a-intr-r, Hid, h-ext-l, h-ext-r, h-seq, h-par-l, h-par-r, h-hide, h-ren, h-intr-l, h-intr-r}
use Rattle.targets.specs.declared.labels.Label.{Label}
use Rattle.targets.specs.Labels.{Step}
use Rattle.targets.specs.Offers.{offered}
use Rattle.targets.proofs.Offered.{offered-Offers}
use Rattle.targets.specs.Cuts.{CutOf}
use Rattle.targets.proofs.Cutting.{Image, cut-map}
use Rattle.targets.proofs.Inverting.{par-act}
use Rattle.nodes.specs.Shapes.{at}
use Rattle.transitions.specs.Numbered.{Numbered}
use Rattle.keeping.specs.Kept.{Keeping}
use Rattle.tau_closures.specs.Kept.{IsBroad}

-- ---- sets with many members
pub many-within : (S T : Terms) → ((Q : Proc) → S Q → T Q) → HasMany S → HasMany T
many-within S T f (qs, d, m, h) = (qs, d, (λ Q i. f Q (m Q i)), h)

many-image : (f : Proc → Proc) → ((P Q : Proc) → f P ≡ f Q → P ≡ Q) → (S : Terms) → HasMany S → HasMany (Image f S)
many-image f inj S (qs, d, m, h) =
    let c : CutOf S most_states qs = record { once = d; only = m; all = inl h } in
    let e = cut-map f inj S most_states qs c in
    let l = length-map qs f in
    (_, e.once, e.only, omega arith)

many-under : (f : Proc → Proc) → ((P Q : Proc) → f P ≡ f Q → P ≡ Q) → (S T : Terms) → ((Q : Proc) → S Q → T (f Q)) → HasMany S → HasMany T
many-under f inj S T g m = many-within (Image f S) T (λ R (P, s, e). subst T (sym e) (g P s)) (many-image f inj S m)

-- ---- by an event
module _ (a : ℕ) where
  pub ext-broad : (P Q : Proc) → HasMany (Act P a) ⊎ HasMany (Act Q a) → HasMany (Act (ext P Q) a)
  ext-broad P Q (inl m) = many-within (Act P a) (Act (ext P Q) a) (λ R d. a-ext-l d) m
  ext-broad P Q (inr m) = many-within (Act Q a) (Act (ext P Q) a) (λ R d. a-ext-r d) m

  pub intr-broad : (P Q : Proc) → HasMany (Act P a) ⊎ HasMany (Act Q a) → HasMany (Act (intr P Q) a)
  intr-broad P Q (inl m) = many-under (λ p. intr p Q) (λ R S f. cc) (Act P a) (Act (intr P Q) a) (λ R d. a-intr-l d) m
  intr-broad P Q (inr m) = many-within (Act Q a) (Act (intr P Q) a) (λ R d. a-intr-r d) m

  pub par-broad : (A : Set) (P Q : Proc) → offered (par A P Q) a ≡ true → HasMany (Act P a) ⊎ HasMany (Act Q a) → HasMany (Act (par A P Q) a)
  par-broad A P Q o m = let (R, d) = offered-Offers (par A P Q) a o in elim (par-act d) [ inl s ↦ alone s.0 m | inr s ↦ let (y, (P', Q', b, e, f)) = s in both y P' Q' b e m ]
    where
      alone : has A a ≡ false → HasMany (Act P a) ⊎ HasMany (Act Q a) → HasMany (Act (par A P Q) a)
      alone n (inl m) = many-under (λ p. par A p Q) (λ R S f. cc) (Act P a) (Act (par A P Q) a) (λ R d. a-par-l n d) m
      alone n (inr m) = many-under (λ q. par A P q) (λ R S f. cc) (Act Q a) (Act (par A P Q) a) (λ R d. a-par-r n d) m

      both : has A a ≡ true → (P' Q' : Proc) → Act P a P' → Act Q a Q' → HasMany (Act P a) ⊎ HasMany (Act Q a) → HasMany (Act (par A P Q) a)
      both y P' Q' b e (inl m) = many-under (λ p. par A p Q') (λ R S f. cc) (Act P a) (Act (par A P Q) a) (λ R d. a-par-b y d e) m
      both y P' Q' b e (inr m) = many-under (λ q. par A P' q) (λ R S f. cc) (Act Q a) (Act (par A P Q) a) (λ R d. a-par-b y b d) m

  pub seq-broad : (P Q : Proc) → HasMany (Act P a) → HasMany (Act (seq P Q) a)
  seq-broad P Q m = many-under (λ p. seq p Q) (λ R S f. cc) (Act P a) (Act (seq P Q) a) (λ R d. a-seq d) m

  shown : {A : Set} {P R : Proc} → Act (hide A P) a R → has A a ≡ false
  shown (a-hide n d) = n

  pub hide-broad : (A : Set) (P : Proc) → offered (hide A P) a ≡ true → HasMany (Act P a) → HasMany (Act (hide A P) a)
  hide-broad A P o m =
      let (R, d) = offered-Offers (hide A P) a o in
      many-under (hide A) (λ R S f. cc) (Act P a) (Act (hide A P) a) (λ Q b. a-hide (shown d) b) m

-- ---- by a hidden step
module _ (B : ℕ → Proc) where
  pub ext-hid-broad : (P Q : Proc) → HasMany (Hid B P) ⊎ HasMany (Hid B Q) → HasMany (Hid B (ext P Q))
  ext-hid-broad P Q (inl m) = many-under (λ p. ext p Q) (λ R S f. cc) (Hid B P) (Hid B (ext P Q)) (λ R d. h-ext-l d) m
  ext-hid-broad P Q (inr m) = many-under (λ q. ext P q) (λ R S f. cc) (Hid B Q) (Hid B (ext P Q)) (λ R d. h-ext-r d) m

  pub par-hid-broad : (A : Set) (P Q : Proc) → HasMany (Hid B P) ⊎ HasMany (Hid B Q) → HasMany (Hid B (par A P Q))
  par-hid-broad A P Q (inl m) = many-under (λ p. par A p Q) (λ R S f. cc) (Hid B P) (Hid B (par A P Q)) (λ R d. h-par-l d) m
  par-hid-broad A P Q (inr m) = many-under (λ q. par A P q) (λ R S f. cc) (Hid B Q) (Hid B (par A P Q)) (λ R d. h-par-r d) m

  pub intr-hid-broad : (P Q : Proc) → HasMany (Hid B P) ⊎ HasMany (Hid B Q) → HasMany (Hid B (intr P Q))
  intr-hid-broad P Q (inl m) = many-under (λ p. intr p Q) (λ R S f. cc) (Hid B P) (Hid B (intr P Q)) (λ R d. h-intr-l d) m
  intr-hid-broad P Q (inr m) = many-under (λ q. intr P q) (λ R S f. cc) (Hid B Q) (Hid B (intr P Q)) (λ R d. h-intr-r d) m

  pub seq-hid-broad : (P Q : Proc) → HasMany (Hid B P) → HasMany (Hid B (seq P Q))
  seq-hid-broad P Q m = many-under (λ p. seq p Q) (λ R S f. cc) (Hid B P) (Hid B (seq P Q)) (λ R d. h-seq d) m

  pub ren-hid-broad : (N : Relation) (P : Proc) → HasMany (Hid B P) → HasMany (Hid B (ren N P))
  ren-hid-broad N P m = many-under (ren N) (λ R S f. cc) (Hid B P) (Hid B (ren N P)) (λ R d. h-ren d) m

  pub hide-hid-broad : (A : Set) (P : Proc) → HasMany (Hid B P) → HasMany (Hid B (hide A P))
  hide-hid-broad A P m = many-under (hide A) (λ R S f. cc) (Hid B P) (Hid B (hide A P)) (λ R d. h-hide d) m

-- ---- by number
-- under the name of the node
pub broad-at : (s : Keeping) (n : ℕ) (l : Label) (P : Proc) → at s.all.table.processes n ≡ P → HasMany (Step (bodies_of s.all.bodies) P l) → IsBroad s n l
broad-at s n l P e m = subst (λ (Q : Proc). HasMany (Step (bodies_of s.all.bodies) Q l)) (sym e) m

pub broad-arm : (s : Keeping) (r : Numbered) (n : ℕ) (l : Label) (P : Numbered → Proc) → r ≡ s.all → at r.table.processes n ≡ P r → HasMany (Step (bodies_of s.all.bodies) (P s.all) l) → IsBroad s n l
broad-arm s r n l P e f m = broad-at s n l (P s.all) (subst (λ (x : Numbered). at x.table.processes n ≡ P x) e f) m

-- a node that offers the event
pub arm-offers : (s r q : Numbered) (n a O : ℕ) (b : Bool) (P : Numbered → Proc) → q ≡ s → r ≡ s → has O a ≡ offered (at q.table.processes n) a → b ≡ has O a → b ≡ true → at r.table.processes n ≡ P r → offered (P s) a ≡ true
arm-offers s r q n a O b P eq er known is on f =
    subst (λ (R : Proc). offered R a ≡ true) (subst (λ (x : Numbered). at x.table.processes n ≡ P x) er f)
    (subst (λ (x : Numbered). offered (at x.table.processes n) a ≡ true) eq (sym known ∙ sym is ∙ on))

-- an answer that says so
pub if-broad : {E : Type 0} (r : Result Bool E) (X Y : Type 0) → (X → Y) → IfOk r (λ b. b ≡ true → X) → IfOk r (λ b. b ≡ true → Y)
if-broad (Ok b) X Y f h = λ e. f (h e)
if-broad (Err e) X Y f h = tt
