-- What is found of names, one after the other.
use Rattle.std.proofs.Common.{◌≡◌, ◌≢◌, ℕ, zero, suc, ◌<◌, ◌≤◌, Bool, true, false, true≢false, nat_eq, inl, inr, List, [], ◌∷◌, ◌++◌, length, get_or, refl, sym, ap, ◌∙◌, subst, arith, length-append}
use Rattle.std.proofs.Math.ListN.{set}
use Rattle.std.proofs.lemmas.Bool.{cases_lt, eqb-true, eq-eqb}
use Rattle.std.proofs.lemmas.List.{get_or_append_left, get_or_push, get_or-set_same, get_or-set_other, length-set}
use Rattle.std.proofs.lemmas.List.Elements.{All-get_or}
use Rattle.alphabet.specs.Channels.{event_count}
use Rattle.term.proofs.Bools.{true-or-false, is_false, not-both}
use Rattle.term.specs.SameLaws.{and-cases, and-both}
use Rattle.term.specs.Proc.{Proc, stop, skip, prefix, ext, int, seq, par, hide, ren, intr, name, bodies_of}
use Rattle.term.specs.Specs.{Specified, IsClosed, IsProcessOf, LiesIn}
use Rattle.nodes.specs.Shapes.{at}
use Rattle.nodes.specs.Tables.{Tabled, HasGrown, IsNumber}
use Rattle.unfolding.specs.Unfolded.{unfolded, exposes_only, guarded, either, stands_for}
use Rattle.unfolding.proofs.Standing.{exposes-map, unfolded-same, unfolded-to, guarded-more, taken, left}
use Rattle.keeping.specs.Kept.{AreStanding}
use Rattle.keeping.specs.Guarding.{Guarding, AreFound, AreNames, GoesOn, IsSettled, StaysFound, count_of, says, stands_so_far}
use Rattle.keeping.proofs.Growing.{number-to, number-grown}

-- ---- lists of facts by place
pub each-push : {X : Type 0} (P : ℕ → X → Type 0) (xs : List X) (y : X) → ((k : ℕ) (d : X) → k < length xs → P k (get_or xs k d)) → P (length xs) y → (k : ℕ) (d : X) → k < length (xs ++ y ∷ []) → P k (get_or (xs ++ y ∷ []) k d)
each-push P xs y h p k d l =
    elim (cases_lt k (length xs)) [
      | inl g ↦ subst (P k) (sym (get_or_append_left xs (y ∷ []) d k g)) (h k d g)
      | inr g ↦
          let e : length xs ≡ k = omega (arith, length-append xs (y ∷ [])) in
          subst (P k) (sym (get_or_push xs y d k e)) (subst (λ j. P j y) e p)
    ]

pub names-more : (t u : Tabled) (ns : List ℕ) (n k : ℕ) → HasGrown t u → AreNames t ns → length ns ≡ k → IsNumber u n (name k) → AreNames u (ns ++ n ∷ [])
names-more t u ns n k g a e i =
    each-push (λ j m. IsNumber u m (name j)) ns n (λ j d h. number-grown t u (get_or ns j d) (name j) g (a j d h)) (subst (λ j. IsNumber u n (name j)) (sym e) i)

-- ---- how many are known to be guarded
count-few : (gs : List Bool) → count_of gs ≤ length gs
count-few [] = omega arith
count-few (true ∷ gs) = let h = count-few gs in omega arith
count-few (false ∷ gs) = let h = count-few gs in omega arith

count-none : (gs : List Bool) → ((k : ℕ) (d : Bool) → k < length gs → get_or gs k d ≡ false) → (k : ℕ) → says gs k ≡ false
count-none gs h k =
    elim (cases_lt k (length gs)) [ inl l ↦ h k false l | inr l ↦ beyond gs k (omega arith) ]
  where
    beyond : (gs : List Bool) (k : ℕ) → length gs ≤ k → says gs k ≡ false
    beyond [] k l = refl
    beyond (g ∷ gs) zero l = absurd (omega arith)
    beyond (g ∷ gs) (suc k) l = beyond gs k (omega arith)

count-more : (gs : List Bool) (k : ℕ) → k < length gs → says gs k ≡ false → count_of (set gs k true) ≡ suc (count_of gs)
count-more [] k h e = absurd (omega arith)
count-more (false ∷ gs) zero h e = refl
count-more (true ∷ gs) zero h e = absurd (true≢false e)
count-more (true ∷ gs) (suc k) h e = ap suc (count-more gs k (omega arith) e)
count-more (false ∷ gs) (suc k) h e = count-more gs k (omega arith) e

-- what the list says at a place
pub says-at : (gs : List Bool) (k : ℕ) (b : Bool) → b ≡ get_or gs k b → b ≡ false → says gs k ≡ false
says-at gs k b p q = sym (subst (λ (x : Bool). x ≡ get_or gs k x) q p)

-- ---- nothing is found yet
pub found-none : (s : Guarding) (ns : List ℕ) → length ns ≡ length s.guards → AreNames s.all.table ns → ((k : ℕ) (d : Bool) → k < length s.guards → get_or s.guards k d ≡ false) → AreFound s ns
found-none s ns c a h =
    record {
      count = c;
      sure = λ k e. absurd (true≢false (sym e ∙ count-none s.guards h k));
      each = λ k d l. number-to s.all.table (get_or ns k d) (name k) (stands_so_far s k)
          (sym (ap (λ b. either b (stands_for (bodies_of s.all.bodies) (count_of s.guards) k) (name k)) (count-none s.guards h k))) (a k d l);
    }

-- ---- with more numbers
pub same-so-far : (s r : Guarding) → StaysFound s r → (k : ℕ) → stands_so_far r k ≡ stands_so_far s k
same-so-far s r k j =
    ap (λ (bs : List Proc). either (says r.guards j) (stands_for (bodies_of bs) (count_of r.guards) j) (name j)) k.all.bodies
    ∙ ap (λ (gs : List Bool). either (says gs j) (stands_for (bodies_of s.all.bodies) (count_of gs) j) (name j)) k.guards

pub found-stays : (s r : Guarding) (ns : List ℕ) → StaysFound s r → AreFound s ns → AreFound r ns
found-stays s r ns k a =
    record {
      count = a.count ∙ ap (λ (gs : List Bool). length gs) (sym k.guards);
      sure = λ j e.
          subst (λ (bs : List Proc). guarded (bodies_of bs) (count_of r.guards) j ≡ true) (sym k.all.bodies)
          (subst (λ (gs : List Bool). guarded (bodies_of s.all.bodies) (count_of gs) j ≡ true) (sym k.guards)
          (a.sure j (subst (λ (gs : List Bool). says gs j ≡ true) k.guards e)));
      each = λ j d h. number-to r.all.table (get_or ns j d) (stands_so_far s j) (stands_so_far r j) (sym (same-so-far s r k j))
          (number-grown s.all.table r.all.table (get_or ns j d) (stands_so_far s j) k.all.table (a.each j d h));
    }

-- ---- one name more
module _ (s : Guarding) (ns : List ℕ) (a : AreFound s ns) (k n : ℕ) (h : k < length s.guards) (f : says s.guards k ≡ false)
    (e : exposes_only (says s.guards) (bodies_of s.all.bodies k) ≡ true) (i : IsNumber s.all.table n (unfolded (stands_so_far s) (bodies_of s.all.bodies k))) where
  B : ℕ → Proc
  B = bodies_of s.all.bodies

  r : ℕ
  r = count_of s.guards

  up : guarded (bodies_of s.all.bodies) (suc (count_of s.guards)) k ≡ true
  up = exposes-map (says s.guards) (guarded (bodies_of s.all.bodies) (count_of s.guards)) a.sure (bodies_of s.all.bodies k) e

  more : count_of (set s.guards k true) ≡ suc (count_of s.guards)
  more = count-more s.guards k h f

  here : says (set s.guards k true) k ≡ true
  here = get_or-set_same s.guards k true false h

  other : (j : ℕ) → j ≢ k → says (set s.guards k true) j ≡ says s.guards j
  other j x = get_or-set_other s.guards k j true false x

  known : (j : ℕ) → says s.guards j ≡ true → stands_so_far s j ≡ stands_for (bodies_of s.all.bodies) (count_of s.guards) j
  known j t = ap (λ b. either b (stands_for (bodies_of s.all.bodies) (count_of s.guards) j) (name j)) t

  stands-here : stands_so_far (record { all = s.all; guards = set s.guards k true }) k ≡ unfolded (stands_so_far s) (bodies_of s.all.bodies k)
  stands-here =
      ap (λ b. either b (stands_for (bodies_of s.all.bodies) (count_of (set s.guards k true)) k) (name k)) here
      ∙ ap (λ (m : ℕ). stands_for (bodies_of s.all.bodies) m k) more
      ∙ taken (bodies_of s.all.bodies) (count_of s.guards) k up
      ∙ sym (unfolded-same (says s.guards) (stands_so_far s) (stands_for (bodies_of s.all.bodies) (count_of s.guards)) known (bodies_of s.all.bodies k) e)

  stands-there : (j : ℕ) → j ≢ k → stands_so_far (record { all = s.all; guards = set s.guards k true }) j ≡ stands_so_far s j
  stands-there j x =
      ap (λ b. either b (stands_for (bodies_of s.all.bodies) (count_of (set s.guards k true)) j) (name j)) (other j x)
      ∙ ap (λ (m : ℕ). either (says s.guards j) (stands_for (bodies_of s.all.bodies) m j) (name j)) more
      ∙ elim (true-or-false (says s.guards j)) [
        | inl t ↦ ap (λ b. either b (stands_for (bodies_of s.all.bodies) (suc (count_of s.guards)) j) (name j)) t ∙ (guarded-more (bodies_of s.all.bodies) (count_of s.guards) j (a.sure j t)).1 ∙ sym (known j t)
        | inr t ↦ ap (λ b. either b (stands_for (bodies_of s.all.bodies) (suc (count_of s.guards)) j) (name j)) t ∙ sym (ap (λ b. either b (stands_for (bodies_of s.all.bodies) (count_of s.guards) j) (name j)) t)
      ]

  by-name : (P : ℕ → Type 0) → P k → ((j : ℕ) → j ≢ k → P j) → (j : ℕ) → P j
  by-name P p q j =
      elim (true-or-false (nat_eq j k)) [
        | inl t ↦ subst P (sym (eqb-true j k t)) p
        | inr t ↦ q j (λ x. true≢false (sym (eq-eqb j k x) ∙ t))
      ]

  pub found-more : AreFound (record { all = s.all; guards = set s.guards k true }) (set ns k n)
  found-more =
      record {
        count = length-set ns k n ∙ a.count ∙ sym (length-set s.guards k true);
        sure = by-name (λ j. says (set s.guards k true) j ≡ true → guarded (bodies_of s.all.bodies) (count_of (set s.guards k true)) j ≡ true)
            (λ t. subst (λ (m : ℕ). guarded (bodies_of s.all.bodies) m k ≡ true) (sym more) up)
            (λ j x t. subst (λ (m : ℕ). guarded (bodies_of s.all.bodies) m j ≡ true) (sym more) (guarded-more (bodies_of s.all.bodies) (count_of s.guards) j (a.sure j (sym (other j x) ∙ t))).0);
        each = by-name (λ j. (d : ℕ) → j < length (set ns k n) → IsNumber s.all.table (get_or (set ns k n) j d) (stands_so_far (record { all = s.all; guards = set s.guards k true }) j))
            (λ d l.
            subst (λ m. IsNumber s.all.table m (stands_so_far (record { all = s.all; guards = set s.guards k true }) k)) (sym (get_or-set_same ns k n d (omega (arith, h, a.count))))
            (number-to s.all.table n (unfolded (stands_so_far s) (bodies_of s.all.bodies k)) (stands_so_far (record { all = s.all; guards = set s.guards k true }) k) (sym stands-here) i))
            (λ j x d l.
            subst (λ m. IsNumber s.all.table m (stands_so_far (record { all = s.all; guards = set s.guards k true }) j)) (sym (get_or-set_other ns k j n d x))
            (number-to s.all.table (get_or ns j d) (stands_so_far s j) (stands_so_far (record { all = s.all; guards = set s.guards k true }) j) (sym (stands-there j x)) (a.each j d (omega (arith, l, length-set ns k n)))));
      }

-- the same, where there are more numbers when what stands for the name is put
pub found-next : (s r : Guarding) (ns : List ℕ) → StaysFound s r → AreFound r ns → (k b n : ℕ) → k < length s.guards → says s.guards k ≡ false
    → IsNumber s.all.table b (bodies_of s.all.bodies k) → exposes_only (says s.guards) (at s.all.table.processes b) ≡ true → IsNumber r.all.table n (unfolded (stands_so_far s) (at s.all.table.processes b))
    → AreFound (record { all = r.all; guards = set r.guards k true }) (set ns k n)
found-next s r ns g a k b n h f ib e i =
    found-more r ns a k n
    (subst (λ (gs : List Bool). k < length gs) (sym g.guards) h)
    (subst (λ (gs : List Bool). says gs k ≡ false) (sym g.guards) f)
    (subst (λ (bs : List Proc). exposes_only (says r.guards) (bodies_of bs k) ≡ true) (sym g.all.bodies)
    (subst (λ (gs : List Bool). exposes_only (says gs) (bodies_of s.all.bodies k) ≡ true) (sym g.guards)
    (subst (λ (P : Proc). exposes_only (says s.guards) P ≡ true) ib.is e)))
    (number-to r.all.table n (unfolded (stands_so_far s) (at s.all.table.processes b)) (unfolded (stands_so_far r) (bodies_of r.all.bodies k))
    (ap (λ (P : Proc). unfolded (stands_so_far s) P) ib.is
    ∙ unfolded-to (stands_so_far s) (stands_so_far r) (λ j. sym (same-so-far s r g j)) (bodies_of s.all.bodies k)
    ∙ ap (λ (bs : List Proc). unfolded (stands_so_far r) (bodies_of bs k)) (sym g.all.bodies)) i)

pub goes-next : (s r : Guarding) (k : ℕ) → StaysFound s r → GoesOn s (record { all = r.all; guards = set r.guards k true })
goes-next s r k g = record { bodies = g.all.bodies; count = length-set r.guards k true ∙ ap (λ (gs : List Bool). length gs) g.guards }

-- ---- all names
-- where the tests agree so below a bound, fewer names of a process that lies there are let through
exposes-below : (e m : ℕ) (g h : ℕ → Bool) → ((k : ℕ) → k < m → g k ≡ true → h k ≡ true) → (P : Proc) → LiesIn e m P → exposes_only g P ≡ true → exposes_only h P ≡ true
exposes-below e m g h f stop l x = refl
exposes-below e m g h f skip l x = refl
exposes-below e m g h f (prefix a P) l x = refl
exposes-below e m g h f (ext P Q) l x = let (p, q) = and-cases (exposes_only g P) (exposes_only g Q) x in and-both (exposes_only h P) (exposes_only h Q) (exposes-below e m g h f P l.0 p) (exposes-below e m g h f Q l.1 q)
exposes-below e m g h f (int P Q) l x = refl
exposes-below e m g h f (seq P Q) l x = exposes-below e m g h f P l.0 x
exposes-below e m g h f (par A P Q) l x = let (p, q) = and-cases (exposes_only g P) (exposes_only g Q) x in and-both (exposes_only h P) (exposes_only h Q) (exposes-below e m g h f P l.1 p) (exposes-below e m g h f Q l.2 q)
exposes-below e m g h f (hide A P) l x = exposes-below e m g h f P l.1 x
exposes-below e m g h f (ren R P) l x = exposes-below e m g h f P l.1 x
exposes-below e m g h f (intr P Q) l x = let (p, q) = and-cases (exposes_only g P) (exposes_only g Q) x in and-both (exposes_only h P) (exposes_only h Q) (exposes-below e m g h f P l.0 p) (exposes-below e m g h f Q l.1 q)
exposes-below e m g h f (name k) l x = f k l x

-- what is guarded at n is so further on, and the same stands for it
guarded-on : (B : ℕ → Proc) (n m k : ℕ) → n ≤ m → guarded B n k ≡ true → (guarded B m k ≡ true) × (stands_for B m k ≡ stands_for B n k)
guarded-on B n zero k l g =
    let e : n ≡ 0 = omega arith in
    (subst (λ (j : ℕ). guarded B j k ≡ true) e g, ap (λ (j : ℕ). stands_for B j k) (sym e))
guarded-on B n (suc m) k l g =
    elim (cases_lt n (suc m)) [
      | inl x ↦ let (p, q) = guarded-on B n m k (omega arith) g in let (u, v) = guarded-more B m k p in (u, v ∙ q)
      | inr x ↦ let e : n ≡ suc m = omega arith in (subst (λ (j : ℕ). guarded B j k ≡ true) e g, ap (λ (j : ℕ). stands_for B j k) (sym e))
    ]

module _ (spec : Specified) (s : Guarding) (c : IsClosed spec) (b : s.all.bodies ≡ spec.bodies) (l : length s.guards ≡ length spec.bodies) (settled : IsSettled s) where
  lies : (k : ℕ) → k < length s.guards → IsProcessOf spec (bodies_of s.all.bodies k)
  lies k h = subst (λ (bs : List Proc). IsProcessOf spec (bodies_of bs k)) (sym b) (All-get_or (IsProcessOf spec) spec.bodies k stop (omega (arith, l)) c.1)

  -- a name that isn't known to be guarded never is
  never : (n k : ℕ) → k < length s.guards → says s.guards k ≡ false → guarded (bodies_of s.all.bodies) n k ≡ false
  never zero k h f = refl
  never (suc n) k h f =
      is_false (guarded (bodies_of s.all.bodies) (suc n) k)
      (λ t. not-both (exposes-below (event_count spec.alphabet) (length spec.bodies) (guarded (bodies_of s.all.bodies) n) (says s.guards)
      (λ j x y. elim (true-or-false (says s.guards j)) [ inl z ↦ z | inr z ↦ absurd (not-both y (never n j (omega (arith, l)) z)) ])
      (bodies_of s.all.bodies k) (lies k h) t) (settled k h f))

  pub found-standing : (ns : List ℕ) → AreFound s ns → AreStanding (record { all = s.all; deep = length spec.bodies }) ns
  found-standing ns a =
      record {
        count = λ h. a.count ∙ l ∙ ap (λ (bs : List Proc). length bs) (sym b);
        each = λ k d h. number-to s.all.table (get_or ns k d) (stands_so_far s k) (stands_for (bodies_of s.all.bodies) (length spec.bodies) k) (same k (omega (arith, h, a.count))) (a.each k d h);
      }
    where
      same : (k : ℕ) → k < length s.guards → stands_so_far s k ≡ stands_for (bodies_of s.all.bodies) (length spec.bodies) k
      same k h =
          elim (true-or-false (says s.guards k)) [
            | inl t ↦
                let few = count-few s.guards in
                ap (λ x. either x (stands_for (bodies_of s.all.bodies) (count_of s.guards) k) (name k)) t
                ∙ sym (guarded-on (bodies_of s.all.bodies) (count_of s.guards) (length spec.bodies) k (omega (arith, few, l)) (a.sure k t)).1
            | inr f ↦
                ap (λ x. either x (stands_for (bodies_of s.all.bodies) (count_of s.guards) k) (name k)) f
                ∙ sym (left (bodies_of s.all.bodies) (length spec.bodies) k (never (length spec.bodies) k h f))
          ]

-- ---- from one state to the next
pub goes-same : (s : Guarding) → GoesOn s s
goes-same s = record { bodies = refl; count = refl }

pub goes-on : (s r q : Guarding) → GoesOn s r → GoesOn r q → GoesOn s q
goes-on s r q k l = record { bodies = l.bodies ∙ k.bodies; count = l.count ∙ k.count }
