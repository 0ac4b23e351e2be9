-- Nodes whose exposed names are replaced, where their parts have got numbers on the way.
use Rattle.std.proofs.Common.{◌≡◌, ℕ, ◌<◌, length, sym, ap, ◌∙◌, subst, arith}
use Rattle.term.specs.Proc.{Proc, ext, seq, par, hide, ren, intr, bodies_of}
use Rattle.nodes.specs.declared.node.Node.{Node}
use Rattle.nodes.specs.declared.node.Node.TheVariants.{Ext, Seq, Par, Hide, Ren, Intr}
use Rattle.nodes.specs.declared.places.Place.TheVariants as place
use Rattle.nodes.specs.Shapes.{at, set_at, relation_at, shape, IsWithin}
use Rattle.nodes.specs.Tables.{Tabled, HasGrown, IsNumber}
use Rattle.nodes.proofs.Looking.{at-grown, set-grown, relation-grown, part-within, set-within, place-grown}
use Rattle.transitions.proofs.Keeping.{kept-on}
use Rattle.unfolding.specs.Unfolded.{unfolded, kept_as}
use Rattle.unfolding.proofs.Standing.{unfolded-to}
use Rattle.keeping.specs.Kept.{Keeping, StaysKept}
use Rattle.keeping.specs.Guarding.{Guarding, StaysFound, stands_so_far}
use Rattle.keeping.proofs.Growing.{number-to, kept-stays}
use Rattle.keeping.proofs.Finding.{same-so-far}

-- The process with the number n is that of this node.
pub record IsOf (t : Tabled) (n : ℕ) (x : Node) : Type 0 where
  pub within : IsWithin t.parameters n x
  pub is : at t.processes n ≡ shape t.parameters t.processes x

-- The table u has grown from t, and W has what stands for names. The process with the number n in t is that of a node, and what
-- the node's parts become has the numbers k and l in u. Then the node of these is within u, and is what the process becomes.
module _ (t u : Tabled) (g : HasGrown t u) (W : ℕ → Proc) where
  -- what the process with this number in t becomes
  abbrev become : ℕ → Proc
  become n = unfolded W (at t.processes n)

  -- the process of a node of u
  abbrev made : Node → Proc
  made x = shape u.parameters u.processes x

  abbrev IsHere : Node → Type 0
  IsHere x = IsWithin u.parameters (length u.processes) x

  pub seq-within : {n p q k : ℕ} → n < length t.processes → IsOf t n (Seq p q) → IsNumber u k (become p) → IsHere (Seq k q)
  seq-within {q = q} h o i = (i.within, part-within t u g q (omega (arith, h, o.within.1)))

  pub seq-replaced : {n p q k : ℕ} → n < length t.processes → IsOf t n (Seq p q) → IsNumber u k (become p) → made (Seq k q) ≡ become n
  seq-replaced {p = p} {q = q} h o i =
      ap (λ P. seq P (at u.processes q)) i.is
      ∙ ap (λ Q. seq (become p) Q) (at-grown t u g q (omega (arith, h, o.within.1)))
      ∙ sym (ap (λ P. unfolded W P) o.is)

  pub hide-within : {n A p k : ℕ} → IsOf t n (Hide A p) → IsNumber u k (become p) → IsHere (Hide A k)
  hide-within {A = A} o i = (set-within t u g A o.within.0, i.within)

  pub hide-replaced : {n A p k : ℕ} → IsOf t n (Hide A p) → IsNumber u k (become p) → made (Hide A k) ≡ become n
  hide-replaced {A = A} {p = p} o i =
      ap (λ P. hide (set_at u.parameters A) P) i.is
      ∙ ap (λ S. hide S (become p)) (set-grown t u g A o.within.0)
      ∙ sym (ap (λ P. unfolded W P) o.is)

  pub ren-within : {n R p k : ℕ} → IsOf t n (Ren R p) → IsNumber u k (become p) → IsHere (Ren R k)
  ren-within {R = R} o i = (place-grown t u g (place.Ren R) o.within.0, i.within)

  pub ren-replaced : {n R p k : ℕ} → IsOf t n (Ren R p) → IsNumber u k (become p) → made (Ren R k) ≡ become n
  ren-replaced {R = R} {p = p} o i =
      ap (λ P. ren (relation_at u.parameters R) P) i.is
      ∙ ap (λ S. ren S (become p)) (relation-grown t u g R o.within.0)
      ∙ sym (ap (λ P. unfolded W P) o.is)

  pub ext-replaced : {n p q k l : ℕ} → IsOf t n (Ext p q) → IsNumber u k (become p) → IsNumber u l (become q) → made (Ext k l) ≡ become n
  ext-replaced {p = p} {l = l} o i j =
      ap (λ P. ext P (at u.processes l)) i.is
      ∙ ap (λ Q. ext (become p) Q) j.is
      ∙ sym (ap (λ P. unfolded W P) o.is)

  pub par-within : {n A p q k l : ℕ} → IsOf t n (Par A p q) → IsNumber u k (become p) → IsNumber u l (become q) → IsHere (Par A k l)
  par-within {A = A} o i j = (set-within t u g A o.within.0, i.within, j.within)

  pub par-replaced : {n A p q k l : ℕ} → IsOf t n (Par A p q) → IsNumber u k (become p) → IsNumber u l (become q) → made (Par A k l) ≡ become n
  par-replaced {A = A} {p = p} {q = q} {l = l} o i j =
      ap (λ P. par (set_at u.parameters A) P (at u.processes l)) i.is
      ∙ ap (λ Q. par (set_at u.parameters A) (become p) Q) j.is
      ∙ ap (λ S. par S (become p) (become q)) (set-grown t u g A o.within.0)
      ∙ sym (ap (λ P. unfolded W P) o.is)

  pub intr-replaced : {n p q k l : ℕ} → IsOf t n (Intr p q) → IsNumber u k (become p) → IsNumber u l (become q) → made (Intr k l) ≡ become n
  intr-replaced {p = p} {l = l} o i j =
      ap (λ P. intr P (at u.processes l)) i.is
      ∙ ap (λ Q. intr (become p) Q) j.is
      ∙ sym (ap (λ P. unfolded W P) o.is)

-- ---- what is found of names
-- the node of a process, by the model of what the code sees
pub is-of-seen : {x s : Guarding} {n : ℕ} {y : Node} → x ≡ s → IsWithin x.all.table.parameters n y → at x.all.table.processes n ≡ shape x.all.table.parameters x.all.table.processes y → IsOf s.all.table n y
is-of-seen {n = n} {y = y} e w i = subst (λ (r : Guarding). IsOf r.all.table n y) e (record { within = w; is = i })

pub found-on : {s r q : Guarding} → StaysFound s r → StaysFound r q → StaysFound s q
found-on {s = s} {r = r} {q = q} k l = record { all = kept-on s.all r.all q.all k.all l.all; guards = l.guards ∙ k.guards }

-- what is replaced later becomes the same
pub replaced-after : (s r : Guarding) (u : Tabled) (n m : ℕ) → StaysFound s r → n < length s.all.table.processes → IsNumber u m (unfolded (stands_so_far r) (at r.all.table.processes n))
    → IsNumber u m (unfolded (stands_so_far s) (at s.all.table.processes n))
replaced-after s r u n m k h i =
    number-to u m (unfolded (stands_so_far r) (at r.all.table.processes n)) (unfolded (stands_so_far s) (at s.all.table.processes n))
    (ap (λ P. unfolded (stands_so_far r) P) (at-grown s.all.table r.all.table k.all.table n h)
    ∙ unfolded-to (stands_so_far r) (stands_so_far s) (same-so-far s r k) (at s.all.table.processes n)) i

-- ---- what processes are kept as
pub is-of : {t : Tabled} {n : ℕ} {x y : Node} → x ≡ y → IsWithin t.parameters n x → at t.processes n ≡ shape t.parameters t.processes x → IsOf t n y
is-of {t} {n} e w i = subst (λ (z : Node). IsOf t n z) e (record { within = w; is = i })

-- what is kept later is the same
pub kept-after : (s r : Keeping) (u : Tabled) (n m : ℕ) → StaysKept s r → n < length s.all.table.processes → IsNumber u m (kept_as (bodies_of r.all.bodies) r.deep (at r.all.table.processes n))
    → IsNumber u m (kept_as (bodies_of s.all.bodies) s.deep (at s.all.table.processes n))
kept-after s r u n m k h i =
    number-to u m (kept_as (bodies_of r.all.bodies) r.deep (at r.all.table.processes n)) (kept_as (bodies_of s.all.bodies) s.deep (at s.all.table.processes n))
    (kept-stays s r k (at r.all.table.processes n) ∙ ap (λ P. kept_as (bodies_of s.all.bodies) s.deep P) (at-grown s.all.table r.all.table k.all.table n h)) i
