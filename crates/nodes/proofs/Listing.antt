-- A list of nodes, and their processes.
use Rattle.std.proofs.Common.{◌≡◌, ℕ, zero, suc, ◌+◌, ◌<◌, ◌≤◌, inl, inr, List, [], ◌∷◌, ◌++◌, length, get_or, refl, sym, ap, ◌∙◌, subst, arith, append_assoc, length-append, add-zero}
use Rattle.std.proofs.lemmas.List.{append-nil, get_or_append_left, get_or_at, get_or_push}
use Rattle.std.proofs.lemmas.Bool.{cases_lt}
use Rattle.term.specs.Proc.{Proc, stop, prefix, par, hide, ren}
use Rattle.nodes.specs.declared.node.Node.{Node}
use Rattle.nodes.specs.declared.node.Node.TheVariants.{Stop, Skip, Prefix, Ext, Int, Seq, Par, Hide, Ren, Intr, Name}
use Rattle.nodes.specs.Shapes.{Parameters, set_at, relation_at, at, shape, IsWithin, listed, AllWithin}
use Rattle.nodes.specs.Tables.{NoneTwice, Begins, HasMore, AreParameters}

-- ---- lists
module _ {X : Type 0} (d : X) where
  -- the place is within the list, or just past it
  pub once-push : (xs : List X) (y : X) → NoneTwice d xs → ((i : ℕ) → i < length xs → get_or xs i d ≡ y → ⊥) → NoneTwice d (xs ++ y ∷ [])
  once-push xs y once new = record { same = same }
    where
      n : length (xs ++ y ∷ []) ≡ length xs + 1
      n = length-append xs (y ∷ [])

      old : (i : ℕ) → i < length xs → get_or (xs ++ y ∷ []) i d ≡ get_or xs i d
      old i h = get_or_append_left xs (y ∷ []) d i h

      last : (i : ℕ) → i < length (xs ++ y ∷ []) → length xs ≤ i → length xs ≡ i
      last i h l = omega (arith, n)

      same : (i j : ℕ) → i < length (xs ++ y ∷ []) → j < length (xs ++ y ∷ []) → get_or (xs ++ y ∷ []) i d ≡ get_or (xs ++ y ∷ []) j d → i ≡ j
      same i j hi hj e =
          elim (cases_lt i (length xs)) [
            | inl li ↦ elim (cases_lt j (length xs)) [
              | inl lj ↦ once.same i j li lj (sym (old i li) ∙ e ∙ old j lj)
              | inr gj ↦ absurd (new i li (sym (old i li) ∙ e ∙ get_or_push xs y d j (last j hj gj)))
            ]
            | inr gi ↦ elim (cases_lt j (length xs)) [
              | inl lj ↦ absurd (new j lj (sym (old j lj) ∙ sym e ∙ get_or_push xs y d i (last i hi gi)))
              | inr gj ↦ sym (last i hi gi) ∙ last j hj gj
            ]
          ]

  pub begins-same : (xs : List X) → Begins xs xs
  begins-same xs = ([], sym (append-nil xs))

  pub begins-at : (xs ys : List X) (i : ℕ) → Begins xs ys → i < length xs → get_or ys i d ≡ get_or xs i d
  begins-at xs ys i (more, e) h = ap (λ l. get_or l i d) e ∙ get_or_append_left xs more d i h

  pub begins-longer : (xs ys : List X) → Begins xs ys → length xs ≤ length ys
  begins-longer xs ys (more, e) = omega (arith, ap length e, length-append xs more)

  pub begins-on : (xs ys zs : List X) → Begins xs ys → Begins ys zs → Begins xs zs
  begins-on xs ys zs (m, e) (n, f) = (m ++ n, f ∙ ap (λ l. l ++ n) e ∙ append_assoc xs m n)

-- ---- parameters
pub more-same : (S : Parameters) → HasMore S S
more-same S = record { sets = begins-same 0 S.sets; relations = begins-same [] S.relations }

pub more-on : (S T U : Parameters) → HasMore S T → HasMore T U → HasMore S U
more-on S T U g h = record {
  sets = begins-on 0 S.sets T.sets U.sets g.sets h.sets;
  relations = begins-on [] S.relations T.relations U.relations g.relations h.relations;
}

-- ---- shapes
-- more processes after the others don't matter
pub shape-parts : (S : Parameters) (ps qs : List Proc) (n : ℕ) (x : Node) → IsWithin S n x → n ≡ length ps → shape S (ps ++ qs) x ≡ shape S ps x
shape-parts S ps qs n x w e = go x w
  where
    same : (p : ℕ) → p < n → at (ps ++ qs) p ≡ at ps p
    same p h = get_or_append_left ps qs stop p (omega arith)

    go : (y : Node) → IsWithin S n y → shape S (ps ++ qs) y ≡ shape S ps y
    go Stop v = refl
    go Skip v = refl
    go (Prefix a p) v = ap (prefix a) (same p v)
    go (Ext p q) v = rw (same p v.0, same q v.1) refl
    go (Int p q) v = rw (same p v.0, same q v.1) refl
    go (Seq p q) v = rw (same p v.0, same q v.1) refl
    go (Par A p q) v = rw (same p v.1, same q v.2) refl
    go (Hide A p) v = ap (hide (set_at S A)) (same p v.1)
    go (Ren R p) v = ap (ren (relation_at S R)) (same p v.1)
    go (Intr p q) v = rw (same p v.0, same q v.1) refl
    go (Name k) v = refl

-- nor do more parameters
pub shape-more : (S T : Parameters) (ps : List Proc) (n : ℕ) (x : Node) → HasMore S T → IsWithin S n x → shape T ps x ≡ shape S ps x
shape-more S T ps n (Par A p q) m w = ap (λ s. par s (at ps p) (at ps q)) (begins-at 0 S.sets T.sets A m.sets w.0)
shape-more S T ps n (Hide A p) m w = ap (λ s. hide s (at ps p)) (begins-at 0 S.sets T.sets A m.sets w.0)
shape-more S T ps n (Ren R p) m w = ap (λ s. ren s (at ps p)) (begins-at [] S.relations T.relations R m.relations w.0)
shape-more S T ps n Stop m w = refl
shape-more S T ps n Skip m w = refl
shape-more S T ps n (Prefix a p) m w = refl
shape-more S T ps n (Ext p q) m w = refl
shape-more S T ps n (Int p q) m w = refl
shape-more S T ps n (Seq p q) m w = refl
shape-more S T ps n (Intr p q) m w = refl
shape-more S T ps n (Name k) m w = refl

pub within-more : (S T : Parameters) (n n' : ℕ) (x : Node) → HasMore S T → n ≤ n' → IsWithin S n x → IsWithin T n' x
within-more S T n n' x m l w = go x w
  where
    set : (A : ℕ) → A < length S.sets → A < length T.sets
    set A h = omega (arith, begins-longer 0 S.sets T.sets m.sets)

    relation : (R : ℕ) → R < length S.relations → R < length T.relations
    relation R h = omega (arith, begins-longer [] S.relations T.relations m.relations)

    part : (p : ℕ) → p < n → p < n'
    part p h = omega arith

    go : (y : Node) → IsWithin S n y → IsWithin T n' y
    go Stop v = tt
    go Skip v = tt
    go (Prefix a p) v = part p v
    go (Ext p q) v = (part p v.0, part q v.1)
    go (Int p q) v = (part p v.0, part q v.1)
    go (Seq p q) v = (part p v.0, part q v.1)
    go (Par A p q) v = (set A v.0, part p v.1, part q v.2)
    go (Hide A p) v = (set A v.0, part p v.1)
    go (Ren R p) v = (relation R v.0, part p v.1)
    go (Intr p q) v = (part p v.0, part q v.1)
    go (Name k) v = tt

-- nodes of the same process are the same
pub shape-same : (S : Parameters) (ps : List Proc) → AreParameters S → NoneTwice stop ps → (x y : Node) → IsWithin S (length ps) x → IsWithin S (length ps) y → shape S ps x ≡ shape S ps y → x ≡ y
shape-same S ps s o Stop Stop v w e = refl
shape-same S ps s o Skip Skip v w e = refl
shape-same S ps s o (Prefix a p) (Prefix b q) v w e =
    let f : at ps p ≡ at ps q = cc in
    let h = o.same p q v w f in
    cc
shape-same S ps s o (Ext p q) (Ext p' q') v w e =
    let f : at ps p ≡ at ps p' = cc in
    let g : at ps q ≡ at ps q' = cc in
    let h = o.same p p' v.0 w.0 f in
    let i = o.same q q' v.1 w.1 g in
    cc
shape-same S ps s o (Int p q) (Int p' q') v w e =
    let f : at ps p ≡ at ps p' = cc in
    let g : at ps q ≡ at ps q' = cc in
    let h = o.same p p' v.0 w.0 f in
    let i = o.same q q' v.1 w.1 g in
    cc
shape-same S ps s o (Seq p q) (Seq p' q') v w e =
    let f : at ps p ≡ at ps p' = cc in
    let g : at ps q ≡ at ps q' = cc in
    let h = o.same p p' v.0 w.0 f in
    let i = o.same q q' v.1 w.1 g in
    cc
shape-same S ps s o (Par A p q) (Par A' p' q') v w e =
    let d : set_at S A ≡ set_at S A' = cc in
    let f : at ps p ≡ at ps p' = cc in
    let g : at ps q ≡ at ps q' = cc in
    let b = s.once_set.same A A' v.0 w.0 d in
    let h = o.same p p' v.1 w.1 f in
    let i = o.same q q' v.2 w.2 g in
    cc
shape-same S ps s o (Hide A p) (Hide A' p') v w e =
    let d : set_at S A ≡ set_at S A' = cc in
    let f : at ps p ≡ at ps p' = cc in
    let b = s.once_set.same A A' v.0 w.0 d in
    let h = o.same p p' v.1 w.1 f in
    cc
shape-same S ps s o (Ren R p) (Ren R' p') v w e =
    let d : relation_at S R ≡ relation_at S R' = cc in
    let f : at ps p ≡ at ps p' = cc in
    let b = s.once_relation.same R R' v.0 w.0 d in
    let h = o.same p p' v.1 w.1 f in
    cc
shape-same S ps s o (Intr p q) (Intr p' q') v w e =
    let f : at ps p ≡ at ps p' = cc in
    let g : at ps q ≡ at ps q' = cc in
    let h = o.same p p' v.0 w.0 f in
    let i = o.same q q' v.1 w.1 g in
    cc
shape-same S ps s o (Name k) (Name l) v w e = cc
shape-same S ps s o x y v w e = absurd (cc)

-- ---- lists of nodes
pub listed-begins : (S : Parameters) (xs : List Node) (ps : List Proc) → Begins ps (listed S xs ps)
listed-begins S [] ps = ([], sym (append-nil ps))
listed-begins S (x ∷ xs) ps =
    let (more, e) = listed-begins S xs (ps ++ shape S ps x ∷ []) in
    (shape S ps x ∷ more, e ∙ append_assoc ps (shape S ps x ∷ []) more)

pub length-listed : (S : Parameters) (xs : List Node) (ps : List Proc) → length (listed S xs ps) ≡ length ps + length xs
length-listed S [] ps = sym (add-zero (length ps))
length-listed S (x ∷ xs) ps =
    let e = length-listed S xs (ps ++ shape S ps x ∷ []) in
    let f = length-append ps (shape S ps x ∷ []) in
    omega (arith, e, f)

pub listed-append : (S : Parameters) (xs ys : List Node) (ps : List Proc) → listed S (xs ++ ys) ps ≡ listed S ys (listed S xs ps)
listed-append S [] ys ps = refl
listed-append S (x ∷ xs) ys ps = listed-append S xs ys (ps ++ shape S ps x ∷ [])

-- more parameters after the others don't matter
pub listed-more : (S T : Parameters) (xs : List Node) (n : ℕ) (ps : List Proc) → HasMore S T → AllWithin S n xs → listed T xs ps ≡ listed S xs ps
listed-more S T [] n ps m w = refl
listed-more S T (x ∷ xs) n ps m w =
    ap (λ P. listed T xs (ps ++ P ∷ [])) (shape-more S T ps n x m w.0)
    ∙ listed-more S T xs (suc n) (ps ++ shape S ps x ∷ []) m w.1

-- each process is that of its node
pub listed-at : (S : Parameters) (xs : List Node) (ps : List Proc) (n k i : ℕ) → AllWithin S n xs → n ≡ length ps → k < length xs → i ≡ n + k → at (listed S xs ps) i ≡ shape S (listed S xs ps) (get_or xs k Stop)
listed-at S [] ps n k i w e h f = absurd (omega arith)
listed-at S (x ∷ xs) ps n zero i w e h f =
    let (more, b) = listed-begins S xs (ps ++ shape S ps x ∷ []) in
    let c = b ∙ append_assoc ps (shape S ps x ∷ []) more in
    ap (λ l. at l i) c ∙ get_or_at ps (shape S ps x) more stop i (omega arith)
    ∙ sym (shape-parts S ps (shape S ps x ∷ more) n x w.0 e) ∙ sym (ap (λ l. shape S l x) c)
listed-at S (x ∷ xs) ps n (suc k) i w e h f =
    listed-at S xs (ps ++ shape S ps x ∷ []) (suc n) k i w.1 (sym (length-append ps (shape S ps x ∷ []) ∙ omega arith)) (omega arith) (omega arith)

pub within-at : (S : Parameters) (n k i : ℕ) (xs : List Node) → AllWithin S n xs → k < length xs → i ≡ n + k → IsWithin S i (get_or xs k Stop)
within-at S n k i [] w h f = absurd (omega arith)
within-at S n zero i (x ∷ xs) w h f = let P : ℕ → Type 0 = λ j. IsWithin S j x in subst P (omega arith) w.0
within-at S n (suc k) i (x ∷ xs) w h f = within-at S (suc n) k i xs w.1 (omega arith) (omega arith)

pub within-push : (S : Parameters) (n k : ℕ) (xs : List Node) (y : Node) → AllWithin S n xs → k ≡ n + length xs → IsWithin S k y → AllWithin S n (xs ++ y ∷ [])
within-push S n k [] y w e h = let P : ℕ → Type 0 = λ j. IsWithin S j y in (subst P (omega arith) h, tt)
within-push S n k (x ∷ xs) y w e h = (w.0, within-push S (suc n) k xs y w.1 (omega arith) h)

pub all-more : (S T : Parameters) (n : ℕ) (xs : List Node) → HasMore S T → AllWithin S n xs → AllWithin T n xs
all-more S T n [] m w = tt
all-more S T n (x ∷ xs) m w = (within-more S T n n x m (omega arith) w.0, all-more S T (suc n) xs m w.1)
