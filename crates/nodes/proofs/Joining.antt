-- Lists of numbers that are joined without repeats, and their processes.
use Rattle.std.proofs.Common.{◌≡◌, ◌↔◌, ℕ, ◌<◌, ◌+◌, ◌⊎◌, inl, inr, true, false, List, [], ◌∷◌, ◌++◌, length, map, take, drop, nat_eq, get_or, refl, sym, ap, ◌∙◌, subst, true≢false}
use Rattle.std.proofs.lemmas.Bool.{eqb-true, eq-eqb}
use Rattle.std.proofs.lemmas.List.{map_more, map-append, append-nil, append_assoc, take-append-drop}
use Rattle.std.specs.List.{list_any}
use Rattle.term.specs.Traces.{In, here, there}
use Rattle.term.specs.Limits.{Distinct}
use Rattle.term.specs.Proc.{Proc, stop}
use Rattle.term.proofs.Bools.{or-cases, or-left, or-right}
use Rattle.targets.specs.Targets.{pairs_of}
use Rattle.targets.proofs.Members.{append-In, In-append_l, In-append_r}
use Rattle.targets.specs.Among.{InEither, Joined}
use Rattle.targets.proofs.Cutting.{nothing, distinct-front, cut-all, cut-join, cut-to}
use Rattle.targets.proofs.Lists.{joined-full}
use Rattle.nodes.specs.Shapes.{at}
use Rattle.nodes.specs.Tables.{NoneTwice}
use Rattle.nodes.specs.Looks.{look, AllBelow}

-- ---- is the number in the list?
module _ (ps : List Proc) (n : ℕ) where
  pub number-In : (ns : List ℕ) → list_any (λ y. nat_eq y n) ns ≡ true → In (at ps n) (look ps ns)
  number-In [] e = absurd (cc)
  number-In (x ∷ xs) e =
      elim (or-cases (nat_eq x n) (list_any (λ y. nat_eq y n) xs) e) [
        | inl h ↦ subst (λ k. In (at ps k) (look ps (x ∷ xs))) (eqb-true x n h) here
        | inr h ↦ there (number-In xs h)
      ]

  module _ (once : NoneTwice stop ps) (within : n < length ps) where
    found : (xs : List ℕ) (l : List Proc) (P : Proc) → AllBelow (length ps) xs → l ≡ look ps xs → P ≡ at ps n → In P l → list_any (λ y. nat_eq y n) xs ≡ true
    found [] l P b e f i = absurd (nothing i e)
    found (x ∷ xs) l P b e f (here {x = Q} {xs = qs}) =
        let q : at ps x ≡ at ps n = cc in
        or-left (nat_eq x n) (list_any (λ y. nat_eq y n) xs) (eq-eqb x n (once.same x n b.0 within q))
    found (x ∷ xs) l P b e f (there {xs = qs} j) =
        or-right (nat_eq x n) (list_any (λ y. nat_eq y n) xs) (found xs qs P b.1 (cc) f j)

    pub number-absent : (ns : List ℕ) → AllBelow (length ps) ns → list_any (λ y. nat_eq y n) ns ≡ false → In (at ps n) (look ps ns) → ⊥
    number-absent ns b e i = true≢false (sym (found ns (look ps ns) (at ps n) b refl refl i) ∙ e)

-- ---- one list after the other
distinct-back : (l m : List Proc) → Distinct (l ++ m) → Distinct m
distinct-back [] m d = d
distinct-back (P ∷ l) m d = distinct-back l m d.1

module _ (n : ℕ) (l : List Proc) where
  pub joined-on : (ps qs m k : List Proc) → Joined n l ps m → Joined n m qs k → Joined n l (ps ++ qs) k
  joined-on ps qs m k h g d e =
      let c = h d (distinct-front ps qs e) in
      let f = distinct-back ps qs e in
      cut-to (λ Q. InEither l ps Q ⊎ In Q qs) (InEither l (ps ++ qs)) n k same
      (cut-join (InEither l ps) (λ Q. In Q qs) n m qs k c (cut-all n qs f) (g c.once f))
    where
      same : (Q : Proc) → (InEither l ps Q ⊎ In Q qs) ↔ InEither l (ps ++ qs) Q
      same Q = (
        (λ s. elim s [
          | inl t ↦ elim t [ inl i ↦ inl i | inr i ↦ inr (In-append_l i qs) ]
          | inr i ↦ inr (In-append_r ps i)
        ]),
        (λ s. elim s [
          | inl i ↦ inl (inl i)
          | inr i ↦ elim (append-In ps qs Q i) [ inl j ↦ inl (inr j) | inr j ↦ inr j ]
        ]),
      )

  pub joined-to : (ps qs m : List Proc) → ps ≡ qs → Joined n l ps m → Joined n l qs m
  joined-to ps qs m e = subst (λ (v : List Proc). Joined n l v m) e

  module _ (f : Proc → Proc) (ps : List Proc) (ns : List ℕ) (i : ℕ) where
    -- one part more
    pub each-more : (m k : List Proc) → i < length ns → Joined n l (map f (look ps (take i ns))) m → Joined n m (f (at ps (get_or ns i 0)) ∷ []) k → Joined n l (map f (look ps (take (i + 1) ns))) k
    each-more m k h j o =
        joined-to (map f (look ps (take i ns)) ++ f (at ps (get_or ns i 0)) ∷ []) (map f (look ps (take (i + 1) ns))) k
        (sym (map-append f (look ps (take i ns)) (at ps (get_or ns i 0) ∷ [])) ∙ ap (map f) (sym (map_more (at ps) ns i 0 h)))
        (joined-on (map f (look ps (take i ns))) (f (at ps (get_or ns i 0)) ∷ []) m k j o)

    -- there are enough
    pub each-full : (m : List Proc) → n < length m → Joined n l (map f (look ps (take i ns))) m → Joined n l (map f (look ps ns)) m
    each-full m h j =
        joined-to (map f (look ps (take i ns)) ++ map f (look ps (drop i ns))) (map f (look ps ns)) m
        (sym (map-append f (look ps (take i ns)) (look ps (drop i ns))) ∙ ap (map f) (sym (map-append (at ps) (take i ns) (drop i ns)) ∙ ap (look ps) (take-append-drop i ns)))
        (joined-on (map f (look ps (take i ns))) (map f (look ps (drop i ns))) m m j (joined-full n m (map f (look ps (drop i ns))) h))

-- ---- pairs, one row more
pub pairs-more : (f : Proc → Proc → Proc) (ps : List Proc) (xs : List ℕ) (i : ℕ) (ys : List Proc) → i < length xs → pairs_of f (look ps (take (i + 1) xs)) ys ≡ pairs_of f (look ps (take i xs)) ys ++ map (f (at ps (get_or xs i 0))) ys
pairs-more f ps xs i ys h = ap (λ l. pairs_of f l ys) (map_more (at ps) xs i 0 h) ∙ push (look ps (take i xs)) (at ps (get_or xs i 0))
  where
    push : (l : List Proc) (P : Proc) → pairs_of f (l ++ P ∷ []) ys ≡ pairs_of f l ys ++ map (f P) ys
    push [] P = append-nil (map (f P) ys)
    push (Q ∷ l) P = ap (λ r. map (f Q) ys ++ r) (push l P) ∙ sym (append_assoc (map (f Q) ys) (pairs_of f l ys) (map (f P) ys))
