-- The test whether two processes are the same says just that.
use Rattle.std.proofs.Common.{◌≡◌, suc, Bool, true, false, ◌&&◌, [], ◌∷◌, length, nat_eq, refl, sym, ap, ◌↔◌, subst}
use Rattle.std.proofs.lemmas.Bool.{eqb-true, eq-eqb}
use Rattle.term.specs.Traces.{Pairs}
use Rattle.term.specs.Proc.{Proc, stop, skip, prefix, ext, int, seq, par, hide, ren, intr, name}
use Rattle.std.specs.Cmp.{IsEquivalence, IsPartialEquivalence, partial_equiv_from_equiv, both_ways}
use Rattle.term.specs.Same.{same, same_pairs, hash_writes}

pub and-cases : (a b : Bool) → (a && b) ≡ true → (a ≡ true) × (b ≡ true)
and-cases true b e = (refl, e)
and-cases false b e = absurd (cc)

pub and-both : (a b : Bool) → a ≡ true → b ≡ true → (a && b) ≡ true
and-both true b e f = f
and-both false b e f = e

and-no : (b c : Bool) → false ≡ c → false ≡ (b && c)
and-no true c e = e
and-no false c e = refl

pub same_pairs-eq : (R S : Pairs) → same_pairs R S ≡ true → R ≡ S
same_pairs-eq [] [] e = refl
same_pairs-eq [] (q ∷ S) e = absurd (cc)
same_pairs-eq (p ∷ R) [] e = absurd (cc)
same_pairs-eq (p ∷ R) (q ∷ S) e =
    let (h, t) = and-cases (nat_eq p.0 q.0 && nat_eq p.1 q.1) (same_pairs R S) e in
    let (x, y) = and-cases (nat_eq p.0 q.0) (nat_eq p.1 q.1) h in
    pairs (eqb-true p.0 q.0 x) (eqb-true p.1 q.1 y) (same_pairs-eq R S t)
  where
    pairs : p.0 ≡ q.0 → p.1 ≡ q.1 → R ≡ S → (p ∷ R) ≡ (q ∷ S)
    pairs x y t = rw (x, y, t) refl

pub same_pairs-refl : (R : Pairs) → same_pairs R R ≡ true
same_pairs-refl [] = refl
same_pairs-refl (p ∷ R) =
    and-both (nat_eq p.0 p.0 && nat_eq p.1 p.1) (same_pairs R R) (and-both (nat_eq p.0 p.0) (nat_eq p.1 p.1) (eq-eqb p.0 p.0 refl) (eq-eqb p.1 p.1 refl)) (same_pairs-refl R)

pub other_length : (R S : Pairs) → (length R ≡ length S → ⊥) → false ≡ same_pairs R S
other_length [] [] h = absurd (h refl)
other_length [] (q ∷ S) h = refl
other_length (p ∷ R) [] h = refl
other_length (p ∷ R) (q ∷ S) h = and-no (nat_eq p.0 q.0 && nat_eq p.1 q.1) (same_pairs R S) (other_length R S (λ e. h (ap suc e)))

pub same-eq : (P Q : Proc) → same P Q ≡ true → P ≡ Q
same-eq stop stop e = refl
same-eq skip skip e = refl
same-eq (prefix a P) (prefix b Q) e = let (x, y) = and-cases (nat_eq a b) (same P Q) e in cc (eqb-true a b x, same-eq P Q y)
same-eq (ext P Q) (ext R S) e = let (x, y) = and-cases (same P R) (same Q S) e in cc (same-eq P R x, same-eq Q S y)
same-eq (int P Q) (int R S) e = let (x, y) = and-cases (same P R) (same Q S) e in cc (same-eq P R x, same-eq Q S y)
same-eq (seq P Q) (seq R S) e = let (x, y) = and-cases (same P R) (same Q S) e in cc (same-eq P R x, same-eq Q S y)
same-eq (par A P Q) (par C R S) e =
    let (w, v) = and-cases (nat_eq A C) (same P R && same Q S) e in
    let (x, y) = and-cases (same P R) (same Q S) v in
    cc (eqb-true A C w, same-eq P R x, same-eq Q S y)
same-eq (hide A P) (hide C R) e = let (x, y) = and-cases (nat_eq A C) (same P R) e in cc (eqb-true A C x, same-eq P R y)
same-eq (ren A P) (ren C R) e = let (x, y) = and-cases (same_pairs A C) (same P R) e in cc (same_pairs-eq A C x, same-eq P R y)
same-eq (intr P Q) (intr R S) e = let (x, y) = and-cases (same P R) (same Q S) e in cc (same-eq P R x, same-eq Q S y)
same-eq (name k) (name l) e = cc (eqb-true k l e)
same-eq P Q e = absurd (cc)

pub same-refl : (P : Proc) → same P P ≡ true
same-refl stop = refl
same-refl skip = refl
same-refl (prefix a P) = and-both (nat_eq a a) (same P P) (eq-eqb a a refl) (same-refl P)
same-refl (ext P Q) = and-both (same P P) (same Q Q) (same-refl P) (same-refl Q)
same-refl (int P Q) = and-both (same P P) (same Q Q) (same-refl P) (same-refl Q)
same-refl (seq P Q) = and-both (same P P) (same Q Q) (same-refl P) (same-refl Q)
same-refl (par A P Q) = and-both (nat_eq A A) (same P P && same Q Q) (eq-eqb A A refl) (and-both (same P P) (same Q Q) (same-refl P) (same-refl Q))
same-refl (hide A P) = and-both (nat_eq A A) (same P P) (eq-eqb A A refl) (same-refl P)
same-refl (ren A P) = and-both (same_pairs A A) (same P P) (same_pairs-refl A) (same-refl P)
same-refl (intr P Q) = and-both (same P P) (same Q Q) (same-refl P) (same-refl Q)
same-refl (name k) = eq-eqb k k refl

pub same-says : (P Q : Proc) → (same P Q ≡ true) ↔ (P ≡ Q)
same-says P Q = (same-eq P Q, (λ e. subst (λ R. same P R ≡ true) e (same-refl P)))

-- ---- the laws of a comparison, through any reading of values as processes
module _ {K : Type 0} (f : K → Proc) where
  pub same-laws : IsEquivalence (λ x y. same (f x) (f y))
  same-laws = record {
    refl = λ x. same-refl (f x);
    symm = λ x y. both_ways (same (f x) (f y)) (same (f y) (f x)) (turn x y) (turn y x);
    congr = λ x y z e. ap (λ P. same P (f z)) (same-eq (f x) (f y) e);
  }
    where
      turn : (x y : K) → same (f x) (f y) ≡ true → same (f y) (f x) ≡ true
      turn x y e = (same-says (f y) (f x)).1 (sym (same-eq (f x) (f y) e))

  pub same-partial : IsPartialEquivalence (λ x y. same (f x) (f y))
  same-partial = partial_equiv_from_equiv same-laws

  pub same-writes : (x y : K) → same (f x) (f y) ≡ true → hash_writes (f x) ≡ hash_writes (f y)
  same-writes x y e = ap hash_writes (same-eq (f x) (f y) e)
