-- Targets by number: all of them, and how deep they are.
use Rattle.std.proofs.Common.{◌≡◌, ◌+◌, ◌-◌, ◌^◌, ◌<◌, ◌≤◌, ℕ, zero, suc, min, Bool, true, false, ◌||◌, inl, inr, List, [], ◌∷◌, ◌++◌, length, map, take, drop, get_or, nat_lt, sym, ap, ◌∙◌, subst, arith}
use Rattle.std.proofs.lemmas.Bool.{ltb-true, lt-ltb}
use Rattle.std.proofs.lemmas.List.{length-map, map-append, take_more}
use Rattle.std.specs.Cmp.{both_ways}
use Rattle.term.specs.declared.terms.Term.{Term}
use Rattle.term.specs.Traces.{In, here, there}
use Rattle.term.specs.Proc.{Proc, proc, bodies_of}
use Rattle.term.specs.Sizes.{depth}
use Rattle.term.specs.Limits.{Terms, deepest_state}
use Rattle.term.proofs.Bools.{or-cases, or-left, or-right}
use Rattle.targets.specs.declared.labels.Label.{Label}
use Rattle.targets.specs.Cuts.{CutOf}
use Rattle.targets.specs.Labels.{Step}
use Rattle.nodes.specs.Shapes.{at}
use Rattle.nodes.specs.Looks.{look}
use Rattle.nodes.specs.Tables.{IsNumber}
use Rattle.transitions.specs.Numbered.{Numbered, AreCutTargets, KeepsNumbers}
use Rattle.transitions.proofs.Keeping.{at-kept}
use Rattle.step.specs.Labels.{AppendsTargets, AreAllTargets, HasDeepTarget, some_deep}

-- a cut that is within the bound has all
cut-whole : (S : Terms) (most : ℕ) (found : List Proc) → CutOf S most found → length found ≤ most → (Q : Proc) → S Q → In Q found
cut-whole S most found c few = elim c.all [ inl h ↦ absurd (omega arith) | inr f ↦ f ]

pub all-targets : (most : ℕ) (s m r : Numbered) (n : ℕ) (l : Label) (P : Proc) (ns : List ℕ) → KeepsNumbers s m → KeepsNumbers m r → IsNumber m.table n P → AreCutTargets r n l most ns → length ns ≤ most → AreAllTargets (bodies_of s.bodies) P l (look r.table.processes ns)
all-targets most s m r n l P ns k j is t few =
    let found = look r.table.processes ns in
    let whole : AreAllTargets (bodies_of r.bodies) (at r.table.processes n) l found = λ Q. (
      t.cut.only Q,
      cut-whole (Step (bodies_of r.bodies) (at r.table.processes n) l) most found t.cut (omega (arith, few, length-map ns (at r.table.processes))) Q,
    ) in
    subst (λ (bs : List Proc). AreAllTargets (bodies_of bs) P l found) (j.bodies ∙ k.bodies)
    (subst (λ (Q : Proc). AreAllTargets (bodies_of r.bodies) Q l found) (at-kept m r j n is.within ∙ is.is) whole)

-- ---- how deep they are
module _ (B : ℕ → Proc) (P : Proc) (l : Label) (found : List Proc) (all : AreAllTargets B P l found) where
  pub has-deep : some_deep found ≡ true → HasDeepTarget B P l
  has-deep h = let (Q, i, d) = deep-In found h in (Q, (all Q).0 i, d)
    where
      deep-In : (ps : List Proc) → some_deep ps ≡ true → (Q : Proc) × In Q ps × (deepest_state < depth Q)
      deep-In [] h = absurd (cc)
      deep-In (Q ∷ ps) h =
          elim (or-cases (nat_lt deepest_state (depth Q)) (some_deep ps) h) [
            | inl e ↦ (Q, here, ltb-true deepest_state (depth Q) e)
            | inr e ↦ let (R, i, d) = deep-In ps e in (R, there i, d)
          ]

  pub no-deep : some_deep found ≡ false → HasDeepTarget B P l → ⊥
  no-deep h (Q, d, deep) = not (In-deep ((all Q).1 d) deep)
    where
      In-deep : {Q : Proc} {ps : List Proc} → In Q ps → deepest_state < depth Q → some_deep ps ≡ true
      In-deep (here {x = Q} {xs = ps}) d = or-left (nat_lt deepest_state (depth Q)) (some_deep ps) (lt-ltb deepest_state (depth Q) d)
      In-deep (there {y = R} {xs = ps} i) d = or-right (nat_lt deepest_state (depth R)) (some_deep ps) (In-deep i d)

      not : some_deep found ≡ true → ⊥
      not e = cc

-- a number of 32 bits tells so, even where it stands for a greater one
pub deep-capped : (n d : ℕ) → n ≡ min d (2 ^ 32 - 1) → nat_lt deepest_state n ≡ nat_lt deepest_state d
deep-capped n d e =
    both_ways (nat_lt deepest_state n) (nat_lt deepest_state d)
    (λ h. lt-ltb deepest_state d (let k = ltb-true deepest_state n h in omega arith))
    (λ h. lt-ltb deepest_state n (let k = ltb-true deepest_state d h in omega arith))

-- the rest of the numbers, and the first of it
deep-after : (ps : List Proc) (ns : List ℕ) (i d : ℕ) (b : Bool) → i < length ns → b ≡ nat_lt deepest_state (depth (at ps (get_or ns i d))) → some_deep (look ps (drop i ns)) ≡ (b || some_deep (look ps (drop (suc i) ns)))
deep-after ps [] i d b h e = absurd (omega arith)
deep-after ps (n ∷ ns) zero d b h e = ap (λ (c : Bool). c || some_deep (look ps ns)) (sym e)
deep-after ps (n ∷ ns) (suc i) d b h e = deep-after ps ns i d b (omega arith) e

pub deep-next : (ps : List Proc) (ns : List ℕ) (i d : ℕ) (b : Bool) → i < length ns → b ≡ nat_lt deepest_state (depth (at ps (get_or ns i d))) → some_deep (look ps (drop i ns)) ≡ (b || some_deep (look ps (drop (i + 1) ns)))
deep-next ps ns i d b h e =
    let one : suc i ≡ i + 1 = omega arith in
    subst (λ (k : ℕ). some_deep (look ps (drop i ns)) ≡ (b || some_deep (look ps (drop k ns)))) one (deep-after ps ns i d b h e)

-- ---- terms of numbers, one more
pub terms-more : {A : Type 0} (ps : List Proc) (ns : List ℕ) (i : ℕ) (old new : List (Term A)) (t : Term A) → i < length ns → map proc old ≡ look ps (take i ns) → proc t ≡ at ps (get_or ns i 0) → new ≡ old ++ t ∷ [] → map proc new ≡ look ps (take (i + 1) ns)
terms-more ps ns i old new t h e f is =
    ap (map proc) is
    ∙ map-append proc old (t ∷ [])
    ∙ ap (λ (l : List Proc). l ++ proc t ∷ []) e
    ∙ ap (λ (P : Proc). look ps (take i ns) ++ P ∷ []) f
    ∙ sym (ap (look ps) (take_more ns i 0 h) ∙ map-append (at ps) (take i ns) (get_or ns i 0 ∷ []))

-- ---- at the end of a list
pub appends : {A : Type 0} (B : ℕ → Proc) (P : Proc) (l : Label) (old new found : List (Term A)) → AreAllTargets B P l (map proc found) → new ≡ old ++ found → AppendsTargets B P l (map proc old) (map proc new)
appends B P l old new found all e = (map proc found, ap (map proc) e ∙ map-append proc old found, all)
