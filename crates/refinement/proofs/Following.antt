-- One event followed from one pair.
use Rattle.std.proofs.Common.{◌≡◌, ℕ, ◌<◌, ◌≤◌, inl, inr, true, Option, None, Some, Result, Ok, Err, IfNone, IfSome, IfOk, IfErr, OnOk, List, [], ◌∷◌, ◌++◌, length, refl, sym, ap, ◌∙◌, subst, arith}
use Rattle.alphabet.specs.declared.events.Event.{Event}
use Rattle.term.specs.Proc.{Proc, bodies_of, root}
use Rattle.term.specs.Meaning.{Trace}
use Rattle.term.specs.Specs.{Specified}
use Rattle.spaces.specs.Spaces.{Spaced, Belongs, GrewFrom}
use Rattle.refinement.specs.declared.outcome.Fault.{Fault}
use Rattle.refinement.specs.declared.pairs.Step.{Step}
use Rattle.refinement.specs.Pairs.{AllLinked, AreKept, AreSound, Both, IsFound, IsLinked, IsTaken, step_at}
use Rattle.refinement.specs.Refinement.{IsUndecided}
use Rattle.refinement.proofs.Growing.{both-back, both-on, found-on, linked-grown, linked-more}

pub at-none : {X : Type 0} {P : Type 0} (o : Option X) → o ≡ None → IfNone o P → P
at-none {X = X} {P = P} o e h = subst (λ (o : Option X). IfNone o P) e h

pub at-some : {X : Type 0} (P : X → Type 0) (o : Option X) (x : X) → o ≡ Some x → IfSome o P → P x
at-some {X = X} P o x e h = subst (λ (o : Option X). IfSome o P) e h

abbrev Does : Spaced → List Event → Type 0
Does S u = Trace (bodies_of S.spec.bodies) root u

-- q is the pair at this place, and the spaces grow
module _ (S T S1 T1 : Spaced) (ps : List Step) {es : List (ℕ × ℕ)} {most : ℕ} (at : ℕ) (x : Event) (q : Step) (here : at < length ps) (is : q ≡ step_at ps at) (sound : AreSound S T ps es most) (g : GrewFrom S S1) (h : GrewFrom T T1) where
  spec-of : (u : List Event) → Both S T (step_at ps at) u → Belongs S q.spec u
  spec-of u b = subst (λ (p : Step). Belongs S p.spec u) (sym is) b.spec

  made-of : (u : List Event) → Both S T (step_at ps at) u → Belongs T q.made u
  made-of u b = subst (λ (p : Step). Belongs T p.made u) (sym is) b.made

  pub some-trace : (u : List Event) × Both S T (step_at ps at) u
  some-trace = (sound.linked at here).reached

  pub spec-reached : (u : List Event) × Belongs S q.spec u
  spec-reached = (some-trace.0, spec-of some-trace.0 some-trace.1)

  pub made-reached : (u : List Event) × Belongs T q.made u
  made-reached = (some-trace.0, made-of some-trace.0 some-trace.1)

  back : (u : List Event) → Both S1 T1 (step_at ps at) u → Both S T (step_at ps at) u
  back u b = both-back S T S1 T1 g h (step_at ps at) u some-trace.0 some-trace.1 b

  pub sound-grown : AreSound S1 T1 ps es most
  sound-grown = record { linked = linked-grown S T S1 T1 g h ps sound.linked; kept = sound.kept; few = sound.few }

  pub undecided-grown : (f : Fault) → IsUndecided most S1.spec T1.spec f → IsUndecided most S.spec T.spec f
  undecided-grown f k = subst (λ (s : Specified). IsUndecided most s T.spec f) g.spec (subst (λ (t : Specified). IsUndecided most S1.spec t f) h.spec k)

  pub beyond-spec : (o : Option ℕ) → o ≡ None → ((u : List Event) → Belongs S q.spec u → IfNone o (Does S (u ++ x ∷ []) → ⊥)) → (u : List Event) → Both S T (step_at ps at) u → Does S (u ++ x ∷ []) → ⊥
  beyond-spec o e none u b = at-none o e (none u (spec-of u b))

  pub none-made : (o : Option ℕ) → o ≡ None → ((u : List Event) → Belongs T q.made u → IfNone o (Does T (u ++ x ∷ []) → ⊥)) → IsTaken S1 T1 ps (step_at ps at) x
  none-made o e none u b t =
      absurd (at-none o e (none u (made-of u (back u b))) (subst (λ (s : Specified). Trace (bodies_of s.bodies) root (u ++ x ∷ [])) h.spec t))

  module _ (o o' : Option ℕ) (n m : ℕ) (e : o ≡ Some n) (f : o' ≡ Some m)
      (some : (u : List Event) → Belongs S q.spec u → IfSome o (λ set. Does S (u ++ x ∷ []) × Belongs S1 set (u ++ x ∷ [])))
      (some' : (u : List Event) → Belongs T q.made u → IfSome o' (λ set. Does T (u ++ x ∷ []) × Belongs T1 set (u ++ x ∷ []))) where
    abbrev next : Step
    next = record { spec = n; made = m; parent = at; event = x }

    spec-next : (u : List Event) → Both S T (step_at ps at) u → Does S (u ++ x ∷ []) × Belongs S1 n (u ++ x ∷ [])
    spec-next u b = at-some (λ set. Does S (u ++ x ∷ []) × Belongs S1 set (u ++ x ∷ [])) o n e (some u (spec-of u b))

    made-next : (u : List Event) → Both S T (step_at ps at) u → Does T (u ++ x ∷ []) × Belongs T1 m (u ++ x ∷ [])
    made-next u b = at-some (λ set. Does T (u ++ x ∷ []) × Belongs T1 set (u ++ x ∷ [])) o' m f (some' u (made-of u b))

    both-next : (u : List Event) → Both S T (step_at ps at) u → Both S1 T1 next (u ++ x ∷ [])
    both-next u b = record { spec = (spec-next u b).1; made = (made-next u b).1 }

    pub linked-next : IsLinked S1 T1 ps (length ps) next
    linked-next =
        record {
          reached = (some-trace.0 ++ x ∷ [], both-next some-trace.0 some-trace.1);
          traced = (
            subst (λ (s : Specified). Trace (bodies_of s.bodies) root (some-trace.0 ++ x ∷ [])) (sym g.spec) (spec-next some-trace.0 some-trace.1).0,
            subst (λ (s : Specified). Trace (bodies_of s.bodies) root (some-trace.0 ++ x ∷ [])) (sym h.spec) (made-next some-trace.0 some-trace.1).0,
          );
          comes = inr (here, λ u b. both-next u (back u b));
        }

    pub taken-next : (S2 T2 : Spaced) (ps2 : List Step) → S2 ≡ S1 → T2 ≡ T1 → ((u : List Event) → Both S2 T2 next u → IsFound S2 T2 ps2 u) → IsTaken S2 T2 ps2 (step_at ps at) x
    taken-next S2 T2 ps2 a c found u b t =
        let b1 : Both S1 T1 (step_at ps at) u = subst (λ (T' : Spaced). Both S1 T' (step_at ps at) u) c (subst (λ (S' : Spaced). Both S' T2 (step_at ps at) u) a b) in
        let w = both-next u (back u b1) in (
          subst (λ (S' : Spaced). Does S' (u ++ x ∷ [])) (sym a) (subst (λ (s : Specified). Trace (bodies_of s.bodies) root (u ++ x ∷ [])) (sym g.spec) (spec-next u (back u b1)).0),
          found (u ++ x ∷ []) (subst (λ (S' : Spaced). Both S' T2 next (u ++ x ∷ [])) (sym a) (subst (λ (T' : Spaced). Both S1 T' next (u ++ x ∷ [])) (sym c) w)),
        )

-- ---- one pair put
pub sound-put : {X E : Type 0} (r : Result X E) (S T S' T' : Spaced) (ps ps' : List Step) (es es' : List (ℕ × ℕ)) (most most' : ℕ) (p : Step) → S' ≡ S → T' ≡ T → most' ≡ most → OnOk r (ps' ≡ ps ++ p ∷ []) → OnOk r (AreKept ps' es') → OnOk r (length ps' ≤ most) → AreSound S T ps es most → IsLinked S T ps (length ps) p → OnOk r (AreSound S' T' ps' es' most')
sound-put (Ok y) S T S' T' ps ps' es es' most most' p a b m e kept few s k =
    subst (λ (Q : Spaced). AreSound Q T' ps' es' most') (sym a)
    (subst (λ (Q : Spaced). AreSound S Q ps' es' most') (sym b)
    (subst (λ (n : ℕ). AreSound S T ps' es' n) (sym m)
    (record { linked = subst (λ (l : List Step). AllLinked S T l) (sym e) (linked-more S T ps p s.linked k); kept = kept; few = few })))
sound-put (Err y) S T S' T' ps ps' es es' most most' p a b m e kept few s k = tt
