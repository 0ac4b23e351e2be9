-- From one set of states to the next.
use Rattle.std.proofs.Common.{◌≡◌, ℕ, zero, suc, ◌<◌, ◌≤◌, inl, inr, List, [], ◌∷◌, length, refl, sym, subst, arith}
use Rattle.alphabet.specs.declared.events.Event.{Event}
use Rattle.term.specs.Traces.{In, here}
use Rattle.term.specs.Proc.{Proc, bodies_of, root}
use Rattle.term.specs.Sizes.{depth}
use Rattle.term.specs.Specs.{Specified, IsClosed, IsProcessOf}
use Rattle.term.specs.Limits.{Terms, Distinct, Level, NoLimit, most_states}
use Rattle.term.proofs.Closed.{processes-stay}
use Rattle.targets.specs.declared.labels.Label.TheVariants as label
use Rattle.tau_closures.specs.declared.fault.AfterFault.{AfterFault}
use Rattle.tau_closures.specs.Belonging.{IsSetOf, MeetsLimit}
use Rattle.targets.specs.Cuts.{CutOf}
use Rattle.tau_closures.specs.Closing.{Among, AllLie, AllShallow, TargetOf, Opens, IsClosure}
use Rattle.targets.proofs.Cutting.{only as one-In}
use Rattle.tau_closures.proofs.Lists.{none-In}
use Rattle.tau_closures.proofs.Levels.{cut-all}
use Rattle.tau_closures.proofs.Keeping.{event-depth, step-lies}
use Rattle.tau_closures.proofs.Renaming.{limit-to, closure-to}

-- the root's name opens
pub root-opens : (s : Specified) → IsClosed s → (first : List Proc) → first ≡ root ∷ [] → Opens s first
root-opens s c first e =
    record {
      once = subst (λ l. Distinct l) (sym e) ((λ i. none-In i refl), tt);
      few = subst (λ l. length l ≤ most_states) (sym e) (omega arith);
      shallow = λ P i. subst (λ Q. depth Q ≤ 1000) (sym (one-In i e)) (omega arith);
      lies = λ P i. subst (IsProcessOf s) (sym (one-In i e)) c.0;
    }

-- what a set of a specification has are its processes
pub set-lies : (s : Specified) → IsClosed s → (qs : List Proc) → IsSetOf s qs → AllLie s qs
set-lies s c qs (u, b) P i = processes-stay s root P u c c.0 ((b P).0 i)

-- where nothing is on level 0, no level meets a limit
pub nothing-within : (B : ℕ → Proc) (L : Terms) → ((Q : Proc) → L Q → ⊥) → NoLimit B L
nothing-within B L none k = (
  (λ (Q, l, h). empty k Q l),
  (λ (qs, d, m, h). first qs m h),
)
  where
    empty : (k : ℕ) (Q : Proc) → Level B L k Q → ⊥
    empty zero Q l = none Q l
    empty (suc k) Q (inl l) = empty k Q l
    empty (suc k) Q (inr (P, l, d)) = empty k P l

    first : (qs : List Proc) → ((Q : Proc) → In Q qs → Level B L k Q) → most_states < length qs → ⊥
    first [] m h = omega arith
    first (Q ∷ qs) m h = empty k Q (m Q here)

-- the targets of an event, of which level 0 is made
module _ (s : Specified) (qs : List Proc) (x : Event) (first : List Proc)
    (c : CutOf (TargetOf (bodies_of s.bodies) qs (label.Event x)) most_states first) (few : length first ≤ most_states) where
  to : (Q : Proc) → Among first Q → TargetOf (bodies_of s.bodies) qs (label.Event x) Q
  to Q i = c.only Q i

  fro : (Q : Proc) → TargetOf (bodies_of s.bodies) qs (label.Event x) Q → Among first Q
  fro = cut-all (TargetOf (bodies_of s.bodies) qs (label.Event x)) most_states first c few

  pub first-closure : (ms : List Proc) → IsClosure (bodies_of s.bodies) (Among first) ms → IsClosure (bodies_of s.bodies) (TargetOf (bodies_of s.bodies) qs (label.Event x)) ms
  first-closure = closure-to (bodies_of s.bodies) (Among first) (TargetOf (bodies_of s.bodies) qs (label.Event x)) to fro

  pub first-limit : (e : AfterFault) → MeetsLimit (bodies_of s.bodies) (Among first) e → MeetsLimit (bodies_of s.bodies) (TargetOf (bodies_of s.bodies) qs (label.Event x)) e
  first-limit = limit-to (bodies_of s.bodies) (Among first) (TargetOf (bodies_of s.bodies) qs (label.Event x)) to fro

  pub nowhere : first ≡ [] → (Q : Proc) → TargetOf (bodies_of s.bodies) qs (label.Event x) Q → ⊥
  nowhere e Q t = none-In (fro Q t) e

  pub first-opens : IsClosed s → AllLie s qs → AllShallow qs → Opens s first
  first-opens closed lies shallow =
      record {
        once = c.once;
        few = few;
        shallow = λ Q i. let (P, j, d) = c.only Q i in let k = event-depth (bodies_of s.bodies) P Q x d in let m = shallow P j in omega arith;
        lies = λ Q i. let (P, j, d) = c.only Q i in step-lies s closed P Q (label.Event x) d (lies P j);
      }

-- the same facts under the names of the set and its space
pub cut-here : (s t : Specified) (ps qs first : List Proc) (x : Event) → t ≡ s → ps ≡ qs → CutOf (TargetOf (bodies_of t.bodies) ps (label.Event x)) most_states first → CutOf (TargetOf (bodies_of s.bodies) qs (label.Event x)) most_states first
cut-here s t ps qs first x e f c =
    subst (λ (v : Specified). CutOf (TargetOf (bodies_of v.bodies) qs (label.Event x)) most_states first) e
    (subst (λ l. CutOf (TargetOf (bodies_of t.bodies) l (label.Event x)) most_states first) f c)

pub limit-here : (s t : Specified) (ps qs : List Proc) (x : Event) (e : AfterFault) → t ≡ s → ps ≡ qs → MeetsLimit (bodies_of t.bodies) (TargetOf (bodies_of t.bodies) ps (label.Event x)) e → MeetsLimit (bodies_of s.bodies) (TargetOf (bodies_of s.bodies) qs (label.Event x)) e
limit-here s t ps qs x e d f m =
    subst (λ (v : Specified). MeetsLimit (bodies_of v.bodies) (TargetOf (bodies_of v.bodies) qs (label.Event x)) e) d
    (subst (λ l. MeetsLimit (bodies_of t.bodies) (TargetOf (bodies_of t.bodies) l (label.Event x)) e) f m)

pub closure-here : (s t : Specified) (ps qs ms : List Proc) → t ≡ s → ps ≡ qs → IsClosure (bodies_of t.bodies) (Among ps) ms → IsClosure (bodies_of s.bodies) (Among qs) ms
closure-here s t ps qs ms e f c =
    subst (λ (v : Specified). IsClosure (bodies_of v.bodies) (Among qs) ms) e (subst (λ l. IsClosure (bodies_of t.bodies) (Among l) ms) f c)

pub met-here : (s t : Specified) (ps qs : List Proc) (e : AfterFault) → t ≡ s → ps ≡ qs → MeetsLimit (bodies_of t.bodies) (Among ps) e → MeetsLimit (bodies_of s.bodies) (Among qs) e
met-here s t ps qs e d f m =
    subst (λ (v : Specified). MeetsLimit (bodies_of v.bodies) (Among qs) e) d (subst (λ l. MeetsLimit (bodies_of t.bodies) (Among l) e) f m)
