-- From one level to the next.
use Rattle.std.proofs.Common.{◌≡◌, ℕ, zero, suc, ◌<◌, ◌≤◌, ◌⊎◌, inl, inr, List, [], ◌++◌, length, refl, sym, ap, subst, arith}
use Rattle.std.proofs.lemmas.List.{append-nil}
use Rattle.term.specs.Traces.{In}
use Rattle.term.specs.Proc.{Proc}
use Rattle.term.specs.Steps.{Hid, Run, done, hid}
use Rattle.term.specs.Sizes.{depth}
use Rattle.term.specs.Limits.{Terms, Reach, Level, Distinct, HasDeep, IsWithin, deepest_state, most_states}
use Rattle.term.proofs.Reached.{Is, closed-all, run-then}
use Rattle.targets.specs.declared.labels.Label.TheVariants as label
use Rattle.targets.proofs.Members.{append-In, In-append_l, In-append_r}
use Rattle.tau_closures.specs.declared.fault.AfterFault.{AfterFault}
use Rattle.tau_closures.specs.declared.fault.AfterFault.TheVariants.{Depth, States, Memory}
use Rattle.tau_closures.specs.Belonging.{MeetsLimit}
use Rattle.targets.specs.Cuts.{CutOf}
use Rattle.tau_closures.specs.Closing.{TargetOf, WithHidden, AllShallow, Grows, IsStuck, IsClosure}
use Rattle.targets.proofs.Cutting.{no-longer}

-- what is on a level is reached by hidden steps
level-reached : (B : ℕ → Proc) (L : Terms) (k : ℕ) (Q : Proc) → Level B L k Q → (P : Proc) × L P × Reach B P [] Q
level-reached B L zero Q l = (Q, l, done refl)
level-reached B L (suc k) Q (inl l) = level-reached B L k Q l
level-reached B L (suc k) Q (inr (R, l, d)) =
    let (P, i, r) = level-reached B L k R l in
    let s : Run B (Is Q) R [] = hid d (done refl) in
    (P, i, run-then B r s)

-- a list that is no longer than the bound has all
pub cut-all : (S : Terms) (most : ℕ) (l : List Proc) → CutOf S most l → length l ≤ most → (Q : Proc) → S Q → In Q l
cut-all S most l c few = elim c.all [ inl h ↦ absurd (omega arith) | inr all ↦ all ]

-- a set whose members are all in a short list of shallow processes is within the limits
pub within-list : (S : Terms) (qs : List Proc) → ((Q : Proc) → S Q → In Q qs) → length qs ≤ most_states → AllShallow qs → IsWithin S
within-list S qs h few shallow = (
  (λ (Q, s, l). let k = shallow Q (h Q s) in omega arith),
  (λ (ps, d, m, l). let k = no-longer ps qs d (λ Q i. h Q (m Q i)) in omega arith),
)

-- the list of a level: of its processes the old ones were expanded, the fresh ones not yet
pub record IsLevel (B : ℕ → Proc) (L : Terms) (old fresh : List Proc) (k : ℕ) : Type 0 where
  pub only : (Q : Proc) → In Q (old ++ fresh) → Level B L k Q
  pub all : (Q : Proc) → Level B L k Q → In Q (old ++ fresh)
  pub start : (Q : Proc) → L Q → In Q (old ++ fresh)
  pub once : Distinct (old ++ fresh)
  pub few : length (old ++ fresh) ≤ most_states
  pub shallow : AllShallow (old ++ fresh)
  pub before : (j : ℕ) → j < k → IsWithin (Level B L j)
  pub closed : (P Q : Proc) → In P old → Hid B P Q → In Q (old ++ fresh)

module _ (B : ℕ → Proc) (L : Terms) (o r : List Proc) (k : ℕ) (f : IsLevel B L o r k) where
  level-within : IsWithin (Level B L k)
  level-within = within-list (Level B L k) (o ++ r) f.all f.few f.shallow

  level-before : (j : ℕ) → j < suc k → IsWithin (Level B L j)
  level-before j h = go (split j k h)
    where
      split : (j k : ℕ) → j < suc k → (j < k) ⊎ (j ≡ k)
      split zero zero h = inr refl
      split zero (suc k) h = inl (omega arith)
      split (suc j) zero h = absurd (omega arith)
      split (suc j) (suc k) h = elim (split j k (omega arith)) [ inl x ↦ inl (omega arith) | inr e ↦ inr (ap suc e) ]

      go : ((j < k) ⊎ (j ≡ k)) → IsWithin (Level B L j)
      go (inl x) = f.before j x
      go (inr e) = subst (λ v. IsWithin (Level B L v)) (sym e) level-within

  next-only : (Q : Proc) → WithHidden B (o ++ r) r Q → Level B L (suc k) Q
  next-only Q (inl i) = inl (f.only Q i)
  next-only Q (inr (P, i, d)) = inr (P, f.only P (In-append_r o i), d)

  next-all : (Q : Proc) → Level B L (suc k) Q → WithHidden B (o ++ r) r Q
  next-all Q (inl l) = inl (f.all Q l)
  next-all Q (inr (P, l, d)) =
      elim (append-In o r P (f.all P l)) [
        | inl i ↦ inl (f.closed P Q i d)
        | inr i ↦ inr (P, i, d)
      ]

  not-deep : (HasDeep (TargetOf B r label.Tau) → ⊥) → (Q : Proc) → WithHidden B (o ++ r) r Q → depth Q ≤ deepest_state
  not-deep h Q (inl i) = f.shallow Q i
  not-deep h Q (inr t) = let n : deepest_state < depth Q → ⊥ = λ l. h (Q, t, l) in omega arith

  -- why there is no next level is the limit that is met
  pub level-stuck : (e : AfterFault) → IsStuck B r (o ++ r) e → MeetsLimit B L e
  level-stuck Depth (Q, (P, i, d), l) = (suc k, (Q, inr (P, f.only P (In-append_r o i), d), l), level-before)
  level-stuck States (h, (qs, d, m, l)) = (
    suc k,
    (λ (Q, s, x). let y = not-deep h Q (next-all Q s) in omega arith),
    (qs, d, (λ Q i. next-only Q (m Q i)), l),
    level-before,
  )
  level-stuck Memory h = tt

  -- the next level
  pub level-next : (new next : List Proc) → new ≡ (o ++ r) ++ next → Grows B r (o ++ r) new → IsLevel B L (o ++ r) next (suc k)
  level-next new next e h =
      let c : CutOf (WithHidden B (o ++ r) r) most_states ((o ++ r) ++ next) = subst (λ l. CutOf (WithHidden B (o ++ r) r) most_states l) e h.cut in
      let few : length ((o ++ r) ++ next) ≤ most_states = subst (λ l. length l ≤ most_states) e h.few in
      let all = cut-all (WithHidden B (o ++ r) r) most_states ((o ++ r) ++ next) c few in
      record {
        only = λ Q i. next-only Q (c.only Q i);
        all = λ Q l. all Q (next-all Q l);
        start = λ Q l. In-append_l (f.start Q l) next;
        once = c.once;
        few = few;
        shallow = λ Q i. not-deep h.shallow Q (c.only Q i);
        before = level-before;
        closed = λ P Q i d. all Q (next-all Q (inr (P, f.only P i, d)));
      }

-- nothing is left to expand
pub level-end : (B : ℕ → Proc) (L : Terms) (o : List Proc) (k : ℕ) → IsLevel B L o [] k → IsClosure B L o
level-end B L o k f =
    record {
      within = λ j. within-list (Level B L j) o (level-in j) (subst (λ v. length v ≤ most_states) (append-nil o) f.few) (λ Q i. f.shallow Q (In-append_l i []));
      shallow = λ Q i. f.shallow Q (In-append_l i []);
      only = λ Q i. level-reached B L k Q (f.only Q (In-append_l i []));
      all = λ P Q l d. closed-all B o (λ R S i h. back S (f.closed R S i h)) d (back P (f.start P l));
    }
  where
    back : (Q : Proc) → In Q (o ++ []) → In Q o
    back Q i = subst (λ v. In Q v) (append-nil o) i

    level-in : (j : ℕ) (Q : Proc) → Level B L j Q → In Q o
    level-in zero Q l = back Q (f.start Q l)
    level-in (suc j) Q (inl l) = level-in j Q l
    level-in (suc j) Q (inr (P, l, d)) = back Q (f.closed P Q (level-in j P l) d)
