-- From one level of kept processes to the next.
use Rattle.std.proofs.Common.{◌≡◌, ℕ, zero, suc, ◌<◌, ◌≤◌, ◌⊎◌, inl, inr, List, [], ◌++◌, length, take, drop, refl, sym, ap, ◌∙◌, subst, arith}
use Rattle.std.proofs.lemmas.List.{append-nil, take-append-drop, length-append, take_all}
use Rattle.std.proofs.Math.Seq.{take-append_seam, drop-append_seam}
use Rattle.std.proofs.Math.ListN.{drop_of_length-le}
use Rattle.term.specs.Traces.{In}
use Rattle.term.specs.Proc.{Proc}
use Rattle.term.specs.Limits.{Terms, Distinct, HasDeep, HasMany, most_states}
use Rattle.targets.proofs.Members.{append-In, In-append_l, In-append_r}
use Rattle.targets.proofs.Cutting.{no-longer}
use Rattle.tau_closures.specs.declared.fault.AfterFault.{AfterFault}
use Rattle.tau_closures.specs.declared.fault.AfterFault.TheVariants.{Depth, States, Memory}
use Rattle.tau_closures.specs.Closing.{AllShallow}
use Rattle.unfolding.specs.Kept.{KeptHid, KeptLevel, KeptReach, kept-here, kept-more, IsMuch, IsKeptWithin, HasBroad}
use Rattle.tau_closures.specs.Kept.{WithKept, AreBroad, KeptGrows, IsKeptStuck, IsKeptClosure}
use Rattle.tau_closures.specs.Limits.{MeetsKeptLimit}

-- one step more at the end
reach-on : {B : ℕ → Proc} {n : ℕ} {P Q R : Proc} → KeptReach B n P Q → KeptHid B n Q R → KeptReach B n P R
reach-on kept-here d = kept-more d kept-here
reach-on (kept-more e r) d = kept-more e (reach-on r d)

-- a set whose members are all in a short list hasn't too many
few-list : (S : Terms) (qs : List Proc) → ((Q : Proc) → S Q → In Q qs) → length qs ≤ most_states → HasMany S → ⊥
few-list S qs h few (ps, d, m, l) = let k = no-longer ps qs d (λ Q i. h Q (m Q i)) in omega arith

shallow-list : (S : Terms) (qs : List Proc) → ((Q : Proc) → S Q → In Q qs) → AllShallow qs → HasDeep S → ⊥
shallow-list S qs h shallow (Q, s, l) = let k = shallow Q (h Q s) in omega arith

module _ (B : ℕ → Proc) (n : ℕ) (L : Terms) (M : Type 0) where
  level-reached : (k : ℕ) (Q : Proc) → KeptLevel B n L k Q → (P : Proc) × L P × KeptReach B n P Q
  level-reached zero Q l = (Q, l, kept-here)
  level-reached (suc k) Q (inl l) = level-reached k Q l
  level-reached (suc k) Q (inr (R, l, d)) = let (P, i, r) = level-reached k R l in (P, i, reach-on r d)

  -- the list of a level: of its processes the old ones were expanded, the fresh ones not yet
  pub record IsKeptRound (old fresh : List Proc) (k : ℕ) : Type 0 where
    pub only : (Q : Proc) → In Q (old ++ fresh) → KeptLevel B n L k Q
    pub all : (Q : Proc) → KeptLevel B n L k Q → In Q (old ++ fresh)
    pub start : (Q : Proc) → L Q → In Q (old ++ fresh)
    pub once : Distinct (old ++ fresh)
    pub few : length (old ++ fresh) ≤ most_states
    pub shallow : AllShallow (old ++ fresh)
    pub before : (j : ℕ) → j < k → IsKeptWithin B n L M j
    pub much : IsMuch B n L M k → ⊥
    pub narrow : AreBroad B old → ⊥
    pub closed : (P Q : Proc) → In P old → KeptHid B n P Q → In Q (old ++ fresh)

  module _ (o r : List Proc) (k : ℕ) (f : IsKeptRound o r k) where
    level-within : IsKeptWithin B n L M k
    level-within = (shallow-list (KeptLevel B n L k) (o ++ r) f.all f.shallow, f.much)

    level-before : (j : ℕ) → j < suc k → IsKeptWithin B n L M j
    level-before j h = go (split j k h)
      where
        split : (j k : ℕ) → j < suc k → (j < k) ⊎ (j ≡ k)
        split zero zero h = inr refl
        split zero (suc k) h = inl (omega arith)
        split (suc j) zero h = absurd (omega arith)
        split (suc j) (suc k) h = elim (split j k (omega arith)) [ inl x ↦ inl (omega arith) | inr e ↦ inr (ap suc e) ]

        go : ((j < k) ⊎ (j ≡ k)) → IsKeptWithin B n L M j
        go (inl x) = f.before j x
        go (inr e) = subst (λ v. IsKeptWithin B n L M v) (sym e) level-within

    next-only : (Q : Proc) → WithKept B n (o ++ r) r Q → KeptLevel B n L (suc k) Q
    next-only Q (inl i) = inl (f.only Q i)
    next-only Q (inr (P, i, d)) = inr (P, f.only P (In-append_r o i), d)

    next-all : (Q : Proc) → KeptLevel B n L (suc k) Q → WithKept B n (o ++ r) r Q
    next-all Q (inl l) = inl (f.all Q l)
    next-all Q (inr (P, l, d)) =
        elim (append-In o r P (f.all P l)) [
          | inl i ↦ inl (f.closed P Q i d)
          | inr i ↦ inr (P, i, d)
        ]

    many-to : HasMany (WithKept B n (o ++ r) r) → HasMany (KeptLevel B n L (suc k))
    many-to (qs, d, m, l) = (qs, d, (λ Q i. next-only Q (m Q i)), l)

    many-fro : HasMany (KeptLevel B n L (suc k)) → HasMany (WithKept B n (o ++ r) r)
    many-fro (qs, d, m, l) = (qs, d, (λ Q i. next-all Q (m Q i)), l)

    broad-to : AreBroad B r → HasBroad B (KeptLevel B n L k)
    broad-to (P, i, m) = (P, f.only P (In-append_r o i), m)

    broad-fro : (AreBroad B r → ⊥) → HasBroad B (KeptLevel B n L k) → ⊥
    broad-fro h (P, l, m) = elim (append-In o r P (f.all P l)) [ inl i ↦ f.narrow (P, i, m) | inr i ↦ h (P, i, m) ]

    -- why there is no next level is the limit that is met
    pub kept-stuck : (e : AfterFault) → IsKeptStuck B n r (o ++ r) e → MeetsKeptLimit B n L M e
    kept-stuck Depth ((Q, s, l), m, b) =
        (suc k, (Q, next-only Q s, l), (λ x. elim x [ inl y ↦ m (many-fro y) | inr y ↦ broad-fro b y ]), level-before)
    kept-stuck States (inl m) = (suc k, inl (many-to m), level-before)
    kept-stuck States (inr b) = (suc k, inr (broad-to b), level-before)
    kept-stuck Memory h = tt

    -- the next level
    pub kept-next : (new next : List Proc) → new ≡ (o ++ r) ++ next → KeptGrows B n r (o ++ r) new → IsKeptRound (o ++ r) next (suc k)
    kept-next new next e h =
        let here : (Q : Proc) → In Q new → In Q ((o ++ r) ++ next) = λ Q i. subst (λ l. In Q l) e i in
        let there : (Q : Proc) → In Q ((o ++ r) ++ next) → In Q new = λ Q i. subst (λ l. In Q l) (sym e) i in
        let few : length ((o ++ r) ++ next) ≤ most_states = subst (λ l. length l ≤ most_states) e h.few in
        record {
          only = λ Q i. next-only Q (h.only Q (there Q i));
          all = λ Q l. here Q (h.all Q (next-all Q l));
          start = λ Q l. In-append_l (f.start Q l) next;
          once = subst Distinct e (h.once f.once);
          few = few;
          shallow = subst (λ l. AllShallow l) e h.shallow;
          before = level-before;
          much = λ x. elim x [
            | inl y ↦ few-list (KeptLevel B n L (suc k)) ((o ++ r) ++ next) (λ Q l. here Q (h.all Q (next-all Q l))) few y
            | inr y ↦ broad-fro h.narrow y
          ];
          narrow = λ (P, i, m). elim (append-In o r P i) [ inl j ↦ f.narrow (P, j, m) | inr j ↦ h.narrow (P, j, m) ];
          closed = λ P Q i d. here Q (h.all Q (next-all Q (inr (P, f.only P i, d))));
        }

  -- nothing is left to expand
  pub kept-end : (o : List Proc) (k : ℕ) → IsKeptRound o [] k → IsKeptClosure B n L M o
  kept-end o k f =
      record {
        within = λ j. (shallow-list (KeptLevel B n L j) o (level-in j) shallow, much j);
        shallow = shallow;
        only = λ Q i. level-reached k Q (f.only Q (In-append_l i []));
        all = λ P Q l d. all d (back P (f.start P l));
      }
    where
      back : (Q : Proc) → In Q (o ++ []) → In Q o
      back Q i = subst (λ v. In Q v) (append-nil o) i

      shallow : AllShallow o
      shallow Q i = f.shallow Q (In-append_l i [])

      few : length o ≤ most_states
      few = subst (λ v. length v ≤ most_states) (append-nil o) f.few

      level-in : (j : ℕ) (Q : Proc) → KeptLevel B n L j Q → In Q o
      level-in zero Q l = back Q (f.start Q l)
      level-in (suc j) Q (inl l) = level-in j Q l
      level-in (suc j) Q (inr (P, l, d)) = back Q (f.closed P Q (level-in j P l) d)

      all : {P Q : Proc} → KeptReach B n P Q → In P o → In Q o
      all kept-here i = i
      all (kept-more {P = P} {R = R} d r) i = all r (back R (f.closed P R i d))

      -- level 0 was within the limits
      first : (j : ℕ) → IsKeptRound o [] j → IsMuch B n L M zero → ⊥
      first zero g x = g.much x
      first (suc j) g x = (g.before zero (omega arith)).1 x

      much : (j : ℕ) → IsMuch B n L M j → ⊥
      much zero x = first k f x
      much (suc j) (inl y) = few-list (KeptLevel B n L (suc j)) o (level-in (suc j)) few y
      much (suc j) (inr (P, l, m)) = f.narrow (P, level-in j P l, m)

  -- level 0
  pub kept-begins : (first : List Proc) → ((Q : Proc) → In Q first → L Q) → ((Q : Proc) → L Q → In Q first) → Distinct first → length first ≤ most_states → AllShallow first → (M → ⊥) → IsKeptRound [] first 0
  kept-begins first only all once few shallow m =
      record {
        only = only;
        all = all;
        start = all;
        once = once;
        few = few;
        shallow = shallow;
        before = λ j h. absurd (omega arith);
        much = λ x. elim x [ inl y ↦ few-list L first all few y | inr y ↦ m y ];
        narrow = λ (P, i, x). elim i [ ];
        closed = λ P Q i d. elim i [ ];
      }

  -- ---- the list of a level, whose processes before `from` were expanded
  pub record IsKeptPart (all : List Proc) (from : ℕ) : Type 0 where
    pub place : from ≤ length all
    pub level : (k : ℕ) × IsKeptRound (take from all) (drop from all) k

  module _ (all : List Proc) (from : ℕ) (r : IsKeptPart all from) where
    whole : take from all ++ drop from all ≡ all
    whole = take-append-drop from all

    pub part-once : Distinct all
    part-once = subst Distinct whole r.level.1.once

    pub part-few : length all ≤ most_states
    part-few = subst (λ l. length l ≤ most_states) whole r.level.1.few

    pub part-shallow : AllShallow all
    part-shallow = subst (λ l. AllShallow l) whole r.level.1.shallow

    pub part-stuck : (e : AfterFault) → IsKeptStuck B n (drop from all) all e → MeetsKeptLimit B n L M e
    part-stuck e h = kept-stuck (take from all) (drop from all) r.level.0 r.level.1 e (subst (λ l. IsKeptStuck B n (drop from all) l e) (sym whole) h)

    pub part-next : (new : List Proc) → KeptGrows B n (drop from all) all new → IsKeptPart new (length all)
    part-next new g =
        record {
          place = omega (arith, ap length g.more.1, length-append all g.more.0);
          level = (
            suc r.level.0,
            subst (λ l. IsKeptRound (take (length all) l) (drop (length all) l) (suc r.level.0)) (sym g.more.1)
                (subst (λ a. IsKeptRound a (drop (length all) (all ++ g.more.0)) (suc r.level.0)) (sym (take-append_seam all g.more.0))
                (subst (λ b. IsKeptRound all b (suc r.level.0)) (sym (drop-append_seam all g.more.0))
                (subst (λ a. IsKeptRound a g.more.0 (suc r.level.0)) whole
                (kept-next (take from all) (drop from all) r.level.0 r.level.1 new g.more.0
                (g.more.1 ∙ ap (λ a. a ++ g.more.0) (sym whole))
                (subst (λ a. KeptGrows B n (drop from all) a new) (sym whole) g))))),
          );
        }

    pub part-end : length all ≤ from → IsKeptClosure B n L M all
    part-end h =
        subst (IsKeptClosure B n L M) (take_all from all h)
        (kept-end (take from all) r.level.0
        (subst (λ b. IsKeptRound (take from all) b r.level.0) (drop_of_length-le all h) r.level.1))
