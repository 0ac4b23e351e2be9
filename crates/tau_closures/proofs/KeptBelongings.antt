-- Sets of kept processes, and what they tell of traces, failures and limits.
use Rattle.std.proofs.Common.{◌≡◌, ◌↔◌, ℕ, zero, suc, inl, inr, List, [], ◌∷◌, ◌++◌, refl, sym, subst, ap, ◌∙◌, ◌<◌, ◌≤◌, length, arith, Bool, true, false, nat_eq, true≢false}
use Rattle.alphabet.specs.declared.events.Event.{Event}
use Rattle.alphabet.specs.declared.events.Event.TheVariants.{Tick as tick, Of as ev}
use Rattle.term.specs.Traces.{Refusal, In, here}
use Rattle.term.specs.Proc.{Proc, bodies_of, root, stop}
use Rattle.term.specs.Meaning.{Trace, Failure}
use Rattle.term.specs.Steps.{Refuses}
use Rattle.term.specs.Specs.{Specified, IsClosed, IsProcessOf}
use Rattle.term.proofs.Closed.{processes-stay}
use Rattle.term.specs.Limits.{Terms, Distinct, HasDeep, most_states}
use Rattle.std.proofs.lemmas.Bool.{eqb-true}
use Rattle.nodes.specs.Shapes.{at}
use Rattle.nodes.specs.Looks.{look}
use Rattle.targets.proofs.Cutting.{only as one-In, no-longer}
use Rattle.targets.specs.declared.labels.Label.TheVariants as label
use Rattle.tau_closures.specs.declared.fault.AfterFault.{AfterFault}
use Rattle.tau_closures.specs.declared.fault.AfterFault.TheVariants.{Depth, States, Memory}
use Rattle.tau_closures.specs.Closing.{AllLie, Among, Opens, Takes}
use Rattle.tau_closures.proofs.Keeping.{step-lies}
use Rattle.tau_closures.proofs.Lists.{none-In}
use Rattle.targets.specs.Labels.{Step}
use Rattle.tau_closures.proofs.KeptExpanding.{kept-lies, not-deep-shallow}
use Rattle.unfolding.specs.Unfolded.{kept_as}
use Rattle.unfolding.specs.Kept.{KeptAfter, KeptLevel, KeptReach, KeptOpening, KeptAdvance, IsMuch, IsKeptWithin, NoKeptLimit, HasBroadBy}
use Rattle.unfolding.proofs.Keeping.{kept-event, kept-end, kept-refused, opening-kept, event-kept}
use Rattle.tau_closures.specs.Kept.{KeptTargetOf, AreBroadBy, AreKeptTargets, IsKeptClosure}
use Rattle.tau_closures.specs.Limits.{MeetsKeptLimit}
use Rattle.tau_closures.specs.KeptBelonging.{KeptBelongs}

-- ---- two names for one level 0
module _ (B : ℕ → Proc) (n : ℕ) (L K : Terms) (M N : Type 0) (to : (Q : Proc) → L Q → K Q) (fro : (Q : Proc) → K Q → L Q) (mto : M → N) (mfro : N → M) where
  level-to : (k : ℕ) (Q : Proc) → KeptLevel B n L k Q → KeptLevel B n K k Q
  level-to zero Q l = to Q l
  level-to (suc k) Q (inl l) = inl (level-to k Q l)
  level-to (suc k) Q (inr (P, l, d)) = inr (P, level-to k P l, d)

  level-fro : (k : ℕ) (Q : Proc) → KeptLevel B n K k Q → KeptLevel B n L k Q
  level-fro zero Q l = fro Q l
  level-fro (suc k) Q (inl l) = inl (level-fro k Q l)
  level-fro (suc k) Q (inr (P, l, d)) = inr (P, level-fro k P l, d)

  much-to : (k : ℕ) → IsMuch B n L M k → IsMuch B n K N k
  much-to zero (inl (qs, d, m, l)) = inl (qs, d, (λ Q i. to Q (m Q i)), l)
  much-to zero (inr m) = inr (mto m)
  much-to (suc k) (inl (qs, d, m, l)) = inl (qs, d, (λ Q i. level-to (suc k) Q (m Q i)), l)
  much-to (suc k) (inr (P, l, m)) = inr (P, level-to k P l, m)

  much-fro : (k : ℕ) → IsMuch B n K N k → IsMuch B n L M k
  much-fro zero (inl (qs, d, m, l)) = inl (qs, d, (λ Q i. fro Q (m Q i)), l)
  much-fro zero (inr m) = inr (mfro m)
  much-fro (suc k) (inl (qs, d, m, l)) = inl (qs, d, (λ Q i. level-fro (suc k) Q (m Q i)), l)
  much-fro (suc k) (inr (P, l, m)) = inr (P, level-fro k P l, m)

  within-to : (k : ℕ) → IsKeptWithin B n L M k → IsKeptWithin B n K N k
  within-to k w = ((λ (Q, s, l). w.0 (Q, level-fro k Q s, l)), (λ m. w.1 (much-fro k m)))

  pub kept-limit-to : (e : AfterFault) → MeetsKeptLimit B n L M e → MeetsKeptLimit B n K N e
  kept-limit-to Depth (k, (Q, s, l), m, b) = (k, (Q, level-to k Q s, l), (λ x. m (much-fro k x)), (λ j h. within-to j (b j h)))
  kept-limit-to States (k, m, b) = (k, much-to k m, (λ j h. within-to j (b j h)))
  kept-limit-to Memory t = tt

  pub kept-closure-to : (ms : List Proc) → IsKeptClosure B n L M ms → IsKeptClosure B n K N ms
  kept-closure-to ms c =
      record {
        within = λ k. within-to k (c.within k);
        shallow = c.shallow;
        only = λ Q i. let (P, l, r) = c.only Q i in (P, to P l, r);
        all = λ P Q l r. c.all P Q (fro P l) r;
      }

-- where nothing is on level 0, no level meets a limit
kept-nothing-within : (B : ℕ → Proc) (n : ℕ) (L : Terms) (M : Type 0) → ((Q : Proc) → L Q → ⊥) → (M → ⊥) → NoKeptLimit B n L M
kept-nothing-within B n L M none narrow k = ((λ (Q, l, h). empty k Q l), much k)
  where
    empty : (j : ℕ) (Q : Proc) → KeptLevel B n L j Q → ⊥
    empty zero Q l = none Q l
    empty (suc j) Q (inl l) = empty j Q l
    empty (suc j) Q (inr (P, l, d)) = empty j P l

    some : (j : ℕ) (qs : List Proc) → ((Q : Proc) → In Q qs → KeptLevel B n L j Q) → most_states < length qs → ⊥
    some j [] m h = omega arith
    some j (Q ∷ qs) m h = empty j Q (m Q here)

    much : (j : ℕ) → IsMuch B n L M j → ⊥
    much zero (inl (qs, d, m, h)) = some zero qs m h
    much zero (inr m) = narrow m
    much (suc j) (inl (qs, d, m, h)) = some (suc j) qs m h
    much (suc j) (inr (P, l, m)) = empty j P l

module _ (s : Specified) (n : ℕ) where
  -- ---- the opening
  first : Proc
  first = kept_as (bodies_of s.bodies) n root

  open-to : (Q : Proc) → In Q (kept_as (bodies_of s.bodies) n root ∷ []) → KeptOpening (bodies_of s.bodies) n Q
  open-to Q i = (root, refl, one-In i refl)

  pub open-fro : (Q : Proc) → KeptOpening (bodies_of s.bodies) n Q → In Q (kept_as (bodies_of s.bodies) n root ∷ [])
  open-fro Q (P, o, e) = subst (λ R. In R (kept_as (bodies_of s.bodies) n root ∷ [])) (sym (e ∙ ap (λ R. kept_as (bodies_of s.bodies) n R) o)) here

  pub kept-start-belongs : (ms : List Proc) → IsKeptClosure (bodies_of s.bodies) n (Among (kept_as (bodies_of s.bodies) n root ∷ [])) ⊥ ms → KeptBelongs s n ms []
  kept-start-belongs ms c Q = (
    (λ i. let (P, l, r) = c.only Q i in (opening-kept (bodies_of s.bodies) n root Q).1 (subst (λ p. KeptReach (bodies_of s.bodies) n p Q) (one-In l refl) r)),
    (λ k. c.all (kept_as (bodies_of s.bodies) n root) Q here ((opening-kept (bodies_of s.bodies) n root Q).0 k)),
  )

  pub kept-start-limit : (e : AfterFault) → MeetsKeptLimit (bodies_of s.bodies) n (Among (kept_as (bodies_of s.bodies) n root ∷ [])) ⊥ e → MeetsKeptLimit (bodies_of s.bodies) n (KeptOpening (bodies_of s.bodies) n) ⊥ e
  kept-start-limit = kept-limit-to (bodies_of s.bodies) n (Among (kept_as (bodies_of s.bodies) n root ∷ [])) (KeptOpening (bodies_of s.bodies) n) ⊥ ⊥ open-to open-fro (λ x. x) (λ x. x)

  pub kept-start-within : (ms : List Proc) → IsKeptClosure (bodies_of s.bodies) n (Among (kept_as (bodies_of s.bodies) n root ∷ [])) ⊥ ms → NoKeptLimit (bodies_of s.bodies) n (KeptOpening (bodies_of s.bodies) n) ⊥
  kept-start-within ms c =
      (kept-closure-to (bodies_of s.bodies) n (Among (kept_as (bodies_of s.bodies) n root ∷ [])) (KeptOpening (bodies_of s.bodies) n) ⊥ ⊥ open-to open-fro (λ x. x) (λ x. x) ms c).within

  -- ---- a set that belongs to u
  module _ (u : List Event) (qs : List Proc) (b : KeptBelongs s n qs u) where
    -- what goes on by an event
    pub kept-takes-trace : (x : Event) → ((Q : Proc) × In Q qs × Takes Q x) ↔ Trace (bodies_of s.bodies) root (u ++ x ∷ [])
    kept-takes-trace tick = (
      (λ (Q, i, t). (kept-end (bodies_of s.bodies) n root u).1 (Q, (b Q).0 i, t)),
      (λ t. let (Q, r, k) = (kept-end (bodies_of s.bodies) n root u).0 t in (Q, (b Q).1 r, k)),
    )
    kept-takes-trace (ev a) = (
      (λ (Q, i, (R, t)). (kept-event (bodies_of s.bodies) n root u a).1 (Q, R, (b Q).0 i, t)),
      (λ t. let (Q, R, r, k) = (kept-event (bodies_of s.bodies) n root u a).0 t in (Q, (b Q).1 r, (R, k))),
    )

    -- what is refused
    pub kept-refuses-failure : (X : Refusal) → ((Q : Proc) × In Q qs × Refuses (bodies_of s.bodies) X Q) ↔ Failure (bodies_of s.bodies) root u X
    kept-refuses-failure X = (
      (λ (Q, i, f). (kept-refused (bodies_of s.bodies) n root u X).1 (Q, (b Q).0 i, f)),
      (λ f. let (Q, r, k) = (kept-refused (bodies_of s.bodies) n root u X).0 f in (Q, (b Q).1 r, k)),
    )

    -- the targets of an event from the members, as levels begin with them
    pub kept-advance-to : (x : Event) (Q : Proc) → KeptTargetOf (bodies_of s.bodies) n qs (label.Event x) Q → KeptAdvance (bodies_of s.bodies) n u x Q
    kept-advance-to tick Q (P, i, (R, d, e)) = (R, (P, (b P).0 i, d.0, d.1), e)
    kept-advance-to (ev a) Q (P, i, (R, d, e)) = (R, (P, (b P).0 i, d), e)

    pub kept-advance-fro : (x : Event) (Q : Proc) → KeptAdvance (bodies_of s.bodies) n u x Q → KeptTargetOf (bodies_of s.bodies) n qs (label.Event x) Q
    kept-advance-fro tick Q (R, (P, r, t, d), e) = (P, (b P).1 r, (R, (t, d), e))
    kept-advance-fro (ev a) Q (R, (P, r, d), e) = (P, (b P).1 r, (R, d, e))

    broad-to : (x : Event) → AreBroadBy (bodies_of s.bodies) qs (label.Event x) → HasBroadBy (KeptAfter (bodies_of s.bodies) n root u) x
    broad-to tick (P, i, (ms, d, m, l)) =
        let k = no-longer ms (stop ∷ []) d (λ Q j. subst (λ R. In R (stop ∷ [])) (sym (m Q j).1) here) in
        omega arith
    broad-to (ev a) (P, i, m) = (P, (b P).0 i, m)

    broad-fro : (x : Event) → HasBroadBy (KeptAfter (bodies_of s.bodies) n root u) x → AreBroadBy (bodies_of s.bodies) qs (label.Event x)
    broad-fro tick m = absurd m
    broad-fro (ev a) (P, r, m) = (P, (b P).1 r, m)

    pub kept-advance-limit : (x : Event) (e : AfterFault) → MeetsKeptLimit (bodies_of s.bodies) n (KeptTargetOf (bodies_of s.bodies) n qs (label.Event x)) (AreBroadBy (bodies_of s.bodies) qs (label.Event x)) e
        → MeetsKeptLimit (bodies_of s.bodies) n (KeptAdvance (bodies_of s.bodies) n u x) (HasBroadBy (KeptAfter (bodies_of s.bodies) n root u) x) e
    kept-advance-limit x =
        kept-limit-to (bodies_of s.bodies) n (KeptTargetOf (bodies_of s.bodies) n qs (label.Event x)) (KeptAdvance (bodies_of s.bodies) n u x)
        (AreBroadBy (bodies_of s.bodies) qs (label.Event x)) (HasBroadBy (KeptAfter (bodies_of s.bodies) n root u) x) (kept-advance-to x) (kept-advance-fro x) (broad-to x) (broad-fro x)

    -- the set of one event more
    pub kept-advance-belongs : (x : Event) (first ms : List Proc) → AreKeptTargets (bodies_of s.bodies) n qs (label.Event x) first → IsKeptClosure (bodies_of s.bodies) n (Among first) ⊥ ms → KeptBelongs s n ms (u ++ x ∷ [])
    kept-advance-belongs x first ms t c Q = (
      (λ i. let (S, j, r) = c.only Q i in (event-kept (bodies_of s.bodies) n root u x Q).1 (S, kept-advance-to x S (t.only S j), r)),
      (λ k. let (S, a, r) = (event-kept (bodies_of s.bodies) n root u x Q).0 k in c.all S Q (t.all S (kept-advance-fro x S a)) r),
    )

    -- the event meets no limit
    pub kept-advance-within : (x : Event) (first ms : List Proc) → AreKeptTargets (bodies_of s.bodies) n qs (label.Event x) first → IsKeptClosure (bodies_of s.bodies) n (Among first) ⊥ ms
        → NoKeptLimit (bodies_of s.bodies) n (KeptAdvance (bodies_of s.bodies) n u x) (HasBroadBy (KeptAfter (bodies_of s.bodies) n root u) x)
    kept-advance-within x first ms t c =
        (kept-closure-to (bodies_of s.bodies) n (Among first) (KeptAdvance (bodies_of s.bodies) n u x) ⊥ (HasBroadBy (KeptAfter (bodies_of s.bodies) n root u) x)
        (λ Q i. kept-advance-to x Q (t.only Q i)) (λ Q a. t.all Q (kept-advance-fro x Q a)) (λ y. absurd y) (λ m. t.narrow (broad-fro x m)) ms c).within

    pub kept-none-within : (x : Event) (first : List Proc) → AreKeptTargets (bodies_of s.bodies) n qs (label.Event x) first → first ≡ []
        → NoKeptLimit (bodies_of s.bodies) n (KeptAdvance (bodies_of s.bodies) n u x) (HasBroadBy (KeptAfter (bodies_of s.bodies) n root u) x)
    kept-none-within x first t e =
        kept-nothing-within (bodies_of s.bodies) n (KeptAdvance (bodies_of s.bodies) n u x) (HasBroadBy (KeptAfter (bodies_of s.bodies) n root u) x)
        (λ Q a. none-In (t.all Q (kept-advance-fro x Q a)) e) (λ m. t.narrow (broad-fro x m))

    -- a fault of the closing says so of the event
    pub kept-closing-limit : (x : Event) (first : List Proc) → AreKeptTargets (bodies_of s.bodies) n qs (label.Event x) first → (e : AfterFault) → MeetsKeptLimit (bodies_of s.bodies) n (Among first) ⊥ e
        → MeetsKeptLimit (bodies_of s.bodies) n (KeptAdvance (bodies_of s.bodies) n u x) (HasBroadBy (KeptAfter (bodies_of s.bodies) n root u) x) e
    kept-closing-limit x first t =
        kept-limit-to (bodies_of s.bodies) n (Among first) (KeptAdvance (bodies_of s.bodies) n u x) ⊥ (HasBroadBy (KeptAfter (bodies_of s.bodies) n root u) x)
        (λ Q i. kept-advance-to x Q (t.only Q i)) (λ Q a. t.all Q (kept-advance-fro x Q a)) (λ y. absurd y) (λ m. t.narrow (broad-fro x m))

-- ---- level 0 lies in the specification
-- what is kept after a trace are processes of the specification
pub kept-set-lies : (s : Specified) → IsClosed s → (n : ℕ) (u : List Event) (qs : List Proc) → KeptBelongs s n qs u → AllLie s qs
kept-set-lies s c n u qs b Q i =
    let (P, r, e) = (b Q).0 i in
    subst (IsProcessOf s) (sym e) (kept-lies s c n P (processes-stay s root P u c c.0 r))

pub kept-first-opens : (s : Specified) → IsClosed s → (n : ℕ) (qs : List Proc) (x : Event) (first : List Proc) → AllLie s qs → AreKeptTargets (bodies_of s.bodies) n qs (label.Event x) first → Opens s first
kept-first-opens s c n qs x first lies t =
    record {
      once = t.once;
      few = t.few;
      shallow = t.shallow;
      lies = λ Q i. let (P, j, (R, d, e)) = t.only Q i in subst (IsProcessOf s) (sym e) (kept-lies s c n R (step-lies s c P R (label.Event x) d (lies P j)));
    }

pub kept-root-opens : (s : Specified) → IsClosed s → (n : ℕ) (first : List Proc) → first ≡ kept_as (bodies_of s.bodies) n root ∷ [] → (HasDeep (λ Q. In Q first) → ⊥) → Opens s first
kept-root-opens s c n first e shallow =
    record {
      once = subst (λ l. Distinct l) (sym e) ((λ i. elim i [ ]), tt);
      few = subst (λ l. length l ≤ most_states) (sym e) (omega arith);
      shallow = not-deep-shallow first shallow;
      lies = λ P i. subst (IsProcessOf s) (sym (one-In i e)) (kept-lies s c n root c.0);
    }

-- the root alone is too deep
pub kept-root-deep : (s : Specified) (n : ℕ) (first : List Proc) → first ≡ kept_as (bodies_of s.bodies) n root ∷ [] → HasDeep (λ Q. In Q first) → MeetsKeptLimit (bodies_of s.bodies) n (KeptOpening (bodies_of s.bodies) n) ⊥ Depth
kept-root-deep s n first e (Q, i, l) =
    (0, (Q, (root, refl, one-In i e), l), much, (λ j k. absurd (omega arith)))
  where
    much : IsMuch (bodies_of s.bodies) n (KeptOpening (bodies_of s.bodies) n) ⊥ 0 → ⊥
    much (inl (qs, d, m, h)) =
        let k = no-longer qs (kept_as (bodies_of s.bodies) n root ∷ []) d (λ R j. open-fro s n R (m R j)) in
        omega arith
    much (inr y) = y

-- where no target is, no trace goes on so
module _ (s : Specified) (n : ℕ) (u : List Event) (qs : List Proc) (b : KeptBelongs s n qs u) (x : Event) where
  pub kept-trace-target : Trace (bodies_of s.bodies) root (u ++ x ∷ []) → (Q : Proc) × KeptTargetOf (bodies_of s.bodies) n qs (label.Event x) Q
  kept-trace-target t = go x ((kept-takes-trace s n u qs b x).1 t)
    where
      go : (y : Event) → ((Q : Proc) × In Q qs × Takes Q y) → (Q : Proc) × KeptTargetOf (bodies_of s.bodies) n qs (label.Event y) Q
      go tick (P, i, t) = (kept_as (bodies_of s.bodies) n stop, (P, i, (stop, (t, refl), refl)))
      go (ev a) (P, i, (R, d)) = (kept_as (bodies_of s.bodies) n R, (P, i, (R, d, refl)))

  pub kept-target-trace : (Q : Proc) → KeptTargetOf (bodies_of s.bodies) n qs (label.Event x) Q → Trace (bodies_of s.bodies) root (u ++ x ∷ [])
  kept-target-trace Q (P, i, (R, d, e)) = (kept-takes-trace s n u qs b x).0 (P, i, go x d)
    where
      go : (y : Event) → Step (bodies_of s.bodies) P (label.Event y) R → Takes P y
      go tick d = d.0
      go (ev a) d = (R, d)

  pub kept-none : (first : List Proc) → AreKeptTargets (bodies_of s.bodies) n qs (label.Event x) first → first ≡ [] → Trace (bodies_of s.bodies) root (u ++ x ∷ []) → ⊥
  kept-none first t e h = let (Q, k) = kept-trace-target h in none-In (t.all Q k) e

  pub kept-some : (first : List Proc) → AreKeptTargets (bodies_of s.bodies) n qs (label.Event x) first → (Q : Proc) → In Q first → Trace (bodies_of s.bodies) root (u ++ x ∷ [])
  kept-some first t Q i = kept-target-trace Q (t.only Q i)

-- ---- a list of numbers that is empty or isn't
pub empty-look : (ps : List Proc) (ns : List ℕ) (b : Bool) → b ≡ nat_eq (length ns) 0 → b ≡ true → look ps ns ≡ []
empty-look ps [] b e t = refl
empty-look ps (k ∷ ns) b e t = let z = eqb-true (length (k ∷ ns)) 0 (sym e ∙ t) in absurd (omega arith)

pub some-look : (ps : List Proc) (ns : List ℕ) (b : Bool) → b ≡ nat_eq (length ns) 0 → b ≡ false → (Q : Proc) × In Q (look ps ns)
some-look ps [] b e f = absurd (true≢false (sym e ∙ f))
some-look ps (k ∷ ns) b e f = (at ps k, here)
