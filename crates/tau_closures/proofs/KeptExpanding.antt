-- The list of the next level of kept processes, on the way.
use Rattle.std.proofs.Common.{◌≡◌, ℕ, ◌+◌, ◌<◌, ◌≤◌, inl, inr, List, [], ◌∷◌, ◌++◌, length, map, take, drop, get_or, refl, sym, ap, ◌∙◌, subst, arith}
use Rattle.std.proofs.Math.Seq.{drop-append_seam}
use Rattle.std.proofs.lemmas.List.{append-nil, append_assoc, take_all}
use Rattle.term.specs.Traces.{In, here, there}
use Rattle.term.specs.Proc.{Proc, stop, bodies_of}
use Rattle.term.specs.Steps.{Hid}
use Rattle.term.specs.Sizes.{depth}
use Rattle.term.specs.Specs.{Specified, IsProcessOf, IsClosed}
use Rattle.term.specs.Limits.{Terms, Distinct, HasDeep, HasMany, deepest_state, most_states}
use Rattle.term.proofs.Closed.{processes-stay}
use Rattle.targets.specs.declared.labels.Label.{Label}
use Rattle.targets.specs.declared.labels.Label.TheVariants as label
use Rattle.targets.specs.Labels.{Step}
use Rattle.targets.proofs.Members.{append-In, In-append_l, In-append_r}
use Rattle.targets.specs.Cuts.{CutOf}
use Rattle.targets.proofs.Cutting.{no-longer, only as one-In}
use Rattle.tau_closures.specs.declared.fault.AfterFault.{AfterFault}
use Rattle.tau_closures.specs.declared.fault.AfterFault.TheVariants.{Depth, States, Memory}
use Rattle.tau_closures.specs.Closing.{AllLie, AllShallow, HasPut}
use Rattle.tau_closures.proofs.Lists.{none-In, In-part, part-more, part-none}
use Rattle.tau_closures.proofs.Keeping.{step-lies}
use Rattle.unfolding.specs.Unfolded.{kept_as}
use Rattle.unfolding.specs.Kept.{KeptHid}
use Rattle.unfolding.proofs.Simulating.{kept-run}
use Rattle.tau_closures.specs.Kept.{WithKept, AreBroad, HasPutAll, KeptStep, KeptGrows, IsBroadFault, IsKeptStuck}

-- ---- what is kept of a list
In-map-kept : (K : Proc → Proc) (ps : List Proc) (R : Proc) → In R ps → In (K R) (map K ps)
In-map-kept K [] R i = elim i [ ]
In-map-kept K (P ∷ ps) R here = here
In-map-kept K (P ∷ ps) R (there i) = there (In-map-kept K ps R i)

map-kept-In : (K : Proc → Proc) (ps : List Proc) (Q : Proc) → In Q (map K ps) → (R : Proc) × In R ps × (Q ≡ K R)
map-kept-In K [] Q i = absurd (none-In i refl)
map-kept-In K (P ∷ ps) Q here = (P, here, refl)
map-kept-In K (P ∷ ps) Q (there i) = let (R, j, e) = map-kept-In K ps Q i in (R, there j, e)

-- a list that is no longer than the bound has all, and there aren't too many
cut-few : (S : Terms) (l : List Proc) → CutOf S most_states l → length l ≤ most_states → (Q : Proc) → S Q → In Q l
cut-few S l c few = elim c.all [ inl h ↦ absurd (omega arith) | inr all ↦ all ]

pub cut-narrow : (S : Terms) (l : List Proc) → CutOf S most_states l → length l ≤ most_states → HasMany S → ⊥
cut-narrow S l c few (ps, d, m, h) = let k = no-longer ps l d (λ Q i. cut-few S l c few Q (m Q i)) in omega arith

pub cut-many : (S : Terms) (l : List Proc) → CutOf S most_states l → most_states < length l → HasMany S
cut-many S l c h = (l, c.once, c.only, h)

-- the kept targets of one process are put
pub put-kept : (B : ℕ → Proc) (n : ℕ) (l : Label) (P : Proc) (raw old new : List Proc) → CutOf (Step B P l) most_states raw → length raw ≤ most_states → HasPut (map (kept_as B n) raw) old new → HasPutAll (KeptStep B n l P) old new
put-kept B n l P raw old new c few p =
    (map (kept_as B n) raw, (λ Q. (to Q, fro Q)), p)
  where
    to : (Q : Proc) → In Q (map (kept_as B n) raw) → KeptStep B n l P Q
    to Q i = let (R, j, e) = map-kept-In (kept_as B n) raw Q i in (R, c.only R j, e)

    fro : (Q : Proc) → KeptStep B n l P Q → In Q (map (kept_as B n) raw)
    fro Q (R, d, e) = subst (λ q. In q (map (kept_as B n) raw)) (sym e) (In-map-kept (kept_as B n) raw R (cut-few (Step B P l) raw c few R d))

-- what is kept of a process of a specification is one of its processes
pub kept-lies : (s : Specified) → IsClosed s → (n : ℕ) (P : Proc) → IsProcessOf s P → IsProcessOf s (kept_as (bodies_of s.bodies) n P)
kept-lies s c n P l = processes-stay s P (kept_as (bodies_of s.bodies) n P) [] c l (kept-run (bodies_of s.bodies) n P)

pub grows-lies : (s : Specified) → IsClosed s → (n : ℕ) (fresh old new : List Proc) → KeptGrows (bodies_of s.bodies) n fresh old new → ((Q : Proc) → In Q fresh → In Q old) → AllLie s old → AllLie s new
grows-lies s c n fresh old new g within lies Q i =
    elim (g.only Q i) [
      | inl j ↦ lies Q j
      | inr (P, j, (R, d, e)) ↦ subst (IsProcessOf s) (sym e) (kept-lies s c n R (step-lies s c P R label.Tau d (lies P (within P j))))
    ]

module _ (B : ℕ → Proc) (n : ℕ) where
  -- the targets of the processes between `from` and `to` come after the old ones
  pub record IsKeptOnTheWay (old : List Proc) (from to : ℕ) (now : List Proc) : Type 0 where
    pub more : (next : List Proc) × (now ≡ old ++ next)
    pub few : length now ≤ most_states
    pub once : Distinct old → Distinct now
    pub only : (Q : Proc) → In Q now → WithKept B n old (drop from (take to old)) Q
    pub all : (Q : Proc) → WithKept B n old (drop from (take to old)) Q → In Q now
    pub narrow : AreBroad B (drop from (take to old)) → ⊥

  pub kept-way-begins : (old : List Proc) (from : ℕ) → length old ≤ most_states → IsKeptOnTheWay old from from old
  kept-way-begins old from few =
      record {
        more = ([], sym (append-nil old));
        few = few;
        once = λ d. d;
        only = λ Q i. inl i;
        all = λ Q x. elim x [ inl i ↦ i | inr (P, i, d) ↦ absurd (none-In i (part-none from old)) ];
        narrow = λ (P, i, m). none-In i (part-none from old);
      }

  module _ (old : List Proc) (from i : ℕ) (now : List Proc) (w : IsKeptOnTheWay old from i now) (P : Proc) (h : from ≤ i) (k : i < length old) (e : P ≡ get_or old i stop)
      (new : List Proc) (p : HasPutAll (KeptHid B n P) now new) (thin : HasMany (Hid B P) → ⊥) where
    part : drop from (take (i + 1) old) ≡ drop from (take i old) ++ P ∷ []
    part = part-more from i old stop h k ∙ ap (λ R. drop from (take i old) ++ R ∷ []) (sym e)

    only-more : (Q : Proc) → In Q new → WithKept B n old (drop from (take i old) ++ P ∷ []) Q
    only-more Q j =
        elim (p.2.only Q j) [
          | inl a ↦ elim (w.only Q a) [
            | inl b ↦ inl b
            | inr (R, b, d) ↦ inr (R, In-append_l b (P ∷ []), d)
          ]
          | inr a ↦ inr (P, In-append_r (drop from (take i old)) here, (p.1 Q).0 a)
        ]

    all-more : (Q : Proc) → WithKept B n old (drop from (take i old) ++ P ∷ []) Q → In Q new
    all-more Q x =
        elim x [
          | inl a ↦ was Q (w.all Q (inl a))
          | inr (R, a, d) ↦ elim (append-In (drop from (take i old)) (P ∷ []) R a) [
            | inl b ↦ was Q (w.all Q (inr (R, b, d)))
            | inr b ↦ p.2.all Q ((p.1 Q).1 (subst (λ v. KeptHid B n v Q) (one-In b refl) d))
          ]
        ]
      where
        was : (Q : Proc) → In Q now → In Q new
        was Q j = subst (λ l. In Q l) (sym p.2.more.1) (In-append_l j p.2.more.0)

    narrow-more : AreBroad B (drop from (take i old) ++ P ∷ []) → ⊥
    narrow-more (R, a, m) =
        elim (append-In (drop from (take i old)) (P ∷ []) R a) [
          | inl b ↦ w.narrow (R, b, m)
          | inr b ↦ thin (subst (λ v. HasMany (Hid B v)) (one-In b refl) m)
        ]

    pub kept-way-on : length new ≤ most_states → IsKeptOnTheWay old from (i + 1) new
    kept-way-on few =
        record {
          more = (w.more.0 ++ p.2.more.0, p.2.more.1 ∙ ap (λ l. l ++ p.2.more.0) w.more.1 ∙ append_assoc old w.more.0 p.2.more.0);
          few = few;
          once = λ d. p.2.once (w.once d);
          only = λ Q j. subst (λ l. WithKept B n old l Q) (sym part) (only-more Q j);
          all = λ Q x. all-more Q (subst (λ l. WithKept B n old l Q) part x);
          narrow = λ x. narrow-more (subst (λ l. AreBroad B l) part x);
        }

    -- the list is too long already
    pub kept-way-many : Distinct old → most_states < length new → HasMany (WithKept B n old (drop from old))
    kept-way-many d l = (new, p.2.once (w.once d), (λ Q j. wider Q (subst (λ v. WithKept B n old v Q) (sym part) (only-more Q j))), l)
      where
        wider : (Q : Proc) → WithKept B n old (drop from (take (i + 1) old)) Q → WithKept B n old (drop from old) Q
        wider Q (inl j) = inl j
        wider Q (inr (R, j, x)) = inr (R, In-part from (i + 1) old R j, x)

  -- all are expanded
  pub kept-way-ends : (old : List Proc) (from to : ℕ) (now : List Proc) → IsKeptOnTheWay old from to now → length old ≤ to → AllShallow now → KeptGrows B n (drop from old) old now
  kept-way-ends old from to now w h shallow =
      let e = take_all to old h in
      record {
        more = w.more;
        narrow = subst (λ l. AreBroad B (drop from l) → ⊥) e w.narrow;
        shallow = shallow;
        few = w.few;
        once = w.once;
        only = λ Q i. subst (λ l. WithKept B n old (drop from l) Q) e (w.only Q i);
        all = λ Q x. w.all Q (subst (λ l. WithKept B n old (drop from l) Q) (sym e) x);
      }

  -- why there is no next level
  pub kept-way-deep : (old : List Proc) (from to : ℕ) (now : List Proc) → IsKeptOnTheWay old from to now → length old ≤ to → HasDeep (λ Q. In Q now) → HasDeep (WithKept B n old (drop from old)) × (HasMany (WithKept B n old (drop from old)) → ⊥) × (AreBroad B (drop from old) → ⊥)
  kept-way-deep old from to now w h (Q, i, l) =
      let e = take_all to old h in (
        (Q, subst (λ v. WithKept B n old (drop from v) Q) e (w.only Q i), l),
        (λ (qs, d, m, x). let k = no-longer qs now d (λ R j. w.all R (subst (λ v. WithKept B n old (drop from v) R) (sym e) (m R j))) in let f = w.few in omega arith),
        subst (λ v. AreBroad B (drop from v) → ⊥) e w.narrow,
      )

  -- a fault at one of the processes is why there is no next level
  pub broad-stuck : (old fresh : List Proc) (P : Proc) → In P fresh → (e : AfterFault) → IsBroadFault (Hid B P) e → IsKeptStuck B n fresh old e
  broad-stuck old fresh P i Depth f = absurd f
  broad-stuck old fresh P i States m = inr (P, i, m)
  broad-stuck old fresh P i Memory f = tt

  broad-by : (P : Proc) → {Q : Proc} → Q ≡ P → (e : AfterFault) → IsBroadFault (Hid B Q) e → IsBroadFault (Hid B P) e
  broad-by P q e f = subst (λ (R : Proc). IsBroadFault (Hid B R) e) q f

-- where none is too deep
pub not-deep-shallow : (now : List Proc) → (HasDeep (λ Q. In Q now) → ⊥) → AllShallow now
not-deep-shallow now h Q i = let n : deepest_state < depth Q → ⊥ = λ l. h (Q, i, l) in omega arith

pub rest-shallow : (old now : List Proc) (m : ℕ) → ((next : List Proc) × (now ≡ old ++ next)) → m ≡ length old → AllShallow old → (HasDeep (λ Q. In Q (drop m now)) → ⊥) → AllShallow now
rest-shallow old now m (next, e) f s h Q i =
    elim (append-In old next Q (subst (λ l. In Q l) e i)) [
      | inl j ↦ s Q j
      | inr j ↦ not-deep-shallow (drop m now) h Q (subst (λ l. In Q l) (sym (ap (λ l. drop m l) e ∙ ap (λ k. drop k (old ++ next)) f ∙ drop-append_seam old next)) j)
    ]

-- the process at a place from another on
pub In-rest : (old : List Proc) (from i : ℕ) → from ≤ i → i < length old → In (get_or old i stop) (drop from old)
In-rest old from i h k =
    In-part from (i + 1) old (get_or old i stop)
    (subst (λ l. In (get_or old i stop) l) (sym (part-more from i old stop h k)) (In-append_r (drop from (take i old)) here))
