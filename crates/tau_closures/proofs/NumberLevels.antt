-- Levels of processes by number.
use Rattle.std.proofs.Common.{◌≡◌, ℕ, zero, suc, ◌+◌, ◌<◌, ◌≤◌, ◌⊎◌, ◌↔◌, Bool, IsTrue, List, [], ◌∷◌, ◌++◌, length, take, drop, get_or, refl, sym, ap, ◌∙◌, subst, arith}
use Rattle.std.proofs.lemmas.List.{length-map, length-append, get_or-map, get_or_append_left, map-append, take-append-drop}
use Rattle.alphabet.specs.declared.events.Event.{Event}
use Rattle.alphabet.specs.Channels.{event_count}
use Rattle.term.specs.Traces.{In}
use Rattle.term.specs.Proc.{Proc, stop, bodies_of}
use Rattle.term.specs.Specs.{Specified}
use Rattle.term.specs.Limits.{IsStates, HasDeep, most_states}
use Rattle.targets.specs.declared.labels.Label.{Label}
use Rattle.targets.specs.declared.labels.Label.TheVariants as label
use Rattle.targets.specs.HiddenSets.{SetsBelow}
use Rattle.targets.specs.Labels.{Step}
use Rattle.targets.proofs.Members.{In-append_l}
use Rattle.targets.specs.Cuts.{CutOf}
use Rattle.targets.proofs.Cutting.{cut-to}
use Rattle.nodes.specs.Shapes.{at}
use Rattle.nodes.specs.Looks.{look, AllBelow}
use Rattle.transitions.specs.Numbered.{Numbered, HidesEvents}
use Rattle.tau_closures.specs.Closing.{AllLie, AllShallow, TargetOf, WithHidden}
use Rattle.tau_closures.proofs.Keeping.{event-depth}
use Rattle.tau_closures.proofs.Lists.{In-at}
use Rattle.tau_closures.proofs.Expanding.{IsOnTheWay, cut-put, cut-told, target-more, target-less, way-cut, way-goes-on}
use Rattle.tau_closures.specs.Targets.{HasPutTargets}
use Rattle.targets.proofs.Lying.{lies-small}

pub In-taken : (ps : List Proc) (ns : List ℕ) (n : ℕ) (Q : Proc) → In Q (look ps (take n ns)) → In Q (look ps ns)
In-taken ps ns n Q i =
    subst (In Q) (sym (map-append (at ps) (take n ns) (drop n ns)) ∙ ap (look ps) (take-append-drop n ns)) (In-append_l i (look ps (drop n ns)))

-- ---- the process at a place
pub number-at : (ps : List Proc) (seen : List ℕ) (old next : List Proc) (i n d : ℕ) → look ps seen ≡ old ++ next → i < length old → n ≡ get_or seen i d → at ps n ≡ get_or old i stop
number-at ps seen old next i n d e h f =
    let l : i < length seen = omega (arith, ap length e, length-map seen (at ps), length-append old next) in
    ap (at ps) f ∙ sym (get_or-map (at ps) seen i d stop l) ∙ ap (λ (x : List Proc). get_or x i stop) e ∙ get_or_append_left old next stop i h

pub In-look : (ps : List Proc) (ns : List ℕ) (i : ℕ) → i < length ns → In (at ps (get_or ns i 0)) (look ps ns)
In-look ps ns i h = subst (λ (P : Proc). In P (look ps ns)) (get_or-map (at ps) ns i 0 stop h) (In-at (look ps ns) i stop (omega (arith, length-map ns (at ps))))

-- ---- the numbers from a place on, as a slice gives them
below-drop : (m k : ℕ) (ns : List ℕ) → AllBelow m ns → AllBelow m (drop k ns)
below-drop m zero ns a = a
below-drop m (suc k) [] a = tt
below-drop m (suc k) (n ∷ ns) a = below-drop m k ns a.1

look-drop : (ps : List Proc) (k : ℕ) (ns : List ℕ) → look ps (drop k ns) ≡ drop k (look ps ns)
look-drop ps zero ns = refl
look-drop ps (suc k) [] = refl
look-drop ps (suc k) (n ∷ ns) = look-drop ps k ns

pub tail-below : (m : ℕ) (xs ys : List ℕ) (k : ℕ) → ys ≡ drop k xs → AllBelow m xs → AllBelow m ys
tail-below m xs ys k e a = subst (AllBelow m) (sym e) (below-drop m k xs a)

pub tail-look : (ps : List Proc) (xs ys : List ℕ) (k : ℕ) → ys ≡ drop k xs → look ps ys ≡ drop k (look ps xs)
tail-look ps xs ys k e = ap (look ps) e ∙ look-drop ps k xs

pub deep-tail : (s : Specified) (t : Numbered) (xs ys : List ℕ) (k : ℕ) (b : Bool) → t.bodies ≡ s.bodies → ys ≡ drop k xs → IsTrue b ↔ HasDeep (TargetOf (bodies_of t.bodies) (look t.table.processes ys) label.Tau) → IsTrue b ↔ HasDeep (TargetOf (bodies_of s.bodies) (drop k (look t.table.processes xs)) label.Tau)
deep-tail s t xs ys k b f e d =
    subst (λ (B : List Proc). IsTrue b ↔ HasDeep (TargetOf (bodies_of B) (drop k (look t.table.processes xs)) label.Tau)) f
    (subst (λ (l : List Proc). IsTrue b ↔ HasDeep (TargetOf (bodies_of t.bodies) l label.Tau)) (tail-look t.table.processes xs ys k e) d)

pub place-within : (ps : List Proc) (seen : List ℕ) (old next : List Proc) (i : ℕ) → look ps seen ≡ old ++ next → i < length old → i < length seen
place-within ps seen old next i e h = omega (arith, ap length e, length-map seen (at ps), length-append old next)

pub hides-at : (s : Specified) (t : Numbered) (old : List Proc) (i n : ℕ) → event_count s.alphabet ≤ 256 → AllLie s old → i < length old → at t.table.processes n ≡ get_or old i stop → HidesEvents t n
hides-at s t old i n small lies h e = subst (SetsBelow 256) (sym e) (lies-small (event_count s.alphabet) (length s.bodies) small (get_or old i stop) (lies (get_or old i stop) (In-at old i stop h)))

-- ---- one process more is expanded
module _ (s : Specified) (t : Numbered) (same : t.bodies ≡ s.bodies) where
  put-by : (P : Proc) (l : Label) (old new : List Proc) → HasPutTargets (Step (bodies_of t.bodies) P l) old new → HasPutTargets (Step (bodies_of s.bodies) P l) old new
  put-by P l old new (found, c, p) = (found, subst (λ (B : List Proc). CutOf (Step (bodies_of B) P l) most_states found) same c, p)

  module _ (old : List Proc) (from i n : ℕ) (seen : List ℕ) (new : List Proc) (w : IsOnTheWay (bodies_of s.bodies) old from i (look t.table.processes seen)) (h : from ≤ i) (k : i < length old) (e : at t.table.processes n ≡ get_or old i stop)
      (put : HasPutTargets (Step (bodies_of t.bodies) (at t.table.processes n) label.Tau) (look t.table.processes seen) new) where
    pub level-cut : CutOf (WithHidden (bodies_of s.bodies) old (drop from (take (i + 1) old))) most_states new
    level-cut =
        let (found, c, p) = put-by (at t.table.processes n) label.Tau (look t.table.processes seen) new put in
        way-cut (bodies_of s.bodies) old from i (look t.table.processes seen) w (at t.table.processes n) h k e found new c.only (cut-told (Step (bodies_of s.bodies) (at t.table.processes n) label.Tau) most_states found (look t.table.processes seen) new c p) p

    pub level-goes-on : length new ≤ most_states → IsOnTheWay (bodies_of s.bodies) old from (i + 1) new
    level-goes-on few =
        let (found, c, p) = put-by (at t.table.processes n) label.Tau (look t.table.processes seen) new put in
        way-goes-on (bodies_of s.bodies) old from i (look t.table.processes seen) w (at t.table.processes n) h k e found new c.only (cut-told (Step (bodies_of s.bodies) (at t.table.processes n) label.Tau) most_states found (look t.table.processes seen) new c p) p few

  pub first-put : (ps : List Proc) (P : Proc) (l : Label) (now new : List Proc) → CutOf (TargetOf (bodies_of s.bodies) ps l) most_states now → length now ≤ most_states → HasPutTargets (Step (bodies_of t.bodies) P l) now new → CutOf (TargetOf (bodies_of s.bodies) (ps ++ P ∷ []) l) most_states new
  first-put ps P l now new cut few put =
      let B = bodies_of s.bodies in
      let (found, c, p) = put-by P l now new put in
      cut-to (λ Q. TargetOf B ps l Q ⊎ Step B P l Q) (TargetOf B (ps ++ P ∷ []) l) most_states new (λ Q. (target-more B ps P l Q, target-less B ps P l Q))
      (cut-put (TargetOf B ps l) (Step B P l) most_states found now new cut few c.only (cut-told (Step B P l) most_states found now new c p) p)

-- too many of the event
pub first-many : (B : ℕ → Proc) (ps : List Proc) (ns : List ℕ) (i : ℕ) (x : Event) (now : List Proc) → AllShallow (look ps ns) → CutOf (TargetOf B (look ps (take i ns)) (label.Event x)) most_states now → most_states < length now → IsStates B (TargetOf B (look ps ns) (label.Event x))
first-many B ps ns i x now shallow c h = (
  0,
  (λ (Q, (P, j, d), l). let k = event-depth B P Q x d in let m = shallow P j in omega arith),
  (now, c.once, (λ Q j. let (P, k, d) = c.only Q j in (P, In-taken ps ns i P k, d)), h),
  (λ j k. absurd (omega arith)),
)
