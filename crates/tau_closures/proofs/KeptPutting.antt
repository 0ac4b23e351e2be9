-- Kept targets by number.
use Rattle.std.proofs.Common.{◌≡◌, ℕ, ◌<◌, ◌≤◌, ◌∙◌, List, length, map, get_or, sym, subst, ap, arith}
use Rattle.std.proofs.lemmas.List.{length-map}
use Rattle.term.specs.Limits.{HasMany, most_states}
use Rattle.term.specs.Proc.{Proc, stop, bodies_of}
use Rattle.term.specs.Specs.{Specified}
use Rattle.targets.specs.declared.labels.Label.{Label}
use Rattle.targets.specs.declared.labels.Label.TheVariants as label
use Rattle.targets.specs.Labels.{Step}
use Rattle.targets.specs.Cuts.{CutOf}
use Rattle.nodes.specs.Shapes.{at}
use Rattle.nodes.specs.Looks.{look, AllBelow}
use Rattle.nodes.proofs.Looking.{below-grown, look-grown}
use Rattle.transitions.specs.Numbered.{AreTargets}
use Rattle.transitions.proofs.Keeping.{at-kept}
use Rattle.unfolding.specs.Unfolded.{kept_as}
use Rattle.unfolding.specs.Kept.{KeptHid}
use Rattle.keeping.specs.Kept.{Keeping, StaysKept}
use Rattle.tau_closures.specs.declared.fault.AfterFault.{AfterFault}
use Rattle.tau_closures.specs.Closing.{HasPut}
use Rattle.tau_closures.specs.Kept.{HasPutAll, IsBroadFault, KeptStep}
use Rattle.tau_closures.proofs.KeptExpanding.{put-kept, cut-narrow}

module _ (s m u : Keeping) (k : StaysKept s m) (j : StaysKept m u) (n : ℕ) (l : Label) (raw kept into new : List ℕ) (h : n < length s.all.table.processes)
    (t : AreTargets m.all n l raw) (few : length raw ≤ most_states) where
  cut-here : CutOf (Step (bodies_of s.all.bodies) (at s.all.table.processes n) l) most_states (look m.all.table.processes raw)
  cut-here =
      subst (λ (P : Proc). CutOf (Step (bodies_of s.all.bodies) P l) most_states (look m.all.table.processes raw)) (at-kept s.all m.all k.all n h)
      (subst (λ (bs : List Proc). CutOf (Step (bodies_of bs) (at m.all.table.processes n) l) most_states (look m.all.table.processes raw)) k.all.bodies t.cut)

  few-here : length (look m.all.table.processes raw) ≤ most_states
  few-here = omega (arith, few, length-map raw (at m.all.table.processes))

  pub narrow-here : HasMany (Step (bodies_of s.all.bodies) (at s.all.table.processes n) l) → ⊥
  narrow-here = cut-narrow (Step (bodies_of s.all.bodies) (at s.all.table.processes n) l) (look m.all.table.processes raw) cut-here few-here

  pub put-here : look u.all.table.processes kept ≡ map (kept_as (bodies_of m.all.bodies) m.deep) (look m.all.table.processes raw) → AllBelow (length s.all.table.processes) into
      → HasPut (look u.all.table.processes kept) (look u.all.table.processes into) (look u.all.table.processes new)
      → HasPutAll (KeptStep (bodies_of s.all.bodies) s.deep l (at s.all.table.processes n)) (look s.all.table.processes into) (look u.all.table.processes new)
  put-here e a p =
      let ms = look m.all.table.processes raw in
      let kept-is : look u.all.table.processes kept ≡ map (kept_as (bodies_of s.all.bodies) s.deep) ms =
      e ∙ ap (λ (bs : List Proc). map (kept_as (bodies_of bs) m.deep) ms) k.all.bodies ∙ ap (λ (d : ℕ). map (kept_as (bodies_of s.all.bodies) d) ms) k.deep in
      let into-is : look u.all.table.processes into ≡ look s.all.table.processes into =
      look-grown m.all.table u.all.table j.all.table into (below-grown s.all.table m.all.table k.all.table into a) ∙ look-grown s.all.table m.all.table k.all.table into a in
      put-kept (bodies_of s.all.bodies) s.deep l (at s.all.table.processes n) ms (look s.all.table.processes into) (look u.all.table.processes new) cut-here few-here
      (subst (λ (x : List Proc). HasPut x (look s.all.table.processes into) (look u.all.table.processes new)) kept-is
      (subst (λ (x : List Proc). HasPut (look u.all.table.processes kept) x (look u.all.table.processes new)) into-is p))

-- what was put by hidden steps of a process, under the names of what there was
module _ (spec : Specified) (s l : Keeping) (b : s.all.bodies ≡ spec.bodies) (k : StaysKept s l) (old : List Proc) (i n : ℕ) (e : at l.all.table.processes n ≡ get_or old i stop) (now new : List Proc) where
  pub put-hidden : HasPutAll (KeptStep (bodies_of l.all.bodies) l.deep label.Tau (at l.all.table.processes n)) now new → HasPutAll (KeptHid (bodies_of spec.bodies) s.deep (get_or old i stop)) now new
  put-hidden p =
      subst (λ (P : Proc). HasPutAll (KeptStep (bodies_of spec.bodies) s.deep label.Tau P) now new) e
      (subst (λ (d : ℕ). HasPutAll (KeptStep (bodies_of spec.bodies) d label.Tau (at l.all.table.processes n)) now new) k.deep
      (subst (λ (bs : List Proc). HasPutAll (KeptStep (bodies_of bs) l.deep label.Tau (at l.all.table.processes n)) now new) (k.all.bodies ∙ b) p))

  pub many-hidden : HasMany (Step (bodies_of l.all.bodies) (at l.all.table.processes n) label.Tau) → HasMany (Step (bodies_of spec.bodies) (get_or old i stop) label.Tau)
  many-hidden p =
      subst (λ (P : Proc). HasMany (Step (bodies_of spec.bodies) P label.Tau)) e
      (subst (λ (bs : List Proc). HasMany (Step (bodies_of bs) (at l.all.table.processes n) label.Tau)) (k.all.bodies ∙ b) p)

  pub few-hidden : (HasMany (Step (bodies_of l.all.bodies) (at l.all.table.processes n) label.Tau) → ⊥) → HasMany (Step (bodies_of spec.bodies) (get_or old i stop) label.Tau) → ⊥
  few-hidden f p =
      f (subst (λ (P : Proc). HasMany (Step (bodies_of l.all.bodies) P label.Tau)) (sym e)
      (subst (λ (bs : List Proc). HasMany (Step (bodies_of bs) (get_or old i stop) label.Tau)) (sym (k.all.bodies ∙ b)) p))

  pub fault-hidden : (f : AfterFault) → IsBroadFault (Step (bodies_of l.all.bodies) (at l.all.table.processes n) label.Tau) f → IsBroadFault (Step (bodies_of spec.bodies) (get_or old i stop) label.Tau) f
  fault-hidden f p =
      subst (λ (P : Proc). IsBroadFault (Step (bodies_of spec.bodies) P label.Tau) f) e
      (subst (λ (bs : List Proc). IsBroadFault (Step (bodies_of bs) (at l.all.table.processes n) label.Tau) f) (k.all.bodies ∙ b) p)

-- the same by any label
module _ (spec : Specified) (s l : Keeping) (b : s.all.bodies ≡ spec.bodies) (k : StaysKept s l) (x : Label) (P : Proc) (n : ℕ) (e : at l.all.table.processes n ≡ P) where
  pub put-by : (now new : List Proc) → HasPutAll (KeptStep (bodies_of l.all.bodies) l.deep x (at l.all.table.processes n)) now new → HasPutAll (KeptStep (bodies_of spec.bodies) s.deep x P) now new
  put-by now new p =
      subst (λ (R : Proc). HasPutAll (KeptStep (bodies_of spec.bodies) s.deep x R) now new) e
      (subst (λ (d : ℕ). HasPutAll (KeptStep (bodies_of spec.bodies) d x (at l.all.table.processes n)) now new) k.deep
      (subst (λ (bs : List Proc). HasPutAll (KeptStep (bodies_of bs) l.deep x (at l.all.table.processes n)) now new) (k.all.bodies ∙ b) p))

  pub few-by : (HasMany (Step (bodies_of l.all.bodies) (at l.all.table.processes n) x) → ⊥) → HasMany (Step (bodies_of spec.bodies) P x) → ⊥
  few-by f p =
      f (subst (λ (R : Proc). HasMany (Step (bodies_of l.all.bodies) R x)) (sym e)
      (subst (λ (bs : List Proc). HasMany (Step (bodies_of bs) P x)) (sym (k.all.bodies ∙ b)) p))

  pub fault-by : (f : AfterFault) → IsBroadFault (Step (bodies_of l.all.bodies) (at l.all.table.processes n) x) f → IsBroadFault (Step (bodies_of spec.bodies) P x) f
  fault-by f p =
      subst (λ (R : Proc). IsBroadFault (Step (bodies_of spec.bodies) R x) f) e
      (subst (λ (bs : List Proc). IsBroadFault (Step (bodies_of bs) (at l.all.table.processes n) x) f) (k.all.bodies ∙ b) p)
