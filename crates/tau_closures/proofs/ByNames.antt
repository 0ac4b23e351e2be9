-- Sets of states and limits, by how names are kept.
use Rattle.std.proofs.Common.{◌≡◌, ◌↔◌, ℕ, Option, None, Some, IfSome, Result, Ok, Err, IfOk, List, [], ◌∷◌, ap, length, sym, ◌∙◌, subst}
use Rattle.alphabet.specs.declared.events.Event.{Event}
use Rattle.std.specs.declared.vec.Vec.{Vec}
use Rattle.term.specs.Meaning.{Trace}
use Rattle.nodes.specs.Looks.{look}
use Rattle.term.specs.Limits.{Advance, NoLimit, Opening, Reach}
use Rattle.term.specs.Proc.{Proc, bodies_of, root}
use Rattle.term.specs.Specs.{Specified}
use Rattle.term.specs.declared.names.Names.{Names}
use Rattle.term.specs.declared.names.Names.TheVariants.{Steps, Bodies}
use Rattle.tau_closures.specs.declared.fault.AfterFault.{AfterFault}
use Rattle.tau_closures.specs.Belonging.{Belongs, MeetsLimit}
use Rattle.unfolding.specs.Kept.{depth_by, unfolding_depth, HasBroadBy, KeptAdvance, KeptAfter, KeptOpening, NoKeptLimit}
use Rattle.unfolding.proofs.Keeping.{kept-nothing}
use Rattle.unfolding.specs.Unfolded.{kept_as}
use Rattle.keeping.specs.Kept.{Keeping}
use Rattle.tau_closures.specs.KeptBelonging.{IsRootAlone, KeptBelongs}
use Rattle.tau_closures.specs.Limits.{OpeningMeets, OpeningMeetsBy, OpeningMeetsNone, OpeningMeetsNoneBy, EventMeets, EventMeetsBy, EventMeetsNone, EventMeetsNoneBy, MeetsKeptLimit}

-- ---- replaced at 0, all is what is reached
plain-after : (B : ℕ → Proc) (u : List Event) (Q : Proc) → Reach B root u Q → KeptAfter B 0 root u Q
plain-after B u Q r = (Q, r, sym (kept-nothing B Q))

after-plain : (B : ℕ → Proc) (u : List Event) (Q : Proc) → KeptAfter B 0 root u Q → Reach B root u Q
after-plain B u Q (P, r, e) = subst (λ p. Reach B root u p) (sym (e ∙ kept-nothing B P)) r

belongs-at-0 : (s : Specified) (qs : List Proc) (u : List Event) → KeptBelongs s 0 qs u ↔ Belongs s qs u
belongs-at-0 s qs u = (
  (λ b Q. ((λ i. after-plain (bodies_of s.bodies) u Q ((b Q).0 i)), (λ r. (b Q).1 (plain-after (bodies_of s.bodies) u Q r)))),
  (λ b Q. ((λ i. plain-after (bodies_of s.bodies) u Q ((b Q).0 i)), (λ r. (b Q).1 (after-plain (bodies_of s.bodies) u Q r)))),
)

-- the root alone is its name
pub root-plain : (s : Keeping) (ps : List Proc) → s.deep ≡ 0 → IsRootAlone s ps → ps ≡ root ∷ []
root-plain s ps d e = e ∙ ap (λ (n : ℕ). kept_as (bodies_of s.all.bodies) n root ∷ []) d

-- ---- names stay names
module _ (s : Specified) (e : s.names ≡ Steps) where
  pub plain-depth : unfolding_depth s ≡ 0
  plain-depth = ap (λ (m : Names). depth_by m (length s.bodies)) e

  pub plain-belongs : (qs : List Proc) (u : List Event) → KeptBelongs s (unfolding_depth s) qs u ↔ Belongs s qs u
  plain-belongs qs u = subst (λ (n : ℕ). KeptBelongs s n qs u ↔ Belongs s qs u) (sym plain-depth) (belongs-at-0 s qs u)

  pub plain-opening : (f : AfterFault) → MeetsLimit (bodies_of s.bodies) Opening f → OpeningMeets s f
  plain-opening f m = subst (λ (k : Names). OpeningMeetsBy k (bodies_of s.bodies) (unfolding_depth s) f) (sym e) m

  pub plain-event : (u : List Event) (x : Event) (f : AfterFault) → MeetsLimit (bodies_of s.bodies) (Advance (bodies_of s.bodies) u x) f → EventMeets s u x f
  plain-event u x f m = subst (λ (k : Names). EventMeetsBy k (bodies_of s.bodies) (unfolding_depth s) u x f) (sym e) m

  pub plain-opening-none : NoLimit (bodies_of s.bodies) Opening → OpeningMeetsNone s
  plain-opening-none m = subst (λ (k : Names). OpeningMeetsNoneBy k (bodies_of s.bodies) (unfolding_depth s)) (sym e) m

  pub plain-event-none : (u : List Event) (x : Event) → NoLimit (bodies_of s.bodies) (Advance (bodies_of s.bodies) u x) → EventMeetsNone s u x
  plain-event-none u x m = subst (λ (k : Names). EventMeetsNoneBy k (bodies_of s.bodies) (unfolding_depth s) u x) (sym e) m

  -- what comes of a set
  pub next-plain : {A : Type 0} {E : Type 0} (ps : List Proc) (v : List Event) (r : Result (Option (Vec ℕ A)) E) → IfOk r (λ next. IfSome next (λ found. Trace (bodies_of s.bodies) root v × Belongs s (look ps found.items) v))
      → IfOk r (λ next. IfSome next (λ found. Trace (bodies_of s.bodies) root v × KeptBelongs s (unfolding_depth s) (look ps found.items) v))
  next-plain ps v (Err f) h = tt
  next-plain ps v (Ok None) h = tt
  next-plain ps v (Ok (Some found)) h = (h.0, (plain-belongs (look ps found.items) v).1 h.1)

-- ---- as deep as the specification says
module _ (s : Specified) (n : ℕ) (d : n ≡ unfolding_depth s) where
  pub kept-back : (qs : List Proc) (u : List Event) → KeptBelongs s (unfolding_depth s) qs u → KeptBelongs s n qs u
  kept-back qs u b = subst (λ (j : ℕ). KeptBelongs s j qs u) (sym d) b

  pub next-kept : {A : Type 0} {E : Type 0} (ps : List Proc) (v : List Event) (r : Result (Option (Vec ℕ A)) E) → IfOk r (λ next. IfSome next (λ found. Trace (bodies_of s.bodies) root v × KeptBelongs s n (look ps found.items) v))
      → IfOk r (λ next. IfSome next (λ found. Trace (bodies_of s.bodies) root v × KeptBelongs s (unfolding_depth s) (look ps found.items) v))
  next-kept ps v r h = subst (λ (j : ℕ). IfOk r (λ next. IfSome next (λ found. Trace (bodies_of s.bodies) root v × KeptBelongs s j (look ps found.items) v))) d h

-- ---- names are kept as their bodies
module _ (s : Specified) (n : ℕ) (d : n ≡ unfolding_depth s) (e : s.names ≡ Bodies) where
  pub kept-opening : (f : AfterFault) → MeetsKeptLimit (bodies_of s.bodies) n (KeptOpening (bodies_of s.bodies) n) ⊥ f → OpeningMeets s f
  kept-opening f m =
      subst (λ (k : Names). OpeningMeetsBy k (bodies_of s.bodies) (unfolding_depth s) f) (sym e)
      (subst (λ (j : ℕ). MeetsKeptLimit (bodies_of s.bodies) j (KeptOpening (bodies_of s.bodies) j) ⊥ f) d m)

  pub kept-event : (u : List Event) (x : Event) (f : AfterFault) → MeetsKeptLimit (bodies_of s.bodies) n (KeptAdvance (bodies_of s.bodies) n u x) (HasBroadBy (KeptAfter (bodies_of s.bodies) n root u) x) f → EventMeets s u x f
  kept-event u x f m =
      subst (λ (k : Names). EventMeetsBy k (bodies_of s.bodies) (unfolding_depth s) u x f) (sym e)
      (subst (λ (j : ℕ). MeetsKeptLimit (bodies_of s.bodies) j (KeptAdvance (bodies_of s.bodies) j u x) (HasBroadBy (KeptAfter (bodies_of s.bodies) j root u) x) f) d m)

  pub kept-opening-none : NoKeptLimit (bodies_of s.bodies) n (KeptOpening (bodies_of s.bodies) n) ⊥ → OpeningMeetsNone s
  kept-opening-none m =
      subst (λ (k : Names). OpeningMeetsNoneBy k (bodies_of s.bodies) (unfolding_depth s)) (sym e)
      (subst (λ (j : ℕ). NoKeptLimit (bodies_of s.bodies) j (KeptOpening (bodies_of s.bodies) j) ⊥) d m)

  pub kept-event-none : (u : List Event) (x : Event) → NoKeptLimit (bodies_of s.bodies) n (KeptAdvance (bodies_of s.bodies) n u x) (HasBroadBy (KeptAfter (bodies_of s.bodies) n root u) x) → EventMeetsNone s u x
  kept-event-none u x m =
      subst (λ (k : Names). EventMeetsNoneBy k (bodies_of s.bodies) (unfolding_depth s) u x) (sym e)
      (subst (λ (j : ℕ). NoKeptLimit (bodies_of s.bodies) j (KeptAdvance (bodies_of s.bodies) j u x) (HasBroadBy (KeptAfter (bodies_of s.bodies) j root u) x)) d m)
