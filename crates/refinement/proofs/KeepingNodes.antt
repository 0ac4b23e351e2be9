-- Nodes that are kept by their sets, and nodes of one more than may be kept.
use Rattle.std.proofs.Common.{◌≡◌, ℕ, ◌+◌, ◌<◌, ◌≤◌, nat_eq, Option, None, Some, Result, Ok, Err, IfErr, OnOk, List, [], ◌∷◌, ◌++◌, length, get_or, map, refl, sym, ap, ◌∙◌, subst, arith, length-append, inl, inr}
use Rattle.std.proofs.lemmas.Bool.{cases_lt}
use Rattle.std.proofs.lemmas.List.{get_or_append_left}
use Rattle.std.proofs.Math.Seq.{get_or-append_seam}
use Rattle.std.specs.Map.{lookup}
use Rattle.indexmap.specs.IndexMap.{IndexMap, Updates}
use Rattle.alphabet.specs.declared.events.Event.TheVariants.{Of as ev}
use Rattle.term.specs.Specs.{Specified}
use Rattle.spaces.specs.Spaces.{Spaced}
use Rattle.refinement.specs.declared.outcome.Fault.{Fault}
use Rattle.refinement.specs.declared.outcome.Fault.TheVariants as fault
use Rattle.refinement.specs.declared.reached.Node.{Node}
use Rattle.refinement.specs.Nodes.{AllTied, AreSoundNodes, HasSet, Is, IsTied, no_node, node_at, node_key}
use Rattle.refinement.specs.Places.{ArePlaced, IsFull}
use Rattle.refinement.specs.Properties.{AreSetsMet, IsUnsettled}
use Rattle.refinement.proofs.NodesGrowing.{nodes-put, tied-more}
use Rattle.refinement.proofs.Placing.{none-placed, place-is, place-none, placed-more, places-differ}

pub none-kept : (ps : List Node) (es : List (ℕ × ℕ)) → ps ≡ [] → ArePlaced node_key no_node ps es
none-kept ps es e = subst (λ (qs : List Node). ArePlaced node_key no_node qs es) (sym e) (none-placed node_key no_node es)

pub none-listed : (ps : List Node) (s : ℕ) → ps ≡ [] → HasSet ps s → ⊥
none-listed ps s e (j, l, q) = absurd (omega (arith, ap length e, l))

module _ (ps : List Node) (es : List (ℕ × ℕ)) (placed : ArePlaced node_key no_node ps es) where
  pub not-listed : (s k : ℕ) → k ≡ s → lookup (nat_eq k) es ≡ None → HasSet ps s → ⊥
  not-listed s k e f (j, l, a) = place-none node_key no_node ps es placed k j f l (a ∙ sym e)

  pub listed-at : (s k i : ℕ) → k ≡ s → lookup (nat_eq k) es ≡ Some i → HasSet ps s → (i < length ps) × ((node_at ps i).set ≡ s)
  listed-at s k i e f (j, l, a) =
      let g : i ≡ j = place-is node_key no_node ps es placed k i j f l (a ∙ sym e) in
      subst (λ (n : ℕ). (n < length ps) × ((node_at ps n).set ≡ s)) (sym g) (l, a)

  module _ (p : Node) (fresh : HasSet ps p.set → ⊥) where
    pub kept-more : {S : Type 0} (m m' : IndexMap ℕ ℕ S) (k n : ℕ) → m.entries ≡ es → k ≡ p.set → n ≡ length ps → Updates nat_eq m m' k (Some n) → ArePlaced node_key no_node (ps ++ p ∷ []) m'.entries
    kept-more {S = S} m m' k n e f g u =
        placed-more node_key no_node ps m m' p (subst (λ (l : List (ℕ × ℕ)). ArePlaced node_key no_node ps l) (sym e) placed) (λ j l q. fresh (j, l, q))
        (subst (λ (i : ℕ). Updates nat_eq m m' p.set (Some i)) g (subst (λ (i : ℕ). Updates nat_eq m m' i (Some n)) f u))

    module _ (T : Spaced) (all : AllTied T ps) (tied : IsTied T ps (length ps) p) where
      abbrev more : List Node
      more = ps ++ p ∷ []

      differ-more : (i j : ℕ) → i < j → j < length more → (node_at more i).set ≡ (node_at more j).set → ⊥
      differ-more i j m l e =
          elim (cases_lt j (length ps)) [
            | inl h ↦
                let a : node_at more i ≡ node_at ps i = get_or_append_left ps (p ∷ []) no_node i (omega (arith, m, h)) in
                let b : node_at more j ≡ node_at ps j = get_or_append_left ps (p ∷ []) no_node j h in
                places-differ node_key no_node ps es placed i j m h (sym (ap (λ (q : Node). q.set) a) ∙ e ∙ ap (λ (q : Node). q.set) b)
            | inr h ↦
                let k : j ≡ length ps = omega (arith, h, l, length-append ps (p ∷ [])) in
                let here : i < length ps = omega (arith, m, k) in
                let a : node_at ps i ≡ node_at more i = sym (get_or_append_left ps (p ∷ []) no_node i here) in
                let b : node_at more j ≡ p = ap (λ (n : ℕ). node_at more n) k ∙ get_or-append_seam ps p [] no_node in
                fresh (i, here, ap (λ (q : Node). q.set) a ∙ e ∙ ap (λ (q : Node). q.set) b)
          ]

      met-more : (most : ℕ) → most ≤ length ps → AreSetsMet T.spec (most + 1)
      met-more most few =
          let longer : length more ≡ length ps + 1 = length-append ps (p ∷ []) in
          record {
            space = T;
            of_spec = refl;
            set = λ i. (node_at more i).set;
            reached = λ i l. let k = tied-more T ps p all tied i (omega (arith, l, few, longer)) in (map ev k.reached.0, k.traced, k.reached.1);
            different = λ i j m l. differ-more i j m (omega (arith, l, few, longer));
          }

      pub unsettled-full : (most : ℕ) (f : Fault) → IsFull (length ps) most f → IsUnsettled most T.spec f
      unsettled-full most (fault.Specification f) h = absurd h
      unsettled-full most (fault.Implementation f) h = absurd h
      unsettled-full most fault.Pairs h = met-more most h
      unsettled-full most fault.Memory h = tt

      pub unsettled-if : {X : Type 0} (r : Result X Fault) (most : ℕ) → IfErr r (IsFull (length ps) most) → IfErr r (IsUnsettled most T.spec)
      unsettled-if (Ok y) most h = tt
      unsettled-if (Err f) most h = unsettled-full most f h

-- ---- the first node
module _ (T : Spaced) (ps : List Node) (es : List (ℕ × ℕ)) (p : Node) (none : ps ≡ []) (b : Is T p []) where
  first-all : AllTied T ps
  first-all i l = absurd (omega (arith, ap length none, l))

  first-tie : IsTied T ps (length ps) p
  first-tie = record { reached = ([], b); traced = (0, refl); comes = inl (ap length none, b) }

  pub first-sound : {X E : Type 0} (r : Result X E) (T' : Spaced) (ps' : List Node) (es' : List (ℕ × ℕ)) (most most' : ℕ) → T' ≡ T → most' ≡ most → OnOk r (ps' ≡ ps ++ p ∷ []) → OnOk r (ArePlaced node_key no_node ps' es') → OnOk r (length ps' ≤ most) → OnOk r (AreSoundNodes T' ps' es' most')
  first-sound r T' ps' es' most most' a m e placed few =
      nodes-put r T T' ps ps' es es' most most' p a m e placed few (record { tied = first-all; placed = none-kept ps es none; few = omega (arith, ap length none) }) first-tie

  pub first-full : {X : Type 0} (r : Result X Fault) (s : Specified) (most : ℕ) → T.spec ≡ s → IfErr r (IsFull (length ps) most) → IfErr r (IsUnsettled most s)
  first-full (Ok y) s most e h = tt
  first-full (Err f) s most e h = subst (λ (w : Specified). IsUnsettled most w f) e (unsettled-full ps es (none-kept ps es none) p (none-listed ps p.set none) T first-all first-tie most f h)
