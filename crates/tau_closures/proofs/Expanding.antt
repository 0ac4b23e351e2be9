-- One term's targets more.
use Rattle.std.proofs.Common.{◌≡◌, ℕ, zero, suc, ◌+◌, ◌<◌, ◌≤◌, ◌⊎◌, inl, inr, List, [], ◌∷◌, ◌++◌, length, take, drop, get_or, refl, sym, ap, ◌∙◌, subst, arith}
use Rattle.std.proofs.lemmas.List.{append_assoc, append-nil, take_all}
use Rattle.term.specs.Traces.{In, here, there}
use Rattle.term.specs.Proc.{Proc, stop}
use Rattle.term.specs.Limits.{Terms, Distinct, HasDeep, HasMany, most_states}
use Rattle.targets.specs.declared.labels.Label.{Label}
use Rattle.targets.specs.declared.labels.Label.TheVariants as label
use Rattle.targets.specs.Labels.{Step}
use Rattle.targets.proofs.Members.{append-In, In-append_l, In-append_r}
use Rattle.targets.specs.Cuts.{CutOf}
use Rattle.tau_closures.specs.Closing.{TargetOf, WithHidden, Grows, HasPut}
use Rattle.targets.proofs.Cutting.{cut-to, no-longer, only as one-In}
use Rattle.tau_closures.proofs.Lists.{In-part, part-more, part-none}
use Rattle.tau_closures.proofs.Levels.{cut-all}

below : (n d : ℕ) → (n < d) ⊎ (d ≤ n)
below n zero = inr (omega arith)
below zero (suc d) = inl (omega arith)
below (suc n) (suc d) = elim (below n d) [ inl h ↦ inl (omega arith) | inr h ↦ inr (omega arith) ]

-- what was put after a cut makes it a cut of more
pub cut-put : (S M : Terms) (most : ℕ) (found old new : List Proc) → CutOf S most old → length old ≤ most → ((Q : Proc) → In Q found → M Q) → (length new ≤ most → (Q : Proc) → M Q → In Q found) → HasPut found old new → CutOf (λ Q. S Q ⊎ M Q) most new
cut-put S M most found old new c few only all p =
    record {
      once = p.once c.once;
      only = λ Q i. elim (p.only Q i) [ inl j ↦ inl (c.only Q j) | inr j ↦ inr (only Q j) ];
      all = elim (below most (length new)) [
        | inl h ↦ inl h
        | inr h ↦ inr (λ Q t. elim t [ inl s ↦ kept Q (cut-all S most old c few Q s) | inr m ↦ p.all Q (all h Q m) ])
      ];
    }
  where
    kept : (Q : Proc) → In Q old → In Q new
    kept Q i = subst (λ l. In Q l) (sym p.more.1) (In-append_l i p.more.0)

module _ (B : ℕ → Proc) where
  -- the targets of one process more
  pub target-more : (ps : List Proc) (P : Proc) (l : Label) (Q : Proc) → TargetOf B ps l Q ⊎ Step B P l Q → TargetOf B (ps ++ P ∷ []) l Q
  target-more ps P l Q (inl (R, i, d)) = (R, In-append_l i (P ∷ []), d)
  target-more ps P l Q (inr d) = (P, In-append_r ps here, d)

  pub target-less : (ps : List Proc) (P : Proc) (l : Label) (Q : Proc) → TargetOf B (ps ++ P ∷ []) l Q → TargetOf B ps l Q ⊎ Step B P l Q
  target-less ps P l Q (R, i, d) =
      elim (append-In ps (P ∷ []) R i) [
        | inl j ↦ inl (R, j, d)
        | inr j ↦ inr (subst (λ p. Step B p l Q) (one-In j refl) d)
      ]

  -- the level's list on the way: the targets of the processes between `from` and `to` come after the old ones
  pub record IsOnTheWay (old : List Proc) (from to : ℕ) (now : List Proc) : Type 0 where
    pub more : (next : List Proc) × (now ≡ old ++ next)
    pub few : length now ≤ most_states
    pub cut : CutOf (WithHidden B old (drop from (take to old))) most_states now

  pub way-begins : (old : List Proc) (from : ℕ) → Distinct old → length old ≤ most_states → IsOnTheWay old from from old
  way-begins old from d few =
      record {
        more = ([], sym (append-nil old));
        few = few;
        cut = record {
          once = d;
          only = λ Q i. inl i;
          all = inr all;
        };
      }
    where
      nowhere : (ps : List Proc) (Q : Proc) → ps ≡ [] → TargetOf B ps label.Tau Q → In Q old
      nowhere ps Q e (P, i, h) = absurd (none i e)
        where
          none : {R : Proc} {qs : List Proc} → In R qs → qs ≡ [] → ⊥
          none here e = cc
          none (there i) e = cc

      all : (Q : Proc) → WithHidden B old (drop from (take from old)) Q → In Q old
      all Q (inl i) = i
      all Q (inr t) = nowhere (drop from (take from old)) Q (part-none from old) t

  module _ (old : List Proc) (from i : ℕ) (now : List Proc) (w : IsOnTheWay old from i now) (P : Proc) (h : from ≤ i) (k : i < length old) (e : P ≡ get_or old i stop) (found new : List Proc)
      (only : (Q : Proc) → In Q found → Step B P label.Tau Q) (all : length new ≤ most_states → (Q : Proc) → Step B P label.Tau Q → In Q found) (p : HasPut found now new) where
    part : drop from (take (i + 1) old) ≡ drop from (take i old) ++ P ∷ []
    part = part-more from i old stop h k ∙ ap (λ R. drop from (take i old) ++ R ∷ []) (sym e)

    to : (Q : Proc) → WithHidden B old (drop from (take i old)) Q ⊎ Step B P label.Tau Q → WithHidden B old (drop from (take i old) ++ P ∷ []) Q
    to Q (inl (inl j)) = inl j
    to Q (inl (inr t)) = inr (target-more (drop from (take i old)) P label.Tau Q (inl t))
    to Q (inr d) = inr (target-more (drop from (take i old)) P label.Tau Q (inr d))

    fro : (Q : Proc) → WithHidden B old (drop from (take i old) ++ P ∷ []) Q → WithHidden B old (drop from (take i old)) Q ⊎ Step B P label.Tau Q
    fro Q (inl j) = inl (inl j)
    fro Q (inr t) = elim (target-less (drop from (take i old)) P label.Tau Q t) [ inl s ↦ inl (inr s) | inr d ↦ inr d ]

    pub way-cut : CutOf (WithHidden B old (drop from (take (i + 1) old))) most_states new
    way-cut =
        subst (λ ps. CutOf (WithHidden B old ps) most_states new) (sym part)
        (cut-to (λ Q. WithHidden B old (drop from (take i old)) Q ⊎ Step B P label.Tau Q) (WithHidden B old (drop from (take i old) ++ P ∷ [])) most_states new (λ Q. (to Q, fro Q))
        (cut-put (WithHidden B old (drop from (take i old))) (Step B P label.Tau) most_states found now new w.cut w.few only all p))

    pub way-goes-on : length new ≤ most_states → IsOnTheWay old from (i + 1) new
    way-goes-on few =
        record {
          more = (w.more.0 ++ p.more.0, p.more.1 ∙ ap (λ l. l ++ p.more.0) w.more.1 ∙ append_assoc old w.more.0 p.more.0);
          few = few;
          cut = way-cut;
        }

  -- the level's list is whole
  pub way-ends : (old : List Proc) (from to : ℕ) (now : List Proc) → IsOnTheWay old from to now → length old ≤ to → (HasDeep (TargetOf B (drop from old) label.Tau) → ⊥) → Grows B (drop from old) old now
  way-ends old from to now w h shallow =
      record {
        more = w.more;
        shallow = shallow;
        few = w.few;
        cut = subst (λ ps. CutOf (WithHidden B old (drop from ps)) most_states now) (take_all to old h) w.cut;
      }

  -- the list on the way is too long already
  pub way-many : (old : List Proc) (from to : ℕ) (now : List Proc) → CutOf (WithHidden B old (drop from (take to old))) most_states now → most_states < length now → HasMany (WithHidden B old (drop from old))
  way-many old from to now c h = (now, c.once, (λ Q i. wider Q (c.only Q i)), h)
    where
      wider : (Q : Proc) → WithHidden B old (drop from (take to old)) Q → WithHidden B old (drop from old) Q
      wider Q (inl i) = inl i
      wider Q (inr (P, i, d)) = inr (P, In-part from to old P i, d)

-- what was told of the targets of one process holds of what was put, where that is short enough
pub cut-told : (S : Terms) (most : ℕ) (found old new : List Proc) → CutOf S most found → HasPut found old new → length new ≤ most → (Q : Proc) → S Q → In Q found
cut-told S most found old new c p few =
    let k = no-longer found new c.once p.all in
    cut-all S most found c (omega arith)
