-- What is remembered, and a body by its number.
use Rattle.std.proofs.Common.{◌≡◌, ◌⊎◌, inl, inr, ℕ, zero, suc, ◌+◌, ◌<◌, ◌≤◌, nat_eq, Option, None, Some, IfSome, List, [], ◌∷◌, ◌++◌, length, get_or, take, Bor, refl, sym, ap, ◌∙◌, subst, arith}
use Rattle.std.proofs.lemmas.List.{get_or-map, length-map, map-append, take_more}
use Rattle.std.specs.Prelude.{option_map}
use Rattle.std.proofs.lemmas.Option.{same_Some}
use Rattle.std.specs.Map.{lookup}
use Rattle.alphabet.specs.declared.events.Event.TheVariants.{Tick as tick, Of as ev}
use Rattle.term.specs.Limits.{most_states}
use Rattle.term.specs.Proc.{Proc, stop, bodies_of}
use Rattle.term.specs.Traces.{In}
use Rattle.targets.specs.declared.labels.Label.{Label}
use Rattle.targets.specs.declared.labels.Label.TheVariants as label
use Rattle.targets.specs.Labels.{Step}
use Rattle.nodes.specs.Shapes.{at}
use Rattle.nodes.specs.Tables.{Tabled, HasGrown, IsNumber}
use Rattle.nodes.specs.Looks.{look, AllBelow}
use Rattle.nodes.proofs.Looking.{below-at, below-push, below-grown, look-grown}
use Rattle.transitions.specs.Lists.{MayHave, MayHaveAt}
use Rattle.transitions.specs.Memory.{Kept}
use Rattle.transitions.specs.Numbered.{Numbered, numbered, AreCutTargets, AreTargets}
use Rattle.transitions.specs.Memory.{recalled, AllRemembered, IsRemembered, IsSmall, IsSound, MayRecall, key}

-- ---- a key is that of one number and one label
key-same : (n m : ℕ) (l k : Label) → IsSmall l → IsSmall k → key n l ≡ key m k → (n ≡ m) × (l ≡ k)
key-same n m label.Tau label.Tau s r e = (omega arith, refl)
key-same n m label.Tau (label.Event tick) s r e = absurd (omega arith)
key-same n m label.Tau (label.Event (ev b)) s r e = absurd (omega arith)
key-same n m (label.Event tick) label.Tau s r e = absurd (omega arith)
key-same n m (label.Event tick) (label.Event tick) s r e = (omega arith, refl)
key-same n m (label.Event tick) (label.Event (ev b)) s r e = absurd (omega arith)
key-same n m (label.Event (ev a)) label.Tau s r e = absurd (omega arith)
key-same n m (label.Event (ev a)) (label.Event tick) s r e = absurd (omega arith)
key-same n m (label.Event (ev a)) (label.Event (ev b)) s r e = let f : a ≡ b = omega arith in (omega arith, ap (λ (x : ℕ). label.Event (ev x)) f)

-- ---- looked up
pub found-said : (o : Option (Bor (List ℕ))) (P : List ℕ → Type 0) (m : Option (List ℕ)) → option_map (λ x. x.now) o ≡ m → ((ns : List ℕ) → m ≡ Some ns → P ns) → IfSome o (λ f. P f.now)
found-said None P m e h = tt
found-said (Some f) P m e h = h f.now (sym e)

-- ---- one more is remembered
pub hidden-more : (acts : List (ℕ × List ℕ)) (hs is : List (Option (List ℕ))) (n : ℕ) (l : Label) (found : List ℕ) → l ≡ label.Tau → MayHaveAt hs is n found → MayRecall (acts, hs) (acts, is) n l found
hidden-more acts hs is n l found e h m label.Tau small = by (h m)
  where
    by : (get_or is m None ≡ get_or hs m None) ⊎ ((m ≡ n) × (get_or is m None ≡ Some found)) → (get_or is m None ≡ get_or hs m None) ⊎ ((m ≡ n) × (label.Tau ≡ l) × (get_or is m None ≡ Some found))
    by (inl same) = inl same
    by (inr new) = inr (new.0, sym e, new.1)
hidden-more acts hs is n l found e h m (label.Event x) small = inl refl

pub acts-more : (acts more : List (ℕ × List ℕ)) (hs : List (Option (List ℕ))) (k n : ℕ) (l : Label) (found : List ℕ) → k ≡ key n l → IsSmall l → MayHave acts more k found → MayRecall (acts, hs) (more, hs) n l found
acts-more acts more hs k n l found e small h m label.Tau s = inl refl
acts-more acts more hs k n l found e small h m (label.Event x) s = by (h (key m (label.Event x)))
  where
    at : List (ℕ × List ℕ) → Option (List ℕ)
    at = lookup (nat_eq (key m (label.Event x)))

    by : (at more ≡ at acts) ⊎ ((key m (label.Event x) ≡ k) × (at more ≡ Some found)) → (at more ≡ at acts) ⊎ ((m ≡ n) × (label.Event x ≡ l) × (at more ≡ Some found))
    by (inl same) = inl same
    by (inr new) = let is = key-same m n (label.Event x) l s small (new.0 ∙ e) in inr (is.0, is.1, new.1)

-- what goes as far as a greater bound is remembered as far as that of a set of states
pub cut-less : (s : Numbered) (n : ℕ) (l : Label) (most : ℕ) (found : List ℕ) → most_states ≤ most → AreCutTargets s n l most found → AreTargets s n l found
cut-less s n l most found h c = record {
  here = c.here;
  cut = record {
    once = c.cut.once;
    only = c.cut.only;
    all = elim c.cut.all [ inl more ↦ inl (omega (arith, more)) | inr all ↦ inr all ];
  };
}

-- what is remembered goes as far as a bound where it is whole, or where the bound isn't greater
pub cut-more : (s : Numbered) (n : ℕ) (l : Label) (most : ℕ) (found : List ℕ) → (length found ≤ most_states) ⊎ (most ≤ most_states) → AreTargets s n l found → AreCutTargets s n l most found
cut-more s n l most found h c = record { here = c.here; cut = record { once = c.cut.once; only = c.cut.only; all = elim c.cut.all [ inl more ↦ by more h | inr all ↦ inr all ] } }
  where
    ps : List Proc
    ps = look s.table.processes found

    by : most_states < length ps → (length found ≤ most_states) ⊎ (most ≤ most_states) → (most < length ps) ⊎ ((Q : Proc) → Step (bodies_of s.bodies) (at s.table.processes n) l Q → In Q ps)
    by more (inl few) = absurd (omega (arith, more, length-map found (at s.table.processes)))
    by more (inr less) = inl (omega (arith, more))

pub sound-more : (t : Tabled) (ns ds : List ℕ) (old new : Kept) (n : ℕ) (l : Label) (found : List ℕ) → n < length t.processes → AreTargets (numbered t ns) n l found → IsSound t ns old ds → MayRecall old new n l found → IsSound t ns new ds
sound-more t ns ds old new n l found within targets sound h = record { here = sound.here; remembered = all; few = sound.few; depths = sound.depths }
  where
    all : AllRemembered (numbered t ns) new
    all m j vs i f = by (h m j i)
      where
        by : (recalled new m j ≡ recalled old m j) ⊎ ((m ≡ n) × (j ≡ l) × (recalled new m j ≡ Some found)) → IsRemembered (numbered t ns) m j vs
        by (inl same) = sound.remembered m j vs i (sym same ∙ f)
        by (inr (is_n, is_l, is_found)) =
            subst (IsRemembered (numbered t ns) m j) (same_Some found vs (sym is_found ∙ f))
            (subst (λ (x : Label). IsRemembered (numbered t ns) m x found) (sym is_l)
            (subst (λ (x : ℕ). IsRemembered (numbered t ns) x l found) (sym is_n) (record { within = within; targets = targets })))

-- ---- bodies
pub body-number : (t : Tabled) (ns : List ℕ) (k n d : ℕ) → AllBelow (length t.processes) ns → k < length ns → n ≡ get_or ns k d → IsNumber t n (bodies_of (look t.processes ns) k)
body-number t ns k n d a h e =
    record {
      within = subst (λ (x : ℕ). x < length t.processes) (sym e) (below-at (length t.processes) ns k d a h);
      is = ap (at t.processes) e ∙ sym (get_or-map (at t.processes) ns k d stop h);
    }

-- one body more
pub bodies-more : (t u : Tabled) (ns : List ℕ) (n i : ℕ) (ps : List Proc) (P : Proc) → HasGrown t u → AllBelow (length t.processes) ns → look t.processes ns ≡ take i ps → i < length ps → P ≡ bodies_of ps i → IsNumber u n P → look u.processes (ns ++ n ∷ []) ≡ take (i + 1) ps
bodies-more t u ns n i ps P g a e h f s =
    map-append (at u.processes) ns (n ∷ [])
    ∙ ap (λ (l : List Proc). l ++ at u.processes n ∷ []) (look-grown t u g ns a ∙ e)
    ∙ ap (λ (Q : Proc). take i ps ++ Q ∷ []) (s.is ∙ f)
    ∙ sym (take_more ps i stop h)

pub below-more-bodies : (t u : Tabled) (ns : List ℕ) (n : ℕ) (P : Proc) → HasGrown t u → AllBelow (length t.processes) ns → IsNumber u n P → AllBelow (length u.processes) (ns ++ n ∷ [])
below-more-bodies t u ns n P g a s = below-push (length u.processes) ns n (below-grown t u g ns a) s.within

pub no-body : (ps : List Proc) (k : ℕ) → length ps ≤ k → bodies_of ps k ≡ stop
no-body [] k h = refl
no-body (P ∷ ps) zero h = absurd (omega arith)
no-body (P ∷ ps) (suc k) h = no-body ps k (omega arith)
