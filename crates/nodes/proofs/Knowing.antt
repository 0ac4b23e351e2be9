-- What is known of a process, from what is known of its parts.
use Rattle.std.proofs.Common.{◌≡◌, Bool, true, false, not, ◌&&◌, ◌||◌, ◌↔◌, inl, inr, IsTrue, refl, sym, ap, ◌∙◌}
use Rattle.term.proofs.Bools.{or-cases, or-left, or-right}
use Rattle.term.specs.SameLaws.{and-cases, and-both}
use Rattle.term.specs.Proc.{Proc}
use Rattle.term.specs.Steps.{is_skip}
use Rattle.targets.specs.Targets.{ticks}
use Rattle.targets.specs.Resting.{Settled}
use Rattle.targets.proofs.Settling.{no_tick}

pub and-says : {X Y : Type 0} (a b : Bool) → IsTrue a ↔ X → IsTrue b ↔ Y → IsTrue (a && b) ↔ (X × Y)
and-says a b f g = ((λ t. let (u, v) = and-cases a b t in (f.0 u, g.0 v)), (λ s. and-both a b (f.1 s.0) (g.1 s.1)))

pub settled-says : (P : Proc) (s t : Bool) → s ≡ is_skip P → t ≡ ticks P → IsTrue (s || not t) ↔ Settled P
settled-says P s t e f = (to, from)
  where
    to : IsTrue (s || not t) → Settled P
    to h = elim (or-cases s (not t) h) [ inl u ↦ inl (sym e ∙ u) | inr v ↦ inr ((no_tick P t f).0 v) ]

    from : Settled P → IsTrue (s || not t)
    from (inl k) = or-left s (not t) (e ∙ k)
    from (inr n) = or-right s (not t) ((no_tick P t f).1 n)

-- both sides of an operator on tests
pub alike : (f : Bool → Bool → Bool) (a b c d : Bool) → a ≡ c → b ≡ d → f a b ≡ f c d
alike f a b c d e g = ap (λ x. f x b) e ∙ ap (λ y. f c y) g

-- a set that is empty
pub not-back : (e : Bool) → not e ≡ false → e ≡ true
not-back true f = refl
not-back false f = absurd (cc)
