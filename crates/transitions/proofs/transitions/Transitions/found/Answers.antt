use Rattle.std.proofs.Common.{◌≡◌, ℕ, inl, inr, Bor, List, Some, sym, ap, ◌∙◌, subst}
use Rattle.std.specs.Prelude.{option_map}
use Rattle.transitions.specs.Numbered.{Numbered, AreTargets}
use Rattle.transitions.specs.Memory.{recalled}
use Rattle.transitions.proofs.Remembering.{cut-more}
use Rattle.transitions.proofs.transitions.Transitions.found.Goals as goal

pub returns-in-Some : goal.returns-in-Some
returns-in-Some g c =
    let n = c.args.number in
    let l = c.args.label in
    let ns = c.in-Some.found.now in
    let e : recalled c.self.inside.remembered n l ≡ Some ns = sym c.get.ensures.recalled ∙ ap (option_map (λ (x : Bor (List ℕ)). x.now)) c.in-Some.is in
    cut-more c.args.self.now n l c.args.most ns (elim c.if-most-le-MOST_STATES.either [ inl few ↦ inl few | inr less ↦ inr less.1 ])
    (subst (λ (s : Numbered). AreTargets s n l ns) c.self.view_is (c.self.invariant.remembered n l ns c.get.ensures.small e).targets)
