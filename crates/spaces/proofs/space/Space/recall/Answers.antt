use Rattle.std.proofs.Common.{◌≡◌, Some, nat_eq, sym, subst}
use Rattle.std.specs.Map.{lookup}
use Rattle.spaces.specs.Answers.{IsAnswer}
use Rattle.spaces.specs.Found.{shown}
use Rattle.spaces.specs.Spaces.{Spaced}
use Rattle.spaces.proofs.Remembering.{looked-up}
use Rattle.spaces.proofs.space.Space.recall.Goals as goal

pub returns-in-Some : goal.returns-in-Some
returns-in-Some g c =
    let es = c.self.inside.answers.entries in
    let e : lookup (nat_eq c.key_of.result) es ≡ Some c.in-Some.answer.now = sym (rw c.in-Some.is at c.get.ensures.value) in
    subst (λ (s : Spaced). IsAnswer s c.args.set c.args.event c.in-Some.answer.now) c.self.view_is
    (looked-up (shown c.self.inside.found) es c.key_of.result c.args.set c.args.event c.in-Some.answer.now c.self.invariant.remembered c.key_of.ensures.key c.key_of.ensures.small e)
