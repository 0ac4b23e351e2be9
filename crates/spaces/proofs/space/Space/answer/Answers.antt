use Rattle.std.proofs.Common.{sym, subst}
use Rattle.spaces.specs.Spaces.{Spaced, GrewFrom}
use Rattle.spaces.specs.Answers.{IsAnswer}
use Rattle.spaces.proofs.Growing.{grew-same, here-on}
use Rattle.spaces.proofs.space.Space.answer.Goals as goal

pub returns-in-Some-clause-grown : goal.returns-in-Some-clause-grown
returns-in-Some-clause-grown g c = grew-same c.args.self.now

pub remember-requires-clause-here : goal.remember-requires-clause-here
remember-requires-clause-here g c = here-on c.args.self.now c.find.new.self c.in-Ok.ensures.grown c.args.set c.requires.1.within

pub returns-in-Ok-clause-answer : goal.returns-in-Ok-clause-answer
returns-in-Ok-clause-answer g c = subst (λ (s : Spaced). IsAnswer s c.args.set c.args.event c.in-Ok.answer) (sym c.remember.ensures) c.in-Ok.ensures.answer

pub returns-in-Ok-clause-grown : goal.returns-in-Ok-clause-grown
returns-in-Ok-clause-grown g c = subst (λ (s : Spaced). GrewFrom c.args.self.now s) (sym c.remember.ensures) c.in-Ok.ensures.grown
