use Rattle.spaces.proofs.Answering.{says-none, says-some, says-within}
use Rattle.spaces.proofs.states.StateSet.advance.Goals as goal

pub returns-clause-none : goal.returns-clause-none
returns-clause-none g c = λ u b. says-none c.args.space.now c.answer.new.self c.args.self c.args.event c.answer.ensures.grown u b c.answer.result c.answer.ensures.answer

pub returns-clause-some : goal.returns-clause-some
returns-clause-some g c = λ u b. says-some c.args.space.now c.answer.new.self c.args.self c.args.event c.answer.ensures.grown u b c.answer.result c.answer.ensures.answer

pub returns-clause-within : goal.returns-clause-within
returns-clause-within g c = λ u b. says-within c.args.space.now c.answer.new.self c.args.self c.args.event c.answer.ensures.grown u b c.answer.result c.answer.ensures.answer
