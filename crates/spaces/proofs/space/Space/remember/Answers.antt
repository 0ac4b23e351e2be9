use Rattle.std.proofs.Common.{◌<◌, length, sym, subst, arith}
use Rattle.spaces.specs.Answers.{IsAnswer}
use Rattle.spaces.specs.Found.{shown}
use Rattle.spaces.specs.Spaces.{Spaced}
use Rattle.spaces.proofs.Remembering.{answers-more, count-more}
use Rattle.spaces.proofs.space.Space.remember.Goals as goal

pub invariant_of-self : goal.invariant_of-self
invariant_of-self g c =
    record {
      remembered = answers-more (shown c.self.inside.found) c.self.inside.answers c.insert.new.self c.key_of.result c.args.set c.args.event c.args.answer.now c.key_of.ensures.key c.key_of.ensures.small
          (record {
            here = subst (λ (s : Spaced). c.args.set < length s.sets) (sym c.self.view_is) c.requires.here;
            is = subst (λ (s : Spaced). IsAnswer s c.args.set c.args.event c.args.answer.now) (sym c.self.view_is) c.requires.answer;
          })
          c.self.invariant.remembered c.insert.result c.insert.ensures.updates c.insert.ensures.err;
      few = count-more c.self.inside.answers c.insert.new.self c.insert.result c.insert.ensures.len c.insert.ensures.err (omega (arith, c.len.ensures.len));
    }
