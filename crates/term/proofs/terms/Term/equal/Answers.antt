use Rattle.term.specs.Proc.{proc}
use Rattle.term.specs.SameLaws.{same-says}
use Rattle.term.proofs.terms.Term.equal.Goals as goal

-- src/terms.rt:66:5
pub returns : goal.returns
returns g c = rw c.eq.ensures (same-says (proc c.args.self.now) (proc c.args.other.now))
