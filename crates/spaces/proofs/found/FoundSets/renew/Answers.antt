use Rattle.std.proofs.Common.{sym, ap, subst}
use Rattle.spaces.specs.Found.{Found, shown}
use Rattle.spaces.specs.Known.{AreOf}
use Rattle.spaces.specs.Spaces.{states}
use Rattle.spaces.proofs.Renewing.{members-alone, sound-alone}
use Rattle.spaces.proofs.found.FoundSets.renew.Goals as goal

pub invariant_of-self : goal.invariant_of-self
invariant_of-self g c =
    sound-alone c.self.inside.spec c.put_alone.new.into c.replace.new.dest c.put_alone.new.sets.entries c.replace-2.new.dest.entries
    c.replace.ensures.after (ap (λ m. m.entries) c.replace-2.ensures.after) c.in-Ok.ensures.one
    c.self.invariant.closed (subst (λ (f : Found). AreOf f.spec c.put_alone.new.into) (sym c.self.view_is) c.in-Ok.ensures.begun) c.in-Ok.ensures.stored

pub returns-clause-set : goal.returns-clause-set
returns-clause-set g c =
    members-alone c.self.inside.spec c.put_alone.new.into c.replace.new.dest c.put_alone.new.sets.entries c.replace-2.new.dest.entries
    c.replace.ensures.after (ap (λ m. m.entries) c.replace-2.ensures.after) c.in-Ok.ensures.one
    (states (shown c.args.self.now) c.args.set) c.at.result c.at.ensures c.in-Ok.ensures.same
