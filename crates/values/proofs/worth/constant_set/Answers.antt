use Rattle.std.proofs.Common.{◌≡◌, refl, subst, arith}
use Rattle.values.specs.declared.worth.Worth.TheVariants.{One}
use Rattle.values.specs.declared.value.Value.TheVariants.{Constant}
use Rattle.values.specs.View.{Gives, values}
use Rattle.values.proofs.Lists.{same_bytes, constants_more, constants_end}
use Rattle.values.proofs.worth.constant_set.Goals as goal

pub loop-name-preserved : goal.loop-name-preserved
loop-name-preserved g c =
    let same : c.in_ok-clone-2.field-0.items ≡ c.name-item.result.items = same_bytes c.name-item.result.items c.in_ok-clone-2.field-0.items c.in_ok-clone-2.ensures.cases.0 in
    constants_more c.args.names.now c.loop-name.name-index c.name-item.result c.in_ok-clone-2.field-0 c.loop-name.worths.items c.push.new.self.items (One (Constant c.in_ok-clone-2.field-0)) c.loop-name.invariant (omega arith) c.name-item.is same refl c.in_ok-push.ensures.items

pub returns : goal.returns
returns g c = subst (λ o. Gives values c.listed.result o) (constants_end c.args.names.now c.loop-name.worths.items c.loop-name.name-index c.loop-name.invariant (omega arith)) c.listed.ensures
