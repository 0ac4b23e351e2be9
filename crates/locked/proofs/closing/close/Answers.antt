use Rattle.std.proofs.Common.{◌≡◌, ◌++◌, None, length, arith, sym, ap, ◌∙◌, length-append}
use Rattle.locked.specs.Groups.{LockedView}
use Rattle.locked.proofs.closing.close.Goals as goal

pub returns-clause-book : goal.returns-clause-book
returns-clause-book g c none =
    let o = g.N.Naming.opening in
    let v = c.settle.new.self in
    let is = c.locked.view_is in
    let open_now : v.failed ≡ None = sym (ap (λ (t : LockedView). t.failed) is) ∙ none in
    let whole : v.entries ≡ o ++ v.settled = c.settle.ensures.whole open_now in
    omega (arith, c.locked.invariant.3, ap length (ap (λ (t : LockedView). t.entries) is), ap length whole, length-append o v.settled, ap length (ap (λ (t : LockedView). t.settled) is))

pub returns-clause-lasts : goal.returns-clause-lasts
returns-clause-lasts g c = c.locked.invariant.8
