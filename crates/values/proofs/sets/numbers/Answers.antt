use Rattle.std.proofs.Common.{ℤ, subst, sym, pos, ◌+ℤ◌, FitsSigned, to_z, of_z}
use Rattle.std.specs.Int.{w64}
use Rattle.std.proofs.lemmas.Int.{to_z-of_z}
use Rattle.values.proofs.Numbers.{numbers_none, numbers_step, numbers_finish, same_low, up_low, next_low, between_fits, under, not_under}
use Rattle.values.proofs.sets.numbers.Goals as goal

pub loop-next-init : goal.loop-next-init
loop-next-init g c =
    let f = to_z-of_z w64 c.args.first c.ranges.first in
    let l = to_z-of_z w64 c.args.last c.ranges.last in
    rw (f, l) (same_low c.args.first, c.requires, numbers_none c.args.first c.new-set.result.keys c.new-set.ensures.empty)

pub loop-next-preserved : goal.loop-next-preserved
loop-next-preserved g c =
    let x : ℤ = to_z w64 (of_z w64 c.args.first) in
    let l : ℤ = to_z w64 (of_z w64 c.args.last) in
    let z : ℤ = to_z w64 c.loop-next.next-bits in
    let f : FitsSigned w64 x = subst (λ (v : ℤ). FitsSigned w64 v) (sym (to_z-of_z w64 c.args.first c.ranges.first)) c.ranges.first in
    let k : FitsSigned w64 l = subst (λ (v : ℤ). FitsSigned w64 v) (sym (to_z-of_z w64 c.args.last c.ranges.last)) c.ranges.last in
    let m : FitsSigned w64 z = between_fits x z l c.loop-next.invariant.0 c.loop-next.invariant.1 f k in
    let n : FitsSigned w64 (z +ℤ pos 1) = between_fits z (z +ℤ pos 1) l (up_low z z (same_low z)) (next_low z l (under z l c.loop-next-test.true)) m k in
    numbers_step x z l _ c.loop-next.set.keys c.insert.new.self.keys c.loop-next.invariant (under z l c.loop-next-test.true) (to_z-of_z w64 (z +ℤ pos 1) n) c.in_ok-_added.ensures.keys

pub returns : goal.returns
returns g c =
    numbers_finish (to_z w64 (of_z w64 c.args.first)) (to_z w64 c.loop-next.next-bits) (to_z w64 (of_z w64 c.args.last)) c.args.first c.args.last c.loop-next.set.keys c.insert-2.new.self.keys c.loop-next.invariant (not_under (to_z w64 c.loop-next.next-bits) (to_z w64 (of_z w64 c.args.last)) c.loop-next-test.false)
    (to_z-of_z w64 c.args.first c.ranges.first) (to_z-of_z w64 c.args.last c.ranges.last) c.in_ok-_added-2.ensures.keys
