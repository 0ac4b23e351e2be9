use Rattle.std.proofs.Common.{ℤ, subst, sym, pos, ◌+ℤ◌, FitsSigned, to_z, of_z}
use Rattle.std.specs.Int.{w64}
use Rattle.std.proofs.lemmas.Int.{to_z-of_z}
use Rattle.cspm_values.proofs.Ranges.{numbers_none, numbers_step, numbers_finish, gap_less, same_low, up_low, next_low, between_fits, under, not_under}
use Rattle.cspm_values.proofs.range.numbers.Goals as goal

pub loop-next-init : goal.loop-next-init
loop-next-init g c =
    let f = to_z-of_z w64 c.args.first c.ranges.first in
    let l = to_z-of_z w64 c.args.last c.ranges.last in
    rw (f, l) (same_low c.args.first, c.requires, numbers_none c.args.first c.new-all.result.items c.new-all.ensures.items)

pub overflow_add-next : goal.overflow_add-next
overflow_add-next g c =
    let x : ℤ = to_z w64 (of_z w64 c.args.first) in
    let l : ℤ = to_z w64 (of_z w64 c.args.last) in
    let z : ℤ = to_z w64 c.loop-next.next-bits in
    let f : FitsSigned w64 x = subst (λ (v : ℤ). FitsSigned w64 v) (sym (to_z-of_z w64 c.args.first c.ranges.first)) c.ranges.first in
    let k : FitsSigned w64 l = subst (λ (v : ℤ). FitsSigned w64 v) (sym (to_z-of_z w64 c.args.last c.ranges.last)) c.ranges.last in
    let m : FitsSigned w64 z = between_fits x z l c.loop-next.invariant.0 c.loop-next.invariant.1 f k in
    let n : FitsSigned w64 (z +ℤ pos 1) = between_fits z (z +ℤ pos 1) l (up_low z z (same_low z)) (next_low z l (under z l c.loop-next-test.true)) m k in
    n

pub loop-next-smaller : goal.loop-next-smaller
loop-next-smaller g c =
    let x : ℤ = to_z w64 (of_z w64 c.args.first) in
    let l : ℤ = to_z w64 (of_z w64 c.args.last) in
    let z : ℤ = to_z w64 c.loop-next.next-bits in
    let f : FitsSigned w64 x = subst (λ (v : ℤ). FitsSigned w64 v) (sym (to_z-of_z w64 c.args.first c.ranges.first)) c.ranges.first in
    let k : FitsSigned w64 l = subst (λ (v : ℤ). FitsSigned w64 v) (sym (to_z-of_z w64 c.args.last c.ranges.last)) c.ranges.last in
    let m : FitsSigned w64 z = between_fits x z l c.loop-next.invariant.0 c.loop-next.invariant.1 f k in
    let n : FitsSigned w64 (z +ℤ pos 1) = between_fits z (z +ℤ pos 1) l (up_low z z (same_low z)) (next_low z l (under z l c.loop-next-test.true)) m k in
    gap_less z l _ (under z l c.loop-next-test.true) (to_z-of_z w64 (z +ℤ pos 1) n)

pub loop-next-preserved : goal.loop-next-preserved
loop-next-preserved g c =
    let x : ℤ = to_z w64 (of_z w64 c.args.first) in
    let l : ℤ = to_z w64 (of_z w64 c.args.last) in
    let z : ℤ = to_z w64 c.loop-next.next-bits in
    let f : FitsSigned w64 x = subst (λ (v : ℤ). FitsSigned w64 v) (sym (to_z-of_z w64 c.args.first c.ranges.first)) c.ranges.first in
    let k : FitsSigned w64 l = subst (λ (v : ℤ). FitsSigned w64 v) (sym (to_z-of_z w64 c.args.last c.ranges.last)) c.ranges.last in
    let m : FitsSigned w64 z = between_fits x z l c.loop-next.invariant.0 c.loop-next.invariant.1 f k in
    let n : FitsSigned w64 (z +ℤ pos 1) = between_fits z (z +ℤ pos 1) l (up_low z z (same_low z)) (next_low z l (under z l c.loop-next-test.true)) m k in
    numbers_step x z l _ c.number_value.result c.loop-next.all.items c.push.new.self.items c.loop-next.invariant (under z l c.loop-next-test.true) (to_z-of_z w64 (z +ℤ pos 1) n) c.number_value.ensures c.in_ok-push.ensures.items

pub returns : goal.returns
returns g c =
    numbers_finish (to_z w64 (of_z w64 c.args.first)) (to_z w64 c.loop-next.next-bits) (to_z w64 (of_z w64 c.args.last)) c.args.first c.args.last c.number_value-2.result c.loop-next.all.items c.push-2.new.self.items c.loop-next.invariant (not_under (to_z w64 c.loop-next.next-bits) (to_z w64 (of_z w64 c.args.last)) c.loop-next-test.false)
    (to_z-of_z w64 c.args.first c.ranges.first) (to_z-of_z w64 c.args.last c.ranges.last) c.number_value-2.ensures c.in_ok-push-2.ensures.items
