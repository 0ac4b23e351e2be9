use Rattle.std.proofs.Common.{◌≡◌, ◌++◌, ◌∷◌, [], ap, sym, subst, arith, length, length-append}
use Rattle.wire.specs.Faults.{Fault}
use Rattle.attending.specs.Courses.{Leaves}
use Rattle.attending.specs.Standing.{course_of}
use Rattle.attending.proofs.AloneLemmas.{judged, refused}
use Rattle.attending.proofs.alone.judge.Goals as goal

pub returns-in-Ok-clause-reports : goal.returns-in-Ok-clause-reports
returns-in-Ok-clause-reports g c =
    let s = c.args.alone.now.session in
    let n = c.report.new.self in
    judged s n c.in-Ok.entry c.args.alone.now.seat c.next_number-number.result c.len.result c.args.report.now
    (c.args.alone.now.idle c.in-Ok.ensures.taken.is_open) c.in-Ok.ensures.entry c.in-Ok.ensures.fits c.in-Ok.ensures.appended c.in-Ok.ensures.taken.is_open c.in-Ok.ensures.is_open c.len.ensures.len

pub returns-in-Err-clause-reports : goal.returns-in-Err-clause-reports
returns-in-Err-clause-reports g c =
    let s = c.args.alone.now.session in
    let n = c.report.new.self in
    subst (λ (x : Fault). Leaves s.spec (course_of s.history s.failed) c.args.report.now x (course_of n.history n.failed)) (sym c.plain.ensures.plain)
    (refused s n c.args.alone.now.seat c.next_number-number.result c.args.report.now c.in-Err.fault
    c.args.alone.now.idle c.args.alone.now.first c.next_number-number.ensures
    c.in-Err.ensures.stays c.in-Err.ensures.fault)

pub returns-in-Ok-clause-last : goal.returns-in-Ok-clause-last
returns-in-Ok-clause-last g c =
    let s = c.args.alone.now.session in
    let all = s.history ++ s.offered in
    omega (arith, c.history.ensures.within, ap length c.in-Ok.ensures.appended, length-append all (c.in-Ok.entry ∷ []), length-append s.history s.offered, c.report.ensures.gone)
