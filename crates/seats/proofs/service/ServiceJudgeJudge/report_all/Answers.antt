use Rattle.std.proofs.Common.{◌≡◌, [], List, true, ◌==◌, length, refl, ap}
use Rattle.alphabet.specs.declared.events.Report.{Report}
use Rattle.seats.specs.Judges.{Reports}
use Rattle.seats.specs.declared.service.ServiceJudge.{ServiceJudge}
use Rattle.seats.proofs.GroupLemmas.{reported_by}
use Rattle.seats.proofs.service.ServiceJudgeJudge.report_all.Goals as goal

pub returns-clause-answered : goal.returns-clause-answered
returns-clause-answered g c =
    let group : List Report = c.args.group.now in
    let some : group ≡ [] → ⊥ = λ is. let e : (length group == 0) ≡ true = ap (λ (l : List Report). length l == 0) is in let no : ⊥ = cc (e, c.is_empty.ensures, c.if-is_empty.false) in no in
    reported_by (λ (j : ServiceJudge g.row.J.Denot g.row.A.Denot g.row.N.Denot g.row.R.Denot). j.judge) (λ j v. record j { judge = v }) (λ j v. refl)
    (λ i r a k. Reports g.N.Naming.spec i.seat.share r a k.seat.share) group
    c.report_all.new.answers.items c.args.self.now (record c.args.self.now { judge = c.report_all.new.self }) some c.report_all.ensures.answered
