use Rattle.std.proofs.Common.{◌≡◌, ◌+◌, ◌<◌, List, ◌∷◌, length, drop, get_or, sym, ap, ◌∙◌, subst, arith}
use Rattle.std.proofs.lemmas.List.{drop_more}
use Rattle.alphabet.specs.declared.events.Report.{Report}
use Rattle.locked.specs.Faults.{Explained}
use Rattle.locked.specs.Groups.{LockedView}
use Rattle.shared.proofs.turns.offer_all.Goals as goal

pub returns-in-Err-clause-refused : goal.returns-in-Err-clause-refused
returns-in-Err-clause-refused g c =
    let count = c.loop-report.count in
    let at = c.loop-report.invariant.count in
    let reports : List Report = c.args.reports.now in
    let r : Report = c.report-item.result in
    let lt : count < length reports = omega (arith, at) in
    let here : get_or reports count r ≡ r = ap (λ n. get_or reports n r) at ∙ sym c.report-item.is in
    record {
      report = r;
      rest = drop (count + 1) reports;
      within = lt;
      is = drop_more reports count r lt ∙ ap (λ (x : Report). x ∷ drop (count + 1) reports) here;
      why = subst (λ (t : LockedView). Explained g.N.Naming.spec t.entries c.args.seat (c.args.number + count) r c.in-Err.fault) (sym c.in-Err.ensures.err.0) c.in-Err.ensures.why;
    }
