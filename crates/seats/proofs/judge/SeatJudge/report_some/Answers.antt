use Rattle.std.proofs.Common.{◌<◌, ◌+◌, ◌++◌, ◌∷◌, [], List, Bool, Result, Err, length, take, append_assoc, arith, ap, ◌∙◌, subst}
use Rattle.std.specs.Prelude.{IfSome}
use Rattle.alphabet.specs.declared.events.Report.{Report}
use Rattle.shared.specs.View.{SeatView}
use Rattle.shared.specs.SessionFaults.{Fault as SessionFault}
use Rattle.wire.specs.Groups.{AllReported}
use Rattle.answers.specs.declared.receipt.Receipt.{Receipt}
use Rattle.wire.specs.Faults.{Fault}
use Rattle.answers.specs.Faults.{plain_of}
use Rattle.seats.specs.Groups.{receipts_of}
use Rattle.seats.specs.Judges.{Reports}
use Rattle.seats.proofs.GroupLemmas.{all_reported, part_reported, take_within}
use Rattle.seats.proofs.judge.SeatJudge.report_some.Goals as goal

pub returns-in-Some-clause-answered : goal.returns-in-Some-clause-answered
returns-in-Some-clause-answered g c =
    let spec = g.N.Naming.spec in
    let t = c.turn-round in
    let old : SeatView = c.args.self.now.seat.share in
    let new : SeatView = t.new.self.share in
    let reports : List Report = c.args.reports.now in
    let some : List Report = take c.min.result reports in
    let vs : List Bool = t.new.verdicts in
    let f : SessionFault = c.in-Some.fault in
    let left : t.result.count < length some = subst (λ o. IfSome o (λ _. t.result.count < length some)) c.in-Some.is t.ensures.left in
    let xs : List (Result Receipt Fault) = receipts_of (take t.result.count vs) t.result.place in
    let answers : List (Result Receipt Fault) = c.args.answers.now.items in
    let more = part_reported spec old new some vs t.result.count t.result.place t.result.fault f c.in-Some.is t.ensures.came in (
      xs ++ Err (plain_of f) ∷ [],
      c.add.ensures.items ∙ ap (λ (l : List (Result Receipt Fault)). l ++ Err c.plain.result ∷ []) c.add_receipts.ensures.items
          ∙ append_assoc answers xs (Err c.plain.result ∷ []) ∙ ap (λ (x : Fault). answers ++ (xs ++ Err x ∷ [])) (c.plain.ensures.plain ∙ ap plain_of c.in-Some.fault-is),
      subst (λ (l : List Report). AllReported (Reports spec) old l (xs ++ Err (plain_of f) ∷ []) new) (take_within (t.result.count + 1) c.min.result reports (omega (arith, left))) more,
    )

pub returns-in-None-clause-answered : goal.returns-in-None-clause-answered
returns-in-None-clause-answered g c =
    let spec = g.N.Naming.spec in
    let t = c.turn-round in
    let old : SeatView = c.args.self.now.seat.share in
    let new : SeatView = t.new.self.share in
    let reports : List Report = c.args.reports.now in
    let some : List Report = take c.min.result reports in
    let vs : List Bool = t.new.verdicts in
    let xs : List (Result Receipt Fault) = receipts_of (take t.result.count vs) t.result.place in
    let all = all_reported spec old new some vs t.result.count t.result.place t.result.fault c.in-None.is t.ensures.came in (
      xs,
      c.add_receipts.ensures.items,
      subst (λ (l : List Report). AllReported (Reports spec) old l xs new) (take_within t.result.count c.min.result reports t.ensures.count.0) all,
    )
