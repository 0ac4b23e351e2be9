use Rattle.std.proofs.Common.{◌≡◌, ◌++◌, [], List, Result, true, ◌==◌, length, take, drop, append_assoc, length-append, arith, rules, refl, sym, ap, ◌∙◌, subst}
use Rattle.std.specs.List.{AllByRecursion}
use Rattle.std.proofs.lemmas.List.{append-nil, take-append-drop, take_rest, length-take-le, nil_from_length}
use Rattle.alphabet.specs.Channels.{event_count}
use Rattle.alphabet.specs.declared.events.Report.{Report}
use Rattle.shared.specs.View.{SeatView}
use Rattle.wire.specs.Requests.{IsReportBelow}
use Rattle.wire.specs.Groups.{AllReported}
use Rattle.answers.specs.declared.receipt.Receipt.{Receipt}
use Rattle.wire.specs.Faults.{Fault}
use Rattle.seats.specs.Judges.{Reports}
use Rattle.seats.specs.declared.judge.SeatJudge.{SeatJudge}
use Rattle.seats.proofs.GroupLemmas.{all_after, reported_more, reported_by}
use Rattle.seats.proofs.judge.SeatJudgeJudge.report_all.Goals as goal

pub report_some-count-requires-clause-below : goal.report_some-count-requires-clause-below
report_some-count-requires-clause-below g c =
    let P : Report → Type 0 = λ r. IsReportBelow (event_count g.N.Naming.spec.alphabet) r in
    let i = c.loop-rest.invariant in
    all_after P i.front c.loop-rest.rest.now (subst (λ (l : List Report). AllByRecursion P l) i.cut c.requires.below)

pub loop-rest-preserved : goal.loop-rest-preserved
loop-rest-preserved g c =
    let spec = g.N.Naming.spec in
    let i = c.loop-rest.invariant in
    let t = c.report_some-count in
    let n = t.result in
    let rest : List Report = c.loop-rest.rest.now in
    let old : SeatView = c.args.self.now.seat.share in
    let mid : SeatView = c.loop-rest.self.seat.share in
    let new : SeatView = t.new.self.seat.share in
    let more = t.ensures.answered in
    record {
      front = i.front ++ take n rest;
      cut = i.cut ∙ ap (λ (l : List Report). i.front ++ l) (sym (take-append-drop n rest)) ∙ sym (append_assoc i.front (take n rest) (drop n rest))
          ∙ ap (λ (l : List Report). (i.front ++ take n rest) ++ l) (sym (take_rest rest n));
      judged =
          subst (λ (l : List (Result Receipt Fault)). AllReported (Reports spec) old (i.front ++ take n rest) l new) (sym more.1)
          (reported_more (Reports spec) i.front (take n rest) c.loop-rest.answers.items more.0 old mid new i.judged more.2);
      many = omega (arith, i.many, t.ensures.len, length-append i.front (take n rest), length-take-le n rest t.ensures.count.1);
      room = omega (arith, i.room, t.ensures.room);
    }

pub returns-clause-answered : goal.returns-clause-answered
returns-clause-answered g c =
    let i = c.loop-rest.invariant in
    let group : List Report = c.args.group.now in
    let zero : length c.loop-rest.rest.now ≡ 0 = search rules in
    let none : c.loop-rest.rest.now ≡ [] = nil_from_length c.loop-rest.rest.now zero in
    let some : group ≡ [] → ⊥ = λ is. let e : (length group == 0) ≡ true = ap (λ (l : List Report). length l == 0) is in let no : ⊥ = cc (e, c.is_empty.ensures, c.if-is_empty.false) in no in
    let whole : i.front ≡ group = sym (i.cut ∙ ap (λ (l : List Report). i.front ++ l) none ∙ append-nil i.front) in
    reported_by (λ (j : SeatJudge g.row.J.Denot g.row.A.Denot g.row.N.Denot g.row.R.Denot). j.seat.share) (λ j v. record j { seat = record j.seat { share = v } }) (λ j v. refl) (Reports g.N.Naming.spec) group
    c.loop-rest.answers.items c.args.self.now c.loop-rest.self some
    (subst (λ (l : List Report). AllReported (Reports g.N.Naming.spec) c.args.self.now.seat.share l c.loop-rest.answers.items c.loop-rest.self.seat.share) whole i.judged)
