use Rattle.std.proofs.Common.{◌≡◌, ℕ, ◌+◌, ◌<◌, ◌++◌, List, Bool, true, false, length, get_or, suc, refl, inl, inr, ◌⊎◌, sym, ap, ◌∙◌, subst, arith}
use Rattle.std.specs.Prelude.{take, is_some, ◌||◌}
use Rattle.std.proofs.lemmas.List.{length-take-le}
use Rattle.alphabet.specs.declared.events.Report.{Report}
use Rattle.term.specs.Proc.{bodies_of}
use Rattle.term.specs.Specs.{Specified}
use Rattle.locked.specs.Entry.{Entry}
use Rattle.locked.specs.Entries.{calls}
use Rattle.locked.specs.SessionFaults.{Fault}
use Rattle.answers.specs.declared.fault.Fault.TheVariants.{Journal, Closed}
use Rattle.locked.specs.Legal.{Legal}
use Rattle.locked.specs.SessionView.{IsOf}
use Rattle.locked.proofs.Beginnings.{begins_self}
use Rattle.shared.specs.View.{SeatView}
use Rattle.shared.specs.Faults.{Answers, closes}
use Rattle.shared.specs.Turns.{CameTo}
use Rattle.shared.proofs.Claims.{begins_take, seen_begins, legal_front, view_of}
use Rattle.shared.proofs.Rounds.{came_any, came_none}
use Rattle.shared.proofs.share.Share.turn.Goals as goal
use Rattle.std.proofs.lemmas.Option.{IfSome_then}

or_false : (b : Bool) → b ≡ (b || false)
or_false true = refl
or_false false = refl

pub returns-in-Some-clause-came : goal.returns-in-Some-clause-came
returns-in-Some-clause-came g c =
    let spec = g.N.Naming.spec in
    let B = bodies_of spec.bodies in
    let o = g.N.Naming.opening in
    let s = c.self.inside in
    let whole : Legal B (o ++ s.known) = subst (λ (l : List Entry). Legal B (o ++ l)) c.front.ensures c.len-legal.ensures.legal in
    let seen : Legal B (take s.seen (o ++ s.known)) = legal_front B (o ++ s.known) (take s.seen (o ++ s.known)) (begins_take s.seen (o ++ s.known)) whole in
    let old : SeatView = c.args.self.now in
    let e = c.refused.ensures in
    came_none spec old old c.args.reports.now c.args.verdicts.now c.refused.result.count c.refused.result.place c.refused.result.fault (Closed c.in-Some.failed) e.0 e.2 c.requires.count.0
    (λ r rest is. record {
      legal = subst (Legal B) (ap (λ (t : SeatView). t.seen) c.self.view_is) seen;
      begins = begins_self old.seen;
      same = refl;
      begun = refl;
      why = tt;
      seat = refl;
      closed = sym (ap (λ (t : SeatView). t.closed) c.self.view_is) ∙ ap is_some c.in-Some.is;
    })

pub invariant_of-self : goal.invariant_of-self
invariant_of-self g c =
    let spec = g.N.Naming.spec in
    let B = bodies_of spec.bodies in
    let o = g.N.Naming.opening in
    let s = c.self.inside in
    let i = c.self.invariant in
    let t = c.in-Ok.turn in
    let l = c.in-Ok.ensures.later in
    let old : List Entry = take s.seen (o ++ s.known) in
    let legal : Legal B (o ++ t.counts) = subst (λ (f : List Entry). Legal B (o ++ f)) c.front-in-Ok.ensures c.len-legal-in-Ok.ensures.legal in
    let longer : length old < t.place = omega (arith, length-take-le s.seen (o ++ s.known) i.0, i.0, l.0) in
    let shut : Bool = is_some c.closed_by-self-inside.result in
    let none : is_some s.failed ≡ false = ap is_some c.in_default.is in
    let any =
    came_any spec s.begun s.answered s.number t.place old (o ++ t.counts) c.args.reports.now c.take_turn.new.verdicts t.count (is_some s.failed) c.in-Ok.ensures.found legal (seen_begins s.seen o s.known t.counts l.1)
    longer i.1 l.2 (omega (arith, i.7)) c.in-Ok.ensures.count.0 i.9 t.fault c.seen_by-self-inside.result shut c.requires.count.0 c.in-Ok.ensures.count.1 c.in-Ok.ensures.refused c.seen_by-self-inside.ensures.all
    c.seen_by-self-inside.ensures.last (λ h. ap is_some (c.closed_by-self-inside.ensures.none h) ∙ sym none)
    (IfSome_then t.fault c.closed_by-self-inside.ensures.some (λ f h. h ∙ or_false (closes f) ∙ ap (λ b. closes f || b) (sym none))) in
    (any.1, any.2, i.2, c.take_turn.ensures.parts ∙ i.3, omega (arith, i.4, c.in-Ok.ensures.counted), (λ h. i.5 c.in_default.is), i.6, omega (arith, c.in-Ok.ensures.numbers), omega (arith, i.8), i.9)

pub returns-in-Ok-clause-came : goal.returns-in-Ok-clause-came
returns-in-Ok-clause-came g c =
    let spec = g.N.Naming.spec in
    let B = bodies_of spec.bodies in
    let o = g.N.Naming.opening in
    let s = c.self.inside in
    let i = c.self.invariant in
    let t = c.in-Ok.turn in
    let l = c.in-Ok.ensures.later in
    let old : List Entry = take s.seen (o ++ s.known) in
    let legal : Legal B (o ++ t.counts) = subst (λ (f : List Entry). Legal B (o ++ f)) c.front-in-Ok.ensures c.len-legal-in-Ok.ensures.legal in
    let longer : length old < t.place = omega (arith, length-take-le s.seen (o ++ s.known) i.0, i.0, l.0) in
    let shut : Bool = is_some c.closed_by-self-inside.result in
    let none : is_some s.failed ≡ false = ap is_some c.in_default.is in
    let any =
    came_any spec s.begun s.answered s.number t.place old (o ++ t.counts) c.args.reports.now c.take_turn.new.verdicts t.count (is_some s.failed) c.in-Ok.ensures.found legal (seen_begins s.seen o s.known t.counts l.1)
    longer i.1 l.2 (omega (arith, i.7)) c.in-Ok.ensures.count.0 i.9 t.fault c.seen_by-self-inside.result shut c.requires.count.0 c.in-Ok.ensures.count.1 c.in-Ok.ensures.refused c.seen_by-self-inside.ensures.all
    c.seen_by-self-inside.ensures.last (λ h. ap is_some (c.closed_by-self-inside.ensures.none h) ∙ sym none)
    (IfSome_then t.fault c.closed_by-self-inside.ensures.some (λ f h. h ∙ or_false (closes f) ∙ ap (λ b. closes f || b) (sym none))) in
    subst (λ (v : SeatView). CameTo spec v c.args.reports.now c.take_turn.new.verdicts t.count t.place t.fault (view_of s.begun s.number (take c.seen_by-self-inside.result (o ++ t.counts)) (s.answered + t.count) shut)) c.self.view_is any.0

closing_why : (spec : Specified) (h : List Entry) (seat number : ℕ) (mine : List Entry) (q r : Report) (f : Fault) (x : Entry) → number ≡ suc (length mine) → q ≡ r → ((f ≡ Journal x) × IsOf x seat number q) ⊎ (f ≡ Closed x)
    → Answers spec h seat mine r f × (closes f ≡ true)
closing_why spec h seat number mine q r f x many same (inl own) =
    subst (λ (v : Fault). Answers spec h seat mine r v × (closes v ≡ true)) (sym own.0) (subst (λ n. IsOf x seat n r) many (subst (λ (p : Report). IsOf x seat number p) same own.1), refl)
closing_why spec h seat number mine q r f x many same (inr is) = subst (λ (v : Fault). Answers spec h seat mine r v × (closes v ≡ true)) (sym is) (tt, refl)

pub returns-in-Err-clause-came : goal.returns-in-Err-clause-came
returns-in-Err-clause-came g c =
    let spec = g.N.Naming.spec in
    let B = bodies_of spec.bodies in
    let o = g.N.Naming.opening in
    let s = c.self.inside in
    let i = c.self.invariant in
    let fault : Fault = c.closing.result in
    let whole : Legal B (o ++ s.known) = subst (λ (l : List Entry). Legal B (o ++ l)) c.front.ensures c.len-legal.ensures.legal in
    let old : List Entry = take s.seen (o ++ s.known) in
    let mine : List Entry = take s.answered (calls old s.number) in
    let many : s.answered + 1 ≡ suc (length mine) = omega (arith, length-take-le s.answered (calls old s.number) i.1) in
    let e = c.refused-in-Err.ensures in
    let v : SeatView = record { seat = s.number; seen = old; mine = mine; begun = s.begun; closed = true } in
    let q : Report = c.index-reports-0.result in
    subst (λ (t : SeatView). CameTo spec t c.args.reports.now c.take_turn.new.verdicts c.refused-in-Err.result.count c.refused-in-Err.result.place c.refused-in-Err.result.fault v) c.self.view_is
    (came_none spec (view_of s.begun s.number old s.answered (is_some s.failed)) v c.args.reports.now c.take_turn.new.verdicts c.refused-in-Err.result.count c.refused-in-Err.result.place c.refused-in-Err.result.fault fault e.0 e.2 c.requires.count.0
    (λ r rest is. let why = closing_why spec old s.number (s.answered + 1) mine q r fault _ many (c.index-reports-0.is ∙ ap (λ (l : List Report). get_or l 0 q) is) c.closing.ensures.others in record {
      legal = legal_front B (o ++ s.known) old (begins_take s.seen (o ++ s.known)) whole;
      begins = begins_self old;
      same = refl;
      begun = refl;
      why = why.0;
      seat = refl;
      closed = ap (λ b. b || is_some s.failed) (sym why.1);
    }))
