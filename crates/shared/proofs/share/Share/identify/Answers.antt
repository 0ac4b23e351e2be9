use Rattle.std.proofs.Common.{◌≡◌, ℕ, ◌+◌, ◌++◌, List, length, refl, arith, sym, ap, ◌∙◌, subst, length-append}
use Rattle.std.specs.Prelude.{take}
use Rattle.std.proofs.Math.Seq.{take-length}
use Rattle.term.specs.Proc.{bodies_of}
use Rattle.locked.specs.Entry.{Entry}
use Rattle.locked.specs.Entries.{calls}
use Rattle.locked.specs.Legal.{Legal}
use Rattle.locked.specs.Beginnings.{StartsWith}
use Rattle.shared.specs.View.{SeatView}
use Rattle.shared.proofs.Calls.{calls-append}
use Rattle.shared.proofs.Claims.{seen_begins, whole_seen}
use Rattle.shared.proofs.share.Share.identify.Goals as goal

pub invariant_of-self : goal.invariant_of-self
invariant_of-self g c =
    let i = c.self.invariant in
    let o = g.N.Naming.opening in
    let now : List Entry = c.in-Ok.counts in
    let name : ℕ = c.args.name in
    let m = c.summary.result.judged in
    let is : m ≡ length (o ++ now) = ap (λ t. t.judged) c.summary.ensures in
    let n : c.in-Ok.count ≡ length (calls (o ++ now) name) = c.in-Ok.ensures.count.0 in
    let same : length (calls (take m (o ++ now)) name) ≡ length (calls (o ++ now) name) = ap (λ (l : List Entry). length (calls l name)) (whole_seen m (o ++ now) is) in
    let opening : length (calls (o ++ now) name) ≡ length (calls o name) + length (calls now name) = ap length (calls-append name o now) ∙ length-append (calls o name) (calls now name) in
    (omega (arith, is), omega (arith, n, same), omega (arith, n, opening), i.3, omega (arith, i.4, i.8), i.5, i.6, omega (arith, c.in-Ok.ensures.count.1), omega arith, c.in-Ok.ensures.within)

pub returns-in-Ok-clause-named : goal.returns-in-Ok-clause-named
returns-in-Ok-clause-named g c =
    let B = bodies_of g.N.Naming.spec.bodies in
    let s = c.self.inside in
    let o = g.N.Naming.opening in
    let now : List Entry = c.in-Ok.counts in
    let name : ℕ = c.args.name in
    let k : ℕ = c.in-Ok.count in
    let m = c.summary.result.judged in
    let is : m ≡ length (o ++ now) = ap (λ t. t.judged) c.summary.ensures in
    let all : take m (o ++ now) ≡ o ++ now = whole_seen m (o ++ now) is in
    let legal : Legal B (o ++ now) = subst (λ (l : List Entry). Legal B (o ++ l)) c.front.ensures c.len-legal.ensures.legal in
    let longer : StartsWith (take m (o ++ now)) (take s.seen (o ++ s.known)) =
    subst (λ (l : List Entry). StartsWith l (take s.seen (o ++ s.known))) (sym all) (seen_begins s.seen o s.known now c.in-Ok.ensures.later) in
    let own : List Entry = calls (take m (o ++ now)) name in
    let many : k ≡ length own = c.in-Ok.ensures.count.0 ∙ ap (λ (l : List Entry). length (calls l name)) (sym all) in
    let mine : take k own ≡ own = ap (λ n. take n own) many ∙ take-length own in
    let count : k ≡ length (take k own) = many ∙ ap length (sym mine) in
    record {
      legal = subst (Legal B) (sym all) legal;
      begins = subst (λ (l : List Entry). StartsWith (take m (o ++ now)) l) (ap (λ (t : SeatView). t.seen) c.self.view_is) longer;
      seat = refl;
      mine = mine;
      begun = count;
      count_is = count;
      closed = ap (λ (t : SeatView). t.closed) c.self.view_is;
    }
