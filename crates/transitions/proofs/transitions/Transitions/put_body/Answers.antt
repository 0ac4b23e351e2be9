use Rattle.std.proofs.Common.{◌≡◌, List, sym, ap, ◌∙◌, subst}
use Rattle.term.specs.Proc.{Proc, stop, bodies_of}
use Rattle.nodes.specs.Tables.{IsNumber}
use Rattle.transitions.proofs.Remembering.{no-body}
use Rattle.nodes.proofs.Putting.{none-when}
use Rattle.transitions.proofs.Asking.{single-in}
use Rattle.transitions.proofs.transitions.Transitions.put_body.Goals as goal

pub returns-in-Some-clause-cut : goal.returns-in-Some-clause-cut
returns-in-Some-clause-cut g c =
    let s = c.args.self.now in
    let P = bodies_of s.bodies c.args.body in
    λ most.
    single-in s.table (λ R. R ≡ P) most c.in-Some.number P c.args.into.now.items c.push.new.self.items c.in-Some.ensures.within (λ Q. ((λ e. e), (λ e. e))) c.requires.empty c.in_ok-push.ensures.items

pub returns-clause-cut : goal.returns-clause-cut
returns-clause-cut g c =
    let s = c.args.self.now in
    let r = c.put.new.self in
    let P = bodies_of r.bodies c.args.body in
    let none = c.body.ensures.none (none-when c.body.result c.in_default.not-Some) in
    let e : stop ≡ P = sym (no-body s.bodies c.args.body none) ∙ ap (λ (ps : List Proc). bodies_of ps c.args.body) (sym c.put.ensures.kept.bodies) in
    let n = c.in_ok-stop.ensures.number in
    λ most.
    single-in r.table (λ R. R ≡ P) most c.in_ok-stop.stop P c.args.into.now.items c.push-2.new.self.items (subst (λ (Q : Proc). IsNumber r.table c.in_ok-stop.stop Q) e n) (λ Q. ((λ e. e), (λ e. e))) c.requires.empty c.in_ok-push-2.ensures.items
