use Rattle.std.proofs.Common.{◌≡◌, List, ◌++◌, IfSome, length, length-append, sym, ap, ◌∙◌, subst, arith}
use Rattle.std.proofs.lemmas.Option.{IfSome_then}
use Rattle.locked.specs.Entry.{Entry}
use Rattle.shared.specs.Seats.{AllTold}
use Rattle.shared.proofs.Leaving.{all_left, kept_legal}
use Rattle.shared.proofs.Sums.{told_all}
use Rattle.shared.proofs.seat.Shared.finish.Goals as goal

module _ (g : _) (c : goal.After-drop-settled-inside g) where
  history : c.close-session.result.0.history ≡ g.N.Naming.opening ++ c.close-session.result.1
  history = c.close-session.ensures.session.1

  told : IfSome c.audited-count.result (λ n. AllTold c.close-session.result.0.history c.args.shares.items)
  told =
      let ps = c.args.shares.items in
      IfSome_then c.audited-count.result c.audited-count.ensures.told
      (λ n t. subst (λ (h : List Entry). AllTold h ps) (sym history) (told_all g.N.Naming.opening c.close-session.result.1 ps t.0 t.1 (sym t.3 ∙ t.2)))

pub returns-clause-session : goal.returns-clause-session
returns-clause-session g c =
    let i = c.close-session.ensures.session in (i.0, (c.close-session.result.1, i.1), kept_legal _ _ _ i.0 c.history.ensures.judged)

pub returns-clause-counted : goal.returns-clause-counted
returns-clause-counted g c =
    IfSome_then c.audited-count.result c.audited-count.ensures.told
    (λ n t. (omega (arith, ap length (history g c), length-append g.N.Naming.opening c.close-session.result.1, t.2), t.3))

pub returns-clause-told : goal.returns-clause-told
returns-clause-told g c = told g c

pub returns-clause-crash : goal.returns-clause-crash
returns-clause-crash g c script root kept =
    IfSome_then c.audited-count.result (told g c) (λ n t. all_left g.J.Recorder.recording c.close-session.result.0 script root c.args.shares.items kept t)

pub returns-clause-whole : goal.returns-clause-whole
returns-clause-whole g c many alone = c.audited-count.ensures.whole many alone
