use Rattle.std.proofs.Common.{◌≡◌, ◌++◌, length, length-append, ap, arith}
use Rattle.std.proofs.lemmas.Option.{IfSome_then}
use Rattle.shared.proofs.Leaving.{all_left_within, kept_legal}
use Rattle.shared.proofs.seat.Shared.finish_service.Goals as goal

module _ (g : _) (c : goal.After-drop-settled-inside g) where
  history : c.close-session.result.0.history ≡ g.N.Naming.opening ++ c.close-session.result.1
  history = c.close-session.ensures.session.1

pub returns-clause-session : goal.returns-clause-session
returns-clause-session g c =
    let i = c.close-session.ensures.session in (i.0, (c.close-session.result.1, i.1), kept_legal _ _ _ i.0 c.history.ensures.judged)

pub returns-clause-counted : goal.returns-clause-counted
returns-clause-counted g c =
    IfSome_then c.audited_with-count.result c.audited_with-count.ensures.told
    (λ n t. (omega (arith, ap length (history g c), length-append g.N.Naming.opening c.close-session.result.1, t.1), t.2))

pub returns-clause-within : goal.returns-clause-within
returns-clause-within g c = IfSome_then c.audited_with-count.result c.audited_with-count.ensures.told (λ n t. (c.close-session.result.1, history g c, t.0))

pub returns-clause-crash : goal.returns-clause-crash
returns-clause-crash g c script root kept =
    IfSome_then c.audited_with-count.result c.audited_with-count.ensures.told
    (λ n t. all_left_within g.J.Recorder.recording c.close-session.result.0 script root g.N.Naming.opening c.close-session.result.1 c.args.shares.items (history g c) kept t.0)

pub returns-clause-whole : goal.returns-clause-whole
returns-clause-whole g c many = c.audited_with-count.ensures.whole many
