use Rattle.std.proofs.Common.{◌≡◌, IsTrue, refl, sym, subst}
use Rattle.shared.specs.Scripts.{IsOutside}
use Rattle.large_sessions.specs.Sessions.{AreRefusedFor, HaveNoSession}
use Rattle.large_sessions.proofs.Refusing.{refused_for}
use Rattle.program.proofs.InParts.{err_and, err_match}
use Rattle.program.proofs.in_parts.replay_parts.Goals as goal

pub returns-in-Ok-clause-done : goal.returns-in-Ok-clause-done
returns-in-Ok-clause-done g c = c.in_ok-replaying.ensures.done refl

pub returns-in-Ok-clause-replayed : goal.returns-in-Ok-clause-replayed
returns-in-Ok-clause-replayed g c = c.in_ok-replaying.ensures.replayed refl

pub returns-in-Ok-clause-only : goal.returns-in-Ok-clause-only
returns-in-Ok-clause-only g c claims script root spec h is small = c.in_ok-replaying.ensures.only claims script root spec h is small refl

pub returns-in_err-replaying-clause-fault : goal.returns-in_err-replaying-clause-fault
returns-in_err-replaying-clause-fault g c =
    let s = g.F.Folder.state c.args.folder in
    let failed = c.in_err-replaying.field-0.0 in
    err_and c.from_residual.result (λ e. e ≡ failed) (λ e. IsTrue s.claims_bytes → HaveNoSession c.args.size s.bytes e) c.from_residual.ensures.1
    (λ e same. subst (λ (x : _). IsTrue s.claims_bytes → HaveNoSession c.args.size s.bytes x) (sym same) c.in_err-replaying.ensures.fault)

pub returns-in_err-replaying-clause-only : goal.returns-in_err-replaying-clause-only
returns-in_err-replaying-clause-only g c claims script root spec h is small =
    let failed = c.in_err-replaying.field-0.0 in
    err_match c.from_residual.result (λ e. e ≡ failed) _ IsOutside c.from_residual.ensures.1 (λ e same. subst IsOutside (sym same) (c.in_err-replaying.ensures.only claims script root spec h is small))

pub returns-in_err-replaying-clause-refuses : goal.returns-in_err-replaying-clause-refuses
returns-in_err-replaying-clause-refuses g c claims fault has =
    let files = (g.F.Folder.state c.args.folder).bytes in
    let failed = c.in_err-replaying.field-0.0 in
    err_match c.from_residual.result (λ e. e ≡ failed) _ (AreRefusedFor c.args.size files fault) c.from_residual.ensures.1
    (λ e same. subst (AreRefusedFor c.args.size files fault) (sym same) (refused_for c.args.size files fault failed has (c.in_err-replaying.ensures.fault claims)))

pub returns-in-Ok-clause-refuses : goal.returns-in-Ok-clause-refuses
returns-in-Ok-clause-refuses g c claims fault has = absurd (c.in_ok-replaying.ensures.no_fault refl claims fault has)

pub returns-in-Err-clause-refuses : goal.returns-in-Err-clause-refuses
returns-in-Err-clause-refuses g c claims fault has = absurd (c.in_ok-replaying.ensures.no_fault refl claims fault has)
