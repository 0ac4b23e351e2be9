use Rattle.std.proofs.Common.{◌≡◌, ◌⊎◌, inl, sym, ◌∙◌, subst}
use Rattle.shared.specs.SessionError.{SessionError}
use Rattle.shared.specs.SessionError.TheVariants.{Device, Memory}
use Rattle.shared.specs.SessionFaults.{IsMemory}
use Rattle.shared.specs.Replays.{IsUnopened}
use Rattle.program.proofs.Results.{match_from}
use Rattle.program.proofs.checking.check.Goals as goal

pub returns-in-Ok-clause-only : goal.returns-in-Ok-clause-only
returns-in-Ok-clause-only g c spec reads =
    match_from c.judge_by.result (λ r. r.session.spec ≡ c.in-Ok.session.spec) (λ r. r.session.spec ≡ spec) (λ error. error ≡ Memory)
    (λ error. IsMemory error ⊎ (IsUnopened spec error ⊎ (error ≡ Device)))
    (λ r is. is ∙ c.in-Ok.ensures.only spec reads) (λ error is. inl (subst (λ (x : SessionError). IsMemory x) (sym is) tt)) c.judge_by.ensures.spec c.judge_by.ensures.memory
