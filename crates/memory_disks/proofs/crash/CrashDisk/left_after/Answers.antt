use Rattle.std.proofs.Common.{◌≡◌, ◌+◌, ◌++◌, ◌∷◌, [], take, sym, ◌∙◌, subst}
use Rattle.std.proofs.lemmas.List.{take_more}
use Rattle.memory_disks.specs.Replay.{Image, image_at}
use Rattle.memory_disks.specs.Remains.{IsBoth}
use Rattle.memory_disks.proofs.Crashing.{image_more}
use Rattle.memory_disks.proofs.crash.CrashDisk.left_after.Goals as goal

pub loop-call-preserved : goal.loop-call-preserved
loop-call-preserved g c =
    let first = c.args.self.now.first.items in
    let calls = take c.args.count c.deref-3.result.now in
    let i = c.loop-call.call-index in
    let call = c.call-item.result in
    let more : take (i + 1) calls ≡ take i calls ++ call ∷ [] = take_more calls i call c.loop-call-test.true ∙ (λ k. take i calls ++ sym c.call-item.is k ∷ []) in
    subst (λ (m : Image _). IsBoth c.args.part m c.step.new.written.items c.step.new.left.items) (sym (image_more first calls i call more)) (c.in_ok-step.ensures (image_at first calls i) c.loop-call.invariant)
