-- A fault that a connection was told.
use Rattle.std.proofs.Common.{◌<◌, ℕ, List, inl, inr}
use Rattle.std.specs.Prelude.{Option, Result, Ok, Err, OnOk, OnErr}
use Rattle.std.specs.Io.KnownBytes.{Appends}
use Rattle.wire.specs.Faults.{Fault}
use Rattle.wire.specs.Replies.{fault_text}
use Rattle.connections.specs.Outcomes.{WasTold}

pub told_of : {W X E : Type 0} (contents : W → Option (List ℕ)) (has_handed_on : W → Type 0) (failures : W → ℕ) (old new : W) (fault : Fault) (r : Result X E)
    → OnOk r (Appends (contents old) (contents new) (fault_text fault)) → OnOk r (has_handed_on new) → OnErr r (failures old < failures new)
    → WasTold contents has_handed_on failures old fault
told_of contents has_handed_on failures old new fault (Ok x) sent handed failed = (new, inl (sent, handed))
told_of contents has_handed_on failures old new fault (Err e) sent handed failed = (new, inr failed)
