-- Connections whose threads run.
use Rattle.std.specs.Prelude.{◌≡◌, List, [], ◌∷◌}
use Rattle.wire.specs.Faults.{Fault}
use Rattle.connections.specs.declared.gate.Over.{Over}
use Rattle.connections.specs.declared.outcome.Outcome.{Outcome}
use Rattle.connections.specs.declared.outcome.Outcome.TheVariants as outcome
use Rattle.connections.specs.declared.threads.Begun.{Begun}
use Rattle.connections.specs.declared.threads.Taken.{Taken}
use Rattle.connections.specs.declared.threads.Taken.TheVariants.{Started, Refused, NotStarted}

-- What was done with a connection with this reader and writer: its thread runs, at a place that the gate gave; or the gate gave none, for a
-- fault that it was told; or it gave one, and no thread could be started.
module _ {G P R W : Type 0} (gate : G) (gives : P → Type 0) (refuses : Fault → Type 0) (told : W → Fault → Type 0) where
  abbrev pub IsTaken : R → W → Taken (Over P) (Begun G P R W) → Type 0
  IsTaken reader writer (Started handle) =
      (handle.promise.gate.value ≡ gate) × gives handle.promise.place.value × (handle.promise.reader.value ≡ reader) × (handle.promise.writer.value ≡ writer)
  IsTaken reader writer (Refused fault) = refuses fault × told writer fault
  IsTaken reader writer NotStarted = (place : P) × gives place

-- what came of it, where its thread keeps its promise
abbrev pub IsJoined : {P Q : Type 0} → (Q → Over P → Type 0) → Taken (Over P) Q → Outcome P → Type 0
IsJoined kept (Started handle) (outcome.Over over) = kept handle.promise over
IsJoined kept (Refused fault) (outcome.Refused told) = told ≡ fault
IsJoined kept NotStarted outcome.NotStarted = Unit {0}
IsJoined kept taken outcome = ⊥

-- the lists are equally long, and each of the second is one of the first's
abbrev pub Each : {T O : Type 0} → (T → O → Type 0) → List T → List O → Type 0
Each is [] [] = Unit {0}
Each is [] (o ∷ os) = ⊥
Each is (t ∷ ts) [] = ⊥
Each is (t ∷ ts) (o ∷ os) = is t o × Each is ts os
