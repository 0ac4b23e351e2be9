-- What came of a connection, where its thread kept its promise.
use Rattle.std.proofs.Common.{subst, sym}
use Rattle.std.specs.Prelude.{ℕ, List, Option, Result}
use Rattle.wire.specs.Faults.{Fault}
use Rattle.wire.specs.declared.answer.Tally.{Tally}
use Rattle.wire.specs.declared.engine.End.{End}
use Rattle.wire.specs.declared.engine.WireError.{WireError}
use Rattle.connections.specs.declared.gate.Over.{Over}
use Rattle.connections.specs.declared.outcome.Outcome.{Outcome}
use Rattle.connections.specs.declared.outcome.Outcome.TheVariants as outcome
use Rattle.connections.specs.declared.threads.Begun.{Begun}
use Rattle.connections.specs.declared.threads.Taken.{Taken}
use Rattle.connections.specs.declared.threads.Taken.TheVariants.{Started, Refused, NotStarted}
use Rattle.connections.specs.Outcomes.{IsOutcome, WasClosed}
use Rattle.connections.specs.Starting.{IsJoined, IsTaken}

module _ {G P R W : Type 0} (gate : G) (gives : P → Type 0) (refuses : Fault → Type 0)
    (serves : G → P → P → Tally → Option (List ℕ) → Option (List ℕ) → Option (List ℕ) → Option (List ℕ) → Result End WireError → Type 0)
    (left : R → Option (List ℕ)) (closed : R → Type 0) (contents : W → Option (List ℕ)) (told : W → Fault → Type 0) where
  -- what a thread promises
  abbrev Kept : Begun G P R W → Over P → Type 0
  Kept begun over = (rest : Option (List ℕ)) × (new : Option (List ℕ))
      × serves begun.gate.value begun.place.value over.place over.tally (left begun.reader.value) rest (contents begun.writer.value) new over.end × WasClosed left closed rest

  pub joined : (r : R) (w : W) (t : Taken (Over P) (Begun G P R W)) (o : Outcome P) → IsTaken gate gives refuses told r w t → IsJoined Kept t o
      → IsOutcome gives refuses (serves gate) (WasClosed left closed) (told w) (left r) (contents w) o
  joined r w (Started handle) (outcome.Over over) taken kept =
      let at : (rest : Option (List ℕ)) × (new : Option (List ℕ)) × serves gate handle.promise.place.value over.place over.tally (left r) rest (contents w) new over.end × WasClosed left closed rest =
      subst (λ x. (rest : Option (List ℕ)) × (new : Option (List ℕ)) × serves gate handle.promise.place.value over.place over.tally (left r) rest (contents x) new over.end × WasClosed left closed rest) taken.3
      (subst (λ x. (rest : Option (List ℕ)) × (new : Option (List ℕ)) × serves gate handle.promise.place.value over.place over.tally (left x) rest (contents handle.promise.writer.value) new over.end × WasClosed left closed rest) taken.2
      (subst (λ x. (rest : Option (List ℕ)) × (new : Option (List ℕ)) × serves x handle.promise.place.value over.place over.tally (left handle.promise.reader.value) rest (contents handle.promise.writer.value) new over.end × WasClosed left closed rest) taken.0 kept)) in
      (handle.promise.place.value, at.0, at.1, taken.1, at.2, at.3)
  joined r w (Refused fault) (outcome.Refused fault') taken kept = subst (λ f. refuses f × told w f) (sym kept) taken
  joined r w NotStarted outcome.NotStarted taken kept = taken
  joined r w (Started handle) (outcome.Refused fault') taken kept = absurd kept
  joined r w (Started handle) outcome.NotStarted taken kept = absurd kept
  joined r w (Refused fault) (outcome.Over over) taken kept = absurd kept
  joined r w (Refused fault) outcome.NotStarted taken kept = absurd kept
  joined r w NotStarted (outcome.Over over) taken kept = absurd kept
  joined r w NotStarted (outcome.Refused fault') taken kept = absurd kept
