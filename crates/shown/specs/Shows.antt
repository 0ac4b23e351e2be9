-- The text of a whole history.
use Rattle.std.specs.Prelude.{◌≡◌, Bool, true, false, ℕ, Option, List, [], ◌∷◌, ◌++◌}
use Rattle.std.specs.Io.KnownBytes.{Appends}
use Rattle.std.specs.List.{flat_map}
use Rattle.alphabet.specs.EventSets.{Set}
use Rattle.term.specs.Proc.{bodies_of}
use Rattle.term.specs.Specs.{Specified}
use Rattle.history.specs.declared.entry.Entry.{Entry}
use Rattle.shown.specs.declared.options.Options.{Options}
use Rattle.shown.specs.Findings.{HasNext, ShowsEntry}
use Rattle.shown.specs.Coverage.{IsCoverage}

-- one item for each entry of a history, to which P ties it with the entries before
pub data OneForEach {X : Type 0} (P : List Entry → Entry → X → Type 0) : List Entry → List X → Type 0 where
  none : OneForEach P [] []
  more : {before : List Entry} {items : List X} {e : Entry} {item : X} →
      OneForEach P before items → P before e item → OneForEach P (before ++ e ∷ []) (items ++ item ∷ [])

-- the coverage where it is wanted, and else nothing
abbrev pub HasCoverageIf : Bool → Options → Specified → List Entry → List Set → List ℕ → Type 0
HasCoverageIf true options spec h nexts text = IsCoverage options.format spec.alphabet h nexts text
HasCoverageIf false options spec h nexts text = text ≡ []

-- The text of a history: what is shown of each entry, one after another, and then the coverage, which counts in how many of the
-- sets `nexts` an event is: these have what could come before each entry.
pub record Shows (options : Options) (spec : Specified) (h : List Entry) (text : List ℕ) : Type 0 where
  pub parts : List (List ℕ)
  pub nexts : List Set
  pub coverage : List ℕ
  pub parts_are : OneForEach (ShowsEntry options spec) h parts
  pub nexts_are : OneForEach (λ before e X. HasNext (bodies_of spec.bodies) before X) h nexts
  pub coverage_is : HasCoverageIf options.coverage options spec h nexts coverage
  pub is : text ≡ flat_map (λ part. part) parts ++ coverage

-- since the writer had the bytes `old`, the text of the history was written but for its end, `left`
abbrev pub Writes : Options → Specified → List Entry → Option (List ℕ) → Option (List ℕ) → List ℕ → Type 0
Writes options spec h old new left = (sent : List ℕ) × Shows options spec h (sent ++ left) × Appends old new sent

-- what was written of a text became more by exactly what the writer, which had the bytes `old`, was given
abbrev pub Sends : Option (List ℕ) → Option (List ℕ) → List ℕ → List ℕ → Type 0
Sends old new before after = (sent : List ℕ) × Appends old new sent × (after ≡ before ++ sent)
