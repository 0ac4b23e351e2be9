-- What was said of reports that were rejected.
use Rattle.std.specs.Prelude.{◌≡◌, ℕ, List, [], ◌∷◌, Some}
use Rattle.alphabet.specs.EventSets.{Set}
use Rattle.alphabet.specs.Channels.{Channel}
use Rattle.shown.specs.declared.options.Format.{Format}
use Rattle.shown.specs.declared.said.Said.{Said}
use Rattle.shown.specs.Lines.{expected, finding_text, offered}
use Rattle.shown.specs.Remarks.{remark}

-- each text that is kept is what is said of an event that was rejected where these could have come, or of a refusal where these
-- are the acceptances
abbrev pub IsSaid : {A : Type 0} → Format → List Channel → Said A → Type 0
IsSaid format cs said =
    ((X : Set) (text : List ℕ) → remark said.expected (X ∷ []) ≡ Some text → text ≡ finding_text format cs (expected X))
    × ((Xs : List Set) (text : List ℕ) → remark said.offered Xs ≡ Some text → text ≡ finding_text format cs (offered Xs))
