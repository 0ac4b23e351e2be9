-- What was made of the first entries of a history.
use Rattle.std.specs.Prelude.{◌≡◌, ◌++◌, ℕ, IsTrue, List, [], Vec, length, None, Option, Some, ⊤}
use Rattle.std.specs.List.{flat_map}
use Rattle.alphabet.specs.EventSets.{Set}
use Rattle.alphabet.specs.Channels.{event_count}
use Rattle.term.specs.Proc.{bodies_of}
use Rattle.term.specs.Specs.{Specified}
use Rattle.history.specs.declared.entry.Entry.{Entry}
use Rattle.shown.specs.declared.options.Options.{Options}
use Rattle.shown.specs.declared.progress.Progress.{Progress}
use Rattle.shown.specs.Findings.{HasNext, ShowsEntry}
use Rattle.shown.specs.Shows.{OneForEach}
use Rattle.shown.specs.Slots.{CountAll}
use Rattle.shown.specs.Said.{IsSaid}

-- the text and, where coverage is wanted, the counts are those of these entries
pub record IsShown (options : Options) (spec : Specified) (h : List Entry) (text : List ℕ) (accepted rejected : List ℕ) (possible : List Set) : Type 0 where
  pub parts : List (List ℕ)
  pub nexts : List Set
  pub parts_are : OneForEach (ShowsEntry options spec) h parts
  pub nexts_are : OneForEach (λ before e X. HasNext (bodies_of spec.bodies) before X) h nexts
  pub same : length nexts ≡ length h
  pub text_is : text ≡ flat_map (λ part. part) parts
  pub counts_are : IsTrue options.coverage → CountAll (event_count spec.alphabet) h nexts accepted rejected possible

-- several texts in one
abbrev pub joined : {A : Type 0} → List (Vec ℕ A) → List ℕ
joined texts = flat_map (λ text. text.items) texts

-- what was written of the text
abbrev pub written : {A : Type 0} → Progress A → List ℕ
written p = joined p.sent.items

-- What is kept is that of its entries, for this specification: of their text what was written, and what wasn't yet.
pub record IsAt {A : Type 0} (options : Options) (spec : Specified) (p : Progress A) : Type 0 where
  pub spec_is : p.spec.value ≡ spec
  pub said : IsSaid options.format spec.alphabet p.said
  pub count_is : p.shown ≡ length p.history.items
  pub shown : IsShown options spec p.history.items (written p ++ p.text.items) p.counts.accepted.items p.counts.rejected.items p.counts.possible

-- the specification of what was made, if anything was
abbrev pub spec_in : {A : Type 0} → Option (Progress A) → Option Specified
spec_in None = None
spec_in (Some p) = Some p.spec.value

-- the entries of which it was made
abbrev pub history_in : {A : Type 0} → Option (Progress A) → List Entry
history_in None = []
history_in (Some p) = p.history.items

-- what was written of their text
abbrev pub written_in : {A : Type 0} → Option (Progress A) → List ℕ
written_in None = []
written_in (Some p) = written p

-- if anything was made, it is what is kept of its entries, for this specification
abbrev pub IsAtWhereBegun : {A : Type 0} → Options → Specified → Option (Progress A) → Type 0
IsAtWhereBegun options spec None = ⊤
IsAtWhereBegun options spec (Some p) = IsAt options spec p

-- if anything was made, it is what is kept of its entries, for its specification
abbrev pub IsSound : {A : Type 0} → Options → Option (Progress A) → Type 0
IsSound options None = ⊤
IsSound options (Some p) = IsAt options p.spec.value p
