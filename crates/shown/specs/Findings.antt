-- What is found of an entry after those before it.
use Rattle.std.specs.Prelude.{◌≡◌, ◌↔◌, ℕ, suc, Bool, true, false, IsTrue, List, [], ◌∷◌, ◌++◌, length}
use Rattle.alphabet.specs.declared.events.Event.{Event}
use Rattle.alphabet.specs.declared.events.Report.{Report}
use Rattle.alphabet.specs.declared.events.Report.TheVariants as report
use Rattle.alphabet.specs.EventSets.{Set, member}
use Rattle.term.specs.Proc.{Proc, bodies_of, root}
use Rattle.term.specs.Meaning.{Trace}
use Rattle.term.specs.Specs.{Specified}
use Rattle.history.specs.declared.entry.Entry.{Entry}
use Rattle.history.specs.Entries.{events}
use Rattle.history.specs.Acceptances.{AreAcceptances}
use Rattle.shown.specs.declared.options.Format.{Format}
use Rattle.shown.specs.declared.options.Options.{Options}
use Rattle.shown.specs.Lines.{Finding, accepted, expected, offered, is_selected, line_text}

-- the set has exactly the events that could come after these entries, tick among them
abbrev pub HasNext : (ℕ → Proc) → List Entry → Set → Type 0
HasNext B before X = (x : Event) → IsTrue (member X x) ↔ Trace B root (events before ++ x ∷ [])

-- What is found of a report with this verdict: of a rejected event, which events could have come; of a rejected refusal, the
-- minimal acceptances.
abbrev pub Finds : (ℕ → Proc) → List Entry → Bool → Report → Finding → Type 0
Finds B before true r finding = finding ≡ accepted
Finds B before false (report.Event x) finding = (X : Set) × HasNext B before X × (finding ≡ expected X)
Finds B before false (report.Refusal X) finding = (Xs : List Set) × AreAcceptances B root (events before) Xs × (finding ≡ offered Xs)

-- the entry's line after the entries before it: its place, its report, and what is found of it
abbrev pub HasLine : Format → Specified → List Entry → Entry → List ℕ → Type 0
HasLine format spec before e line =
    (finding : Finding) × Finds (bodies_of spec.bodies) before e.verdict e.report finding
    × (line ≡ line_text format spec.alphabet (suc (length before)) e.seat e.number e.report finding)

-- its line where it gets one, and else nothing
abbrev pub HasLineIf : Bool → Format → Specified → List Entry → Entry → List ℕ → Type 0
HasLineIf true format spec before e part = HasLine format spec before e part
HasLineIf false format spec before e part = part ≡ []

-- what is shown of the entry after those before it
abbrev pub ShowsEntry : Options → Specified → List Entry → Entry → List ℕ → Type 0
ShowsEntry options spec before e part = HasLineIf (is_selected options.entries e.verdict) options.format spec before e part
