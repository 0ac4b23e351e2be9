-- A text of which a part was written already.
use Rattle.std.proofs.Common.{◌≡◌, ℕ, true, List, ◌++◌, Ok, sym, ap, ◌∙◌, append_assoc}
use Rattle.alphabet.specs.EventSets.{Set}
use Rattle.term.specs.Specs.{Specified}
use Rattle.history.specs.declared.entry.Entry.{Entry}
use Rattle.shown.specs.declared.options.Options.{Options}
use Rattle.shown.specs.Coverage.{IsCoverage}
use Rattle.shown.specs.Findings.{ShowsEntry}
use Rattle.shown.specs.Shows.{Shows}
use Rattle.shown.specs.Steps.{IsShown}
use Rattle.shown.proofs.Further.{shown_covered}

-- what an entry adds to the text, it adds to what was written and the text
pub after_sent : (options : Options) (spec : Specified) (before : List Entry) (e : Entry) (sent old new : List ℕ) →
    (part : List ℕ) × ShowsEntry options spec before e part × (new ≡ old ++ part) → (part : List ℕ) × ShowsEntry options spec before e part × (sent ++ new ≡ (sent ++ old) ++ part)
after_sent options spec before e sent old new part = (part.0, part.1, ap (λ t. sent ++ t) part.2 ∙ sym (append_assoc sent old part.0))

-- all is shown, with the coverage
pub covered_but_end : (options : Options) (spec : Specified) (h : List Entry) (sent text text' : List ℕ) (a r : List ℕ) (p : List Set) →
    (shown : IsShown options spec h (sent ++ text) a r p) → options.coverage ≡ true →
    (put : List ℕ) × IsCoverage options.format spec.alphabet h shown.nexts put × (text' ≡ text ++ put) → Shows options spec h (sent ++ text')
covered_but_end options spec h sent text text' a r p shown wanted put =
    let whole = ap (λ t. sent ++ t) put.2 ∙ sym (append_assoc sent text put.0) in
    shown_covered {T = Unit {0}} {E = Unit {0}} (Ok tt) options spec h (sent ++ text) (sent ++ text') a r p shown wanted (put.0, put.1, whole)
