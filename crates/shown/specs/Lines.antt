-- The line of an entry.
use Rattle.std.specs.Prelude.{ℕ, Bool, true, false, not, List, [], ◌∷◌, ◌++◌, map, codes, decimal}
use Rattle.std.specs.List.{flat_map}
use Rattle.alphabet.specs.declared.events.Event.{Event}
use Rattle.alphabet.specs.declared.events.Report.{Report}
use Rattle.alphabet.specs.declared.events.Report.TheVariants as report
use Rattle.alphabet.specs.EventSets.{Set, members}
use Rattle.alphabet.specs.Channels.{Channel, name_of}
use Rattle.shown.specs.declared.options.Format.{Format}
use Rattle.shown.specs.declared.options.Format.TheVariants.{Text, Json}
use Rattle.shown.specs.declared.options.Selection.{Selection}
use Rattle.shown.specs.declared.options.Selection.TheVariants as selection
use Rattle.shown.specs.Names.{ending, joined, name_text, names_text, set_text}

-- whether an entry with this verdict gets a line
abbrev pub is_selected : Selection → Bool → Bool
is_selected selection.All verdict = true
is_selected selection.Rejected verdict = not verdict
is_selected selection.None verdict = false

-- What is said of a report: it was accepted; it was an event, in whose place these could come; it was a refusal, where one of
-- these sets must be offered.
pub data Finding : Type 0 where
  accepted : Finding
  expected : Set → Finding
  offered : List Set → Finding

-- these events in order, each after a blank, or `nothing`
abbrev pub listed : List Channel → List Event → List ℕ
listed cs [] = codes " nothing"
listed cs (x ∷ xs) = flat_map (λ y. codes " " ++ name_of cs y) (x ∷ xs)

-- one of the sets must be offered; where there is none, it never comes to rest
abbrev pub alternatives : List Channel → List Set → List ℕ
alternatives cs [] = codes " never comes to rest"
alternatives cs (X ∷ Xs) = codes " must offer one of" ++ flat_map (λ Y. codes " " ++ set_text Text cs Y) (X ∷ Xs)

unfoldable pub finding_text : Format → List Channel → Finding → List ℕ
finding_text Text cs accepted = codes " OK"
finding_text Text cs (expected X) = codes " NO expected" ++ listed cs (members X)
finding_text Text cs (offered Xs) = codes " NO" ++ alternatives cs Xs
finding_text Json cs accepted = codes ",\"verdict\":\"OK\""
finding_text Json cs (expected X) = codes ",\"verdict\":\"NO\",\"expected\":" ++ set_text Json cs X
finding_text Json cs (offered Xs) = codes ",\"verdict\":\"NO\",\"acceptances\":[" ++ joined (codes ",") (map (set_text Json cs) Xs) ++ codes "]"

-- a report, in text as the line protocol has it
unfoldable pub report_text : Format → List Channel → Report → List ℕ
report_text Text cs (report.Event x) = codes "E " ++ name_of cs x
report_text Text cs (report.Refusal X) = codes "R" ++ names_text cs X
report_text Json cs (report.Event x) = codes "\"report\":\"event\",\"events\":[" ++ name_text Json cs x ++ codes "]"
report_text Json cs (report.Refusal X) = codes "\"report\":\"refusal\",\"events\":" ++ set_text Json cs X

-- the place of an entry, its seat and its number
unfoldable pub head_text : Format → ℕ → ℕ → ℕ → List ℕ
head_text Text place seat number = decimal place ++ codes " " ++ decimal seat ++ codes " " ++ decimal number ++ codes " "
head_text Json place seat number = codes "{\"place\":" ++ decimal place ++ codes ",\"seat\":" ++ decimal seat ++ codes ",\"number\":" ++ decimal number ++ codes ","

-- the line of an entry at this place
unfoldable pub line_text : Format → List Channel → ℕ → ℕ → ℕ → Report → Finding → List ℕ
line_text format cs place seat number r finding =
    head_text format place seat number ++ report_text format cs r ++ finding_text format cs finding ++ ending format
