-- How often each event came and could come.
use Rattle.std.specs.Prelude.{◌≡◌, ℕ, Bool, true, false, not, ◌&&◌, ◌==◌, nat_lt, List, ◌++◌, map, codes, decimal}
use Rattle.std.specs.List.{count_by, flat_map, range_with_len}
use Rattle.alphabet.specs.declared.events.Event.{Event}
use Rattle.alphabet.specs.declared.events.Event.TheVariants.{Tick as tick, Of as ev}
use Rattle.alphabet.specs.Events.{is_event}
use Rattle.alphabet.specs.declared.events.Report.{Report}
use Rattle.alphabet.specs.declared.events.Report.TheVariants as report
use Rattle.alphabet.specs.EventSets.{Set, member, members}
use Rattle.alphabet.specs.Channels.{Channel, event_count}
use Rattle.history.specs.declared.entry.Entry.{Entry}
use Rattle.shown.specs.declared.options.Format.{Format}
use Rattle.shown.specs.declared.options.Format.TheVariants.{Text, Json}
use Rattle.shown.specs.Names.{name_text, set_text}
use Rattle.shown.specs.Lines.{listed}

-- whether the report is of this event
abbrev pub reports : Event → Report → Bool
reports x (report.Event y) = is_event y x
reports x (report.Refusal X) = false

-- how many entries report the event and were accepted, or were rejected
abbrev pub accepted_count : List Entry → Event → ℕ
accepted_count h x = count_by (λ (e : Entry). reports x e.report && e.verdict) h

abbrev pub rejected_count : List Entry → Event → ℕ
rejected_count h x = count_by (λ (e : Entry). reports x e.report && not e.verdict) h

-- in how many of the sets the event is
abbrev pub possible_count : List Set → Event → ℕ
possible_count nexts x = count_by (λ X. member X x) nexts

-- the line of an event
unfoldable pub count_text : Format → List Channel → Event → ℕ → ℕ → ℕ → List ℕ
count_text Text cs x a r p = name_text Text cs x ++ codes " accepted " ++ decimal a ++ codes " rejected " ++ decimal r ++ codes " possible " ++ decimal p ++ codes "\n"
count_text Json cs x a r p =
    codes "{\"event\":" ++ name_text Json cs x ++ codes ",\"accepted\":" ++ decimal a ++ codes ",\"rejected\":" ++ decimal r ++ codes ",\"possible\":" ++ decimal p
    ++ codes "}\n"

-- the line of an event, for a history and the sets of what could come before each of its entries
abbrev pub coverage_line : Format → List Channel → List Entry → List Set → Event → List ℕ
coverage_line format cs h nexts x = count_text format cs x (accepted_count h x) (rejected_count h x) (possible_count nexts x)

-- a line for each event in alphabet order, and for tick
unfoldable pub coverage_lines : (Event → List ℕ) → ℕ → List ℕ
coverage_lines line n = flat_map line (map ev (range_with_len 0 n)) ++ line tick

-- the last line: the events that could come and never came, and those that could never come
unfoldable pub absent_text : Format → List Channel → Set → Set → List ℕ
absent_text Text cs X Y = codes "never came:" ++ listed cs (members X) ++ codes "; could never come:" ++ listed cs (members Y) ++ codes "\n"
absent_text Json cs X Y = codes "{\"never_came\":" ++ set_text Json cs X ++ codes ",\"could_never_come\":" ++ set_text Json cs Y ++ codes "}\n"

-- whether the event is tick or one of the first n
abbrev pub is_below : ℕ → Event → Bool
is_below n tick = true
is_below n (ev k) = nat_lt k n

abbrev pub has_never_come : List Entry → List Set → Event → Bool
has_never_come h nexts x = (accepted_count h x == 0) && nat_lt 0 (possible_count nexts x)

-- the text of coverage, for a history and the sets of what could come before each of its entries
pub record IsCoverage (format : Format) (cs : List Channel) (h : List Entry) (nexts : List Set) (text : List ℕ) : Type 0 where
  pub never : Set
  pub impossible : Set
  pub never_are : (x : Event) → member never x ≡ (is_below (event_count cs) x && has_never_come h nexts x)
  pub impossible_are : (x : Event) → member impossible x ≡ (is_below (event_count cs) x && (possible_count nexts x == 0))
  pub is : text ≡ coverage_lines (coverage_line format cs h nexts) (event_count cs) ++ absent_text format cs never impossible
