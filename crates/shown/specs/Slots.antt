-- Counts in memory: at 0 that of tick, and at k + 1 that of event k.
use Rattle.std.specs.Prelude.{◌≡◌, ℕ, suc, ◌+◌, ◌^◌, ◌<◌, Bool, true, false, not, cond, ◌&&◌, ◌==◌, nat_lt, List, length, get_or}
use Rattle.alphabet.specs.declared.events.Event.{Event}
use Rattle.alphabet.specs.declared.events.Event.TheVariants.{Tick as tick, Of as ev}
use Rattle.alphabet.specs.EventSets.{Set, member}
use Rattle.history.specs.declared.entry.Entry.{Entry}
use Rattle.shown.specs.Coverage.{accepted_count, rejected_count, possible_count, reports}
use Rattle.shown.specs.Tallies.{tallied}

abbrev pub slot : Event → ℕ
slot tick = 0
slot (ev k) = suc k

abbrev pub count_at : List ℕ → Event → ℕ
count_at counts x = get_or counts (slot x) 0

-- the counts of tick and the first n events
pub record AreCounts (n : ℕ) (count : Event → ℕ) (counts : List ℕ) : Type 0 where
  pub all : length counts ≡ suc n
  pub each : (x : Event) → slot x < suc n → count_at counts x ≡ count x

-- the counts of a history, for tick and the first n events, and those of the sets of what could come before each of its entries
pub record CountAll (n : ℕ) (h : List Entry) (nexts : List Set) (accepted rejected : List ℕ) (possible : List Set) : Type 0 where
  pub accepted_are : AreCounts n (accepted_count h) accepted
  pub rejected_are : AreCounts n (rejected_count h) rejected
  pub possible_are : (x : Event) → tallied possible x ≡ possible_count nexts x

-- the events that pass were counted once more
pub record Adds (old new : List ℕ) (passes : Event → Bool) : Type 0 where
  pub same : length new ≡ length old
  pub each : (x : Event) → slot x < length old → count_at new x ≡ count_at old x + cond (passes x) 1 0

-- what counting an entry needs of the counts
pub record HasRoom (accepted rejected : List ℕ) (possible : List Set) : Type 0 where
  pub accepted_small : (x : Event) → count_at accepted x < 2 ^ 62
  pub rejected_small : (x : Event) → count_at rejected x < 2 ^ 62
  pub possible_small : (x : Event) → tallied possible x < 2 ^ 62

-- the entry was counted, and what could come before it
pub record CountsEntry (e : Entry) (next : Set) (a r : List ℕ) (p : List Set) (a' r' : List ℕ) (p' : List Set) : Type 0 where
  pub accepted : Adds a a' (λ x. reports x e.report && e.verdict)
  pub rejected : Adds r r' (λ x. reports x e.report && not e.verdict)
  pub possible : (x : Event) → tallied p' x ≡ tallied p x + cond (member next x) 1 0

-- whether an event with these counts never came though it could, or could never come
abbrev pub is_absent : Bool → ℕ → ℕ → Bool
is_absent true a p = (a == 0) && nat_lt 0 p
is_absent false a p = p == 0
