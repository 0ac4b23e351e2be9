-- What contracts see of what lies under the lock.
use Rattle.std.specs.Prelude.{◌≡◌, ℕ, suc, ◌+◌, List, [], ◌∷◌, ◌++◌, length, Bool, Option}
use Rattle.alphabet.specs.declared.events.Report.{Report}
use Rattle.session.specs.Entry.{Entry}
use Rattle.session.specs.View.{IsOf}

-- The settled entries after the opening; the whole history with what is offered, and how many of these, the first ones, were let go; for
-- which places seats wait; the entry that closed the session; the last of the names,
-- and by its number, whether the seat of a name has a connection; the numbers that were given to seats and never used; the greatest number
-- that was given or has an entry; how many places were given, and how many there are.
pub record LockedView : Type 0 where
  pub settled : List Entry
  pub entries : List Entry
  pub gone : ℕ
  pub waiting : List ℕ
  pub failed : Option Entry
  pub names : ℕ
  pub taken : List Bool
  pub spare : List ℕ
  pub number : ℕ
  pub seats : ℕ
  pub places : ℕ

-- the same names and places, given to the same seats
pub record HasSameSeats (old new : LockedView) : Type 0 where
  pub names : new.names ≡ old.names
  pub taken : new.taken ≡ old.taken
  pub spare : new.spare ≡ old.spare
  pub seats : new.seats ≡ old.seats
  pub places : new.places ≡ old.places

-- the entry stands at this place of the history, counted from 1
pub record StandsAt (h : List Entry) (place : ℕ) (e : Entry) : Type 0 where
  pub before : List Entry
  pub behind : List Entry
  pub is : h ≡ (before ++ e ∷ []) ++ behind
  pub place_is : place ≡ suc (length before)

-- A report's entry stands at this place of the history: the seat's with this number, and this verdict.
pub record HasEntry (h : List Entry) (place seat number : ℕ) (report : Report) (verdict : Bool) : Type 0 where
  pub entry : Entry
  pub is_of : IsOf entry seat number report
  pub verdict_is : entry.verdict ≡ verdict
  pub stands : StandsAt h place entry

-- The entries of these reports, with these verdicts, stand one after the other from this place of the history on, numbered from this number
-- on.
abbrev pub HasEntries : List Entry → ℕ → ℕ → ℕ → List Report → List Bool → Type 0
HasEntries h place seat number [] [] = Unit {0}
HasEntries h place seat number [] (verdict ∷ verdicts) = ⊥
HasEntries h place seat number (report ∷ reports) [] = ⊥
HasEntries h place seat number (report ∷ reports) (verdict ∷ verdicts) =
    HasEntry h place seat number report verdict × HasEntries h (place + 1) seat (number + 1) reports verdicts
