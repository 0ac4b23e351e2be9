-- Which names are those of processes, found one after the other: what was found of the names by their places.
use Rattle.std.specs.Prelude.{◌≡◌, ℕ, suc, ◌+◌, ◌<◌, List, [], ◌∷◌, length, Bool, true, Option, Some, None, if◌then◌else◌, is_some, slice_get}
use Rattle.std.specs.Option.{option_map, unwrap_or}
use Rattle.values.specs.Values.{Name}
use Rattle.values.specs.Names.{Entry, is_process_in, is_process}

-- the name at this place
abbrev pub name_in : List Entry → ℕ → Option Name
name_in es i = option_map (λ e. e.0) (slice_get es i)

-- what was found of the name at this place
abbrev pub found_in : List (Option Bool) → ℕ → Option Bool
found_in ts i = unwrap_or (slice_get ts i) None

-- how many names were found
unfoldable pub count_found : List (Option Bool) → ℕ
count_found [] = 0
count_found (t ∷ ts) = (if is_some t then 1 else 0) + count_found ts

-- the answer for the name, where more bare names than so many are followed
abbrev pub IsAnswer : List Entry → ℕ → Name → Bool → Type 0
IsAnswer es m n b = (k : ℕ) → m < k → is_process_in es k n ≡ b

-- What was found is the answer where more names are followed than were found.
pub record AreFound (es : List Entry) (ts : List (Option Bool)) : Type 0 where
  pub each : length ts ≡ length es
  pub right : (i : ℕ) (n : Name) (b : Bool) → name_in es i ≡ Some n → found_in ts i ≡ Some b → IsAnswer es (count_found ts) n b

-- the name leads to one of which nothing was found
pub record LeadsOn (es : List Entry) (ts : List (Option Bool)) (n : Name) : Type 0 where
  pub next : Name
  pub place : ℕ
  pub stands : name_in es place ≡ Some next
  pub not_found : found_in ts place ≡ None
  pub same : (k : ℕ) → is_process_in es (suc k) n ≡ is_process_in es k next

-- the name at this place was found or leads on
abbrev pub MayLeadOn : List Entry → List (Option Bool) → ℕ → Type 0
MayLeadOn es ts i = (n : Name) → name_in es i ≡ Some n → found_in ts i ≡ None → LeadsOn es ts n

-- the answers for all names of which something was found, and yes for those that lead on for ever
abbrev pub AreAnswers : List Entry → List (Option Bool) → Type 0
AreAnswers es ts = (i : ℕ) (n : Name) (t : Option Bool) → name_in es i ≡ Some n → slice_get ts i ≡ Some t → unwrap_or t true ≡ is_process es n
