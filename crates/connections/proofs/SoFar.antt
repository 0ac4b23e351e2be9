-- A service so far, with one connection more, and with one more that is over.
use Rattle.std.proofs.Common.{◌≡◌, ◌≢◌, ◌⊎◌, inl, inr, ℕ, ◌+◌, ◌<◌, ◌≤◌, List, [], ◌∷◌, ◌++◌, length, take, get_or, refl, ap, subst, sym, ◌∙◌, arith, length-append, rules, suc}
use Rattle.std.specs.Prelude.{Bool, true, false, ◌||◌, ◌&&◌, ◌==◌, min, Option, None, Some, Result, map, sum_by, Ok, Err, OnOk, OnErr, IfNone}
use Rattle.std.specs.List.{list_any}
use Rattle.std.proofs.Math.Bool.{or_comm}
use Rattle.std.proofs.lemmas.List.{append-nil, take_more}
use Rattle.std.proofs.lemmas.List.Sums.{sum_by-append}
use Rattle.wire.specs.Faults.{Fault}
use Rattle.wire.specs.declared.answer.Tally.{Tally}
use Rattle.wire.specs.declared.engine.End.{End}
use Rattle.wire.specs.declared.engine.WireError.{WireError}
use Rattle.connections.specs.declared.outcome.Ending.{Ending}
use Rattle.connections.specs.declared.outcome.Ending.TheVariants as ending
use Rattle.connections.specs.declared.outcome.Outcome.{Outcome}
use Rattle.connections.specs.declared.outcome.Outcome.TheVariants.{Over, Refused, NotStarted}
use Rattle.connections.specs.declared.services.Look.{Look}
use Rattle.connections.specs.declared.services.Look.TheVariants as look
use Rattle.connections.specs.declared.services.Terms.{Terms}
use Rattle.connections.specs.declared.totals.Totals.{Totals}
use Rattle.connections.specs.declared.visits.Running.{Running}
use Rattle.connections.specs.declared.visits.Visit.{Visit}
use Rattle.connections.specs.declared.visits.Visited.{Visited}
use Rattle.connections.specs.declared.visits.Visited.TheVariants as visited
use Rattle.connections.specs.Endings.{has_rejected, met_limit}
use Rattle.answers.specs.declared.fault.Fault.TheVariants.{Seats}
use Rattle.connections.specs.Outcomes.{IsOutcome, WasClosed, ending_of, places_of}
use Rattle.connections.specs.Services.{EndsByFailure, EndsByIdleness, Goes, Holding, IsHeld, IsLook, IsStep, IsSum, IsWithout, Standing, Step, Without, took, freed, nobody, failed, beginning, capped, nothing_held, refusal_of, steps_by, taken_of, unjudged_of}
use Rattle.connections.specs.Visiting.{Comes, State, present, past, visits_of, outcomes_of, outcome_after, place_after, refusal_in, standing, Book, IsAdded, IsState, IsVisit, IsVisited, IsAt, IsRefused, IsSoFar, Leave, none, more, Leaves, before_place, holding_of, numbers_of, promises}

or_in : (a b c : Bool) → (a || (b || c)) ≡ ((a || b) || c)
or_in true b c = refl
or_in false b c = refl

-- the endings of some outcomes, by a test, with one outcome more
any_last : {P : Type 0} (f : Ending → Bool) (os : List (Outcome P)) (o : Outcome P)
    → list_any f (map ending_of (os ++ o ∷ [])) ≡ (list_any f (map ending_of os) || f (ending_of o))
any_last f [] o = or_comm (f (ending_of o)) false
any_last f (x ∷ os) o = ap (λ b. f (ending_of x) || b) (any_last f os o) ∙ or_in (f (ending_of x)) (list_any f (map ending_of os)) (f (ending_of o))

count_more : {P : Type 0} (f : Ending → ℕ) (os : List (Outcome P)) (o : Outcome P)
    → sum_by f (map ending_of (os ++ o ∷ [])) ≡ sum_by f (map ending_of os) + f (ending_of o)
count_more f [] o = omega arith
count_more f (x ∷ os) o =
    let rest = count_more f os o in
    let all = sum_by-append f (ending_of x ∷ []) (map ending_of (os ++ o ∷ [])) in
    let some = sum_by-append f (ending_of x ∷ []) (map ending_of os) in
    omega (arith, rest, all, some)

capped_in : (n m : ℕ) → capped (capped n + m) ≡ capped (n + m)
capped_in n m = omega arith

-- where each test and each count is met by one ending more, so is the sum
pub sum_more : (es fs : List Ending) (e : Ending) (old new : Totals) → ((f : Ending → Bool) → list_any f fs ≡ (list_any f es || f e))
    → ((f : Ending → ℕ) → sum_by f fs ≡ sum_by f es + f e) → IsSum es old → IsAdded old e new → IsSum fs new
sum_more es fs e old new each count sum added = record {
  rejected = added.rejected ∙ (ap (λ b. b || has_rejected e) sum.rejected ∙ sym (each has_rejected));
  limit = added.limit ∙ (ap (λ b. b || met_limit e) sum.limit ∙ sym (each met_limit));
  unjudged = added.unjudged ∙ (ap (λ n. capped (n + unjudged_of e)) sum.unjudged ∙ (capped_in (sum_by unjudged_of es) (unjudged_of e) ∙ sym (ap capped (count unjudged_of))));
}

test_last : (f : Ending → Bool) (es : List Ending) (e : Ending) → list_any f (es ++ e ∷ []) ≡ (list_any f es || f e)
test_last f [] e = or_comm (f e) false
test_last f (x ∷ es) e = ap (λ b. f x || b) (test_last f es e) ∙ or_in (f x) (list_any f es) (f e)

-- the sum of the first endings, with one ending more
pub sum_taken : (es : List Ending) (i : ℕ) (d : Ending) (old new : Totals) → i < length es → IsSum (take i es) old → IsAdded old (get_or es i d) new → IsSum (take (i + 1) es) new
sum_taken es i d old new here sum added =
    let first = take i es in
    let e = get_or es i d in
    subst (λ l. IsSum l new) (sym (take_more es i d here))
    (sum_more first (first ++ e ∷ []) e old new (λ f. test_last f first e)
    (λ f. let one : sum_by f (e ∷ []) ≡ f e = omega arith in sum_by-append f first (e ∷ []) ∙ ap (λ n. sum_by f first + n) one) sum added)

places_more : {P : Type 0} (answered : P → ℕ) (os : List (Outcome P)) (o : Outcome P)
    → sum_by answered (places_of (o ∷ os)) ≡ sum_by answered (places_of (o ∷ [])) + sum_by answered (places_of os)
places_more answered os (Over over) = sum_by-append answered (over.place ∷ []) (places_of os)
places_more answered os (Refused fault) = omega arith
places_more answered os NotStarted = omega arith

places_last : {P : Type 0} (answered : P → ℕ) (os : List (Outcome P)) (o : Outcome P)
    → sum_by answered (places_of (os ++ o ∷ [])) ≡ sum_by answered (places_of os) + sum_by answered (places_of (o ∷ []))
places_last answered [] o = omega arith
places_last answered (x ∷ os) o =
    let more = places_last answered os o in let first = places_more answered (os ++ o ∷ []) x in let rest = places_more answered os x in omega (arith, more, first, rest)

pub without_between : {V : Type 0} (v : V) (xs ys : List V) → Without v (xs ++ v ∷ ys) (xs ++ ys)
without_between v [] ys = inl (refl, refl)
without_between v (x ∷ xs) ys = inr (xs ++ ys, refl, without_between v xs ys)

pub without_promise : {P V : Type 0} (x : Running P V) (xs ys : List (Running P V)) → Without x.thread.promise (promises (xs ++ x ∷ ys)) (promises (xs ++ ys))
without_promise x [] ys = inl (refl, refl)
without_promise x (y ∷ xs) ys = inr (promises (xs ++ ys), refl, without_promise x xs ys)

pub promises_last : {P V : Type 0} (xs : List (Running P V)) (x : Running P V) → promises (xs ++ x ∷ []) ≡ promises xs ++ x.thread.promise ∷ []
promises_last [] x = refl
promises_last (y ∷ xs) x = ap (λ vs. y.thread.promise ∷ vs) (promises_last xs x)

abbrev pub book : {V : Type 0} → List V → Totals → ℕ → ℕ → Book V
book visits totals free counted = record { visits = visits; totals = totals; free = free; counted = counted }

-- the book before a place was given, or refused
pub taken_book : {P V E : Type 0} (r : Result P E) (visits : List V) (totals : Totals) (free free' counted counted' : ℕ)
    → OnOk r (free' + 1 ≡ free) → OnErr r (free' ≡ free) → counted' ≡ counted → before_place r (book visits totals free' counted') ≡ book visits totals free counted
taken_book (Ok place) visits totals free free' counted counted' ok err same =
    ap (λ n. book visits totals n counted') ok ∙ ap (λ n. book visits totals free n) same
taken_book (Err fault) visits totals free free' counted counted' ok err same =
    ap (λ n. book visits totals n counted') err ∙ ap (λ n. book visits totals free n) same

abbrev pub IsNone : {V : Type 0} → List V → Type 0
IsNone [] = Unit {0}
IsNone (v ∷ vs) = ⊥

-- one step more
pub goes_more : {S T : Type 0} (is : S → T → S → Type 0) (a b d : S) (ts : List T) (t : T) → Goes is a ts b → is b t d → Goes is a (ts ++ t ∷ []) d
goes_more is a b d [] t h one = (d, subst (λ s. is s t d) h one, refl)
goes_more is a b d (x ∷ xs) t h one = (h.0, h.1, goes_more is h.0 b d xs t h.2 one)

steps_last : {O Q : Type 0} (f : O → Q) (ss : List (Step O)) (s : Step O) → steps_by f (ss ++ s ∷ []) ≡ steps_by f ss ++ steps_by f (s ∷ [])
steps_last f [] s = refl
steps_last f (took one ∷ ss) s = ap (λ l. took (f one) ∷ l) (steps_last f ss s)
steps_last f (freed k ∷ ss) s = ap (λ l. freed k ∷ l) (steps_last f ss s)
steps_last f (nobody ∷ ss) s = ap (λ l. nobody ∷ l) (steps_last f ss s)
steps_last f (failed ∷ ss) s = ap (λ l. failed ∷ l) (steps_last f ss s)

taken_last : {O : Type 0} (ss : List (Step O)) (s : Step O) → taken_of (ss ++ s ∷ []) ≡ taken_of ss ++ taken_of (s ∷ [])
taken_last [] s = refl
taken_last (took one ∷ ss) s = ap (λ l. one ∷ l) (taken_last ss s)
taken_last (freed k ∷ ss) s = taken_last ss s
taken_last (nobody ∷ ss) s = taken_last ss s
taken_last (failed ∷ ss) s = taken_last ss s

-- one step more, by which more is known
steps_more : {S O Q : Type 0} (is : S → Step Q → S → Type 0) (f : O → Q) (begun old new : S) (ss : List (Step O)) (s : Step O) (x : Step Q)
    → Goes is begun (steps_by f ss) old → steps_by f (s ∷ []) ≡ x ∷ [] → is old x new → Goes is begun (steps_by f (ss ++ s ∷ [])) new
steps_more is f begun old new ss s x h same one =
    subst (λ l. Goes is begun l new) (sym (steps_last f ss s ∙ ap (λ l. steps_by f ss ++ l) same)) (goes_more is begun old new (steps_by f ss) x h one)

-- one step more, by which a service stands otherwise
stands_more : {O : Type 0} (f : O → Option Fault) (refuses : Fault → Type 0) (terms : Terms) (room : ℕ) (begun old new : Standing) (ss : List (Step O)) (s : Step O) (x : Step (Option Fault))
    → Goes (IsStep refuses terms room) begun (steps_by f ss) old → steps_by f (s ∷ []) ≡ x ∷ [] → IsStep refuses terms room old x new → Goes (IsStep refuses terms room) begun (steps_by f (ss ++ s ∷ [])) new
stands_more f refuses terms room begun old new ss s x h is one =
    subst (λ l. Goes (IsStep refuses terms room) begun l new) (sym (steps_last f ss s ∙ ap (λ l. steps_by f ss ++ l) is)) (goes_more (IsStep refuses terms room) begun old new (steps_by f ss) x h one)

pub promises_long : {P V : Type 0} (xs : List (Running P V)) → length (promises xs) ≡ length xs
promises_long [] = refl
promises_long (x ∷ xs) = ap suc (promises_long xs)

pub none_after : {P : Type 0} (gone : Visited P) → refusal_of (outcome_after gone) ≡ None
none_after (visited.Over over) = refl
none_after (visited.CalledOff place) = refl

abbrev holding : List ℕ → ℕ → Holding
holding by taken = record { by = by; taken = taken }

holding_at : (by by' : List ℕ) (taken taken' : ℕ) → by ≡ by' → taken ≡ taken' → holding by taken ≡ holding by' taken'
holding_at by by' taken taken' bys takens = ap (λ l. holding l taken) bys ∙ ap (λ n. holding by' n) takens

module _ {G P R W : Type 0} where
  visits_last : (ss : List (State G P R W)) (s : State G P R W) → visits_of (ss ++ s ∷ []) ≡ visits_of ss ++ visits_of (s ∷ [])
  visits_last [] s = refl
  visits_last (present v ∷ ss) s = ap (λ vs. v ∷ vs) (visits_last ss s)
  visits_last (past o ∷ ss) s = visits_last ss s

  numbers_last : (n : ℕ) (ss : List (State G P R W)) (s : State G P R W) → numbers_of n (ss ++ s ∷ []) ≡ numbers_of n ss ++ numbers_of (n + length ss) (s ∷ [])
  numbers_last n [] s = let at : n ≡ n + 0 = omega arith in ap (λ k. numbers_of k (s ∷ [])) at
  numbers_last n (present v ∷ ss) s =
      let at : (n + 1) + length ss ≡ n + length (present v ∷ ss) = omega arith in
      ap (λ l. n ∷ l) (numbers_last (n + 1) ss s ∙ ap (λ k. numbers_of (n + 1) ss ++ numbers_of k (s ∷ [])) at)
  numbers_last n (past o ∷ ss) s =
      let at : (n + 1) + length ss ≡ n + length (past o ∷ ss) = omega arith in
      numbers_last (n + 1) ss s ∙ ap (λ k. numbers_of (n + 1) ss ++ numbers_of k (s ∷ [])) at

  -- where none is there any more, none has a place
  numbers_none : (n : ℕ) (ss : List (State G P R W)) → IsNone (visits_of ss) → numbers_of n ss ≡ []
  numbers_none n [] empty = refl
  numbers_none n (present v ∷ ss) empty = absurd empty
  numbers_none n (past o ∷ ss) empty = numbers_none (n + 1) ss empty

  long_last : (ss : List (State G P R W)) (s : State G P R W) → length (ss ++ s ∷ []) ≡ length ss + 1
  long_last ss s = length-append ss (s ∷ [])

  -- one more, whose thread runs
  held_present : (ss : List (State G P R W)) (v : Visit G P R W) → IsHeld (holding_of ss) (took None) (holding_of (ss ++ present v ∷ []))
  held_present ss v =
      let at : 0 + length ss ≡ length ss = omega arith in
      holding_at _ _ _ _ (numbers_last 0 ss (present v) ∙ ap (λ k. numbers_of 0 ss ++ k ∷ []) at) (long_last ss (present v))

  -- one more, that got no place
  held_refused : (ss : List (State G P R W)) (o : Outcome P) (fault : Fault) → IsHeld (holding_of ss) (took (Some fault)) (holding_of (ss ++ past o ∷ []))
  held_refused ss o fault = holding_at _ _ _ _ (numbers_last 0 ss (past o) ∙ append-nil (numbers_of 0 ss)) (long_last ss (past o))

  -- one more that got a place, and is over
  held_over : (ss : List (State G P R W)) (o : Outcome P)
      → IsHeld (record { by = numbers_of 0 ss ++ length ss ∷ []; taken = length ss + 1 }) (freed (length ss)) (holding_of (ss ++ past o ∷ []))
  held_over ss o =
      let left : numbers_of 0 (ss ++ past o ∷ []) ≡ numbers_of 0 ss ++ [] = numbers_last 0 ss (past o) in
      (subst (λ l. Without (length ss) (numbers_of 0 ss ++ length ss ∷ []) l) (sym left) (without_between (length ss) (numbers_of 0 ss) []), long_last ss (past o))

  outcomes_last : (ss : List (State G P R W)) (s : State G P R W) → outcomes_of (ss ++ s ∷ []) ≡ outcomes_of ss ++ outcomes_of (s ∷ [])
  outcomes_last [] s = refl
  outcomes_last (present v ∷ ss) s = outcomes_last ss s
  outcomes_last (past o ∷ ss) s = ap (λ os. o ∷ os) (outcomes_last ss s)

module _ {G P R W A L : Type 0} (gate : G) (gives : P → Type 0) (refuses : Fault → Type 0)
    (serves : G → P → P → Tally → Option (List ℕ) → Option (List ℕ) → Option (List ℕ) → Option (List ℕ) → Result End WireError → Type 0)
    (answered : P → ℕ) (free counted : L → ℕ)
    (takes : A → R → W → A → Type 0) (fails waits : A → A → Type 0) (left : R → Option (List ℕ)) (closed : R → Type 0) (contents : W → Option (List ℕ)) (told : W → Fault → Type 0) (terms : Terms) where
  abbrev Is : R → W → State G P R W → Type 0
  Is = IsState gate gives refuses serves answered free counted takes fails waits left closed contents told terms

  abbrev Was : R → W → Outcome P → Type 0
  Was r w o = IsOutcome gives (IsWithout refuses) (serves gate) (WasClosed left closed) (told w) (left r) (contents w) o

  abbrev Meets : R → W → Visit G P R W → Type 0
  Meets = IsVisit gate gives refuses serves answered free counted takes fails waits left closed contents told terms

  abbrev Kept : Visit G P R W → Visited P → Type 0
  Kept = IsVisited serves left closed contents

  abbrev Looked : A → Step (State G P R W) → A → Type 0
  Looked = IsLook takes fails waits Is

  abbrev SoFar : A → A → L → Book (Visit G P R W) → Bool → ℕ → Option Bool → Type 0
  SoFar = IsSoFar gate gives refuses serves answered free counted takes fails waits left closed contents told terms

  abbrev At : A → A → L → Book (Visit G P R W) → Standing → Type 0
  At = IsAt gate gives refuses serves answered free counted takes fails waits left closed contents told terms

  abbrev ComesAt : P → R → W → Visited P → Type 0
  ComesAt place r w gone = Comes serves (WasClosed left closed) gate place (left r) (contents w) gone

  pub came : (r : R) (w : W) (place : P) (gone : Visited P) → gives place → ComesAt place r w gone → Was r w (outcome_after gone)
  came r w place (visited.Over over) given comes = (place, comes.0, comes.1, given, comes.2, comes.3)
  came r w place (visited.CalledOff last) given comes = (place, given)

  -- what was answered at the place that comes back
  pub worth : (r : R) (w : W) (place : P) (gone : Visited P) → answered place ≡ 0 → ComesAt place r w gone
      → sum_by answered (places_of (outcome_after gone ∷ [])) ≡ answered (place_after gone)
  worth r w place (visited.Over over) nothing comes = omega arith
  worth r w place (visited.CalledOff last) nothing comes = sym (ap answered comes ∙ nothing)

  -- what a thread promises, of its connection
  promised : (r : R) (w : W) (v : Visit G P R W) (gone : Visited P) → (is : Meets r w v) → Kept v gone → ComesAt is.0 r w gone
  promised r w v gone is kept =
      subst (λ x. Comes serves (WasClosed left closed) gate is.0 (left r) (contents x) gone) is.3.3
      (subst (λ x. Comes serves (WasClosed left closed) gate is.0 (left x) (contents v.writer.value) gone) is.3.2
      (subst (λ x. Comes serves (WasClosed left closed) gate x (left v.reader.value) (contents v.writer.value) gone) is.3.1
      (subst (λ x. Comes serves (WasClosed left closed) x v.place.value (left v.reader.value) (contents v.writer.value) gone) is.3.0 kept)))

  -- steps in which this one is over that was there
  record Changed (first now : A) (states : List (Step (State G P R W))) (visits : List (Visit G P R W)) (gone : Visited P) : Type 0 where
    new : List (Step (State G P R W))
    looks : Goes Looked first new now
    there : visits_of (taken_of new) ≡ visits
    tests : (f : Ending → Bool) → list_any f (map ending_of (outcomes_of (taken_of new))) ≡ (list_any f (map ending_of (outcomes_of (taken_of states))) || f (ending_of (outcome_after gone)))
    counts : (f : Ending → ℕ) → sum_by f (map ending_of (outcomes_of (taken_of new))) ≡ sum_by f (map ending_of (outcomes_of (taken_of states))) + f (ending_of (outcome_after gone))
    same : steps_by refusal_in new ≡ steps_by refusal_in states
    fewer : length (visits_of (taken_of new)) + 1 ≡ length (visits_of (taken_of states))
    number : ℕ
    out : (m : ℕ) → Without (m + number) (numbers_of m (taken_of states)) (numbers_of m (taken_of new))
    long : length (taken_of new) ≡ length (taken_of states)
    worth_more : sum_by answered (places_of (outcomes_of (taken_of new))) ≡ sum_by answered (places_of (outcomes_of (taken_of states))) + answered (place_after gone)

  -- the same after a step in which no connection was taken
  changed_after : (first mid now : A) (s : Step (State G P R W)) (ss : List (Step (State G P R W))) (visits : List (Visit G P R W)) (gone : Visited P)
      → taken_of (s ∷ ss) ≡ taken_of ss → ((l : List (Step (State G P R W))) → taken_of (s ∷ l) ≡ taken_of l)
      → ((l k : List (Step (State G P R W))) → steps_by refusal_in l ≡ steps_by refusal_in k → steps_by refusal_in (s ∷ l) ≡ steps_by refusal_in (s ∷ k))
      → Looked first s mid → Changed mid now ss visits gone → Changed first now (s ∷ ss) visits gone
  changed_after first mid now s ss visits gone idle idles longer look rest = record {
    new = s ∷ rest.new;
    looks = (mid, look, rest.looks);
    there = ap visits_of (idles rest.new) ∙ rest.there;
    tests = λ f. ap (λ os. list_any f (map ending_of (outcomes_of os))) (idles rest.new) ∙ (rest.tests f ∙ ap (λ os. list_any f (map ending_of (outcomes_of os)) || f (ending_of (outcome_after gone))) (sym idle));
    counts = λ f. ap (λ os. sum_by f (map ending_of (outcomes_of os))) (idles rest.new) ∙ (rest.counts f ∙ ap (λ os. sum_by f (map ending_of (outcomes_of os)) + f (ending_of (outcome_after gone))) (sym idle));
    same = longer rest.new ss rest.same;
    fewer = ap (λ os. length (visits_of os) + 1) (idles rest.new) ∙ (rest.fewer ∙ ap (λ os. length (visits_of os)) (sym idle));
    number = rest.number;
    out = λ m.
        subst (λ os. Without (m + rest.number) (numbers_of m os) (numbers_of m (taken_of (s ∷ rest.new)))) (sym idle)
        (subst (λ os. Without (m + rest.number) (numbers_of m (taken_of ss)) (numbers_of m os)) (sym (idles rest.new)) (rest.out m));
    long = ap length (idles rest.new) ∙ (rest.long ∙ ap length (sym idle));
    worth_more = ap (λ os. sum_by answered (places_of (outcomes_of os))) (idles rest.new) ∙ (rest.worth_more ∙ ap (λ os. sum_by answered (places_of (outcomes_of os)) + answered (place_after gone)) (sym idle));
  }

  change : (first now : A) (states : List (Step (State G P R W))) (v : Visit G P R W) (visits : List (Visit G P R W)) (gone : Visited P)
      → Goes Looked first states now → Without v (visits_of (taken_of states)) visits → Kept v gone → Changed first now states visits gone
  change first now [] v visits gone looks out kept = absurd out
  change first now (freed n ∷ ss) v visits gone looks out kept =
      changed_after first looks.0 now (freed n) ss visits gone refl (λ l. refl) (λ l k e. ap (λ x. freed n ∷ x) e) looks.1 (change looks.0 now ss v visits gone looks.2 out kept)
  change first now (nobody ∷ ss) v visits gone looks out kept =
      changed_after first looks.0 now nobody ss visits gone refl (λ l. refl) (λ l k e. ap (λ x. nobody ∷ x) e) looks.1 (change looks.0 now ss v visits gone looks.2 out kept)
  change first now (failed ∷ ss) v visits gone looks out kept =
      changed_after first looks.0 now failed ss visits gone refl (λ l. refl) (λ l k e. ap (λ x. failed ∷ x) e) looks.1 (change looks.0 now ss v visits gone looks.2 out kept)
  change first now (took (past o) ∷ ss) v visits gone looks out kept =
      let rest = change looks.0 now ss v visits gone looks.2 out kept in
      let before = places_more answered (outcomes_of (taken_of rest.new)) o in
      let after = places_more answered (outcomes_of (taken_of ss)) o in
      let sums = rest.worth_more in
      record {
        new = took (past o) ∷ rest.new;
        looks = (looks.0, looks.1, rest.looks);
        there = rest.there;
        tests = λ f. ap (λ b. f (ending_of o) || b) (rest.tests f) ∙ or_in (f (ending_of o)) (list_any f (map ending_of (outcomes_of (taken_of ss)))) (f (ending_of (outcome_after gone)));
        counts = λ f.
            let count = rest.counts f in
            let all = sum_by-append f (ending_of o ∷ []) (map ending_of (outcomes_of (taken_of rest.new))) in
            let some = sum_by-append f (ending_of o ∷ []) (map ending_of (outcomes_of (taken_of ss))) in
            omega (arith, count, all, some);
        same = ap (λ l. took (refusal_of o) ∷ l) rest.same;
        fewer = rest.fewer;
        number = rest.number + 1;
        out = λ m.
            let at : (m + 1) + rest.number ≡ m + (rest.number + 1) = omega arith in
            subst (λ k. Without k (numbers_of (m + 1) (taken_of ss)) (numbers_of (m + 1) (taken_of rest.new))) at (rest.out (m + 1));
        long = ap suc rest.long;
        worth_more = omega (arith, before, after, sums);
      }
  change first now (took (present u) ∷ ss) v visits gone looks (inl here) kept =
      let kept' : Kept u gone = subst (λ x. Kept x gone) (sym here.0) kept in
      let more = places_more answered (outcomes_of (taken_of ss)) (outcome_after gone) in
      let is : Meets looks.1.0 looks.1.1 u = looks.1.3 in
      let comes = promised looks.1.0 looks.1.1 u gone is kept' in
      let one = worth looks.1.0 looks.1.1 is.0 gone is.2 comes in
      record {
        new = took (past (outcome_after gone)) ∷ ss;
        looks = (looks.0, (looks.1.0, looks.1.1, looks.1.2, came looks.1.0 looks.1.1 is.0 gone is.1 comes), looks.2);
        there = sym here.1;
        tests = λ f. or_comm (f (ending_of (outcome_after gone))) (list_any f (map ending_of (outcomes_of (taken_of ss))));
        counts = λ f.
            let all = sum_by-append f (ending_of (outcome_after gone) ∷ []) (map ending_of (outcomes_of (taken_of ss))) in
            omega (arith, all);
        same = ap (λ r. took r ∷ steps_by refusal_in ss) (none_after gone);
        fewer = omega arith;
        number = 0;
        out = λ m. let at : m ≡ m + 0 = omega arith in inl (at, refl);
        long = refl;
        worth_more = omega (arith, more, one);
      }
  change first now (took (present u) ∷ ss) v visits gone looks (inr later) kept =
      let rest = change looks.0 now ss v later.0 gone looks.2 later.2 kept in
      let fewer = rest.fewer in
      record {
        new = took (present u) ∷ rest.new;
        looks = (looks.0, looks.1, rest.looks);
        there = ap (λ vs. u ∷ vs) rest.there ∙ sym later.1;
        tests = rest.tests;
        counts = rest.counts;
        same = ap (λ l. took None ∷ l) rest.same;
        fewer = omega (arith, fewer);
        number = rest.number + 1;
        out = λ m.
            let at : (m + 1) + rest.number ≡ m + (rest.number + 1) = omega arith in
            inr (numbers_of (m + 1) (taken_of rest.new), refl, subst (λ k. Without k (numbers_of (m + 1) (taken_of ss)) (numbers_of (m + 1) (taken_of rest.new))) at (rest.out (m + 1)));
        long = ap suc rest.long;
        worth_more = rest.worth_more;
      }

  pub so_far_left : (first now : A) (places : L) (old new : Book (Visit G P R W)) (any : Bool) (failures : ℕ) (ended : Option Bool)
      → SoFar first now places old any failures ended → Leaves Kept answered old new → SoFar first now places new any failures ended
  so_far_left first now places old new any failures ended far leaves =
      let at = far.0 in
      let out : Without leaves.visit (visits_of (taken_of at.states)) new.visits = subst (λ vs. Without leaves.visit vs new.visits) (sym at.there) leaves.out in
      let changed = change first now at.states leaves.visit new.visits leaves.gone at.looks out leaves.kept_by in
      let fewer = changed.fewer in let free_is = leaves.free_is in let free_are = at.free_are in
      let counted_is = leaves.counted_is in let counted_are = at.counted_are in let sums = changed.worth_more in
      let number = 0 + changed.number in
      let states = changed.new ++ freed number ∷ [] in
      let same : taken_of states ≡ taken_of changed.new = taken_last changed.new (freed number) ∙ append-nil (taken_of changed.new) in
      let one = ap length changed.there in let all = ap length at.there in
      let less : length new.visits + 1 ≡ length old.visits = omega (arith, one, all, fewer) in (
        record {
          states = states;
          looks = goes_more Looked first now now changed.new (freed number) changed.looks refl;
          stands = stands_more refusal_in refuses terms (free places) beginning (standing old any failures ended) (standing new any failures ended) changed.new (freed number) (freed number)
              (subst (λ l. Goes (IsStep refuses terms (free places)) beginning l (standing old any failures ended)) (sym changed.same) at.stands) refl (less, refl);
          there = ap visits_of same ∙ changed.there;
          sum = subst (λ os. IsSum (map ending_of (outcomes_of os)) new.totals) (sym same)
              (sum_more (map ending_of (outcomes_of (taken_of at.states))) (map ending_of (outcomes_of (taken_of changed.new))) (ending_of (outcome_after leaves.gone)) old.totals new.totals changed.tests changed.counts at.sum leaves.added);
          free_are = let long = ap (λ os. length (visits_of os)) same in omega (arith, fewer, free_is, free_are, long);
          counted_are = let sums' = ap (λ os. sum_by answered (places_of (outcomes_of os))) same in omega (arith, counted_is, counted_are, sums, sums');
        },
        steps_more IsHeld refusal_in nothing_held (holding_of (taken_of at.states)) (holding_of (taken_of states)) changed.new (freed number) (freed number)
            (subst (λ l. Goes IsHeld nothing_held l (holding_of (taken_of at.states))) (sym changed.same) far.1) refl
            (subst (λ os. Without number (numbers_of 0 (taken_of at.states)) (numbers_of 0 os)) (sym same) (changed.out 0), ap length same ∙ changed.long),
      )

  pub so_far_on : (first now : A) (places : L) (old new : Book (Visit G P R W)) (any : Bool) (failures : ℕ) (ended : Option Bool)
      → SoFar first now places old any failures ended → Leave Kept answered old new → SoFar first now places new any failures ended
  so_far_on first now places old _ any failures ended far none = far
  so_far_on first now places old _ any failures ended far (more mid new before last) =
      so_far_left first now places mid new any failures ended (so_far_on first now places old mid any failures ended far before) last

  -- the same, where the flag is called otherwise
  pub so_far_flag : (first now : A) (places : L) (book : Book (Visit G P R W)) (any any' : Bool) (failures : ℕ) (ended : Option Bool)
      → SoFar first now places book any failures ended → any' ≡ any → SoFar first now places book any' failures ended
  so_far_flag first now places book any any' failures ended far same = subst (λ b. SoFar first now places book b failures ended) (sym same) far

  -- a step in which no connection is taken
  so_far_step : (first now next : A) (places : L) (book : Book (Visit G P R W)) (old new : Standing)
      (s : Step (State G P R W)) (x : Step (Option Fault)) → steps_by refusal_in (s ∷ []) ≡ x ∷ [] → taken_of (s ∷ []) ≡ [] → Looked now s next
      → IsStep refuses terms (free places) old x new → At first now places book old → At first next places book new
  so_far_step first now next places book old new s x is idle look step far =
      let states = far.states ++ s ∷ [] in
      let same : taken_of states ≡ taken_of far.states = taken_last far.states s ∙ (ap (λ l. taken_of far.states ++ l) idle ∙ append-nil (taken_of far.states)) in
      let free_are = far.free_are in let counted_are = far.counted_are in
      record {
        states = states;
        looks = goes_more Looked first now next far.states s far.looks look;
        stands = stands_more refusal_in refuses terms (free places) beginning old new far.states s x far.stands is step;
        there = ap visits_of same ∙ far.there;
        sum = subst (λ os. IsSum (map ending_of (outcomes_of os)) book.totals) (sym same) far.sum;
        free_are = let long = ap (λ os. length (visits_of os)) same in omega (arith, free_are, long);
        counted_are = let sums = ap (λ os. sum_by answered (places_of (outcomes_of os))) same in omega (arith, counted_are, sums);
      }

  -- after a step that changes nothing of who has a place
  still_held : (ss : List (Step (State G P R W))) (s : Step (State G P R W)) (x : Step (Option Fault)) → steps_by refusal_in (s ∷ []) ≡ x ∷ [] → taken_of (s ∷ []) ≡ []
      → ((h : Holding) → IsHeld h x h) → Goes IsHeld nothing_held (steps_by refusal_in ss) (holding_of (taken_of ss))
      → Goes IsHeld nothing_held (steps_by refusal_in (ss ++ s ∷ [])) (holding_of (taken_of (ss ++ s ∷ [])))
  still_held ss s x is idle still held =
      let same : taken_of (ss ++ s ∷ []) ≡ taken_of ss = taken_last ss s ∙ (ap (λ l. taken_of ss ++ l) idle ∙ append-nil (taken_of ss)) in
      subst (λ os. Goes IsHeld nothing_held (steps_by refusal_in (ss ++ s ∷ [])) (holding_of os)) (sym same)
      (steps_more IsHeld refusal_in nothing_held (holding_of (taken_of ss)) (holding_of (taken_of ss)) ss s x held is (still (holding_of (taken_of ss))))

  -- after a step in which one was taken
  more_held : (ss : List (Step (State G P R W))) (one : State G P R W) (r : Option Fault) → refusal_in one ≡ r
      → IsHeld (holding_of (taken_of ss)) (took r) (holding_of (taken_of ss ++ one ∷ []))
      → Goes IsHeld nothing_held (steps_by refusal_in ss) (holding_of (taken_of ss))
      → Goes IsHeld nothing_held (steps_by refusal_in (ss ++ took one ∷ [])) (holding_of (taken_of (ss ++ took one ∷ [])))
  more_held ss one r is step held =
      subst (λ os. Goes IsHeld nothing_held (steps_by refusal_in (ss ++ took one ∷ [])) (holding_of os)) (sym (taken_last ss (took one)))
      (steps_more IsHeld refusal_in nothing_held (holding_of (taken_of ss)) (holding_of (taken_of ss ++ one ∷ [])) ss (took one) (took r) held (ap (λ x. took x ∷ []) is) step)

  -- none came
  pub so_far_nobody : (first now next : A) (places : L) (book : Book (Visit G P R W)) (any : Bool) (failures : ℕ) (ended : Option Bool)
      → SoFar first now places book any failures None → waits now next → EndsByIdleness terms (any && (length book.visits == 0)) ended → SoFar first next places book any 0 ended
  unfolding so_far_step
  so_far_nobody first now next places book any failures ended far waited ends = (
    so_far_step first now next places book (standing book any failures None) (standing book any 0 ended) nobody nobody refl refl waited (refl, ends, refl) far.0,
    still_held far.0.states nobody nobody refl refl (λ h. refl) far.1,
  )

  -- an accept failed
  pub so_far_failed : (first now next : A) (places : L) (book : Book (Visit G P R W)) (any : Bool) (failures : ℕ) (ended : Option Bool)
      → SoFar first now places book any failures None → fails now next × (next ≡ now) → EndsByFailure terms failures ended → SoFar first next places book any (failures + 1) ended
  unfolding so_far_step
  so_far_failed first now next places book any failures ended far fault ends = (
    so_far_step first now next places book (standing book any failures None) (standing book any (failures + 1) ended) failed failed refl refl fault (refl, ends, refl) far.0,
    still_held far.0.states failed failed refl refl (λ h. refl) far.1,
  )

  -- one connection more, of which this came at once
  so_far_past : (first now next : A) (places : L) (old new : Book (Visit G P R W)) (stand stand' : Standing) (r : R) (w : W) (o : Outcome P)
      → At first now places old stand → takes now r w next → Was r w o → new.visits ≡ old.visits → IsAdded old.totals (ending_of o) new.totals
      → new.free ≡ old.free → new.counted ≡ old.counted + sum_by answered (places_of (o ∷ [])) → IsStep refuses terms (free places) stand (took (refusal_of o)) stand'
      → At first next places new stand'
  so_far_past first now next places old new stand stand' r w o far taken was visits added free_is counted_is step =
      let states = far.states ++ took (past o) ∷ [] in
      let more : taken_of states ≡ taken_of far.states ++ past o ∷ [] = taken_last far.states (took (past o)) in
      let gone : outcomes_of (taken_of states) ≡ outcomes_of (taken_of far.states) ++ o ∷ [] = ap outcomes_of more ∙ outcomes_last (taken_of far.states) (past o) in
      let there : visits_of (taken_of states) ≡ visits_of (taken_of far.states) = ap visits_of more ∙ (visits_last (taken_of far.states) (past o) ∙ append-nil (visits_of (taken_of far.states))) in
      let long = ap length there in let free_are = far.free_are in
      let counted_are = far.counted_are in let last = places_last answered (outcomes_of (taken_of far.states)) o in
      let sums : sum_by answered (places_of (outcomes_of (taken_of states))) ≡ sum_by answered (places_of (outcomes_of (taken_of far.states) ++ o ∷ [])) = ap (λ os. sum_by answered (places_of os)) gone in
      record {
        states = states;
        looks = goes_more Looked first now next far.states (took (past o)) far.looks (r, w, taken, was);
        stands = stands_more refusal_in refuses terms (free places) beginning stand stand' far.states (took (past o)) (took (refusal_of o)) far.stands refl step;
        there = there ∙ (far.there ∙ sym visits);
        sum = sum_more (map ending_of (outcomes_of (taken_of far.states))) (map ending_of (outcomes_of (taken_of states))) (ending_of o) old.totals new.totals
            (λ f. ap (λ os. list_any f (map ending_of os)) gone ∙ any_last f (outcomes_of (taken_of far.states)) o)
            (λ f. ap (λ os. sum_by f (map ending_of os)) gone ∙ count_more f (outcomes_of (taken_of far.states)) o) far.sum added;
        free_are = omega (arith, long, free_are, free_is);
        counted_are = omega (arith, counted_is, counted_are, last, sums);
      }

  -- where no place is free, as many are there as there are places; so many may be there else
  pub full_here : (first now : A) (places : L) (book : Book (Visit G P R W)) (stand : Standing) → At first now places book stand
      → (terms.threads ≤ length book.visits) ⊎ (book.free ≡ 0) → min (free places) terms.threads ≤ length book.visits
  full_here first now places at stand far (inl all) = omega (arith, all)
  full_here first now places at stand far (inr full) = let free_are = far.free_are in let long = ap length far.there in omega (arith, full, free_are, long)

  without_for : (at : Book (Visit G P R W)) (fault : Fault) → IsRefused refuses terms.threads at fault → IsWithout refuses fault
  without_for at fault (inl refused) = inl refused
  without_for at fault (inr full) = inr full.0

  full_for : (first now : A) (places : L) (at : Book (Visit G P R W)) (stand : Standing) (fault : Fault) → At first now places at stand → IsRefused refuses terms.threads at fault
      → refuses fault ⊎ ((fault ≡ Seats) × (min (free places) terms.threads ≤ length at.visits))
  full_for first now places at stand fault far (inl refused) = inl refused
  full_for first now places at stand fault far (inr full) = inr (full.0, full_here first now places at stand far full.1)

  -- one more that is refused
  pub so_far_refused : (first now next : A) (places : L) (old new : Book (Visit G P R W)) (any : Bool) (failures : ℕ) (r : R) (w : W) (fault : Fault)
      → SoFar first now places old any failures None → takes now r w next → IsRefused refuses terms.threads old fault → told w fault → new.visits ≡ old.visits → IsAdded old.totals (ending.Refused fault) new.totals
      → new.free ≡ old.free → new.counted ≡ old.counted → SoFar first next places new true 0 None
  unfolding so_far_past
  so_far_refused first now next places old new any failures r w fault far taken why was visits added free_is counted_is =
      let long = ap length visits in (
        so_far_past first now next places old new (standing old any failures None) (standing new true 0 None) r w (Refused fault) far.0 taken (without_for old fault why, was) visits added free_is (omega (arith, counted_is))
            (refl, full_for first now places old (standing old any failures None) fault far.0 why, ap (λ n. record { there = n; any = true; failures = 0; ended = None }) long),
        more_held far.0.states (past (Refused fault)) (Some fault) refl (held_refused (taken_of far.0.states) (Refused fault) fault) far.1,
      )

  -- one more that got a place, and none was there of it any more at once
  pub so_far_called_off : (first now next : A) (places : L) (old new : Book (Visit G P R W)) (any : Bool) (failures : ℕ) (r : R) (w : W) (o : Outcome P)
      → SoFar first now places old any failures None → takes now r w next → Was r w o → refusal_of o ≡ None → length old.visits < terms.threads → new.visits ≡ old.visits
      → IsAdded old.totals (ending_of o) new.totals → new.free ≡ old.free → new.counted ≡ old.counted + sum_by answered (places_of (o ∷ [])) → SoFar first next places new true 0 None
  unfolding so_far_past so_far_step
  so_far_called_off first now next places old new any failures r w o far taken was placed few visits added free_is counted_is =
      let long = ap length visits in
      let mid : Standing = record { there = length old.visits + 1; any = true; failures = 0; ended = None } in
      let number = length (taken_of far.0.states) in
      let held : Holding = record { by = numbers_of 0 (taken_of far.0.states) ++ number ∷ []; taken = number + 1 } in
      let begun = far.0.states ++ took (past o) ∷ [] in
      let one : taken_of begun ≡ taken_of far.0.states ++ past o ∷ [] = taken_last far.0.states (took (past o)) in
      let all : taken_of (begun ++ freed number ∷ []) ≡ taken_of far.0.states ++ past o ∷ [] = taken_last begun (freed number) ∙ (append-nil (taken_of begun) ∙ one) in (
        so_far_step first next next places new mid (standing new true 0 None) (freed number) (freed number) refl refl refl (omega (arith, long), refl)
            (so_far_past first now next places old new (standing old any failures None) mid r w o far.0 taken was visits added free_is counted_is
            (subst (λ x. IsStep refuses terms (free places) (standing old any failures None) (took x) mid) (sym placed) (refl, few, refl))),
        subst (λ os. Goes IsHeld nothing_held (steps_by refusal_in (begun ++ freed number ∷ [])) (holding_of os)) (sym all)
            (steps_more IsHeld refusal_in nothing_held held (holding_of (taken_of far.0.states ++ past o ∷ [])) begun (freed number) (freed number)
            (steps_more IsHeld refusal_in nothing_held (holding_of (taken_of far.0.states)) held far.0.states (took (past o)) (took None) far.1 (ap (λ x. took x ∷ []) placed) refl)
            refl (held_over (taken_of far.0.states) o)),
      )

  -- one more, whose thread runs at a place that was free
  pub so_far_present : (first now next : A) (places : L) (old new : Book (Visit G P R W)) (any : Bool) (failures : ℕ) (r : R) (w : W) (v : Visit G P R W)
      → SoFar first now places old any failures None → takes now r w next → Meets r w v → length old.visits < terms.threads → new.visits ≡ old.visits ++ v ∷ [] → new.totals ≡ old.totals
      → new.free + 1 ≡ old.free → new.counted ≡ old.counted → SoFar first next places new true 0 None
  so_far_present first now next places old new any failures r w v far taken meets few visits totals free_is counted_is =
      let states = far.0.states ++ took (present v) ∷ [] in
      let more : taken_of states ≡ taken_of far.0.states ++ present v ∷ [] = taken_last far.0.states (took (present v)) in
      let gone : outcomes_of (taken_of states) ≡ outcomes_of (taken_of far.0.states) = ap outcomes_of more ∙ (outcomes_last (taken_of far.0.states) (present v) ∙ append-nil (outcomes_of (taken_of far.0.states))) in
      let there : visits_of (taken_of states) ≡ visits_of (taken_of far.0.states) ++ v ∷ [] = ap visits_of more ∙ visits_last (taken_of far.0.states) (present v) in
      let long = ap length there ∙ length-append (visits_of (taken_of far.0.states)) (v ∷ []) in
      let longer = ap length visits ∙ length-append old.visits (v ∷ []) in
      let free_are = far.0.free_are in let counted_are = far.0.counted_are in
      let sums : sum_by answered (places_of (outcomes_of (taken_of states))) ≡ sum_by answered (places_of (outcomes_of (taken_of far.0.states))) = ap (λ os. sum_by answered (places_of os)) gone in (
        record {
          states = states;
          looks = goes_more Looked first now next far.0.states (took (present v)) far.0.looks (r, w, taken, meets);
          stands = stands_more refusal_in refuses terms (free places) beginning (standing old any failures None) (standing new true 0 None) far.0.states (took (present v)) (took None) far.0.stands refl
              (refl, few, ap (λ n. record { there = n; any = true; failures = 0; ended = None }) longer);
          there = there ∙ (ap (λ vs. vs ++ v ∷ []) far.0.there ∙ sym visits);
          sum = subst (λ os. IsSum (map ending_of os) new.totals) (sym gone) (subst (λ t. IsSum (map ending_of (outcomes_of (taken_of far.0.states))) t) (sym totals) far.0.sum);
          free_are = omega (arith, long, free_are, free_is);
          counted_are = omega (arith, counted_is, counted_are, sums);
        },
        more_held far.0.states (present v) None refl (held_present (taken_of far.0.states) v) far.1,
      )

  -- nothing was taken yet
  pub so_far_none : (first : A) (places : L) (book : Book (Visit G P R W)) → book.visits ≡ [] → IsSum [] book.totals → book.free ≡ free places → book.counted ≡ counted places
      → SoFar first first places book false 0 None
  so_far_none first places book visits sum free_is counted_is = (
    record {
      states = [];
      looks = refl;
      stands = ap (λ vs. record { there = length vs; any = false; failures = 0; ended = None }) visits;
      there = sym visits;
      sum = sum;
      free_are = omega (arith, free_is);
      counted_are = omega (arith, counted_is);
    },
    refl,
  )

  -- where none is there, of each something came
  abbrev pub pasts : List (Step (State G P R W)) → List (Step (Outcome P))
  pasts [] = []
  pasts (took (present v) ∷ ss) = pasts ss
  pasts (took (past o) ∷ ss) = took o ∷ pasts ss
  pasts (freed k ∷ ss) = freed k ∷ pasts ss
  pasts (nobody ∷ ss) = nobody ∷ pasts ss
  pasts (failed ∷ ss) = failed ∷ pasts ss

  pub all_looks : (first now : A) (ss : List (Step (State G P R W))) → Goes Looked first ss now → IsNone (visits_of (taken_of ss)) → Goes (IsLook takes fails waits Was) first (pasts ss) now
  all_looks first now [] looks empty = looks
  all_looks first now (took (present v) ∷ ss) looks empty = absurd empty
  all_looks first now (took (past o) ∷ ss) looks empty = (looks.0, looks.1, all_looks looks.0 now ss looks.2 empty)
  all_looks first now (freed k ∷ ss) looks empty = (looks.0, looks.1, all_looks looks.0 now ss looks.2 empty)
  all_looks first now (nobody ∷ ss) looks empty = (looks.0, looks.1, all_looks looks.0 now ss looks.2 empty)
  all_looks first now (failed ∷ ss) looks empty = (looks.0, looks.1, all_looks looks.0 now ss looks.2 empty)

  pub all_stands : (ss : List (Step (State G P R W))) → IsNone (visits_of (taken_of ss)) → steps_by refusal_of (pasts ss) ≡ steps_by refusal_in ss
  all_stands [] empty = refl
  all_stands (took (present v) ∷ ss) empty = absurd empty
  all_stands (took (past o) ∷ ss) empty = ap (λ l. took (refusal_of o) ∷ l) (all_stands ss empty)
  all_stands (freed k ∷ ss) empty = ap (λ l. freed k ∷ l) (all_stands ss empty)
  all_stands (nobody ∷ ss) empty = ap (λ l. nobody ∷ l) (all_stands ss empty)
  all_stands (failed ∷ ss) empty = ap (λ l. failed ∷ l) (all_stands ss empty)

  pub all_past : (ss : List (Step (State G P R W))) → IsNone (visits_of (taken_of ss)) → taken_of (pasts ss) ≡ outcomes_of (taken_of ss)
  all_past [] empty = refl
  all_past (took (present v) ∷ ss) empty = absurd empty
  all_past (took (past o) ∷ ss) empty = ap (λ l. o ∷ l) (all_past ss empty)
  all_past (freed k ∷ ss) empty = all_past ss empty
  all_past (nobody ∷ ss) empty = all_past ss empty
  all_past (failed ∷ ss) empty = all_past ss empty

  all_long : (ss : List (Step (State G P R W))) → IsNone (visits_of (taken_of ss)) → length (taken_of (pasts ss)) ≡ length (taken_of ss)
  all_long [] empty = refl
  all_long (took (present v) ∷ ss) empty = absurd empty
  all_long (took (past o) ∷ ss) empty = ap suc (all_long ss empty)
  all_long (freed k ∷ ss) empty = all_long ss empty
  all_long (nobody ∷ ss) empty = all_long ss empty
  all_long (failed ∷ ss) empty = all_long ss empty

  -- none has a place at the end
  pub all_held : (ss : List (Step (State G P R W))) → IsNone (visits_of (taken_of ss)) → Goes IsHeld nothing_held (steps_by refusal_in ss) (holding_of (taken_of ss))
      → Goes IsHeld nothing_held (steps_by refusal_of (pasts ss)) (record { by = []; taken = length (taken_of (pasts ss)) })
  all_held ss empty held =
      subst (λ l. Goes IsHeld nothing_held l (record { by = []; taken = length (taken_of (pasts ss)) })) (sym (all_stands ss empty))
      (subst (λ h. Goes IsHeld nothing_held (steps_by refusal_in ss) h) (holding_at _ _ _ _ (numbers_none 0 (taken_of ss) empty) (sym (all_long ss empty))) held)

  if_none : {X : Type 0} (ended : Option Bool) → X → IfNone ended X
  if_none None x = x
  if_none (Some b) x = tt

  same_where_none : (ended : Option Bool) (n m : ℕ) → IfNone ended (n ≡ m) → IfNone ended (m ≡ n)
  same_where_none None n m same = sym same
  same_where_none (Some b) n m same = tt

  -- after a look: whether the service goes on, or has ended
  pub so_far_looked : (first now next : A) (places : L) (old new : Book (Visit G P R W)) (any any' : Bool) (failures failures' : ℕ) (seen : Look) (idle : Bool) (ended : Option Bool)
      → (seen ≡ look.Taken → SoFar first now places old any failures None → SoFar first next places new any' 0 None)
      → (seen ≢ look.Taken → SoFar first now places old any failures None → SoFar first now places new any' failures None)
      → (seen ≡ look.Nobody → waits now next) → (seen ≡ look.Failed → fails now next × (next ≡ now)) → idle ≡ (any' && (length new.visits == 0))
      → (seen ≡ look.Taken → (ended ≡ None) × (failures' ≡ 0)) → (seen ≡ look.Nobody → EndsByIdleness terms idle ended × (failures' ≡ 0))
      → (seen ≡ look.Failed → EndsByFailure terms failures ended × IfNone ended (failures' ≡ failures + 1))
      → SoFar first now places old any failures None → (n : ℕ) × SoFar first next places new any' n ended × IfNone ended (n ≡ failures')
  so_far_looked first now next places old new any any' failures failures' look.Taken idle ended taken kept waited fault is on_taken on_nobody on_failed far =
      (0, subst (λ e. SoFar first next places new any' 0 e) (sym (on_taken refl).0) (taken refl far), subst (λ e. IfNone e (0 ≡ failures')) (sym (on_taken refl).0) (sym (on_taken refl).1))
  so_far_looked first now next places old new any any' failures failures' look.Nobody idle ended taken kept waited fault is on_taken on_nobody on_failed far = (
    0,
    so_far_nobody first now next places new any' failures ended (kept (λ e. search rules) far) (waited refl) (subst (λ i. EndsByIdleness terms i ended) is (on_nobody refl).0),
    if_none ended (sym (on_nobody refl).1),
  )
  so_far_looked first now next places old new any any' failures failures' look.Failed idle ended taken kept waited fault is on_taken on_nobody on_failed far = (
    failures + 1,
    so_far_failed first now next places new any' failures ended (kept (λ e. search rules) far) (fault refl) (on_failed refl).0,
    same_where_none ended failures' (failures + 1) (on_failed refl).1,
  )
