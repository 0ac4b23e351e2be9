-- What some reports of a seat come to, as answers of a judge.
use Rattle.std.proofs.Common.{◌≡◌, ℕ, zero, suc, ◌+◌, ◌≤◌, Bool, Option, None, Some, Result, Err, List, [], ◌∷◌, ◌++◌, length, take, drop, refl, sym, ap, ◌∙◌, subst, arith, add-one}
use Rattle.std.specs.List.{AllByRecursion}
use Rattle.alphabet.specs.declared.events.Report.{Report}
use Rattle.term.specs.Proc.{bodies_of}
use Rattle.term.specs.Specs.{Specified}
use Rattle.shared.specs.SessionFaults.{Fault as SessionFault}
use Rattle.shared.specs.View.{SeatView}
use Rattle.shared.specs.Seats.{Refused}
use Rattle.shared.specs.Turns.{AllAnswered, CameTo, Ends}
use Rattle.wire.specs.Groups.{AllReported}
use Rattle.answers.specs.declared.receipt.Receipt.{Receipt}
use Rattle.wire.specs.Faults.{Fault}
use Rattle.wire.proofs.GroupLemmas.{reported_push}
use Rattle.answers.specs.Faults.{plain_of}
use Rattle.seats.specs.Groups.{receipts_of}
use Rattle.seats.specs.Judges.{Reports}

receipts_reported : (spec : Specified) (old new : SeatView) (rs : List Report) (vs : List Bool) (place : ℕ) → AllAnswered (bodies_of spec.bodies) old rs vs place new → AllReported (Reports spec) old rs (receipts_of vs place) new
receipts_reported spec old new [] [] place a = a
receipts_reported spec old new [] (v ∷ vs) place a = absurd a
receipts_reported spec old new (r ∷ rs) [] place a = absurd a
receipts_reported spec old new (r ∷ rs) (v ∷ vs) place (mid, one, others) = (mid, one, receipts_reported spec mid new rs vs (place + 1) others)

-- no report is left
pub all_reported : (spec : Specified) (old new : SeatView) (reports : List Report) (vs : List Bool) (count place : ℕ) (fault : Option SessionFault) → fault ≡ None → CameTo spec old reports vs count place fault new
    → AllReported (Reports spec) old (take count reports) (receipts_of (take count vs) place) new
all_reported spec old new reports vs count place (Some f) none c = absurd (let no : ⊥ = cc (none) in no)
all_reported spec old new reports vs count place None none c =
    let same = by (drop count reports) c.ends in
    subst (λ (t : SeatView). AllReported (Reports spec) old (take count reports) (receipts_of (take count vs) place) t) (sym same) (receipts_reported spec old c.mid (take count reports) (take count vs) place c.receipts)
  where
    by : (left : List Report) → Ends spec c.mid left None new → new ≡ c.mid
    by [] e = e
    by (r ∷ left) e = absurd e

-- a front of a longer front
pub take_within : {X : Type 0} (i n : ℕ) (xs : List X) → i ≤ length (take n xs) → take i (take n xs) ≡ take i xs
take_within zero n xs le = refl
take_within (suc i) zero xs le = absurd (omega (arith, le))
take_within (suc i) (suc n) [] le = refl
take_within (suc i) (suc n) (x ∷ xs) le = ap (λ l. x ∷ l) (take_within i n xs (omega (arith, le)))

take_suc : (count : ℕ) (reports rest : List Report) (r : Report) → drop count reports ≡ r ∷ rest → take (suc count) reports ≡ take count reports ++ r ∷ []
take_suc zero [] rest r is = absurd (let no : ⊥ = cc (is) in no)
take_suc zero (q ∷ reports) rest r is = let same : q ≡ r = cc (is) in ap (λ (x : Report). x ∷ []) same
take_suc (suc n) [] rest r is = absurd (let no : ⊥ = cc (is) in no)
take_suc (suc n) (q ∷ reports) rest r is = ap (λ l. q ∷ l) (take_suc n reports rest r is)

take_next : (count : ℕ) (reports rest : List Report) (r : Report) → drop count reports ≡ r ∷ rest → take (count + 1) reports ≡ take count reports ++ r ∷ []
take_next count reports rest r is = ap (λ n. take n reports) (add-one count) ∙ take_suc count reports rest r is

-- what holds of all holds of those after a front
pub all_after : {X : Type 0} (P : X → Type 0) (xs ys : List X) → AllByRecursion P (xs ++ ys) → AllByRecursion P ys
all_after P [] ys all = all
all_after P (x ∷ xs) ys (one, all) = all_after P xs ys all

-- the next report is refused
pub part_reported : (spec : Specified) (old new : SeatView) (reports : List Report) (vs : List Bool) (count place : ℕ) (fault : Option SessionFault) (f : SessionFault) → fault ≡ Some f
    → CameTo spec old reports vs count place fault new → AllReported (Reports spec) old (take (count + 1) reports) (receipts_of (take count vs) place ++ Err (plain_of f) ∷ []) new
part_reported spec old new reports vs count place None f some c = absurd (let no : ⊥ = cc (some) in no)
part_reported spec old new reports vs count place (Some g) f some c = by (drop count reports) refl c.ends
  where
    by : (left : List Report) → drop count reports ≡ left → Ends spec c.mid left (Some g) new
        → AllReported (Reports spec) old (take (count + 1) reports) (receipts_of (take count vs) place ++ Err (plain_of f) ∷ []) new
    by [] is e = absurd e
    by (r ∷ rest) is e =
        let same : g ≡ f = cc (some) in
        let one : Refused spec c.mid new r f = subst (λ (x : SessionFault). Refused spec c.mid new r x) same e in
        subst (λ (l : List Report). AllReported (Reports spec) old l (receipts_of (take count vs) place ++ Err (plain_of f) ∷ []) new) (sym (take_next count reports rest r is))
        (reported_push (Reports spec) (take count reports) (receipts_of (take count vs) place) old c.mid new r (Err (plain_of f))
        (receipts_reported spec old c.mid (take count reports) (take count vs) place c.receipts) (f, refl, one))

-- some answers, and then more
pub reported_more : {J : Type 0} (P : J → Report → Result Receipt Fault → J → Type 0) (rs qs : List Report) (xs ys : List (Result Receipt Fault)) (j i k : J) → AllReported P j rs xs i → AllReported P i qs ys k
    → AllReported P j (rs ++ qs) (xs ++ ys) k
reported_more P [] qs [] ys j i k same more = subst (λ v. AllReported P v qs ys k) same more
reported_more P [] qs (x ∷ xs) ys j i k all more = absurd all
reported_more P (r ∷ rs) qs [] ys j i k all more = absurd all
reported_more P (r ∷ rs) qs (x ∷ xs) ys j i k (mid, one, others) more = (mid, one, reported_more P rs qs xs ys mid i k others more)

-- what is said of a judge's seat is said of the judge, where there was a report
pub reported_at : {J V : Type 0} (view : J → V) (put : J → V → J) (law : (j : J) (v : V) → view (put j v) ≡ v) (P : V → Report → Result Receipt Fault → V → Type 0)
    (r : Report) (rs : List Report) (xs : List (Result Receipt Fault)) (j k : J) → AllReported P (view j) (r ∷ rs) xs (view k) → AllReported (λ i q x l. P (view i) q x (view l)) j (r ∷ rs) xs k
reported_at view put law P r rs [] j k all = absurd all
reported_at view put law P r [] (x ∷ []) j k (mid, one, same) = (k, subst (λ v. P (view j) r x v) (sym same) one, refl)
reported_at view put law P r [] (x ∷ y ∷ xs) j k (mid, one, others) = absurd others
reported_at view put law P r (q ∷ rs) (x ∷ xs) j k (mid, one, others) =
    let here = law j mid in (
      put j mid,
      subst (λ v. P (view j) r x v) (sym here) one,
      reported_at view put law P q rs xs (put j mid) k (subst (λ v. AllReported P v (q ∷ rs) xs (view k)) (sym here) others),
    )

-- the same, where there was some report
pub reported_by : {J V : Type 0} (view : J → V) (put : J → V → J) (law : (j : J) (v : V) → view (put j v) ≡ v) (P : V → Report → Result Receipt Fault → V → Type 0)
    (rs : List Report) (xs : List (Result Receipt Fault)) (j k : J) → (rs ≡ [] → ⊥) → AllReported P (view j) rs xs (view k) → AllReported (λ i q x l. P (view i) q x (view l)) j rs xs k
reported_by view put law P [] xs j k some all = absurd (some refl)
reported_by view put law P (r ∷ rs) xs j k some all = reported_at view put law P r rs xs j k all
