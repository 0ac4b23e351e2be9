-- What some reports of a seat come to, by the settled entries of those that were taken.
use Rattle.std.proofs.Common.{◌≡◌, ℕ, zero, suc, ◌+◌, ◌<◌, ◌≤◌, ◌^◌, Bool, false, Option, None, Some, List, [], ◌∷◌, length, take, drop, get_or, refl, sym, ap, ◌∙◌, subst, arith}
use Rattle.std.specs.Prelude.{◌||◌, IfSome}
use Rattle.std.proofs.lemmas.List.{length-take-le}
use Rattle.alphabet.specs.declared.events.Report.{Report}
use Rattle.term.specs.Proc.{Proc, bodies_of}
use Rattle.term.specs.Specs.{Specified}
use Rattle.locked.specs.Entry.{Entry}
use Rattle.locked.specs.Entries.{calls}
use Rattle.locked.specs.SessionFaults.{Fault}
use Rattle.locked.specs.Legal.{Legal, seat_limit}
use Rattle.locked.specs.Beginnings.{StartsWith}
use Rattle.locked.specs.Groups.{HasEntries}
use Rattle.shared.specs.View.{SeatView}
use Rattle.shared.specs.Faults.{Answers, closes}
use Rattle.shared.specs.Seats.{Answered, Refused}
use Rattle.shared.specs.Turns.{AllAnswered, CameTo, Ends, IsRefused}
use Rattle.shared.proofs.Faults.{answers}
use Rattle.shared.proofs.Claims.{ClaimedAll, claimed_all, later_own, view_of, whole_seen}

none_left : (count : ℕ) (reports : List Report) → count ≡ length reports → drop count reports ≡ []
none_left zero [] is = refl
none_left zero (r ∷ reports) is = absurd (omega (arith, is))
none_left (suc n) [] is = refl
none_left (suc n) (r ∷ reports) is = none_left n reports (omega (arith, is))

module _ (spec : Specified) (b n k place : ℕ) (h whole : List Entry) (reports : List Report) (verdicts : List Bool) (count : ℕ) (closed : Bool)
    (has : HasEntries whole place k (n + 1) (take count reports) (take count verdicts)) (legal : Legal (bodies_of spec.bodies) whole) (begins : StartsWith whole h)
    (longer : length h < place) (few : n ≤ length (calls h k)) (bound : place + count ≤ 2 ^ 62 + 1) (small : n ≤ 2 ^ 62) (within : count ≤ length reports) (named : k ≤ seat_limit spec.names) where
  abbrev B : ℕ → Proc
  B = bodies_of spec.bodies

  many : length (take count reports) ≡ count
  many = length-take-le count reports within

  all : ClaimedAll B b n k place h whole (take count reports) (take count verdicts) closed
  all = claimed_all B b n k place h whole (take count reports) (take count verdicts) closed has legal begins longer few (omega (arith, many, bound)) small

  receipts : AllAnswered B (view_of b k h n closed) (take count reports) (take count verdicts) place (view_of b k all.seen (n + count) closed)
  receipts = subst (λ i. AllAnswered B (view_of b k h n closed) (take count reports) (take count verdicts) place (view_of b k all.seen (n + i) closed)) many all.came

  enough : n + count ≤ length (calls all.seen k)
  enough = omega (arith, many, all.enough)

  pub few_answered : n + count ≤ 2 ^ 62
  few_answered = omega (arith, many, all.small)

  -- all were taken
  module _ (m : ℕ) (some : 0 < length reports) (is : count ≡ length reports) (last : m + 1 ≡ place + count) where
    seen_is : all.seen ≡ take m whole
    seen_is = all.last m (omega (arith, last, many)) (omega (arith, many, some, is))

    pub whole_within : m ≤ length whole
    whole_within = all.within m (omega (arith, last, many)) (omega (arith, many, some, is))

    pub whole_enough : n + count ≤ length (calls (take m whole) k)
    whole_enough = subst (λ (l : List Entry). n + count ≤ length (calls l k)) seen_is enough

    pub came_whole : CameTo spec (view_of b k h n closed) reports verdicts count place None (view_of b k (take m whole) (n + count) closed)
    came_whole = record {
      mid = view_of b k all.seen (n + count) closed;
      receipts = receipts;
      ends =
          subst (λ (l : List Report). Ends spec (view_of b k all.seen (n + count) closed) l None (view_of b k (take m whole) (n + count) closed)) (sym (none_left count reports is))
          (ap (λ (l : List Entry). view_of b k l (n + count) closed) (sym seen_is));
    }

  -- or the next one was refused
  module _ (f : Fault) (refused : IsRefused spec whole k (n + 1) reports count f) (shut : Bool) (shut_is : shut ≡ (closes f || closed)) where
    own : (n + count ≤ length (calls whole k)) × (take (n + count) (calls whole k) ≡ take (n + count) (calls all.seen k))
    own = later_own (n + count) k all.seen whole all.begins enough

    pub part_enough : n + count ≤ length (calls whole k)
    part_enough = own.0

    pub came_part : CameTo spec (view_of b k h n closed) reports verdicts count place (Some f) (view_of b k whole (n + count) shut)
    came_part =
        let mid : SeatView = view_of b k all.seen (n + count) closed in
        let new : SeatView = view_of b k whole (n + count) shut in
        let length_is : length mid.mine ≡ n + count = length-take-le (n + count) (calls all.seen k) enough in
        let why : Answers spec whole k mid.mine refused.report f = answers spec whole k (n + 1 + count) mid.mine refused.report f named (omega (arith, length_is)) refused.why in
        let one : Refused spec mid new refused.report f = record { legal = legal; begins = all.begins; same = own.1; begun = refl; why = why; seat = refl; closed = shut_is } in
        record {
          mid = mid;
          receipts = receipts;
          ends = subst (λ (l : List Report). Ends spec mid l (Some f) new) (sym refused.is) one;
        }

  -- either
  pub came_any : (fault : Option Fault) (seen : ℕ) (shut : Bool) → 0 < length reports → (fault ≡ None → count ≡ length reports) → IfSome fault (IsRefused spec whole k (n + 1) reports count)
      → IfSome fault (λ _. seen ≡ length whole) → (fault ≡ None → seen + 1 ≡ place + count) → (fault ≡ None → shut ≡ closed) → IfSome fault (λ f. shut ≡ (closes f || closed))
      → CameTo spec (view_of b k h n closed) reports verdicts count place fault (view_of b k (take seen whole) (n + count) shut) × (seen ≤ length whole) × (n + count ≤ length (calls (take seen whole) k))
  came_any None seen shut some is refused all last same closes_too =
      let counted = is refl in
      let at = last refl in (
        subst (λ (t : Bool). CameTo spec (view_of b k h n closed) reports verdicts count place None (view_of b k (take seen whole) (n + count) t)) (sym (same refl)) (came_whole seen some counted at),
        whole_within seen some counted at,
        whole_enough seen some counted at,
      )
  came_any (Some f) seen shut some is refused all last same closes_too =
      let whole_is : take seen whole ≡ whole = whole_seen seen whole all in (
        subst (λ (l : List Entry). CameTo spec (view_of b k h n closed) reports verdicts count place (Some f) (view_of b k l (n + count) shut)) (sym whole_is) (came_part f refused shut closes_too),
        omega (arith, all),
        subst (λ (l : List Entry). n + count ≤ length (calls l k)) (sym whole_is) (part_enough f refused shut closes_too),
      )

-- a seat that gets no receipt, and whose first report is refused
pub came_none : (spec : Specified) (old new : SeatView) (reports : List Report) (verdicts : List Bool) (count place : ℕ) (fault : Option Fault) (f : Fault) → count ≡ 0 → fault ≡ Some f → 0 < length reports
    → ((r : Report) (rest : List Report) → reports ≡ r ∷ rest → Refused spec old new r f) → CameTo spec old reports verdicts count place fault new
came_none spec old new [] verdicts count place fault f none is some why = absurd (omega (arith, some))
came_none spec old new (r ∷ rest) verdicts count place fault f none is some why =
    subst (λ i. CameTo spec old (r ∷ rest) verdicts i place fault new) (sym none)
    (subst (λ (o : Option Fault). CameTo spec old (r ∷ rest) verdicts 0 place o new) (sym is) (record { mid = old; receipts = refl; ends = why r rest refl }))

-- one report
pub one_came : (spec : Specified) (old new : SeatView) (r : Report) (v : Bool) (count place : ℕ) (fault : Option Fault) → CameTo spec old (r ∷ []) (v ∷ []) count place fault new
    → (fault ≡ None → Answered (bodies_of spec.bodies) old new r v place) × ((f : Fault) → fault ≡ Some f → Refused spec old new r f)
one_came spec old new r v zero place None c = absurd c.ends
one_came spec old new r v zero place (Some g) c =
    (λ none. absurd (let no : ⊥ = cc (none) in no), λ f is. let same : g ≡ f = cc (is) in subst (λ (x : Fault). Refused spec old new r x) same (subst (λ (t : SeatView). Refused spec t new r g) c.receipts c.ends))
one_came spec old new r v (suc m) place None c =
    (λ none. let one = c.receipts in subst (λ (t : SeatView). Answered (bodies_of spec.bodies) old t r v place) (sym (ended m c.mid c.ends ∙ last m one.0 c.mid one.2)) one.1, λ f is. absurd (let no : ⊥ = cc (is) in no))
  where
    last : (m : ℕ) (one mid : SeatView) → AllAnswered (bodies_of spec.bodies) one (take m []) (take m []) (place + 1) mid → mid ≡ one
    last zero one mid a = a
    last (suc m) one mid a = a

    ended : (m : ℕ) (mid : SeatView) → Ends spec mid (drop m []) None new → new ≡ mid
    ended zero mid e = e
    ended (suc m) mid e = e
one_came spec old new r v (suc m) place (Some g) c = absurd (ended m c.mid c.ends)
  where
    ended : (m : ℕ) (mid : SeatView) → Ends spec mid (drop m []) (Some g) new → ⊥
    ended zero mid e = e
    ended (suc m) mid e = e

pub single : (vs : List Bool) → length vs ≡ 1 → vs ≡ get_or vs 0 false ∷ []
single [] one = absurd (omega (arith, one))
single (v ∷ []) one = refl
single (v ∷ w ∷ vs) one = absurd (omega (arith, one))
