-- What a settled entry leaves of its seat.
use Rattle.std.proofs.Common.{◌≡◌, ℕ, suc, ◌+◌, ◌<◌, ◌≤◌, ◌^◌, Bool, List, [], ◌∷◌, ◌++◌, length, take, drop, refl, sym, ap, ◌∙◌, subst, arith, append_assoc, length-append}
use Rattle.std.proofs.lemmas.List.{take-append-drop}
use Rattle.std.proofs.Math.Seq.{take-append_seam, take-length}
use Rattle.alphabet.specs.declared.events.Report.{Report}
use Rattle.term.specs.Proc.{Proc}
use Rattle.locked.specs.Entry.{Entry}
use Rattle.locked.specs.Entries.{calls}
use Rattle.locked.specs.Legal.{Legal, Fits}
use Rattle.locked.specs.Beginnings.{StartsWith}
use Rattle.locked.specs.Groups.{StandsAt, HasEntries}
use Rattle.locked.proofs.Beginnings.{prefix_shorter, begins_trans, begins_after}
use Rattle.shared.specs.View.{SeatView}
use Rattle.shared.specs.Turns.{AllAnswered}
use Rattle.shared.proofs.Calls.{own_enough, own_stays, after_report}

-- a beginning of a legal history is legal
pub legal_front : (B : ℕ → Proc) (whole part : List Entry) → StartsWith whole part → Legal B whole → Legal B part
legal_front B whole part (rest, is) legal before e behind cut =
    legal before e (behind ++ rest) (is ∙ ap (λ (l : List Entry). l ++ rest) cut ∙ append_assoc before (e ∷ behind) rest)

pub begins_take : (n : ℕ) (xs : List Entry) → StartsWith xs (take n xs)
begins_take n xs = (drop n xs, sym (take-append-drop n xs))

-- what a seat had seen begins a longer list
pub seen_begins : (n : ℕ) (o known later : List Entry) → StartsWith later known → StartsWith (o ++ later) (take n (o ++ known))
seen_begins n o known later longer = begins_trans (take n (o ++ known)) (o ++ known) (o ++ later) (begins_take n (o ++ known)) (begins_after o known later longer)

pub record Claimed (B : ℕ → Proc) (n k place : ℕ) (h whole : List Entry) (e : Entry) : Type 0 where
  pub before : List Entry
  pub is : take place whole ≡ before ++ e ∷ []
  pub begins : StartsWith before h
  pub legal : Legal B (take place whole)
  pub own : calls (take place whole) k ≡ take n (calls h k) ++ e ∷ []
  pub mine : take (n + 1) (calls (take place whole) k) ≡ take n (calls h k) ++ e ∷ []
  pub enough : n + 1 ≤ length (calls (take place whole) k)
  pub small : n + 1 ≤ 2 ^ 62
  pub stands : place ≡ length (take place whole)
  pub within : place ≤ length whole

pub claimed : (B : ℕ → Proc) (n k place : ℕ) (h whole : List Entry) (e : Entry) → StandsAt whole place e → Legal B whole → StartsWith whole h → length h < place → e.seat ≡ k → e.number ≡ n + 1
    → n ≤ length (calls h k) → place ≤ 2 ^ 62 → Claimed B n k place h whole e
claimed B n k place h whole e at legal begins longer seat number few small =
    let before = at.before in
    let now = before ++ e ∷ [] in
    let long : place ≡ length now = omega (arith, at.place_is, length-append before (e ∷ [])) in
    let is : take place whole ≡ now = ap (λ n. take n whole) long ∙ ap (λ (l : List Entry). take (length now) l) at.is ∙ take-append_seam now at.behind in
    let first : StartsWith before h =
    prefix_shorter h before whole (begins.0, sym begins.1) (e ∷ at.behind, sym (at.is ∙ append_assoc before (e ∷ []) at.behind)) (omega (arith, at.place_is, longer)) in
    let legal_now : Legal B now = legal_front B whole now (at.behind, at.is) legal in
    let fits : Fits B before e = legal_now before e [] refl in
    let t = after_report B n k [] before now e refl (own_enough n k before h first few) seat number fits (omega (arith, at.place_is, small)) in
    let same : take n (calls before k) ≡ take n (calls h k) = own_stays n k before h first few in
    record {
      before = before;
      is = is;
      begins = first;
      legal = subst (Legal B) (sym is) legal_now;
      own = ap (λ (l : List Entry). calls l k) is ∙ t.0 ∙ ap (λ (l : List Entry). l ++ e ∷ []) same;
      mine = ap (λ (l : List Entry). take (n + 1) (calls l k)) is ∙ t.1 ∙ ap (λ (l : List Entry). l ++ e ∷ []) same;
      enough = subst (λ (l : List Entry). n + 1 ≤ length (calls l k)) (sym is) t.2;
      small = t.3;
      stands = long ∙ ap length (sym is);
      within = omega (arith, long, ap length at.is, length-append now at.behind);
    }

-- more is seen, and a seat's own answered reports stay
pub later_own : (n k : ℕ) (h new : List Entry) → StartsWith new h → n ≤ length (calls h k) → (n ≤ length (calls new k)) × (take n (calls new k) ≡ take n (calls h k))
later_own n k h new longer few = (own_enough n k new h longer few, own_stays n k new h longer few)

-- all of a list is seen
pub whole_seen : (m : ℕ) (whole : List Entry) → m ≡ length whole → take m whole ≡ whole
whole_seen m whole is = ap (λ n. take n whole) is ∙ take-length whole

-- a seat with this number that began with so many reports and has seen these entries, of which the first so many of its calls are its own
abbrev pub view_of : ℕ → ℕ → List Entry → ℕ → Bool → SeatView
view_of b k h n closed = record { seat = k; seen = h; mine = take n (calls h k); begun = b; closed = closed }

-- what the settled entries of some reports leave of their seat
pub record ClaimedAll (B : ℕ → Proc) (b n k place : ℕ) (h whole : List Entry) (rs : List Report) (vs : List Bool) (closed : Bool) : Type 0 where
  pub seen : List Entry
  pub came : AllAnswered B (view_of b k h n closed) rs vs place (view_of b k seen (n + length rs) closed)
  pub last : (m : ℕ) → m + 1 ≡ place + length rs → 0 < length rs → seen ≡ take m whole
  pub within : (m : ℕ) → m + 1 ≡ place + length rs → 0 < length rs → m ≤ length whole
  pub none : length rs ≡ 0 → seen ≡ h
  pub begins : StartsWith whole seen
  pub enough : n + length rs ≤ length (calls seen k)
  pub small : n + length rs ≤ 2 ^ 62

last_step : (rs : List Report) (seen whole : List Entry) (place m : ℕ) → (length rs ≡ 0 → seen ≡ take place whole) → ((i : ℕ) → i + 1 ≡ place + 1 + length rs → 0 < length rs → seen ≡ take i whole)
    → m + 1 ≡ place + suc (length rs) → seen ≡ take m whole
last_step [] seen whole place m none last is = none refl ∙ ap (λ n. take n whole) (omega (arith, is))
last_step (r ∷ rs) seen whole place m none last is = last m (omega (arith, is)) (omega arith)

within_step : (rs : List Report) (whole : List Entry) (place m : ℕ) → place ≤ length whole → ((i : ℕ) → i + 1 ≡ place + 1 + length rs → 0 < length rs → i ≤ length whole)
    → m + 1 ≡ place + suc (length rs) → m ≤ length whole
within_step [] whole place m one more is = omega (arith, one, is)
within_step (r ∷ rs) whole place m one more is = more m (omega (arith, is)) (omega arith)

pub claimed_all : (B : ℕ → Proc) (b n k place : ℕ) (h whole : List Entry) (rs : List Report) (vs : List Bool) (closed : Bool) → HasEntries whole place k (n + 1) rs vs → Legal B whole → StartsWith whole h
    → length h < place → n ≤ length (calls h k) → place + length rs ≤ 2 ^ 62 + 1 → n ≤ 2 ^ 62 → ClaimedAll B b n k place h whole rs vs closed
claimed_all B b n k place h whole [] [] closed has legal begins longer few bound small =
    let same : n + 0 ≡ n = omega arith in
    record {
      seen = h;
      came = ap (λ i. view_of b k h i closed) same;
      last = λ m is some. absurd (omega (arith, some));
      within = λ m is some. absurd (omega (arith, some));
      none = λ _. refl;
      begins = begins;
      enough = omega (arith, few);
      small = omega (arith, small);
    }
claimed_all B b n k place h whole [] (v ∷ vs) closed has legal begins longer few bound small = absurd has
claimed_all B b n k place h whole (r ∷ rs) [] closed has legal begins longer few bound small = absurd has
claimed_all B b n k place h whole (r ∷ rs) (v ∷ vs) closed has legal begins longer few bound small =
    let one = has.0 in
    let e = one.entry in
    let a : Claimed B n k place h whole e = claimed B n k place h whole e one.stands legal begins longer one.is_of.seat_is one.is_of.number_is few (omega (arith, bound)) in
    let now : List Entry = take place whole in
    let rest : ClaimedAll B b (n + 1) k (place + 1) now whole rs vs closed =
    claimed_all B b (n + 1) k (place + 1) now whole rs vs closed has.1 legal (begins_take place whole) (omega (arith, a.stands)) a.enough (omega (arith, bound)) a.small in
    let count : n + 1 + length rs ≡ n + suc (length rs) = omega arith in
    record {
      seen = rest.seen;
      came = (
        view_of b k now (n + 1) closed,
        record {
          legal = a.legal;
          before = a.before;
          begins = a.begins;
          entry = e;
          is_of = record { seat_is = one.is_of.seat_is; report_is = one.is_of.report_is; verdict_is = one.verdict_is };
          ends = a.is;
          stands = a.stands;
          mine = a.mine;
          own = a.own ∙ sym a.mine;
          begun = refl;
          seat = refl;
          closed = refl;
        },
        subst (λ i. AllAnswered B (view_of b k now (n + 1) closed) rs vs (place + 1) (view_of b k rest.seen i closed)) count rest.came,
      );
      last = λ m is some. last_step rs rest.seen whole place m rest.none rest.last is;
      within = λ m is some. within_step rs whole place m a.within rest.within is;
      none = λ is. absurd (omega (arith, is));
      begins = rest.begins;
      enough = omega (arith, rest.enough);
      small = omega (arith, rest.small);
    }
