-- What was made of the first entries, one entry further.
use Rattle.std.proofs.Common.{◌≡◌, ℕ, suc, nat_lt, Result, Ok, Err, OnOk, ◌+◌, ◌^◌, ◌<◌, ◌≤◌, Bool, true, false, not, cond, ◌&&◌, IsTrue, List, [], ◌∷◌, ◌++◌, length, refl, sym, ap, subst, ◌∙◌, append-nil, length-append, arith}
use Rattle.std.proofs.lemmas.Grind.{flat_map-append}
use Rattle.std.proofs.lemmas.List.Sums.{sum_by-append, count_by-le-length}
use Rattle.std.proofs.lemmas.List.{get_or_past}
use Rattle.std.proofs.lemmas.Bool.Decides.{nat_tests}
use Rattle.std.specs.List.{count_by, flat_map}
use Rattle.alphabet.specs.declared.events.Event.{Event}
use Rattle.alphabet.specs.EventSets.{Set, member}
use Rattle.alphabet.specs.Channels.{event_count}
use Rattle.term.specs.Proc.{bodies_of}
use Rattle.term.specs.Specs.{Specified}
use Rattle.history.specs.declared.entry.Entry.{Entry}
use Rattle.history.specs.Legal.{IsJudged}
use Rattle.history.proofs.Histories.{room_small}
use Rattle.shown.specs.declared.options.Options.{Options}
use Rattle.shown.specs.Findings.{HasNext, ShowsEntry}
use Rattle.shown.specs.Coverage.{IsCoverage, accepted_count, rejected_count, reports}
use Rattle.shown.specs.Shows.{none, more, Shows, HasCoverageIf}
use Rattle.shown.specs.Slots.{AreCounts, Adds, CountAll, CountsEntry, HasRoom, count_at, slot}
use Rattle.shown.specs.Tallies.{tallied}
use Rattle.shown.specs.Steps.{IsShown}

one_more : {X : Type 0} (p : X → Bool) (xs : List X) (x : X) → count_by p (xs ++ x ∷ []) ≡ count_by p xs + cond (p x) 1 0
one_more p xs x = let s = sum_by-append (λ y. cond (p y) 1 0) xs (x ∷ []) in omega (arith, s)

-- counts that were counted up by those that pass are those of one more
added : (n : ℕ) (old new : List ℕ) (count count' : Event → ℕ) (passes : Event → Bool) → AreCounts n count old → Adds old new passes →
    ((x : Event) → count' x ≡ count x + cond (passes x) 1 0) → AreCounts n count' new
added n old new count count' passes were adds more' =
    record {
      all = adds.same ∙ were.all;
      each = λ x l. adds.each x (omega (arith, were.all)) ∙ ap (λ k. k + cond (passes x) 1 0) (were.each x l) ∙ sym (more' x);
    }

all_added : (n : ℕ) (h : List Entry) (nexts : List Set) (e : Entry) (next : Set) (a r : List ℕ) (p : List Set) (a' r' : List ℕ) (p' : List Set) → CountAll n h nexts a r p → CountsEntry e next a r p a' r' p' →
    CountAll n (h ++ e ∷ []) (nexts ++ next ∷ []) a' r' p'
all_added n h nexts e next a r p a' r' p' were adds =
    record {
      accepted_are = added n a a' (accepted_count h) (accepted_count (h ++ e ∷ [])) (λ x. reports x e.report && e.verdict) were.accepted_are adds.accepted
          (λ x. one_more (λ (y : Entry). reports x y.report && y.verdict) h e);
      rejected_are = added n r r' (rejected_count h) (rejected_count (h ++ e ∷ [])) (λ x. reports x e.report && not e.verdict) were.rejected_are adds.rejected
          (λ x. one_more (λ (y : Entry). reports x y.report && not y.verdict) h e);
      possible_are = λ x. adds.possible x ∙ ap (λ k. k + cond (member next x) 1 0) (were.possible_are x) ∙ sym (one_more (λ X. member X x) nexts next);
    }

small_by : (n : ℕ) (count : Event → ℕ) (counts : List ℕ) (x : Event) (b : Bool) → nat_lt (slot x) (suc n) ≡ b → AreCounts n count counts → count x < 2 ^ 62 → count_at counts x < 2 ^ 62
small_by n count counts x true e are le =
    let l : slot x < suc n = grind (arith, nat_tests) in
    omega (arith, are.each x l)
small_by n count counts x false e are le =
    let l : suc n ≤ slot x = grind (arith, nat_tests) in
    omega (arith, get_or_past counts (slot x) 0 (omega (arith, are.all)))

-- the counts of a history are small
room : (n : ℕ) (h : List Entry) (nexts : List Set) (a r : List ℕ) (p : List Set) → length nexts ≡ length h → length h < 2 ^ 62 → CountAll n h nexts a r p → HasRoom a r p
room n h nexts a r p same small were =
    record {
      accepted_small = λ x. let le = count_by-le-length (λ (y : Entry). reports x y.report && y.verdict) h in small_by n (accepted_count h) a x (nat_lt (slot x) (suc n)) refl were.accepted_are (omega (arith, le));
      rejected_small = λ x. let le = count_by-le-length (λ (y : Entry). reports x y.report && not y.verdict) h in small_by n (rejected_count h) r x (nat_lt (slot x) (suc n)) refl were.rejected_are (omega (arith, le));
      possible_small = λ x. let le = count_by-le-length (λ X. member X x) nexts in omega (arith, le, were.possible_are x);
    }

-- there was room for the entry that comes next
pub small_here : (spec : Specified) (before : List Entry) (e : Entry) → IsJudged spec (before ++ e ∷ []) → length before < 2 ^ 62
small_here spec before e judged = room_small spec.names before e.seat e.number (judged.room before e [] refl)

-- one entry further
module _ (options : Options) (spec : Specified) (before : List Entry) (e : Entry) where
  pub room_here : (text : List ℕ) (a r : List ℕ) (p : List Set) → length before < 2 ^ 62 → IsShown options spec before text a r p → IsTrue options.coverage → HasRoom a r p
  room_here text a r p small shown wanted = room (event_count spec.alphabet) before shown.nexts a r p shown.same small (shown.counts_are wanted)

  pub shown_next : (next : Set) (text text' : List ℕ) (a r : List ℕ) (p : List Set) (a' r' : List ℕ) (p' : List Set) → IsShown options spec before text a r p →
      HasNext (bodies_of spec.bodies) before next →
      (part : List ℕ) × ShowsEntry options spec before e part × (text' ≡ text ++ part) →
      (IsTrue options.coverage → CountsEntry e next a r p a' r' p') →
      IsShown options spec (before ++ e ∷ []) text' a' r' p'
  shown_next next text text' a r p a' r' p' shown has part counted =
      record {
        parts = shown.parts ++ part.0 ∷ [];
        nexts = shown.nexts ++ next ∷ [];
        parts_are = more shown.parts_are part.1;
        nexts_are = more shown.nexts_are has;
        same = length-append shown.nexts (next ∷ []) ∙ ap (λ n. n + 1) shown.same ∙ sym (length-append before (e ∷ []));
        text_is = part.2 ∙ ap (λ t. t ++ part.0) shown.text_is ∙ ap (λ t. flat_map (λ q. q) shown.parts ++ t) (sym (append-nil part.0)) ∙ sym (flat_map-append (λ q. q) shown.parts (part.0 ∷ []));
        counts_are = λ wanted. all_added (event_count spec.alphabet) before shown.nexts e next a r p a' r' p' (shown.counts_are wanted) (counted wanted);
      }

-- nothing is shown yet
pub nothing_shown : (options : Options) (spec : Specified) (h : List Entry) (n : ℕ) (text : List ℕ) (a r : List ℕ) (p : List Set) → n ≡ event_count spec.alphabet → h ≡ [] → text ≡ [] →
    AreCounts n (λ _. 0) a → AreCounts n (λ _. 0) r → ((x : Event) → tallied p x ≡ 0) → IsShown options spec h text a r p
nothing_shown options spec h n text a r p same none_yet empty za zr zp =
    let it : IsShown options spec [] text a r p = record {
      parts = [];
      nexts = [];
      parts_are = none;
      nexts_are = none;
      same = refl;
      text_is = empty;
      counts_are = λ _. record {
        accepted_are = subst (λ m. AreCounts m (λ _. 0) a) same za;
        rejected_are = subst (λ m. AreCounts m (λ _. 0) r) same zr;
        possible_are = zp;
      };
    } in
    subst (λ l. IsShown options spec l text a r p) (sym none_yet) it

covers : (b : Bool) (options : Options) (spec : Specified) (h : List Entry) (nexts : List Set) (text : List ℕ) → b ≡ true → IsCoverage options.format spec.alphabet h nexts text →
    HasCoverageIf b options spec h nexts text
covers b options spec h nexts text wanted is = subst (λ c. HasCoverageIf c options spec h nexts text) (sym wanted) is

-- all is shown, without coverage
pub shown_alone : (options : Options) (spec : Specified) (h : List Entry) (text : List ℕ) (a r : List ℕ) (p : List Set) → IsShown options spec h text a r p → options.coverage ≡ false → Shows options spec h text
shown_alone options spec h text a r p shown unwanted =
    record {
      parts = shown.parts;
      nexts = shown.nexts;
      coverage = [];
      parts_are = shown.parts_are;
      nexts_are = shown.nexts_are;
      coverage_is = subst (λ c. HasCoverageIf c options spec h shown.nexts []) (sym unwanted) refl;
      is = shown.text_is ∙ sym (append-nil (flat_map (λ q. q) shown.parts));
    }

-- and with it
pub shown_covered : {T E : Type 0} (result : Result T E) (options : Options) (spec : Specified) (h : List Entry) (text text' : List ℕ) (a r : List ℕ) (p : List Set) →
    (shown : IsShown options spec h text a r p) → options.coverage ≡ true →
    OnOk result ((put : List ℕ) × IsCoverage options.format spec.alphabet h shown.nexts put × (text' ≡ text ++ put)) → OnOk result (Shows options spec h text')
shown_covered (Err x) options spec h text text' a r p shown wanted put = put
shown_covered (Ok x) options spec h text text' a r p shown wanted put =
    record {
      parts = shown.parts;
      nexts = shown.nexts;
      coverage = put.0;
      parts_are = shown.parts_are;
      nexts_are = shown.nexts_are;
      coverage_is = covers options.coverage options spec h shown.nexts put.0 wanted put.1;
      is = put.2 ∙ ap (λ t. t ++ put.0) shown.text_is;
    }
