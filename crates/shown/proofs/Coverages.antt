-- The text of coverage from counts in memory.
use Rattle.std.proofs.Common.{◌≡◌, ℕ, zero, suc, ◌+◌, ◌<◌, ◌==◌, ◌&&◌, nat_lt, Bool, true, false, List, [], ◌∷◌, ◌++◌, map, Result, Ok, Err, OnOk, refl, sym, ap, ap₂, ◌∙◌, append_assoc, append-nil, arith}
use Rattle.std.proofs.lemmas.Bool.Decides.{nat_tests}
use Rattle.std.proofs.lemmas.Grind.{flat_map-append}
use Rattle.std.proofs.lemmas.List.FromFn.{map-range_with_len_more}
use Rattle.std.specs.List.{flat_map, range_with_len}
use Rattle.alphabet.specs.declared.events.Event.{Event}
use Rattle.alphabet.specs.declared.events.Event.TheVariants.{Tick as tick, Of as ev}
use Rattle.alphabet.specs.EventSets.{Set, member}
use Rattle.alphabet.specs.Channels.{Channel, event_count}
use Rattle.history.specs.declared.entry.Entry.{Entry}
use Rattle.shown.specs.declared.options.Format.{Format}
use Rattle.shown.specs.Coverage.{IsCoverage, absent_text, accepted_count, possible_count, count_text, coverage_line, coverage_lines, has_never_come, is_below}
use Rattle.shown.specs.Slots.{CountAll, count_at, is_absent, slot}
use Rattle.shown.specs.Tallies.{tallied}
use Rattle.shown.proofs.Texts.{after_mark}

-- the line of one event more
pub next_event : (line : Event → List ℕ) (start now new : List ℕ) (k : ℕ) → now ≡ start ++ flat_map line (map ev (range_with_len 0 k)) → new ≡ now ++ line (ev k) →
    new ≡ start ++ flat_map line (map ev (range_with_len 0 (k + 1)))
next_event line start now new k is grown =
    grown ∙ ap (λ t. t ++ line (ev k)) is ∙ append_assoc start (flat_map line (map ev (range_with_len 0 k))) (line (ev k))
    ∙ ap (λ t. start ++ (flat_map line (map ev (range_with_len 0 k)) ++ t)) (sym (append-nil (line (ev k))))
    ∙ ap (λ t. start ++ t) (sym (flat_map-append line (map ev (range_with_len 0 k)) (ev k ∷ [])))
    ∙ ap (λ es. start ++ flat_map line es) (sym (map-range_with_len_more ev 0 k k (omega arith)))

-- the lines of all, once tick's is there
pub with_tick : {T E : Type 0} (r : Result T E) (line : Event → List ℕ) (start now new : List ℕ) (k n : ℕ) → k ≡ n → now ≡ start ++ flat_map line (map ev (range_with_len 0 k)) →
    OnOk r (new ≡ now ++ line tick) → OnOk r (new ≡ start ++ coverage_lines line n)
unfolding coverage_lines
with_tick r line start now new k n e is all =
    after_mark r start now new (flat_map line (map ev (range_with_len 0 n))) (line tick) (is ∙ ap (λ j. start ++ flat_map line (map ev (range_with_len 0 j))) e) all

same_from : (f h : Event → List ℕ) (start n : ℕ) → ((k : ℕ) → k < start + n → f (ev k) ≡ h (ev k)) → flat_map f (map ev (range_with_len start n)) ≡ flat_map h (map ev (range_with_len start n))
same_from f h start zero all = refl
same_from f h start (suc n) all = ap₂ (λ a b. a ++ b) (all start (omega arith)) (same_from f h (start + 1) n (λ k l. all k (omega arith)))

same_lines : (f h : Event → List ℕ) (n : ℕ) → ((x : Event) → slot x < suc n → f x ≡ h x) → coverage_lines f n ≡ coverage_lines h n
unfolding coverage_lines
same_lines f h n all = ap₂ (λ a b. a ++ b) (same_from f h 0 n (λ k l. all (ev k) (omega arith))) (all tick (omega arith))

below : (n : ℕ) (x : Event) → is_below n x ≡ true → slot x < suc n
below n tick e = omega arith
below n (ev k) e = grind (arith, nat_tests)

tested : (n : ℕ) (x : Event) (b : Bool) (s t : Bool) → is_below n x ≡ b → (slot x < suc n → s ≡ t) → (is_below n x && s) ≡ (is_below n x && t)
tested n x true s t e same = ap (λ c. is_below n x && c) (same (below n x e))
tested n x false s t e same = ap (λ c. c && s) e ∙ sym (ap (λ c. c && t) e)

-- what was written is the coverage of the history whose counts these are
pub covered : {T E : Type 0} (r : Result T E) (format : Format) (cs : List Channel) (h : List Entry) (nexts : List Set) (accepted rejected : List ℕ) (possible : List Set)
    (start now new : List ℕ) (never impossible : Set) (n : ℕ) → n ≡ event_count cs → CountAll (event_count cs) h nexts accepted rejected possible →
    ((x : Event) → member never x ≡ (is_below n x && is_absent true (count_at accepted x) (tallied possible x))) →
    ((x : Event) → member impossible x ≡ (is_below n x && is_absent false (count_at accepted x) (tallied possible x))) →
    now ≡ start ++ coverage_lines (λ x. count_text format cs x (count_at accepted x) (count_at rejected x) (tallied possible x)) (event_count cs) →
    OnOk r (new ≡ now ++ absent_text format cs never impossible) →
    OnOk r ((added : List ℕ) × IsCoverage format cs h nexts added × (new ≡ start ++ added))
covered (Err e) format cs h nexts accepted rejected possible start now new never impossible n same counts nevers impossibles lines all = all
covered (Ok v) format cs h nexts accepted rejected possible start now new never impossible n same counts nevers impossibles lines all =
    let m = event_count cs in
    let added = coverage_lines (coverage_line format cs h nexts) m ++ absent_text format cs never impossible in
    let line : (x : Event) → slot x < suc m → count_text format cs x (count_at accepted x) (count_at rejected x) (tallied possible x) ≡ coverage_line format cs h nexts x =
    λ x l. ap (λ a. count_text format cs x a (count_at rejected x) (tallied possible x)) (counts.accepted_are.each x l)
    ∙ ap₂ (λ j p. count_text format cs x (accepted_count h x) j p) (counts.rejected_are.each x l) (counts.possible_are x) in (
      added,
      record {
        never = never;
        impossible = impossible;
        never_are = λ x. nevers x ∙ ap (λ j. is_below j x && is_absent true (count_at accepted x) (tallied possible x)) same
            ∙ tested m x (is_below m x) (is_absent true (count_at accepted x) (tallied possible x)) (has_never_come h nexts x) refl
            (λ l. ap₂ (λ a p. (a == 0) && nat_lt 0 p) (counts.accepted_are.each x l) (counts.possible_are x));
        impossible_are = λ x. impossibles x ∙ ap (λ j. is_below j x && is_absent false (count_at accepted x) (tallied possible x)) same
            ∙ tested m x (is_below m x) (is_absent false (count_at accepted x) (tallied possible x)) (possible_count nexts x == 0) refl
            (λ l. ap (λ p. p == 0) (counts.possible_are x));
        is = refl;
      },
      all ∙ ap (λ t. t ++ absent_text format cs never impossible) (lines ∙ ap (λ t. start ++ t) (same_lines _ (coverage_line format cs h nexts) m line))
          ∙ append_assoc start (coverage_lines (coverage_line format cs h nexts) m) (absent_text format cs never impossible),
    )
