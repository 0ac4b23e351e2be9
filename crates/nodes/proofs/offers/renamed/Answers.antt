use Rattle.std.proofs.Common.{◌≡◌, ◌≤◌, ◌+◌, ◌++◌, [], ◌∷◌, ℕ, false, ◌&&◌, ◌||◌, not, nat_eq, length, take, get_or, refl, sym, ap, ◌∙◌, arith}
use Rattle.std.proofs.lemmas.List.{take_more, take_all}
use Rattle.alphabet.specs.EventSets.{has, member}
use Rattle.alphabet.specs.declared.events.Event.TheVariants.{Tick as tick, Of as ev}
use Rattle.term.specs.Traces.{partners}
use Rattle.targets.specs.Targets.{is_empty, origins}
use Rattle.targets.specs.Offers.{some_passes}
use Rattle.targets.proofs.Renamed.{and-true, or-last, and-not-none, origins-yes, origins-no, sources-passes, kept-push}
use Rattle.nodes.proofs.offers.renamed.Goals as goal
use Rattle.nodes.proofs.offers.renamed.Goals.{then-contains, else-contains}

pub loop-pair-init : goal.loop-pair-init
loop-pair-init c = record {
  found = λ a. c.empty-found.ensures (ev a);
  kept = λ a. and-true (has c.args.from a);
  found_tick = c.empty-found.ensures tick;
  kept_tick = refl;
}

pub loop-pair-preserved : goal.loop-pair-preserved
loop-pair-preserved c =
    let R = c.args.pairs.now in
    let i = c.loop-pair.pair-index in
    let p = get_or R i (0, 0) in
    let f = has c.args.from in
    let more : take (i + 1) R ≡ take i R ++ p ∷ [] = take_more R i (0, 0) c.loop-pair-test.true in
    let found_now : (a : ℕ) → has c.if-contains.found a ≡ some_passes f (origins (take i R ++ p ∷ []) a) = λ a.
    elim c.if-contains.branch [
      | then-contains w ↦
          ap (λ s. has s a) w.found-is ∙ w.with-found.ensures (ev a)
          ∙ origins-yes f (take i R) p a (has c.loop-pair.found a) (sym c.contains.ensures ∙ w.if-contains.true) (c.loop-pair.invariant.found a)
      | else-contains w ↦
          ap (λ s. has s a) w.found-is
          ∙ origins-no f (take i R) p a (has c.loop-pair.found a) (sym c.contains.ensures ∙ w.if-contains.false) (c.loop-pair.invariant.found a)
    ] in
    let kept_now : (a : ℕ) → has c.minus-kept.result a ≡ (f a && is_empty (partners (take i R ++ p ∷ []) a)) = λ a.
    c.minus-kept.ensures (ev a)
    ∙ ap (λ b. has c.loop-pair.kept a && not b) (c.with.ensures (ev a) ∙ ap (λ b. nat_eq p.0 a || b) (c.empty.ensures (ev a)))
    ∙ kept-push (take i R) p a (f a) (has c.loop-pair.kept a) (c.loop-pair.invariant.kept a) in
    let tick_now : member c.if-contains.found tick ≡ false = elim c.if-contains.branch [
      | then-contains w ↦ ap (λ s. member s tick) w.found-is ∙ w.with-found.ensures tick ∙ c.loop-pair.invariant.found_tick
      | else-contains w ↦ ap (λ s. member s tick) w.found-is ∙ c.loop-pair.invariant.found_tick
    ] in
    record {
      found = λ a. found_now a ∙ sym (ap (λ l. some_passes f (origins l a)) more);
      kept = λ a. kept_now a ∙ sym (ap (λ l. f a && is_empty (partners l a)) more);
      found_tick = tick_now;
      kept_tick =
          c.minus-kept.ensures tick
          ∙ and-not-none (member c.loop-pair.kept tick) (member c.with.result tick) (c.with.ensures tick ∙ c.empty.ensures tick)
          ∙ c.loop-pair.invariant.kept_tick;
    }

pub returns-clause-events : goal.returns-clause-events
returns-clause-events c =
    λ a.
    let R = c.args.pairs.now in
    let i = c.loop-pair.pair-index in
    let h : length R ≤ i = omega arith in
    let k = rw (take_all i R h) at (c.loop-pair.invariant.kept a) in
    let f = rw (take_all i R h) at (c.loop-pair.invariant.found a) in
    c.union.ensures (ev a) ∙ sources-passes (has c.args.from) R a (has c.loop-pair.kept a) (has c.loop-pair.found a) k f

pub returns-clause-tick : goal.returns-clause-tick
returns-clause-tick c =
    c.union.ensures tick
    ∙ or-last (member c.loop-pair.kept tick) (member c.loop-pair.found tick) c.loop-pair.invariant.found_tick
    ∙ c.loop-pair.invariant.kept_tick
