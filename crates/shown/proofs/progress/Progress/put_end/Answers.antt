use Rattle.std.proofs.Common.{◌≡◌, ◌++◌, List, ℕ, sym, subst}
use Rattle.alphabet.specs.Channels.{Channel, event_count}
use Rattle.shown.specs.Coverage.{IsCoverage}
use Rattle.shown.specs.Slots.{CountAll}
use Rattle.shown.specs.Steps.{written}
use Rattle.shown.proofs.EntryLines.{on_ok}
use Rattle.shown.proofs.Further.{shown_alone}
use Rattle.shown.proofs.Sending.{covered_but_end}
use Rattle.shown.proofs.progress.Progress.put_end.Goals as goal

pub returns-then-options : goal.returns-then-options
returns-then-options g c at =
    let p = c.args.self.now in
    let spec = c.args.spec.now in
    let h = p.history.items in
    let shown = at.shown in
    let text = c.put_coverage.new.text.items in
    let same = sym c.alphabet.ensures in
    on_ok c.put_coverage.result
    (λ put. covered_but_end c.args.options spec h (written p) p.text.items text
    p.counts.accepted.items p.counts.rejected.items p.counts.possible shown c.if-options.true
    (subst (λ (cs : List Channel). (added : List ℕ) × IsCoverage c.args.options.format cs h shown.nexts added × (text ≡ p.text.items ++ added)) (sym same) put))
    (c.put_coverage.ensures h shown.nexts
    (subst (λ (cs : List Channel). CountAll (event_count cs) h shown.nexts p.counts.accepted.items p.counts.rejected.items p.counts.possible) same (shown.counts_are c.if-options.true)))

pub returns : goal.returns
returns g c at =
    let p = c.args.self.now in
    shown_alone c.args.options c.args.spec.now p.history.items (written p ++ p.text.items)
    p.counts.accepted.items p.counts.rejected.items p.counts.possible at.shown c.if-options.false
