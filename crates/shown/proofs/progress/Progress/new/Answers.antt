use Rattle.std.proofs.Common.{◌++◌, ◌∙◌, ap, ap₂, sym, length}
use Rattle.alphabet.specs.Channels.{event_count}
use Rattle.shown.specs.Steps.{joined}
use Rattle.shown.proofs.Further.{nothing_shown}
use Rattle.shown.proofs.progress.Progress.new.Goals as goal

pub returns-clause-at : goal.returns-clause-at
returns-clause-at g c options =
    let spec = c.args.spec.now in
    let counts = c.in_ok-counts.counts in
    record {
      spec_is = c.of.ensures;
      said = c.new-3.ensures options.format spec.alphabet;
      count_is = ap length (sym c.new-2.ensures);
      shown = nothing_shown options spec c.new-2.result.items c.len.result (joined c.new-4.result.items ++ c.new-5.result.items)
          counts.accepted.items counts.rejected.items counts.possible
          (c.len.ensures.count ∙ ap event_count c.alphabet.ensures)
          c.new-2.ensures (ap₂ (λ texts text. joined texts ++ text) c.new-4.ensures c.new-5.ensures.items)
          c.in_ok-counts.ensures.accepted c.in_ok-counts.ensures.rejected c.in_ok-counts.ensures.possible;
    }
