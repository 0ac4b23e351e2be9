use Rattle.std.proofs.Common.{◌≤◌, length}
use Rattle.alphabet.specs.Channels.{event_count}
use Rattle.term.specs.Proc.{proc}
use Rattle.targets.proofs.Lying.{lies-small}
use Rattle.step.proofs.finding.shallow_targets.Goals as goal

pub shallow_among-requires : goal.shallow_among-requires
shallow_among-requires g c =
    let spec = c.args.spec.now in
    let small : event_count spec.alphabet ≤ 256 = rw (c.len-events.ensures.count, c.alphabet.ensures) at c.len-events.ensures.limit in
    lies-small (event_count spec.alphabet) (length spec.bodies) small (proc c.args.term.now) c.requires

pub returns-clause-targets : goal.returns-clause-targets
returns-clause-targets g c = rw (c.in_ok-all.ensures) at c.shallow_among.ensures.targets

pub returns-clause-within : goal.returns-clause-within
returns-clause-within g c = rw (c.in_ok-all.ensures) at c.shallow_among.ensures.within

pub returns-clause-depth : goal.returns-clause-depth
returns-clause-depth g c = rw (c.in_ok-all.ensures) at c.shallow_among.ensures.depth
