use Rattle.std.proofs.Common.{◌≤◌, length}
use Rattle.alphabet.specs.Channels.{event_count}
use Rattle.term.specs.Proc.{proc}
use Rattle.targets.proofs.Lying.{lies-small}
use Rattle.part_scenarios.proofs.numbers.put_numbered.Goals as goal

pub put_both-requires : goal.put_both-requires
put_both-requires c =
    let spec = c.args.spec.now in
    let small : event_count spec.alphabet ≤ 256 = rw (c.len-events.ensures.count, c.alphabet.ensures) at c.len-events.ensures.limit in
    lies-small (event_count spec.alphabet) (length spec.bodies) small (proc c.args.term.now) c.requires
