use Rattle.std.proofs.Common.{◌+◌, ◌*◌, max, take}
use Rattle.nodes.specs.Shapes.{at}
use Rattle.nodes.specs.Looks.{ActsBy, IsCutIn}
use Rattle.transitions.specs.Numbered.{KeepsNumbers}
use Rattle.transitions.proofs.transitions.Transitions.+put_part_targets.Given as goal

abbrev pub decreases-put_part_targets : goal.decreases-put_part_targets
decreases-put_part_targets g l = 8 * l.number + 7

abbrev pub decreases-find : goal.decreases-find
decreases-find g l = 8 * l.number + 6

abbrev pub decreases-find_acts : goal.decreases-find_acts
decreases-find_acts g l = 8 * l.number + 5

abbrev pub decreases-find_hidden : goal.decreases-find_hidden
decreases-find_hidden g l = 8 * l.number + 5

abbrev pub decreases-act_parts : goal.decreases-act_parts
decreases-act_parts g l = 8 * l.number + 4

abbrev pub decreases-hid_parts : goal.decreases-hid_parts
decreases-hid_parts g l = 8 * l.number + 4

abbrev pub decreases-put_sides : goal.decreases-put_sides
decreases-put_sides g l = 8 * max l.p l.q + 9

abbrev pub decreases-put_both : goal.decreases-put_both
decreases-put_both g l = 8 * max l.p l.q + 8

abbrev pub decreases-put_side : goal.decreases-put_side
decreases-put_side g l = 8 * l.p + 8

abbrev pub decreases-put_hidden : goal.decreases-put_hidden
decreases-put_hidden g l = 8 * l.p + 11

abbrev pub decreases-put_hidden_acts : goal.decreases-put_hidden_acts
decreases-put_hidden_acts g l = 8 * l.p + 10

abbrev pub decreases-put_renamed : goal.decreases-put_renamed
decreases-put_renamed g l = 8 * l.p + 10

abbrev pub decreases-put_each : goal.decreases-put_each
decreases-put_each g l = 8 * l.p + 9

abbrev pub decreases-join_acts : goal.decreases-join_acts
decreases-join_acts g l = 8 * l.p + 8

abbrev pub invariant-put_each-loop-event : goal.invariant-put_each-loop-event
invariant-put_each-loop-event g l = record {
  kept : KeepsNumbers l.initial.self l.self;
  cut : IsCutIn l.self.table (ActsBy (take l.event-index l.events) (at l.self.table.processes l.p)) l.most l.into.items;
}
