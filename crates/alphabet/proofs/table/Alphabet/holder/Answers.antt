use Rattle.std.proofs.Common.{◌≡◌, ◌<◌, ◌≤◌, ◌+◌, ◌-◌, length, take, leb, rules, sym, subst, ◌∙◌}
use Rattle.std.proofs.lemmas.List.Sorted.{IsPartitionPoint-from_clause, IsPartitionedBy-leb}
use Rattle.std.specs.List.Sorted.{IsNonDecreasingBy}
use Rattle.alphabet.specs.Channels.{event_count}
use Rattle.alphabet.specs.Tables.{declared_channels, first_numbers}
use Rattle.alphabet.proofs.ChannelPlaces.{firsts_rise, begun_pos, holder_there, holder_first, holder_next}
use Rattle.alphabet.proofs.table.Alphabet.holder.Goals as goal

pub overflow_sub-result : goal.overflow_sub-result
overflow_sub-result g c =
    let cs = declared_channels c.self.inside.channels.entries in
    let begun : c.as_slice.result.now ≡ first_numbers 0 cs = c.as_slice.ensures.value ∙ c.self.invariant.begun in
    let rising = subst (IsNonDecreasingBy (λ y. y)) (sym begun) (firsts_rise 0 cs) in
    let point = IsPartitionPoint-from_clause (λ y. leb y c.args.number) _ _ c.partition_point-begun.ensures.partitioned (IsPartitionedBy-leb (λ y. y) _ c.args.number rising) (λ a r q k. search rules) in
    let some = subst (λ ds. c.args.number < event_count ds) (sym c.self.view_is) c.requires in
    begun_pos cs c.as_slice.result.now begun c.args.number c.partition_point-begun.result some c.partition_point-begun.ensures.bound point

pub returns-clause-there : goal.returns-clause-there
returns-clause-there g c =
    let cs = declared_channels c.self.inside.channels.entries in
    let begun : c.as_slice.result.now ≡ first_numbers 0 cs = c.as_slice.ensures.value ∙ c.self.invariant.begun in
    let rising = subst (IsNonDecreasingBy (λ y. y)) (sym begun) (firsts_rise 0 cs) in
    let point = IsPartitionPoint-from_clause (λ y. leb y c.args.number) _ _ c.partition_point-begun.ensures.partitioned (IsPartitionedBy-leb (λ y. y) _ c.args.number rising) (λ a r q k. search rules) in
    let some = subst (λ ds. c.args.number < event_count ds) (sym c.self.view_is) c.requires in
    subst (λ ds. c.partition_point-begun.result - 1 < length ds) c.self.view_is (holder_there cs c.as_slice.result.now begun c.args.number c.partition_point-begun.result some c.partition_point-begun.ensures.bound point)

pub returns-clause-first : goal.returns-clause-first
returns-clause-first g c =
    let cs = declared_channels c.self.inside.channels.entries in
    let begun : c.as_slice.result.now ≡ first_numbers 0 cs = c.as_slice.ensures.value ∙ c.self.invariant.begun in
    let rising = subst (IsNonDecreasingBy (λ y. y)) (sym begun) (firsts_rise 0 cs) in
    let point = IsPartitionPoint-from_clause (λ y. leb y c.args.number) _ _ c.partition_point-begun.ensures.partitioned (IsPartitionedBy-leb (λ y. y) _ c.args.number rising) (λ a r q k. search rules) in
    let some = subst (λ ds. c.args.number < event_count ds) (sym c.self.view_is) c.requires in
    subst (λ ds. event_count (take (c.partition_point-begun.result - 1) ds) ≤ c.args.number) c.self.view_is (holder_first cs c.as_slice.result.now begun c.args.number c.partition_point-begun.result some c.partition_point-begun.ensures.bound point)

pub returns-clause-next : goal.returns-clause-next
returns-clause-next g c =
    let cs = declared_channels c.self.inside.channels.entries in
    let begun : c.as_slice.result.now ≡ first_numbers 0 cs = c.as_slice.ensures.value ∙ c.self.invariant.begun in
    let rising = subst (IsNonDecreasingBy (λ y. y)) (sym begun) (firsts_rise 0 cs) in
    let point = IsPartitionPoint-from_clause (λ y. leb y c.args.number) _ _ c.partition_point-begun.ensures.partitioned (IsPartitionedBy-leb (λ y. y) _ c.args.number rising) (λ a r q k. search rules) in
    let some = subst (λ ds. c.args.number < event_count ds) (sym c.self.view_is) c.requires in
    subst (λ ds. c.args.number < event_count (take (c.partition_point-begun.result - 1 + 1) ds)) c.self.view_is (holder_next cs c.as_slice.result.now begun c.args.number c.partition_point-begun.result some c.partition_point-begun.ensures.bound point)
