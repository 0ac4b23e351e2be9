use Rattle.std.proofs.Common.{refl, arith}
use Rattle.alphabet.specs.Stored.{channel_of}
use Rattle.script.specs.Fields.{field_lists}
use Rattle.script.proofs.Copies.{named_start, named_more}
use Rattle.script.proofs.fields.fields_by_name.Goals as goal

pub loop-number-init : goal.loop-number-init
loop-number-init g c = named_start field_lists c.new-table.result c.args.alphabet.now c.channels-number.result c.channels-number.ensures.count c.new-table.ensures

pub loop-number-preserved-in_ok-insert : goal.loop-number-preserved-in_ok-insert
loop-number-preserved-in_ok-insert g c =
    named_more field_lists c.loop-number.table c.insert.new.self c.args.alphabet.now c.loop-number.number c.in-Some.name.now c.in_ok-sets_of.field-0 (channel_of c.in-Some.name.now c.in-Some.fields.now)
    (omega (arith, c.loop-number-test.true)) c.loop-number.invariant c.in-Some.ensures.value refl c.in_ok-sets_of.ensures c.in_ok-insert.ensures
