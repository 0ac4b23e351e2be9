use Rattle.std.proofs.Common.{arith}
use Rattle.std.specs.List.{list_all}
use Rattle.alphabet.specs.Channels.{is_in_range}
use Rattle.alphabet.specs.Stored.{field_of}
use Rattle.alphabet.proofs.Copies.{copied_more, all_more}
use Rattle.alphabet.proofs.field_value.clone_fields.Goals as goal

pub loop-field-preserved : goal.loop-field-preserved
loop-field-preserved g c = record {
  same = copied_more field_of c.args.fields.now c.loop-field.field-index c.field-item.result (omega arith) c.field-item.is c.loop-field.copy.items c.push.new.self.items c.in_ok-clone_field.field-0 c.in_ok-clone_field.ensures.same c.in_ok-push.ensures.items c.loop-field.invariant.same;
  ranged = all_more field_of c.args.fields.now c.loop-field.field-index c.field-item.result (omega arith) c.field-item.is (list_all is_in_range) c.loop-field.invariant.ranged c.in_ok-clone_field.ensures.ranged;
}
