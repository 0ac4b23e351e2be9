use Rattle.std.proofs.Common.{◌≡◌, get_or, ap, ◌∙◌, arith}
use Rattle.alphabet.specs.Channels.{is_in_range}
use Rattle.alphabet.specs.Stored.{value_of}
use Rattle.alphabet.proofs.Copies.{copied_more, all_more}
use Rattle.alphabet.proofs.field_value.clone_field.Goals as goal

pub loop-value-preserved : goal.loop-value-preserved
loop-value-preserved g c =
    let here : c.value-item.result ≡ get_or c.args.field.now.items c.loop-value.value-index c.value-item.result = c.value-item.is ∙ ap (λ xs. get_or xs c.loop-value.value-index c.value-item.result) c.deref-value-items.ensures.value in
    record {
      same = copied_more value_of c.args.field.now.items c.loop-value.value-index c.value-item.result (omega arith) here c.loop-value.copy.items c.push.new.self.items c.in_ok-try_clone.field-0 c.in_ok-try_clone.ensures.same c.in_ok-push.ensures.items c.loop-value.invariant.same;
      ranged = all_more value_of c.args.field.now.items c.loop-value.value-index c.value-item.result (omega arith) here is_in_range c.loop-value.invariant.ranged c.try_clone.ensures.ranged;
    }
