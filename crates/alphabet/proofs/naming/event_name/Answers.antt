use Rattle.std.proofs.Common.{◌≡◌, ◌<◌, ◌/◌, ◌++◌, ◌∷◌, [], map, length, get_or, ap, ◌∙◌, sym, arith}
use Rattle.std.proofs.lemmas.List.{length-map, get_or-map}
use Rattle.alphabet.specs.Channels.{value_text}
use Rattle.alphabet.specs.Stored.{value_of, field_of, channel_of}
use Rattle.alphabet.proofs.Choices.{turn_pos, turn_stride, turn_stride_pos, turn_in_field, turn_in_rest, turn_text, turns_done, own_name_at}
use Rattle.alphabet.proofs.naming.event_name.Goals as goal

pub nonzero_div-stride : goal.nonzero_div-stride
nonzero_div-stride g c =
    turn_pos field_of c.args.fields.now c.loop-field.field-index c.field-item.result (omega arith) c.field-item.is
    c.loop-field.stride c.loop-field.left c.len-stride.result (omega (arith, c.len-stride.ensures, length-map c.field-item.result.items value_of)) c.loop-field.invariant.all c.loop-field.invariant.within

pub nonzero_div-left : goal.nonzero_div-left
nonzero_div-left g c =
    turn_stride_pos field_of c.args.fields.now c.loop-field.field-index c.field-item.result (omega arith) c.field-item.is
    c.loop-field.stride c.loop-field.left c.len-stride.result (omega (arith, c.len-stride.ensures, length-map c.field-item.result.items value_of)) c.loop-field.invariant.all c.loop-field.invariant.within

pub index-requires : goal.index-requires
index-requires g c =
    omega (
      arith,
      length-map c.field-item.result.items value_of,
      turn_in_field field_of c.args.fields.now c.loop-field.field-index c.field-item.result (omega arith) c.field-item.is
          c.loop-field.stride c.loop-field.left c.len-stride.result (omega (arith, c.len-stride.ensures, length-map c.field-item.result.items value_of)) c.loop-field.invariant.all c.loop-field.invariant.within,
    )

pub nonzero_rem-left : goal.nonzero_rem-left
nonzero_rem-left g c =
    turn_stride_pos field_of c.args.fields.now c.loop-field.field-index c.field-item.result (omega arith) c.field-item.is
    c.loop-field.stride c.loop-field.left c.len-stride.result (omega (arith, c.len-stride.ensures, length-map c.field-item.result.items value_of)) c.loop-field.invariant.all c.loop-field.invariant.within

pub loop-field-preserved : goal.loop-field-preserved
loop-field-preserved g c =
    let size : c.len-stride.result ≡ length (field_of c.field-item.result) = omega (arith, c.len-stride.ensures, length-map c.field-item.result.items value_of) in
    let here : c.loop-field.field-index < length c.args.fields.now = omega arith in
    let at = turn_in_field field_of c.args.fields.now c.loop-field.field-index c.field-item.result here c.field-item.is c.loop-field.stride c.loop-field.left c.len-stride.result size c.loop-field.invariant.all c.loop-field.invariant.within in
    let value : value_of c.index.result.now ≡ get_or (field_of c.field-item.result) (c.loop-field.left / (c.loop-field.stride / c.len-stride.result)) (value_of c.index.result.now) =
    ap value_of c.index.ensures ∙ sym (get_or-map value_of c.field-item.result.items (c.loop-field.left / (c.loop-field.stride / c.len-stride.result)) c.index.result.now (value_of c.index.result.now) (omega (arith, length-map c.field-item.result.items value_of))) in
    let grown : c.push_text.new.into.items ≡ (c.loop-field.name.items ++ 46 ∷ []) ++ value_text (value_of c.index.result.now) = c.in_ok-push_text.ensures ∙ ap (λ y. y ++ value_text (value_of c.index.result.now)) c.in_ok-push.ensures.items in
    record {
      all = turn_stride field_of c.args.fields.now c.loop-field.field-index c.field-item.result here c.field-item.is c.loop-field.stride c.loop-field.left c.len-stride.result size c.loop-field.invariant.all c.loop-field.invariant.within;
      within = turn_in_rest field_of c.args.fields.now c.loop-field.field-index c.field-item.result here c.field-item.is c.loop-field.stride c.loop-field.left c.len-stride.result size c.loop-field.invariant.all c.loop-field.invariant.within;
      so_far = turn_text field_of c.args.fields.now c.loop-field.field-index c.field-item.result here c.field-item.is c.loop-field.stride c.loop-field.left c.len-stride.result size c.loop-field.invariant.all c.loop-field.invariant.within c.loop-field.name.items c.push_text.new.into.items (value_of c.index.result.now) value grown
          ∙ c.loop-field.invariant.so_far;
    }

pub returns : goal.returns
returns g c =
    turns_done (map field_of c.args.fields.now) c.loop-field.field-index c.loop-field.stride c.loop-field.left c.loop-field.name.items _
    (omega (arith, length-map c.args.fields.now field_of)) c.loop-field.invariant.all c.loop-field.invariant.within c.loop-field.invariant.so_far
    ∙ sym (own_name_at (channel_of c.args.channel.now c.args.fields.now) c.args.number (omega (arith, c.requires.all)))
