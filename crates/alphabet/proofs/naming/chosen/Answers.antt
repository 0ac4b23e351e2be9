use Rattle.std.proofs.Common.{◌≡◌, ◌+◌, ◌<◌, ◌/◌, [], suc, map, length, drop, get_or, slice_get, ap, ◌∙◌, sym, arith, pos}
use Rattle.std.proofs.lemmas.List.{length-map, get_or-map, get_or_default}
use Rattle.alphabet.specs.Channels.{FieldValue, number, choices}
use Rattle.alphabet.specs.Stored.{value_of, field_of}
use Rattle.alphabet.proofs.Choices.{turn_pos, turn_stride, turn_stride_pos, turn_in_field, turn_in_rest, turn_choice, dropped_at, dropped_more}
use Rattle.alphabet.proofs.naming.chosen.Goals as goal

pub nonzero_div-stride : goal.nonzero_div-stride
nonzero_div-stride g c =
    turn_pos field_of c.args.fields.now c.loop-place.place c.index-fields-place.result (omega arith) c.index-fields-place.is
    c.loop-place.stride c.loop-place.left c.len-stride.result (omega (arith, c.len-stride.ensures, length-map c.index-fields-place.result.items value_of)) c.loop-place.invariant.all c.loop-place.invariant.within

pub nonzero_div-left : goal.nonzero_div-left
nonzero_div-left g c =
    turn_stride_pos field_of c.args.fields.now c.loop-place.place c.index-fields-place.result (omega arith) c.index-fields-place.is
    c.loop-place.stride c.loop-place.left c.len-stride.result (omega (arith, c.len-stride.ensures, length-map c.index-fields-place.result.items value_of)) c.loop-place.invariant.all c.loop-place.invariant.within

pub index-requires : goal.index-requires
index-requires g c =
    omega (
      arith,
      length-map c.index-fields-place.result.items value_of,
      turn_in_field field_of c.args.fields.now c.loop-place.place c.index-fields-place.result (omega arith) c.index-fields-place.is
          c.loop-place.stride c.loop-place.left c.len-stride.result (omega (arith, c.len-stride.ensures, length-map c.index-fields-place.result.items value_of)) c.loop-place.invariant.all c.loop-place.invariant.within,
    )

pub returns-then-place-field-clause-value : goal.returns-then-place-field-clause-value
returns-then-place-field-clause-value g c =
    let size : c.len-stride.result ≡ length (field_of c.index-fields-place.result) = omega (arith, c.len-stride.ensures, length-map c.index-fields-place.result.items value_of) in
    let here : c.loop-place.place < length c.args.fields.now = omega arith in
    let within = turn_in_field field_of c.args.fields.now c.loop-place.place c.index-fields-place.result here c.index-fields-place.is c.loop-place.stride c.loop-place.left c.len-stride.result size c.loop-place.invariant.all c.loop-place.invariant.within in
    let value : value_of c.index.result.now ≡ get_or (field_of c.index-fields-place.result) (c.loop-place.left / (c.loop-place.stride / c.len-stride.result)) (value_of c.index.result.now) =
    ap value_of c.index.ensures ∙ sym (get_or-map value_of c.index-fields-place.result.items (c.loop-place.left / (c.loop-place.stride / c.len-stride.result)) c.index.result.now (value_of c.index.result.now) (omega (arith, length-map c.index-fields-place.result.items value_of))) in
    let choice = turn_choice field_of c.args.fields.now c.loop-place.place c.index-fields-place.result here c.index-fields-place.is c.loop-place.stride c.loop-place.left c.len-stride.result size c.loop-place.invariant.all c.loop-place.invariant.within (value_of c.index.result.now) value in
    ap (slice_get (get_or (choices (map field_of c.args.fields.now)) c.args.number [])) (sym c.if-place-field.true)
    ∙ dropped_at c.loop-place.place (get_or (choices (map field_of c.args.fields.now)) c.args.number []) _ (value_of c.index.result.now) (c.loop-place.invariant.rest ∙ choice)

pub nonzero_rem-left : goal.nonzero_rem-left
nonzero_rem-left g c =
    turn_stride_pos field_of c.args.fields.now c.loop-place.place c.index-fields-place.result (omega arith) c.index-fields-place.is
    c.loop-place.stride c.loop-place.left c.len-stride.result (omega (arith, c.len-stride.ensures, length-map c.index-fields-place.result.items value_of)) c.loop-place.invariant.all c.loop-place.invariant.within

pub loop-place-preserved : goal.loop-place-preserved
loop-place-preserved g c =
    let size : c.len-stride.result ≡ length (field_of c.index-fields-place.result) = omega (arith, c.len-stride.ensures, length-map c.index-fields-place.result.items value_of) in
    let here : c.loop-place.place < length c.args.fields.now = omega arith in
    let within = turn_in_field field_of c.args.fields.now c.loop-place.place c.index-fields-place.result here c.index-fields-place.is c.loop-place.stride c.loop-place.left c.len-stride.result size c.loop-place.invariant.all c.loop-place.invariant.within in
    let v : FieldValue = get_or (field_of c.index-fields-place.result) (c.loop-place.left / (c.loop-place.stride / c.len-stride.result)) (number (pos 0)) in
    let value : v ≡ get_or (field_of c.index-fields-place.result) (c.loop-place.left / (c.loop-place.stride / c.len-stride.result)) v =
    get_or_default (field_of c.index-fields-place.result) (c.loop-place.left / (c.loop-place.stride / c.len-stride.result)) (number (pos 0)) v within in
    let choice = turn_choice field_of c.args.fields.now c.loop-place.place c.index-fields-place.result here c.index-fields-place.is c.loop-place.stride c.loop-place.left c.len-stride.result size c.loop-place.invariant.all c.loop-place.invariant.within v value in
    let next : c.loop-place.place + 1 ≡ suc c.loop-place.place = omega arith in
    record {
      all = turn_stride field_of c.args.fields.now c.loop-place.place c.index-fields-place.result here c.index-fields-place.is c.loop-place.stride c.loop-place.left c.len-stride.result size c.loop-place.invariant.all c.loop-place.invariant.within;
      within = turn_in_rest field_of c.args.fields.now c.loop-place.place c.index-fields-place.result here c.index-fields-place.is c.loop-place.stride c.loop-place.left c.len-stride.result size c.loop-place.invariant.all c.loop-place.invariant.within;
      before = omega arith;
      rest = ap (λ n. drop n (get_or (choices (map field_of c.args.fields.now)) c.args.number [])) next
          ∙ dropped_more c.loop-place.place (get_or (choices (map field_of c.args.fields.now)) c.args.number []) _ v (c.loop-place.invariant.rest ∙ choice);
    }
