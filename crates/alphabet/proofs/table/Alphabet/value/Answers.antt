use Rattle.std.proofs.Common.{◌≡◌, ◌≤◌, [], get_or, min, map, length, slice_get, Some, refl, sym, ap, ◌∙◌, subst, is_some, true, arith}
use Rattle.std.proofs.lemmas.List.{length-map}
use Rattle.std.proofs.lemmas.Option.{IfSome_then}
use Rattle.alphabet.specs.Channels.{choices, event_count}
use Rattle.alphabet.specs.EventParts.{parts_at}
use Rattle.alphabet.specs.Stored.{field_of, channel_of}
use Rattle.alphabet.proofs.EventValues.{entry_channel, choice_within, counted, value_is, value_there}
use Rattle.alphabet.proofs.table.Alphabet.value.Goals as goal

pub chosen-requires-clause-all : goal.chosen-requires-clause-all
chosen-requires-clause-all g c =
    let made : is_some (parts_at c.args.self.now c.in_ok-channel.channel c.in_ok-channel.place) ≡ true = ap is_some c.in_ok-channel.ensures.parts ∙ c.in_ok-channel.ensures.found.0 refl in
    let small : event_count c.args.self.now ≤ 256 = subst (λ cs. event_count cs ≤ 256) c.self.view_is c.self.invariant.sound.small in
    let own = channel_of c.in_ok-fields.field-0-0.now.items c.in_ok-fields.fields.now.items in
    let at = subst (λ cs. slice_get cs c.in_ok-channel.channel ≡ Some own) c.self.view_is (entry_channel c.self.inside.channels.entries c.in_ok-channel.channel c.in_ok-fields.field-0-0.now c.in_ok-fields.fields.now c.in_ok-fields.ensures.entry) in
    counted c.args.self.now c.in_ok-channel.channel c.in_ok-channel.place own at made c.event_total.result small
    (c.event_total.ensures ∙ ap (λ fs. min (length (choices (map field_of fs))) 257) c.deref-2.ensures.value)
    ∙ ap (λ fs. length (choices (map field_of fs))) (sym c.deref.ensures.value)

pub chosen-requires-clause-within : goal.chosen-requires-clause-within
chosen-requires-clause-within g c =
    let made : is_some (parts_at c.args.self.now c.in_ok-channel.channel c.in_ok-channel.place) ≡ true = ap is_some c.in_ok-channel.ensures.parts ∙ c.in_ok-channel.ensures.found.0 refl in
    let own = channel_of c.in_ok-fields.field-0-0.now.items c.in_ok-fields.fields.now.items in
    let at = subst (λ cs. slice_get cs c.in_ok-channel.channel ≡ Some own) c.self.view_is (entry_channel c.self.inside.channels.entries c.in_ok-channel.channel c.in_ok-fields.field-0-0.now c.in_ok-fields.fields.now c.in_ok-fields.ensures.entry) in
    let small : event_count c.args.self.now ≤ 256 = subst (λ cs. event_count cs ≤ 256) c.self.view_is c.self.invariant.sound.small in
    let total = counted c.args.self.now c.in_ok-channel.channel c.in_ok-channel.place own at made c.event_total.result small
    (c.event_total.ensures ∙ ap (λ fs. min (length (choices (map field_of fs))) 257) c.deref-2.ensures.value) in
    omega (arith, total, choice_within c.args.self.now c.in_ok-channel.channel c.in_ok-channel.place own at made)

pub returns-clause-found : goal.returns-clause-found
returns-clause-found g c =
    let made : is_some (parts_at c.args.self.now c.in_ok-channel.channel c.in_ok-channel.place) ≡ true = ap is_some c.in_ok-channel.ensures.parts ∙ c.in_ok-channel.ensures.found.0 refl in
    let own = channel_of c.in_ok-fields.field-0-0.now.items c.in_ok-fields.fields.now.items in
    let at = subst (λ cs. slice_get cs c.in_ok-channel.channel ≡ Some own) c.self.view_is (entry_channel c.self.inside.channels.entries c.in_ok-channel.channel c.in_ok-fields.field-0-0.now c.in_ok-fields.fields.now c.in_ok-fields.ensures.entry) in
    let there = value_there c.args.self.now c.in_ok-channel.channel c.in_ok-channel.place own at made c.args.event c.args.field (length c.deref.result.now) c.in_ok-channel.ensures.parts
    (ap length c.deref.ensures.value ∙ sym (length-map c.in_ok-fields.fields.now.items field_of)) in
    ((λ some. there.0 (c.chosen.ensures.found.0 some)), (λ some. c.chosen.ensures.found.1 (there.1 some)))

pub returns-clause-value : goal.returns-clause-value
returns-clause-value g c =
    let made : is_some (parts_at c.args.self.now c.in_ok-channel.channel c.in_ok-channel.place) ≡ true = ap is_some c.in_ok-channel.ensures.parts ∙ c.in_ok-channel.ensures.found.0 refl in
    let own = channel_of c.in_ok-fields.field-0-0.now.items c.in_ok-fields.fields.now.items in
    let at = subst (λ cs. slice_get cs c.in_ok-channel.channel ≡ Some own) c.self.view_is (entry_channel c.self.inside.channels.entries c.in_ok-channel.channel c.in_ok-fields.field-0-0.now c.in_ok-fields.fields.now c.in_ok-fields.ensures.entry) in
    let value = value_is c.args.self.now c.in_ok-channel.channel c.in_ok-channel.place own at made c.args.event c.args.field c.in_ok-channel.ensures.parts in
    IfSome_then c.chosen.result c.chosen.ensures.value
    (λ v chosen. value ∙ ap (λ fs. slice_get (get_or (choices (map field_of fs)) c.in_ok-channel.place []) c.args.field) (sym c.deref.ensures.value) ∙ chosen)
