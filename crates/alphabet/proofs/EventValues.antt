-- The values of an event, by the choice at its place among the events of its channel.
use Rattle.std.proofs.Common.{◌≡◌, ◌↔◌, ℕ, zero, suc, ◌+◌, ◌%◌, ◌<◌, ◌≤◌, true, is_some, min, List, [], ◌∷◌, length, get_or, slice_get, option_and_then, Some, refl, sym, ap, ◌∙◌, inl, inr, arith, pos}
use Rattle.std.proofs.lemmas.Bool.{false≢true, cases_lt}
use Rattle.std.proofs.lemmas.List.{length-map}
use Rattle.std.proofs.lemmas.Option.{slice_get-map, slice_get-get_or, slice_get_past}
use Rattle.std.specs.Option.{option_map}
use Rattle.std.specs.declared.vec.Vec.{Vec}
use Rattle.alphabet.specs.declared.field_value.Value.{Value}
use Rattle.alphabet.specs.Events.{Event}
use Rattle.alphabet.specs.Channels.{number, Values, Channel, Parts, choices, channel_events, event_count}
use Rattle.alphabet.specs.EventParts.{parts_of, parts_at, value_in}
use Rattle.alphabet.specs.Stored.{channel_of}
use Rattle.alphabet.specs.Tables.{declared_channels}
use Rattle.alphabet.proofs.Choices.{choice_at, in_rest}
use Rattle.alphabet.proofs.ChannelPlaces.{count_next, count_within, place_within}

-- an entry's channel
pub entry_channel : {A : Type 0} (es : List (Vec ℕ A × Vec (Vec (Value A) A) A)) (i : ℕ) (k : Vec ℕ A) (v : Vec (Vec (Value A) A) A) → Some (k, v) ≡ slice_get es i → slice_get (declared_channels es) i ≡ Some (channel_of k.items v.items)
entry_channel es i k v e = slice_get-map (λ e. channel_of e.0.items e.1.items) es i ∙ ap (option_map (λ e. channel_of e.0.items e.1.items)) (sym e)

pub entries_counted : {A : Type 0} (es : List (Vec ℕ A × Vec (Vec (Value A) A) A)) (cs : List Channel) → declared_channels es ≡ cs → length es ≡ length cs
entries_counted es cs e = sym (length-map es (λ e. channel_of e.0.items e.1.items)) ∙ ap length e

-- a choice has a value of each field
length-choice : (fs : List Values) (k : ℕ) → k < length (choices fs) → length (get_or (choices fs) k []) ≡ length fs
length-choice [] zero h = refl
length-choice [] (suc k) h = absurd (omega arith)
length-choice (f ∷ fs) k h =
    ap length (choice_at f fs (length (choices (f ∷ fs))) k refl h (number (pos 0)))
    ∙ ap suc (length-choice fs (k % length (choices fs)) (in_rest f fs (length (choices (f ∷ fs))) k refl h))

some_within : {X : Type 0} (xs : List X) (i : ℕ) → is_some (slice_get xs i) ≡ true → i < length xs
some_within xs i some =
    elim (cases_lt i (length xs)) [ inl b ↦ b | inr b ↦ absurd (false≢true (ap is_some (sym (slice_get_past xs i b)) ∙ some)) ]

-- the event at place j of the channel c, which has the number i
module _ (cs : List Channel) (i j : ℕ) (c : Channel) (at : slice_get cs i ≡ Some c) (made : is_some (parts_at cs i j) ≡ true) where
  pub choice_within : j < length (choices c.fields)
  choice_within = omega (arith, place_within cs i j made, count_next cs i c at)

  -- so few events are counted exactly
  pub counted : (t : ℕ) → event_count cs ≤ 256 → t ≡ min (length (choices c.fields)) 257 → t ≡ length (choices c.fields)
  counted t small e = omega (arith, count_next cs i c at, count_within cs (i + 1))

  pub value_is : (e : Event) (field : ℕ) → parts_at cs i j ≡ parts_of cs e → value_in cs e field ≡ slice_get (get_or (choices c.fields) j []) field
  value_is e field same =
      let as_parts : Values → Parts = λ vs. record { channel = c.name; values = vs } in
      let parts : parts_of cs e ≡ Some (as_parts (get_or (choices c.fields) j [])) =
      sym same ∙ ap (option_and_then (λ d. slice_get (channel_events d) j)) at
      ∙ slice_get-map as_parts (choices c.fields) j ∙ ap (option_map as_parts) (slice_get-get_or (choices c.fields) j [] choice_within) in
      ap (option_and_then (λ p. slice_get p.values field)) parts

  -- the event has a value of each of the channel's fields
  pub value_there : (e : Event) (field n : ℕ) → parts_at cs i j ≡ parts_of cs e → n ≡ length c.fields → (field < n) ↔ (is_some (value_in cs e field) ≡ true)
  value_there e field n same counts =
      let choice = get_or (choices c.fields) j [] in
      let size : length choice ≡ length c.fields = length-choice c.fields j choice_within in (
        (λ h. ap is_some (value_is e field same ∙ slice_get-get_or choice field (number (pos 0)) (omega arith))),
        (λ some. omega (arith, some_within choice field (ap is_some (sym (value_is e field same)) ∙ some))),
      )
