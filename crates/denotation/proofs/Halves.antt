-- How many nodes bodies joined two and two have, and what there is room for.
use Rattle.std.proofs.Common.{◌≡◌, ◌⊎◌, inl, inr, ℕ, zero, suc, ◌+◌, ◌<◌, ◌≤◌, List, [], ◌∷◌, length, take, drop, Option, Some, None, refl, sym, ap, ◌∙◌, arith}
use Rattle.std.proofs.lemmas.List.{length-take, length-drop}
use Rattle.values.specs.Values.{◌>>=◌}
use Rattle.event_phrases.proofs.Options.{bind_assoc, bind_none}
use Rattle.denotation.specs.Bodies.{Body, size, sizes, half, halved_in, halved}
use Rattle.denotation.specs.declared.draft.Joint.{Joint}
use Rattle.denotation.specs.declared.draft.Joint.TheVariants as joints
use Rattle.denotation.specs.declared.forms.Join.{Join}
use Rattle.denotation.specs.declared.forms.Join.TheVariants as joins
use Rattle.denotation.specs.Phrases.{join_of, joint_of, none_of, all_joined}
use Rattle.denotation.specs.Rooms.{room_left, spare, fit, fits, all_fit, halved_nodes, spare_joined}
use Rattle.denotation.proofs.Rooms.{rooms, some_pair}

size_parts : (k : ℕ) (bs : List Body) → sizes (take k bs) + sizes (drop k bs) ≡ sizes bs
unfolding sizes
size_parts zero bs = omega arith
size_parts (suc k) [] = refl
size_parts (suc k) (b ∷ bs) = omega (arith, size_parts k bs)

some_nodes : (bs : List Body) → 0 < length bs → halved_nodes bs + 1 ≡ length bs
unfolding halved_nodes
some_nodes [] h = absurd (omega (arith, h))
some_nodes (b ∷ bs) h = omega arith

join_size : (j : Join) (p q : Body) → size (join_of j p q) ≡ size p + (size q + 1)
unfolding join_of size
join_size joins.Sequence p q = omega arith
join_size joins.Interrupt p q = omega arith
join_size joins.External p q = omega arith
join_size joins.Internal p q = omega arith
join_size joins.Interleaving p q = omega arith

pub joint_size : (k : Joint) (p q : Body) → size (joint_of k p q) ≡ size p + (size q + 1)
unfolding joint_of size
joint_size (joints.Join j) p q = join_size j p q
joint_size (joints.Sharing A) p q = omega arith

none_size : (j : Join) → size (none_of j) ≡ 1
unfolding none_of size
none_size joins.Sequence = refl
none_size joins.Interrupt = refl
none_size joins.External = refl
none_size joins.Internal = refl
none_size joins.Interleaving = refl

module _ (j : Join) where
  size_in : (n : ℕ) (bs : List Body) → length bs ≤ suc n → size (halved_in (join_of j) (none_of j) n bs) ≡ sizes bs + halved_nodes bs
  unfolding halved_in sizes halved_nodes
  size_in n [] h = none_size j
  size_in n (b ∷ []) h = omega arith
  size_in zero (b ∷ c ∷ bs) h = absurd (omega (arith, h))
  size_in (suc n) (b ∷ c ∷ bs) h =
      let all = b ∷ c ∷ bs in
      let t = length-take (half all) all in
      let d = length-drop (half all) all in
      let a = size_in n (take (half all) all) (omega (arith, h, t)) in
      let e = size_in n (drop (half all) all) (omega (arith, h, d)) in
      let i = some_nodes (take (half all) all) (omega (arith, t)) in
      let k = some_nodes (drop (half all) all) (omega (arith, d)) in
      let g = size_parts (half all) all in
      let z = join_size j (halved_in (join_of j) (none_of j) n (take (half all) all)) (halved_in (join_of j) (none_of j) n (drop (half all) all)) in
      omega (arith, a, e, i, k, g, t, d, z)

  pub size_halves : (bs : List Body) → size (halved (join_of j) (none_of j) bs) ≡ sizes bs + halved_nodes bs
  unfolding halved
  size_halves bs = size_in (length bs) bs (omega arith)

  room_for : (room : ℕ) (bs : List Body) → fits room (Some (halved (join_of j) (none_of j) bs)) ≡ (all_fit room (Some bs) >>= λ p. spare (halved_nodes p.0) (halved (join_of j) (none_of j) p.0) p.1)
  unfolding fit
  room_for room bs =
      let b = halved (join_of j) (none_of j) bs in
      (λ i. spare (size_halves bs i) b room) ∙ sym (rooms (sizes bs) (halved_nodes bs) room (some_pair b))
      ∙ sym (bind_assoc (room_left (sizes bs) room) (some_pair bs) (λ p. spare (halved_nodes p.0) (halved (join_of j) (none_of j) p.0) p.1))

nothing : (room : ℕ) (bs : List Body) (f : List Body × ℕ → Option (Body × ℕ)) → ((r : ℕ) → f (bs, r) ≡ None) → None ≡ (all_fit room (Some bs) >>= f)
unfolding fit
nothing room bs f h = sym (bind_assoc (room_left (sizes bs) room) (some_pair bs) f ∙ bind_none (room_left (sizes bs) room) (λ r. f (bs, r)) h)

later : (j : Join) (room : ℕ) (bs : List Body) (f g : List Body × ℕ → Option (Body × ℕ)) → ((r : ℕ) → f (bs, r) ≡ g (bs, r)) → (all_fit room (Some bs) >>= f) ≡ (all_fit room (Some bs) >>= g)
unfolding fit
later j room bs f g h = by (room_left (sizes bs) room)
  where
    by : (o : Option ℕ) → ((o >>= some_pair bs) >>= f) ≡ ((o >>= some_pair bs) >>= g)
    by None = refl
    by (Some r) = h r

-- the bodies of a replicated form
joined_is : (room : ℕ) (j : Join) (bs : List Body) → fits room (all_joined j bs) ≡ (all_fit room (Some bs) >>= λ p. spare_joined j p.0 p.1)
unfolding all_joined spare_joined fit
joined_is room joins.Sequence bs = nothing room bs (λ p. spare_joined joins.Sequence p.0 p.1) (λ r. refl)
joined_is room joins.Interrupt bs = nothing room bs (λ p. spare_joined joins.Interrupt p.0 p.1) (λ r. refl)
joined_is room joins.Internal [] = nothing room [] (λ p. spare_joined joins.Internal p.0 p.1) (λ r. refl)
joined_is room joins.Internal (b ∷ bs) = room_for joins.Internal room (b ∷ bs) ∙ later joins.Internal room (b ∷ bs) _ (λ p. spare_joined joins.Internal p.0 p.1) (λ r. refl)
joined_is room joins.External bs = room_for joins.External room bs ∙ later joins.External room bs _ (λ p. spare_joined joins.External p.0 p.1) (λ r. refl)
joined_is room joins.Interleaving bs = room_for joins.Interleaving room bs ∙ later joins.Interleaving room bs _ (λ p. spare_joined joins.Interleaving p.0 p.1) (λ r. refl)

pub all_is : (j : Join) (room : ℕ) (o : Option (List Body)) → fits room (o >>= all_joined j) ≡ (all_fit room o >>= λ p. spare_joined j p.0 p.1)
unfolding fit
all_is j room None = refl
all_is j room (Some bs) = joined_is room j bs

-- ---- the joins of replicated forms

pub no_join : (j : Join) (bs : List Body) (room : ℕ) → (j ≡ joins.Sequence) ⊎ (j ≡ joins.Interrupt) → spare_joined j bs room ≡ None
unfolding spare_joined
no_join j bs room (inl e) = ap (λ j. spare_joined j bs room) e
no_join j bs room (inr e) = ap (λ j. spare_joined j bs room) e

pub internal_none : (j : Join) (bs : List Body) (room : ℕ) → j ≡ joins.Internal → length bs < 1 → spare_joined j bs room ≡ None
unfolding spare_joined
internal_none j [] room e h = ap (λ j. spare_joined j [] room) e
internal_none j (b ∷ bs) room e h = absurd (omega (arith, h))

-- a join of bodies, with what is left of the room
abbrev pub halved_by : Join → List Body → ℕ → Option (Body × ℕ)
halved_by j bs room = spare (halved_nodes bs) (halved (join_of j) (none_of j) bs) room

pub internal_some : (j : Join) (bs : List Body) (room : ℕ) → j ≡ joins.Internal → (length bs < 1 → ⊥) → spare_joined j bs room ≡ halved_by j bs room
unfolding spare_joined
internal_some j [] room e h = absurd (h (omega arith))
internal_some j (b ∷ bs) room e h = ap (λ j. spare_joined j (b ∷ bs) room) e ∙ sym (ap (λ j. halved_by j (b ∷ bs) room) e)

pub others_joined : (j : Join) (bs : List Body) (room : ℕ) → (j ≡ joins.External) ⊎ (j ≡ joins.Interleaving) → spare_joined j bs room ≡ halved_by j bs room
unfolding spare_joined
others_joined j bs room (inl e) = ap (λ j. spare_joined j bs room) e ∙ sym (ap (λ j. halved_by j bs room) e)
others_joined j bs room (inr e) = ap (λ j. spare_joined j bs room) e ∙ sym (ap (λ j. halved_by j bs room) e)
