-- An alphabet with one channel more.
use Rattle.std.proofs.Common.{◌≡◌, ℕ, ◌+◌, ◌-◌, ◌<◌, ◌≤◌, min, Bool, true, false, not, ◌||◌, nat_eq, List, [], ◌∷◌, ◌++◌, map, length, refl, sym, ap, ◌∙◌, arith}
use Rattle.std.proofs.lemmas.Bool.{false≢true, not-true}
use Rattle.std.proofs.lemmas.List.{map-append, length-append, length-map, append-nil}
use Rattle.std.proofs.lemmas.List.Concat.{flat_map-append}
use Rattle.std.specs.List.{list_all}
use Rattle.std.specs.Cmp.Lexicographic.{pointwise, bytes_decides}
use Rattle.alphabet.specs.Names.{is_name}
use Rattle.alphabet.specs.Channels.{Channel, names, events, channel_events, event_text, event_count, choices, is_field, is_in_range, is_declared, are_distinct, are_apart, IsAlphabet}
use Rattle.alphabet.specs.Naming.{own_names}
use Rattle.alphabet.proofs.Lists.{and-left, and-right, all-push}
use Rattle.alphabet.proofs.Choices.{length-own_names}

-- the new channel's names come after the others
pub names-push : (cs : List Channel) (c : Channel) → names (cs ++ c ∷ []) ≡ names cs ++ own_names c
unfolding names
names-push cs c =
    ap (map event_text) (flat_map-append channel_events cs (c ∷ []) ∙ ap (λ es. events cs ++ es) (append-nil (channel_events c)))
    ∙ map-append event_text (events cs) (channel_events c)

pub event_count-push : (cs : List Channel) (c : Channel) → event_count (cs ++ c ∷ []) ≡ event_count cs + length (choices c.fields)
event_count-push cs c = ap length (names-push cs c) ∙ length-append (names cs) (own_names c) ∙ ap (λ n. event_count cs + n) (length-own_names c)

turned : (a b : List ℕ) (t : Bool) → pointwise nat_eq b a ≡ t → pointwise nat_eq a b ≡ false → t ≡ false
turned a b true e h = absurd (false≢true (sym h ∙ (bytes_decides a b).1 (sym ((bytes_decides b a).0 e))))
turned a b false e h = refl

or_none : (s t : Bool) → (s || t) ≡ false → (s ≡ false) × (t ≡ false)
or_none true t h = absurd (false≢true (sym h))
or_none false t h = (refl, h)

declared-push : (cs : List Channel) (c : Channel) (n : List ℕ) → is_declared cs n ≡ false → pointwise nat_eq n c.name ≡ false → is_declared (cs ++ c ∷ []) n ≡ false
declared-push [] c n h k = rw k refl
declared-push (d ∷ cs) c n h k =
    let o = or_none (pointwise nat_eq n d.name) (is_declared cs n) h in
    rw o.0 (declared-push cs c n o.1 k)

distinct-push : (cs : List Channel) (c : Channel) → are_distinct cs ≡ true → is_declared cs c.name ≡ false → are_distinct (cs ++ c ∷ []) ≡ true
distinct-push [] c h k = refl
distinct-push (d ∷ cs) c h k =
    let o = or_none (pointwise nat_eq c.name d.name) (is_declared cs c.name) k in
    let one : is_declared cs d.name ≡ false = not-true (is_declared cs d.name) (and-left (not (is_declared cs d.name)) (are_distinct cs) h) in
    let other : pointwise nat_eq d.name c.name ≡ false = turned c.name d.name (pointwise nat_eq d.name c.name) refl o.0 in
    rw (declared-push cs c d.name one other) (distinct-push cs c (and-right (not (is_declared cs d.name)) (are_distinct cs) h) o.1)

-- what the new channel must meet
pub record IsNext (cs : List Channel) (c : Channel) : Type 0 where
  pub named : is_name c.name ≡ true
  pub new : is_declared cs c.name ≡ false
  pub fielded : list_all is_field c.fields ≡ true
  pub ranged : list_all (list_all is_in_range) c.fields ≡ true
  pub apart : are_apart (cs ++ c ∷ []) ≡ true
  pub small : event_count cs + length (choices c.fields) ≤ 256

pub alphabet-push : (cs : List Channel) (c : Channel) → IsAlphabet cs → IsNext cs c → IsAlphabet (cs ++ c ∷ [])
alphabet-push cs c a n =
    record {
      named = all-push (λ d. is_name d.name) cs c a.named n.named;
      distinct = distinct-push cs c a.distinct n.new;
      fielded = all-push (λ d. list_all is_field d.fields) cs c a.fielded n.fielded;
      ranged = all-push (λ d. list_all (list_all is_in_range) d.fields) cs c a.ranged n.ranged;
      apart = n.apart;
      small = omega (arith, event_count-push cs c, n.small);
    }

-- ---- the count, which stops past the limit
module _ {K : Type 0} (f : K → List ℕ) (keys : List K) (cs : List Channel) (c : Channel) (n total : ℕ) (listed : map f keys ≡ names cs) (size : n ≡ length keys) (counted : total ≡ min (length (choices c.fields)) 257) where
  known : n ≡ event_count cs
  known = size ∙ sym (length-map keys f) ∙ ap length listed

  pub too_many : event_count cs ≤ 256 → 256 - n < total → 256 < event_count (cs ++ c ∷ [])
  too_many small more = omega (arith, known, event_count-push cs c)

  pub not_too_many : total ≤ 256 - n → event_count cs ≤ 256 → event_count (cs ++ c ∷ []) ≤ 256
  not_too_many few small = omega (arith, known, event_count-push cs c)

  pub counted_all : total ≤ 256 - n → total ≡ length (choices c.fields)
  counted_all few = omega arith

  pub room_for : total ≤ 256 - n → event_count cs ≤ 256 → event_count cs + total ≤ 256
  room_for few small = omega (arith, known)
