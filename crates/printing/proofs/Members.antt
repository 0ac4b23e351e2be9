-- The events of a set that lies in Sigma, one after another.
use Rattle.std.proofs.Common.{◌≡◌, ℕ, zero, suc, ◌+◌, List, [], ◌∷◌, ◌++◌, Bool, true, false, cond, map, filter, refl, sym, ap, ◌∙◌, append_assoc}
use Rattle.std.specs.List.{AllByRecursion, flat_map, range_with_len}
use Rattle.alphabet.specs.declared.events.Event.{Event}
use Rattle.alphabet.specs.declared.events.Event.TheVariants.{Tick as tick, Of as ev}
use Rattle.alphabet.specs.EventSets.{Set, has, member, members, members_below}
use Rattle.alphabet.specs.Channels.{Channel, IsEvent, event_count, name_of}
use Rattle.term.specs.Specs.{InSigma, SetInSigma}
use Rattle.printing.specs.Printed.{joined}

all_append : (P : Event → Type 0) (xs ys : List Event) → AllByRecursion P xs → AllByRecursion P ys → AllByRecursion P (xs ++ ys)
all_append P [] ys h k = k
all_append P (x ∷ xs) ys h k = (h.0, all_append P xs ys h.1 k)

kept : (P : Event → Type 0) (k : ℕ) (b : Bool) (rest : List ℕ) → (b ≡ true → P (ev k)) → AllByRecursion P (map ev rest) → AllByRecursion P (map ev (cond b (k ∷ rest) rest))
kept P k true rest holds all = (holds refl, all)
kept P k false rest holds all = all

kept_all : (P : Event → Type 0) (A : Set) (start n : ℕ) → ((k : ℕ) → has A k ≡ true → P (ev k)) → AllByRecursion P (map ev (filter (has A) (range_with_len start n)))
kept_all P A start zero holds = tt
kept_all P A start (suc n) holds =
    kept P start (has A start) (filter (has A) (range_with_len (start + 1) n)) (holds start) (kept_all P A (start + 1) n holds)

last_kept : (P : Event → Type 0) (b : Bool) → (b ≡ true → P tick) → AllByRecursion P (cond b (tick ∷ []) [])
last_kept P true holds = (holds refl, tt)
last_kept P false holds = tt

below_all : (P : Event → Type 0) (n : ℕ) (A : Set) → ((x : Event) → member A x ≡ true → P x) → AllByRecursion P (members_below n A)
unfolding members_below
below_all P n A holds =
    all_append P (map ev (filter (has A) (range_with_len 0 n))) (cond (member A tick) (tick ∷ []) [])
    (kept_all P A 0 n (λ k h. holds (ev k) h)) (last_kept P (member A tick) (holds tick))

-- each member of a set that lies in Sigma does
pub all_in_sigma : (n : ℕ) (A : Set) → SetInSigma n A → AllByRecursion (InSigma n) (members A)
all_in_sigma n A h = below_all (InSigma n) 256 A (λ x e. h x e)

pub is_event : (cs : List Channel) (x : Event) → InSigma (event_count cs) x → IsEvent cs x
is_event cs tick h = absurd h
is_event cs (ev a) h = h

-- the first event is told, and the others are left
pub first_told : (cs : List Channel) (start text : List ℕ) (events left : List Event) (x : Event) → events ≡ x ∷ left → text ≡ start ++ name_of cs x →
    text ++ flat_map (λ u. (44 ∷ 32 ∷ []) ++ u) (map (name_of cs) left) ≡ start ++ joined (44 ∷ 32 ∷ []) (map (name_of cs) events)
first_told cs start text events left x e is =
    ap (λ t. t ++ flat_map (λ u. (44 ∷ 32 ∷ []) ++ u) (map (name_of cs) left)) is
    ∙ append_assoc start (name_of cs x) (flat_map (λ u. (44 ∷ 32 ∷ []) ++ u) (map (name_of cs) left))
    ∙ ap (λ es. start ++ joined (44 ∷ 32 ∷ []) (map (name_of cs) es)) (sym e)
