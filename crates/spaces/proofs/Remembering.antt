-- What is remembered of sets and events.
use Rattle.std.proofs.Common.{◌≡◌, ℕ, ◌+◌, ◌<◌, ◌≤◌, Bool, true, false, cond, nat_eq, Option, None, Some, Result, Ok, Err, OnOk, OnErr, IfOk, is_some, if◌then◌else◌, List, [], length, refl, sym, ap, ◌∙◌, subst, arith}
use Rattle.std.proofs.lemmas.Bool.{eqb-true}
use Rattle.std.specs.Map.{lookup}
use Rattle.indexmap.specs.IndexMap.{IndexMap, Updates, IsUnchanged, index_map_len}
use Rattle.alphabet.specs.declared.events.Event.{Event}
use Rattle.alphabet.specs.declared.events.Event.TheVariants.{Tick as tick, Of as ev}
use Rattle.tau_closures.specs.Label.TheVariants as label
use Rattle.tau_closures.specs.Memory.{IsSmall, key}
use Rattle.spaces.specs.Answers.{AllRemembered, IsAnswer, IsMemory, IsRemembered}
use Rattle.spaces.specs.Spaces.{Spaced, most_remembered}

-- a key is that of one set and one event
key-same : (n m : ℕ) (x y : Event) → IsSmall (label.Event x) → IsSmall (label.Event y) → key n (label.Event x) ≡ key m (label.Event y) → (n ≡ m) × (x ≡ y)
key-same n m tick tick s r e = (omega arith, refl)
key-same n m tick (ev b) s r e = absurd (omega arith)
key-same n m (ev a) tick s r e = absurd (omega arith)
key-same n m (ev a) (ev b) s r e = let f : a ≡ b = omega arith in (omega arith, ap (λ (c : ℕ). ev c) f)

-- ---- nothing remembered
pub memory-new : (space : Spaced) (es : List (ℕ × Option ℕ)) → es ≡ [] → IsMemory space es
memory-new space es e = subst (λ (l : List (ℕ × Option ℕ)). IsMemory space l) (sym e) (record { remembered = λ n x o i q. absurd (cc); few = omega arith })

-- ---- looked up
pub looked-up : (space : Spaced) (es : List (ℕ × Option ℕ)) (k n : ℕ) (x : Event) (answer : Option ℕ) → AllRemembered space es → k ≡ key n (label.Event x) → IsSmall (label.Event x) → lookup (nat_eq k) es ≡ Some answer → IsAnswer space n x answer
looked-up space es k n x answer all e small f = (all n x answer small (ap (λ (j : ℕ). lookup (nat_eq j) es) (sym e) ∙ f)).is

-- ---- one answer more
module _ {S : Type 0} (space : Spaced) (m m' : IndexMap ℕ (Option ℕ) S) (k n : ℕ) (x : Event) (answer : Option ℕ) (e : k ≡ key n (label.Event x)) (small : IsSmall (label.Event x)) (r : IsRemembered space n x answer) (all : AllRemembered space m.entries) where
  more-remembered : Updates nat_eq m m' k (Some answer) → AllRemembered space m'.entries
  more-remembered u n' x' a' i f = by (nat_eq k (key n' (label.Event x'))) refl
    where
      by : (b : Bool) → nat_eq k (key n' (label.Event x')) ≡ b → IsRemembered space n' x' a'
      by true q =
          let same = key-same n n' x x' small i (sym e ∙ eqb-true k (key n' (label.Event x')) q) in
          let here : Some answer ≡ Some a' = sym (ap (λ (b : Bool). cond b (Some answer) (lookup (nat_eq (key n' (label.Event x'))) m.entries)) q) ∙ sym (u.0 (key n' (label.Event x'))) ∙ f in
          let w : answer ≡ a' = cc in
          subst (λ (o : Option ℕ). IsRemembered space n' x' o) w
          (subst (λ (y : Event). IsRemembered space n' y answer) same.1
          (subst (λ (j : ℕ). IsRemembered space j x answer) same.0 r))
      by false q =
          let old : lookup (nat_eq (key n' (label.Event x'))) m.entries ≡ Some a' = sym (ap (λ (b : Bool). cond b (Some answer) (lookup (nat_eq (key n' (label.Event x'))) m.entries)) q) ∙ sym (u.0 (key n' (label.Event x'))) ∙ f in
          all n' x' a' i old

  pub answers-more : {T E : Type 0} (o : Result T E) → OnOk o (Updates nat_eq m m' k (Some answer)) → OnErr o (IsUnchanged m m') → AllRemembered space m'.entries
  answers-more (Ok y) u n' = more-remembered u
  answers-more (Err y) u same = subst (λ (es : List (ℕ × Option ℕ)). AllRemembered space es) (sym same) all

-- how many there are then
pub count-more : {S E : Type 0} (m m' : IndexMap ℕ (Option ℕ) S) (o : Result (Option (Option ℕ)) E) → IfOk o (λ old. index_map_len m' ≡ index_map_len m + (if is_some old then 0 else 1)) → OnErr o (IsUnchanged m m') → length m.entries < most_remembered → length m'.entries ≤ most_remembered
count-more m m' (Ok None) l u h = omega (arith, l, h)
count-more m m' (Ok (Some a)) l u h = omega (arith, l, h)
count-more m m' (Err y) l u h = omega (arith, ap length u, h)
