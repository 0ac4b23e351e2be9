-- Each event is in one of the three kinds of nearness.
use Rattle.std.proofs.Common.{◌≡◌, ◌==◌, ◌+◌, ℕ, suc, Bool, true, false, cond, List, [], ◌∷◌, ◌++◌, length, refl, ap, ◌∙◌, arith}
use Rattle.std.proofs.lemmas.List.{length-append}
use Rattle.alphabet.specs.declared.events.Event.{Event}
use Rattle.alphabet.specs.Channels.{Channel, name_of}
use Rattle.shown.specs.Nearness.{channel_part, is_same, nearest_first, shares_value, so_near}

one_more : {X : Type 0} (s t : Bool) (x : X) (a b c : List X) → let n = cond {A = ℕ} s 0 (cond {A = ℕ} t 1 2) in
    length (cond (n == 0) (x ∷ a) a) + length (cond (n == 1) (x ∷ b) b) + length (cond (n == 2) (x ∷ c) c) ≡ suc (length a + length b + length c)
one_more true t x a b c = omega arith
one_more false true x a b c = omega arith
one_more false false x a b c = omega arith

sums : (cs : List Channel) (name : List ℕ) (xs : List Event) → length (so_near cs name 0 xs) + length (so_near cs name 1 xs) + length (so_near cs name 2 xs) ≡ length xs
sums cs name [] = refl
sums cs name (x ∷ xs) =
    let other = name_of cs x in
    one_more (is_same (channel_part name) (channel_part other)) (shares_value name other) x (so_near cs name 0 xs) (so_near cs name 1 xs) (so_near cs name 2 xs)
    ∙ ap suc (sums cs name xs)

pub nearest_length : (cs : List Channel) (name : List ℕ) (xs : List Event) → length (nearest_first cs name xs) ≡ length xs
nearest_length cs name xs =
    length-append (so_near cs name 0 xs ++ so_near cs name 1 xs) (so_near cs name 2 xs)
    ∙ ap (λ n. n + length (so_near cs name 2 xs)) (length-append (so_near cs name 0 xs) (so_near cs name 1 xs))
    ∙ sums cs name xs
