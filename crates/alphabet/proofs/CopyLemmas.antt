-- The channels of an alphabet can be declared again, one after the other.
use Rattle.std.proofs.Common.{◌≡◌, ℕ, zero, suc, ◌+◌, Bool, true, false, not, ◌&&◌, ◌||◌, Some, Result, Ok, Err, List, [], ◌∷◌, ◌++◌, take, drop, nat_eq, refl, sym, ap, ◌∙◌, subst}
use Rattle.std.specs.List.{list_all, slice_get}
use Rattle.std.specs.Result.{is_err, OnOk}
use Rattle.std.proofs.lemmas.List.{take_more, take-append-drop}
use Rattle.std.proofs.lemmas.List.Folds.{list_all-append, list_any-append}
use Rattle.std.proofs.lemmas.Option.{slice_get_within, get_or_from_slice_get}
use Rattle.std.specs.Cmp.Lexicographic.{pointwise}
use Rattle.alphabet.specs.Channels.{FieldValue, number, constant, Channel, is_declared, is_apart_from, are_apart}

and_front : (a b : Bool) → a && b ≡ true → a ≡ true
and_front true b e = refl
and_front false b e = cc

and_back : (a b : Bool) → a && b ≡ true → b ≡ true
and_back true b e = e
and_back false b e = cc

pub all_at : {X : Type 0} (p : X → Bool) (xs : List X) (i : ℕ) (x : X) → list_all p xs ≡ true → slice_get xs i ≡ Some x → p x ≡ true
all_at p [] i x all at = cc
all_at p (y ∷ xs) zero x all at = let e : y ≡ x = cc in subst (λ z. p z ≡ true) e (and_front (p y) (list_all p xs) all)
all_at p (y ∷ xs) (suc i) x all at = all_at p xs i x (and_back (p y) (list_all p xs) all) at

all_weaker : {X : Type 0} (p q : X → Bool) (xs : List X) → ((x : X) → p x ≡ true → q x ≡ true) → list_all p xs ≡ true → list_all q xs ≡ true
all_weaker p q [] step all = refl
all_weaker p q (x ∷ xs) step all =
    rw (step x (and_front (p x) (list_all p xs) all)) (all_weaker p q xs step (and_back (p x) (list_all p xs) all))

not_front : (a b : Bool) → not (a || b) ≡ true → not a ≡ true
not_front true b e = e
not_front false b e = refl

apart_fewer : (ds rest : List Channel) (v : FieldValue) → is_apart_from (ds ++ rest) v ≡ true → is_apart_from ds v ≡ true
apart_fewer ds rest (number z) e = refl
apart_fewer ds rest (constant name) e =
    not_front (is_declared ds name) (is_declared rest name)
    (ap not (sym (list_any-append (λ (c : Channel). pointwise nat_eq name c.name) ds rest)) ∙ e)

apart_front : (ds rest : List Channel) → are_apart (ds ++ rest) ≡ true → are_apart ds ≡ true
apart_front ds rest e =
    let p : Channel → Bool = λ c. list_all (list_all (is_apart_from (ds ++ rest))) c.fields in
    let q : Channel → Bool = λ c. list_all (list_all (is_apart_from ds)) c.fields in
    let front : list_all p ds ≡ true = and_front (list_all p ds) (list_all p rest) (sym (list_all-append p ds rest) ∙ e) in
    all_weaker p q ds
    (λ c. all_weaker (list_all (is_apart_from (ds ++ rest))) (list_all (is_apart_from ds)) c.fields
    (λ vs. all_weaker (is_apart_from (ds ++ rest)) (is_apart_from ds) vs (apart_fewer ds rest))) front

-- one channel more
pub take_next : (cs : List Channel) (i : ℕ) (c : Channel) → slice_get cs i ≡ Some c → take i cs ++ c ∷ [] ≡ take (i + 1) cs
take_next cs i c at = ap (λ d. take i cs ++ d ∷ []) (sym (get_or_from_slice_get cs i c c at)) ∙ sym (take_more cs i c (slice_get_within cs i c at))

pub apart_next : (cs : List Channel) (i : ℕ) (c : Channel) → are_apart cs ≡ true → slice_get cs i ≡ Some c → are_apart (take i cs ++ c ∷ []) ≡ true
apart_next cs i c all at =
    ap are_apart (take_next cs i c at)
    ∙ apart_front (take (i + 1) cs) (drop (i + 1) cs) (ap are_apart (take-append-drop (i + 1) cs) ∙ all)

pub on_ok : {T E P : Type 0} (r : Result T E) → is_err r ≡ false → OnOk r P → P
on_ok (Ok a) e p = p
on_ok (Err a) e p = cc
