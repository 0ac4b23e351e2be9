-- Texts that grow item by item.
use Rattle.std.proofs.Common.{◌≡◌, ℕ, suc, ◌-◌, ◌≤◌, List, [], ◌∷◌, ◌++◌, map, length, take, drop, get_or, Result, Ok, Err, OnOk, is_ok, if◌then◌else◌, refl, sym, ap, ◌∙◌, append_assoc, arith}
use Rattle.std.proofs.lemmas.List.{take_all}
use Rattle.std.proofs.lemmas.List.Folds.{flat_map-map}
use Rattle.std.specs.List.{flat_map}
use Rattle.shown.specs.Names.{joined}

-- the first item stands, and the others are left
pub first_of_joined : {X : Type 0} (mark : List ℕ) (f : X → List ℕ) (start text : List ℕ) (items left : List X) (x : X) →
    items ≡ x ∷ left → text ≡ start ++ f x → text ++ flat_map (λ y. mark ++ f y) left ≡ start ++ joined mark (map f items)
first_of_joined mark f start text items left x e is =
    ap (λ t. t ++ flat_map (λ y. mark ++ f y) left) is
    ∙ append_assoc start (f x) (flat_map (λ y. mark ++ f y) left)
    ∙ ap (λ t. start ++ (f x ++ t)) (sym (flat_map-map (λ u. mark ++ u) f left))
    ∙ ap (λ xs. start ++ joined mark (map f xs)) (sym e)

-- a mark, and then what follows it
pub after_mark : {T E : Type 0} (r : Result T E) (start mid new mark more : List ℕ) →
    mid ≡ start ++ mark → OnOk r (new ≡ mid ++ more) → OnOk r (new ≡ start ++ (mark ++ more))
after_mark (Ok x) start mid new mark more is all = all ∙ ap (λ t. t ++ more) is ∙ append_assoc start mark more
after_mark (Err e) start mid new mark more is all = all

-- a mark, what follows it, and an end
pub within_marks : {T E : Type 0} (r : Result T E) (start mid next new mark more last : List ℕ) →
    mid ≡ start ++ mark → next ≡ mid ++ more → OnOk r (new ≡ next ++ last) → OnOk r (new ≡ start ++ (mark ++ (more ++ last)))
within_marks r start mid next new mark more last is follows all =
    after_mark r start mid new mark (more ++ last) is (after_mark r mid next new more last follows all)

-- the first of some items, and the others
pub joined_from : {X T E : Type 0} (r : Result T E) (mark : List ℕ) (f : X → List ℕ) (start text new : List ℕ) (items : List X) (x d : X) →
    1 ≤ length items → x ≡ get_or items 0 d → text ≡ start ++ f x → OnOk r (new ≡ text ++ flat_map (λ y. mark ++ f y) (take (length items - 1) (drop 1 items)))
    → OnOk r (new ≡ start ++ joined mark (map f items))
joined_from r mark f start text new [] x d h e is all = absurd (omega arith)
joined_from (Ok v) mark f start text new (w ∷ ws) x d h e is all =
    let n : suc (length ws) - 1 ≡ length ws = omega arith in
    let rest : take (length (w ∷ ws) - 1) (drop 1 (w ∷ ws)) ≡ ws = ap (λ (n : ℕ). take n ws) n ∙ take_all (length ws) ws (omega arith) in
    all ∙ ap (λ ys. text ++ flat_map (λ y. mark ++ f y) ys) rest ∙ first_of_joined mark f start text (w ∷ ws) ws w refl (is ∙ ap (λ y. start ++ f y) e)
joined_from (Err v) mark f start text new (w ∷ ws) x d h e is all = all

-- what was added, where it was
pub when_added : {T E : Type 0} (r : Result T E) (old more new : List ℕ) → new ≡ (if is_ok r then more else old) → OnOk r (new ≡ more)
when_added (Ok x) old more new e = e
when_added (Err x) old more new e = tt

pub grown : (start mid new first more : List ℕ) → mid ≡ start ++ first → new ≡ mid ++ more → new ≡ start ++ (first ++ more)
grown start mid new first more is all = all ∙ ap (λ t. t ++ more) is ∙ append_assoc start first more

-- two items with a mark before, between and after them
pub two_items : {T E : Type 0} (r : Result T E) (start t1 t2 t3 t4 new m1 a m2 b m3 : List ℕ) →
    t1 ≡ start ++ m1 → t2 ≡ t1 ++ a → t3 ≡ t2 ++ m2 → t4 ≡ t3 ++ b → OnOk r (new ≡ t4 ++ m3) → OnOk r (new ≡ start ++ ((((m1 ++ a) ++ m2) ++ b) ++ m3))
two_items r start t1 t2 t3 t4 new m1 a m2 b m3 e1 e2 e3 e4 all =
    let e = grown start t3 t4 ((m1 ++ a) ++ m2) b (grown start t2 t3 (m1 ++ a) m2 (grown start t1 t2 m1 a e1 e2) e3) e4 in
    after_mark r start t4 new (((m1 ++ a) ++ m2) ++ b) m3 e all
