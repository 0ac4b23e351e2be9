-- Texts that are appended piece by piece.
use Rattle.std.proofs.Common.{◌≡◌, ◌∙◌, ◌++◌, ℕ, List, Result, Ok, Err, OnOk, ap}
use Rattle.std.specs.Bool.{if◌then◌else◌}
use Rattle.std.specs.Result.{is_ok}
use Rattle.std.proofs.lemmas.List.{append_assoc}

-- what holds of a text where a call succeeds
pub where-ok : {T E : Type 0} (r : Result T E) (new on off : List ℕ) (Y : Type 0) → new ≡ (if is_ok r then on else off) → (new ≡ on → Y) → OnOk r Y
where-ok (Ok x) new on off Y e f = f e
where-ok (Err x) new on off Y e f = tt

-- a first field, with its name and its number
pub first-field : (old new name number : List ℕ) → new ≡ old ++ name ++ number → new ≡ old ++ (name ++ number)
first-field old new name number e = e ∙ append_assoc old name number

-- a field more
pub next-field : (old text now new name number : List ℕ) → now ≡ old ++ text → new ≡ now ++ name ++ number → new ≡ old ++ (text ++ name ++ number)
next-field old text now new name number e f =
    f ∙ ap (λ l. l ++ name ++ number) e ∙ ap (λ l. l ++ number) (append_assoc old text name) ∙ append_assoc old (text ++ name) number

-- the end
pub last-piece : (old text now new end : List ℕ) → now ≡ old ++ text → new ≡ now ++ end → new ≡ old ++ (text ++ end)
last-piece old text now new end e f = f ∙ ap (λ l. l ++ end) e ∙ append_assoc old text end
