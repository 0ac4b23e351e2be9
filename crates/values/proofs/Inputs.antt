-- What names stand for after inputs.
use Rattle.std.proofs.Common.{◌≡◌, ℕ, suc, ◌<◌, List, [], ◌∷◌, ◌++◌, length, map, take, get_or, Bool, true, false, cond, Option, Some, None, refl, sym, ap, ◌∙◌}
use Rattle.std.specs.Option.{option_map}
use Rattle.std.proofs.Math.Seq.{take-suc}
use Rattle.std.proofs.lemmas.List.{map-append}
use Rattle.alphabet.specs.Channels.{FieldValue}
use Rattle.values.specs.Values.{Name}
use Rattle.values.specs.Names.{same_name}
use Rattle.values.specs.Worths.{Worth, one, Known}
use Rattle.values.specs.Tables.{with_input, behind, or_else, last_of}

abbrev one_of : Option FieldValue → Option Worth
one_of = option_map one

-- a name stands for the value of the last input that has it, else for what the table says
pub split : (known : Known) (is : List (Name × FieldValue)) (n : Name) → behind known is n ≡ or_else (one_of (last_of is n)) (known n)
unfolding behind last_of
split known [] n = refl
split known (i ∷ is) n = split (with_input known i.0 i.1) is n ∙ by (last_of is n) (same_name n i.0)
  where
    by : (o : Option FieldValue) (b : Bool) → or_else (one_of o) (cond b (Some (one i.1)) (known n)) ≡ or_else (one_of (or_else o (cond b (Some i.1) None))) (known n)
    by None true = refl
    by None false = refl
    by (Some v) b = refl

pub by_input : (known : Known) (is : List (Name × FieldValue)) (n : Name) (v : FieldValue) → last_of is n ≡ Some v → behind known is n ≡ Some (one v)
by_input known is n v h = split known is n ∙ ap (λ o. or_else (one_of o) (known n)) h

pub by_table : (known : Known) (is : List (Name × FieldValue)) (n : Name) → last_of is n ≡ None → behind known is n ≡ known n
by_table known is n h = split known is n ∙ ap (λ o. or_else (one_of o) (known n)) h

-- the last input with the name is looked for from the end

no_other : (o : Option FieldValue) → o ≡ or_else o None
no_other None = refl
no_other (Some v) = refl

else_later : (o p r : Option FieldValue) → or_else (or_else o p) r ≡ or_else o (or_else p r)
else_later None p r = refl
else_later (Some v) p r = refl

last_more : (is : List (Name × FieldValue)) (i : Name × FieldValue) (n : Name) → last_of (is ++ i ∷ []) n ≡ or_else (cond (same_name n i.0) (Some i.1) None) (last_of is n)
unfolding last_of
last_more [] i n = no_other (cond (same_name n i.0) (Some i.1) None)
last_more (j ∷ is) i n = ap (λ o. or_else o (cond (same_name n j.0) (Some j.1) None)) (last_more is i n) ∙ else_later (cond (same_name n i.0) (Some i.1) None) (last_of is n) (cond (same_name n j.0) (Some j.1) None)

module _ {X : Type 0} (view : X → Name × FieldValue) (xs : List X) (n : Name) (k : ℕ) (x : X) (h : k < length xs) (at : x ≡ get_or xs k x) where
  up_to : map view (take (suc k) xs) ≡ map view (take k xs) ++ view x ∷ []
  up_to = ap (map view) (take-suc xs k x h ∙ ap (λ y. take k xs ++ y ∷ []) (sym at)) ∙ map-append view (take k xs) (x ∷ [])

  last_here : last_of (map view (take (suc k) xs)) n ≡ or_else (cond (same_name n (view x).0) (Some (view x).1) None) (last_of (map view (take k xs)) n)
  last_here = ap (λ is. last_of is n) up_to ∙ last_more (map view (take k xs)) (view x) n

  pub last_found : (whole : Option FieldValue) → last_of (map view (take (suc k) xs)) n ≡ whole → same_name n (view x).0 ≡ true → Some (view x).1 ≡ whole
  last_found whole inv e = sym (ap (λ b. or_else (cond b (Some (view x).1) None) (last_of (map view (take k xs)) n)) e) ∙ sym last_here ∙ inv

  pub last_before : (whole : Option FieldValue) → last_of (map view (take (suc k) xs)) n ≡ whole → same_name n (view x).0 ≡ false → last_of (map view (take k xs)) n ≡ whole
  last_before whole inv e = sym (ap (λ b. or_else (cond b (Some (view x).1) None) (last_of (map view (take k xs)) n)) e) ∙ sym last_here ∙ inv

-- one more input
pub behind-more : (known : Known) (is : List (Name × FieldValue)) (x : Name) (v : FieldValue) → behind known (is ++ (x, v) ∷ []) ≡ with_input (behind known is) x v
unfolding behind
behind-more known [] x v = refl
behind-more known (i ∷ is) x v = behind-more (with_input known i.0 i.1) is x v
