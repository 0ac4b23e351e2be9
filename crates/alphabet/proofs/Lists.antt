-- Lists by their elements: membership, and lists in which nothing stands twice.
use Rattle.std.proofs.Common.{◌≡◌, ◌⊎◌, ℕ, zero, suc, ◌<◌, Bool, true, false, ◌&&◌, ◌||◌, List, [], ◌∷◌, ◌++◌, map, length, refl, sym, ap, subst, inl, inr, arith, slice_get, get_or, take, Some}
use Rattle.std.proofs.lemmas.Option.{none-some, same_Some}
use Rattle.std.proofs.lemmas.Bool.{false≢true}
use Rattle.alphabet.specs.Elements.{In, here, there, Distinct}
use Rattle.std.specs.List.{flat_map, list_any, list_all}

pub In-append : {A : Type 0} {x : A} (xs ys : List A) → In x (xs ++ ys) → In x xs ⊎ In x ys
In-append [] ys h = inr h
In-append (y ∷ xs) ys here = inl here
In-append (y ∷ xs) ys (there h) = elim (In-append xs ys h) [ inl l ↦ inl (there l) | inr r ↦ inr r ]

pub In-append_left : {A : Type 0} {x : A} {xs : List A} (ys : List A) → In x xs → In x (xs ++ ys)
In-append_left ys here = here
In-append_left ys (there h) = there (In-append_left ys h)

pub In-append_right : {A : Type 0} {x : A} (xs ys : List A) → In x ys → In x (xs ++ ys)
In-append_right [] ys h = h
In-append_right (y ∷ xs) ys h = there (In-append_right xs ys h)

pub In-map : {A B : Type 0} (f : A → B) {y : B} (xs : List A) → In y (map f xs) → (x : A) × In x xs × (y ≡ f x)
In-map f [] h = elim h [ ]
In-map f (x ∷ xs) here = (x, here, refl)
In-map f (x ∷ xs) (there h) = let r = In-map f xs h in (r.0, there r.1, r.2)

pub In-under_map : {A B : Type 0} (f : A → B) {x : A} (xs : List A) → In x xs → In (f x) (map f xs)
In-under_map f [] h = elim h [ ]
In-under_map f (x ∷ xs) here = here
In-under_map f (x ∷ xs) (there h) = there (In-under_map f xs h)

pub In-flat_map : {A B : Type 0} (f : A → List B) {y : B} (xs : List A) → In y (flat_map f xs) → (x : A) × In x xs × In y (f x)
In-flat_map f [] h = elim h [ ]
In-flat_map f (x ∷ xs) h =
    elim (In-append (f x) (flat_map f xs) h) [
      | inl l ↦ (x, here, l)
      | inr r ↦ let t = In-flat_map f xs r in (t.0, there t.1, t.2)
    ]

pub Distinct-append : {A : Type 0} (xs ys : List A) → Distinct xs → Distinct ys → ((x : A) → In x xs → In x ys → ⊥) → Distinct (xs ++ ys)
Distinct-append [] ys d e apart = e
Distinct-append (x ∷ xs) ys d e apart = (
  (λ h. elim (In-append xs ys h) [ inl l ↦ d.0 l | inr r ↦ apart x here r ]),
  Distinct-append xs ys d.1 e (λ y l r. apart y (there l) r),
)

pub Distinct-map : {A B : Type 0} (f : A → B) (xs : List A) → ((x y : A) → In x xs → In y xs → f x ≡ f y → x ≡ y) → Distinct xs → Distinct (map f xs)
Distinct-map f [] same d = tt
Distinct-map f (x ∷ xs) same d = (
  (λ h. let r = In-map f xs h in d.0 (subst (λ y. In y xs) (sym (same x r.0 here (there r.1) r.2)) r.1)),
  Distinct-map f xs (λ y z h k e. same y z (there h) (there k) e) d.1,
)

pub and-left : (s t : Bool) → (s && t) ≡ true → s ≡ true
and-left true t h = refl
and-left false t h = h

pub and-right : (s t : Bool) → (s && t) ≡ true → t ≡ true
and-right true t h = h
and-right false t h = absurd (false≢true h)

pub all-In : {A : Type 0} (p : A → Bool) {x : A} (xs : List A) → list_all p xs ≡ true → In x xs → p x ≡ true
all-In p [] h i = elim i [ ]
all-In p (y ∷ xs) h here = and-left (p y) (list_all p xs) h
all-In p (y ∷ xs) h (there i) = all-In p xs (and-right (p y) (list_all p xs) h) i

or-no_left : (s t : Bool) → (s || t) ≡ false → s ≡ false
or-no_left true t h = absurd (false≢true (sym h))
or-no_left false t h = refl

or-no_right : (s t : Bool) → (s || t) ≡ false → t ≡ false
or-no_right true t h = absurd (false≢true (sym h))
or-no_right false t h = h

pub none-In : {A : Type 0} (p : A → Bool) {x : A} (xs : List A) → list_any p xs ≡ false → In x xs → p x ≡ false
none-In p [] h i = elim i [ ]
none-In p (y ∷ xs) h here = or-no_left (p y) (list_any p xs) h
none-In p (y ∷ xs) h (there i) = none-In p xs (or-no_right (p y) (list_any p xs) h) i

pub none-from_In : {A : Type 0} (p : A → Bool) (xs : List A) → ((x : A) → In x xs → p x ≡ false) → list_any p xs ≡ false
none-from_In p [] h = refl
none-from_In p (x ∷ xs) h = rw (h x here) (none-from_In p xs (λ y i. h y (there i)))

pub In-at : {A : Type 0} {x : A} (xs : List A) (i : ℕ) → slice_get xs i ≡ Some x → In x xs
In-at [] i e = absurd (none-some _ e)
In-at (y ∷ xs) zero e = subst (λ z. In z (y ∷ xs)) (same_Some _ _ e) here
In-at (y ∷ xs) (suc i) e = there (In-at xs i e)

-- where nothing stands twice, what stands at two places stands at one
pub same_place : {A : Type 0} (xs : List A) (x : A) (i j : ℕ) → Distinct xs → slice_get xs i ≡ Some x → slice_get xs j ≡ Some x → i ≡ j
same_place [] x i j d e f = absurd (none-some x e)
same_place (y ∷ xs) x zero zero d e f = refl
same_place (y ∷ xs) x zero (suc j) d e f = absurd (d.0 (subst (λ z. In z xs) (sym (same_Some y x e)) (In-at xs j f)))
same_place (y ∷ xs) x (suc i) zero d e f = absurd (d.0 (subst (λ z. In z xs) (sym (same_Some y x f)) (In-at xs i e)))
same_place (y ∷ xs) x (suc i) (suc j) d e f = ap suc (same_place xs x i j d.1 e f)

pub In-get_or : {A : Type 0} (xs : List A) (k : ℕ) (d : A) → k < length xs → In (get_or xs k d) xs
In-get_or [] k d h = absurd (omega arith)
In-get_or (x ∷ xs) zero d h = here
In-get_or (x ∷ xs) (suc k) d h = there (In-get_or xs k d (omega arith))

only : {A : Type 0} {x y : A} → In x (y ∷ []) → x ≡ y
only here = refl
only (there i) = elim i [ ]

fresh_front : {A : Type 0} (xs : List A) (k : ℕ) (d : A) → k < length xs → Distinct xs → In (get_or xs k d) (take k xs) → ⊥
fresh_front [] k d h e i = absurd (omega arith)
fresh_front (x ∷ xs) zero d h e i = elim i [ ]
fresh_front (x ∷ xs) (suc k) d h e i =
    elim (In-append (x ∷ []) (take k xs) i) [
      | inl l ↦ e.0 (subst (λ y. In y xs) (only l) (In-get_or xs k d (omega arith)))
      | inr r ↦ fresh_front xs k d (omega arith) e.1 r
    ]

-- of a list in which nothing stands twice, what comes next isn't among what came before
pub fresh_next : {A : Type 0} (xs ys : List A) (k : ℕ) (d : A) → k < length ys → Distinct (xs ++ ys) → In (get_or ys k d) (xs ++ take k ys) → ⊥
fresh_next [] ys k d h e i = fresh_front ys k d h e i
fresh_next (x ∷ xs) ys k d h e i =
    elim (In-append (x ∷ []) (xs ++ take k ys) i) [
      | inl l ↦ e.0 (subst (λ y. In y (xs ++ ys)) (only l) (In-append_right xs ys (In-get_or ys k d h)))
      | inr r ↦ fresh_next xs ys k d h e.1 r
    ]

pub all-push : {A : Type 0} (p : A → Bool) (xs : List A) (x : A) → list_all p xs ≡ true → p x ≡ true → list_all p (xs ++ x ∷ []) ≡ true
all-push p [] x h k = rw k refl
all-push p (y ∷ xs) x h k = rw (and-left (p y) (list_all p xs) h) (all-push p xs x (and-right (p y) (list_all p xs) h) k)
