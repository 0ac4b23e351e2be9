-- Numbers that are put after others.
use Rattle.std.proofs.Common.{◌≡◌, ℕ, ◌+◌, ◌<◌, ◌||◌, Bool, true, false, List, [], ◌∷◌, ◌++◌, length, take, get_or, nat_eq, inl, refl, sym, ap, ◌∙◌, subst, if◌then◌else◌}
use Rattle.std.proofs.lemmas.Bool.{eqb-true, eq-eqb}
use Rattle.std.proofs.lemmas.List.{append-nil, map-append, take_more}
use Rattle.std.specs.List.{list_any}
use Rattle.indexmap.specs.IndexSet.{insert_key}
use Rattle.term.specs.Traces.{In}
use Rattle.term.specs.Proc.{Proc, stop}
use Rattle.targets.proofs.Members.{append-In, In-append_r}
use Rattle.targets.proofs.Cutting.{only as one-In, distinct-push}
use Rattle.nodes.specs.Shapes.{at}
use Rattle.nodes.specs.Tables.{NoneTwice}
use Rattle.nodes.specs.Looks.{look, AllBelow}
use Rattle.nodes.proofs.Joining.{number-In, number-absent}
use Rattle.nodes.proofs.Looking.{below-push}
use Rattle.tau_closures.specs.Closing.{HasPut}
use Rattle.tau_closures.proofs.Putting.{put-then}

pub put-old : (old : List Proc) (P : Proc) → In P old → HasPut (P ∷ []) old old
put-old old P i =
    record {
      more = ([], sym (append-nil old));
      once = λ d. d;
      only = λ Q j. inl j;
      all = λ Q j. subst (λ q. In q old) (sym (one-In j refl)) i;
    }

pub put-new : (old : List Proc) (P : Proc) → (In P old → ⊥) → HasPut (P ∷ []) old (old ++ P ∷ [])
put-new old P h =
    record {
      more = (P ∷ [], refl);
      once = λ d. distinct-push old P d h;
      only = λ Q i. append-In old (P ∷ []) Q i;
      all = λ Q i. In-append_r old i;
    }

pub look-more : (ps : List Proc) (ns : List ℕ) (i d : ℕ) → i < length ns → look ps (take (i + 1) ns) ≡ look ps (take i ns) ++ at ps (get_or ns i d) ∷ []
look-more ps ns i d h = ap (look ps) (take_more ns i d h) ∙ map-append (at ps) (take i ns) (get_or ns i d ∷ [])

pub put-more : (ps : List Proc) (ns : List ℕ) (i : ℕ) (a b c : List Proc) → i < length ns → HasPut (look ps (take i ns)) a b → HasPut (at ps (get_or ns i 0) ∷ []) b c → HasPut (look ps (take (i + 1) ns)) a c
put-more ps ns i a b c h f g =
    subst (λ (l : List Proc). HasPut l a c) (sym (look-more ps ns i 0 h)) (put-then (look ps (take i ns)) (at ps (get_or ns i 0) ∷ []) a b c f g)

-- ---- a number that is put into a list, unless it is there
turned : (m n : ℕ) → nat_eq m n ≡ nat_eq n m
turned m n = by (nat_eq m n) (nat_eq n m) refl refl
  where
    by : (b d : Bool) → nat_eq m n ≡ b → nat_eq n m ≡ d → b ≡ d
    by true true e f = refl
    by false false e f = refl
    by true false e f = sym (eq-eqb n m (sym (eqb-true m n e))) ∙ f
    by false true e f = sym e ∙ eq-eqb m n (sym (eqb-true n m f))

any-turned : (n : ℕ) (ns : List ℕ) → list_any (nat_eq n) ns ≡ list_any (λ y. nat_eq y n) ns
any-turned n [] = refl
any-turned n (x ∷ xs) = ap (λ b. b || list_any (nat_eq n) xs) (turned n x) ∙ ap (λ b. nat_eq x n || b) (any-turned n xs)

pub insert-below : (n : ℕ) (ns : List ℕ) (k : ℕ) → AllBelow n ns → k < n → AllBelow n (insert_key nat_eq ns k)
insert-below n ns k a h = by (list_any (nat_eq k) ns)
  where
    by : (b : Bool) → AllBelow n (if b then ns else ns ++ k ∷ [])
    by true = a
    by false = below-push n ns k a h

pub insert-put : (ps : List Proc) (ns : List ℕ) (k : ℕ) → NoneTwice stop ps → k < length ps → AllBelow (length ps) ns
    → HasPut (at ps k ∷ []) (look ps ns) (look ps (insert_key nat_eq ns k))
insert-put ps ns k once h a = by (list_any (nat_eq k) ns) refl
  where
    by : (b : Bool) → list_any (nat_eq k) ns ≡ b → HasPut (at ps k ∷ []) (look ps ns) (look ps (if b then ns else ns ++ k ∷ []))
    by true e = put-old (look ps ns) (at ps k) (number-In ps k ns (sym (any-turned k ns) ∙ e))
    by false e =
        subst (HasPut (at ps k ∷ []) (look ps ns)) (sym (map-append (at ps) ns (k ∷ [])))
        (put-new (look ps ns) (at ps k) (number-absent ps k once h ns a (sym (any-turned k ns) ∙ e)))
