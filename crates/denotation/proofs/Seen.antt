-- Definitions in a table, seen by a view.
use Rattle.std.proofs.Common.{◌≡◌, ℕ, zero, suc, List, [], ◌∷◌, map, get_or, slice_get, Bool, Some, ap, ◌∙◌}
use Rattle.indexmap.specs.IndexSet.{insert_key}
use Rattle.denotation.specs.declared.call.Call.{Call}
use Rattle.denotation.specs.Bodies.{Key}
use Rattle.denotation.specs.View.{key}
use Rattle.event_phrases.proofs.Options.{some_is}

first_at : {A B : Type 0} (view : A → B) (xs : List A) (i : ℕ) (x : A) (d : B) → slice_get xs i ≡ Some x → get_or (map view xs) i d ≡ view x
first_at view [] i x d e = absurd (cc)
first_at view (y ∷ xs) zero x d e = ap view (some_is e)
first_at view (y ∷ xs) (suc i) x d e = first_at view xs i x d e

pub seen_key : {A : Type 0} (xs : List (Call A)) (n : ℕ) (x : Call A) (d : Key) → slice_get xs n ≡ Some x → get_or (map key xs) n d ≡ key x
seen_key xs n x d is = first_at key xs n x d is

pub seen_root : {A : Type 0} (eq : Call A → Call A → Bool) (keys empty : List (Call A)) (v : Call A) (root : Key) → keys ≡ insert_key eq empty v → empty ≡ [] → key v ≡ root → map key keys ≡ root ∷ []
seen_root eq keys empty v root h e r = ap (map key) (h ∙ ap (λ ks. insert_key eq ks v) e) ∙ ap (λ k. k ∷ []) r
