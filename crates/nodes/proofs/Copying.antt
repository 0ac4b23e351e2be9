-- Processes of a table that are put into another one.
use Rattle.std.proofs.Common.{◌≡◌, ℕ, ◌+◌, ◌<◌, inl, inr, Option, None, Some, List, [], ◌∷◌, ◌++◌, length, take, get_or, sym, ap, ◌∙◌, subst, arith, length-append}
use Rattle.std.proofs.lemmas.Bool.{cases_lt}
use Rattle.std.proofs.lemmas.List.{map_more, map-append, get_or_append_left, get_or_push}
use Rattle.std.proofs.lemmas.Option.{slice_get_within, get_or_from_slice_get, slice_get-get_or}
use Rattle.term.specs.Proc.{Proc}
use Rattle.nodes.specs.Copies.{ArePlaces}
use Rattle.nodes.specs.Looks.{look}
use Rattle.nodes.specs.Shapes.{at}
use Rattle.nodes.specs.Tables.{Tabled, HasGrown, IsNumber}
use Rattle.nodes.proofs.Putting.{number-on}

pub no-places : (t : Tabled) (ps : List Proc) (places : List (Option ℕ)) → places ≡ [] → ArePlaces t ps places
no-places t ps places e k n f = absurd (omega (arith, ap length e, slice_get_within places k (Some n) f))

pub places-grown : (t u : Tabled) (ps : List Proc) (places : List (Option ℕ)) → HasGrown t u → ArePlaces t ps places → ArePlaces u ps places
places-grown t u ps places g a k n e = number-on t u n (at ps k) g (a k n e)

pub places-push : (t : Tabled) (ps : List Proc) (places : List (Option ℕ)) (o : Option ℕ) → ArePlaces t ps places → ((n : ℕ) → o ≡ Some n → IsNumber t n (at ps (length places))) → ArePlaces t ps (places ++ o ∷ [])
places-push t ps places o a new k n e =
    let more = places ++ o ∷ [] in
    let h : k < length places + 1 = omega (arith, slice_get_within more k (Some n) e, length-append places (o ∷ [])) in
    let f : get_or more k None ≡ Some n = get_or_from_slice_get more k (Some n) None e in
    elim (cases_lt k (length places)) [
      | inl l ↦ a k n (slice_get-get_or places k None l ∙ ap Some (sym (get_or_append_left places (o ∷ []) None k l) ∙ f))
      | inr g ↦
          let q : length places ≡ k = omega (arith, h, g) in
          subst (λ j. IsNumber t n (at ps j)) q (new n (sym (get_or_push places o None k q) ∙ f))
    ]

pub look-push : (ps qs : List Proc) (ns ms : List ℕ) (i n : ℕ) → i < length ms → look qs ns ≡ look ps (take i ms) → at qs n ≡ at ps (get_or ms i 0) → look qs (ns ++ n ∷ []) ≡ look ps (take (i + 1) ms)
look-push ps qs ns ms i n h e f = map-append (at qs) ns (n ∷ []) ∙ ap (λ l. l ++ at qs n ∷ []) e ∙ ap (λ P. look ps (take i ms) ++ P ∷ []) f ∙ sym (map_more (at ps) ms i 0 h)
