-- The pairs of a renaming, event by event and pair by pair.
use Rattle.std.proofs.Common.{◌≡◌, ℕ, suc, ◌+◌, ◌<◌, ◌≤◌, List, [], ◌∷◌, ◌++◌, length, map, drop, get_or, true, false, cond, Option, Some, None, refl, sym, ap, ◌∙◌, arith, append_assoc, append-nil}
use Rattle.alphabet.specs.Channels.{Channel, Parts, events}
use Rattle.term.specs.Traces.{Pairs}
use Rattle.syntax.specs.declared.tree.Tree.{Tree}
use Rattle.syntax.specs.Grammar.{Syntax}
use Rattle.syntax.specs.Parsing.{syntaxes}
use Rattle.syntax.specs.View.{shape, shapes}
use Rattle.tokens.specs.declared.read_error.ReadError.{ReadError}
use Rattle.values.specs.Values.{◌>>=◌}
use Rattle.values.specs.Worths.{Known}
use Rattle.values.specs.View.{Fails}
use Rattle.event_phrases.specs.Events.{Beginning, beginning, begins_so, number_in, pairs_from, pair_of, pairs_of}
use Rattle.event_phrases.specs.Forms.{EventPhrase, sides_of}
use Rattle.event_phrases.specs.Uses.{behind_pairs}
use Rattle.syntax.proofs.Failing.{fails_on}
use Rattle.event_phrases.proofs.EventNumbers.{drop_item, drop_none}

abbrev some_pairs : Pairs → Option Pairs
some_pairs R = Some R

-- the event to which the right side takes one with these parts
abbrev pub image_of : Beginning → Beginning → Parts → Beginning
image_of left right p = (right.0, right.1 ++ drop (length left.1) p.values)

front_more : (front : Pairs) (r : ℕ × ℕ) (o : Option Pairs) → behind_pairs front (o >>= λ R. Some (r ∷ R)) ≡ behind_pairs (front ++ r ∷ []) o
unfolding behind_pairs
front_more front r None = refl
front_more front r (Some R) = ap some_pairs (sym (append_assoc front (r ∷ []) R))

module _ {R : Type 0} (view : R → Parts) (cs : List Channel) (left right : Beginning) (rs : List R) where
  -- the pairs of the events from this number on
  abbrev pub pairs_behind : ℕ → Option Pairs
  pairs_behind i = pairs_from cs left right i (map view (drop i rs))

  module _ (i : ℕ) (r : R) (front : Pairs) (whole : Option Pairs) (inv : behind_pairs front (pairs_behind i) ≡ whole) (h : i < length rs) (is : r ≡ get_or rs i r) where
    here : pairs_behind i ≡ cond (begins_so left (view r)) (number_in (events cs) (image_of left right (view r)) >>= λ b. pairs_behind (suc i) >>= λ R. Some ((i, b) ∷ R)) (pairs_behind (suc i))
    unfolding pairs_from
    here =
        let e : i + 1 ≡ suc i = omega arith in
        ap (λ ys. pairs_from cs left right i (map view ys)) (drop_item rs i r h is)
        ∙ ap (λ (k : ℕ). cond (begins_so left (view r)) (number_in (events cs) (image_of left right (view r)) >>= λ b. pairs_from cs left right (suc i) (map view (drop k rs)) >>= λ R. some_pairs ((i, b) ∷ R)) (pairs_from cs left right (suc i) (map view (drop k rs)))) e

    next : pairs_behind (suc i) ≡ pairs_behind (i + 1)
    next = let e : suc i ≡ i + 1 = omega arith in ap (λ k. pairs_behind k) e

    pub pair_more : (b : ℕ) (new : Pairs) → begins_so left (view r) ≡ true → number_in (events cs) (image_of left right (view r)) ≡ Some b → new ≡ front ++ (i, b) ∷ [] → behind_pairs new (pairs_behind (i + 1)) ≡ whole
    pair_more b new t n e =
        ap (λ front. behind_pairs front (pairs_behind (i + 1))) e ∙ ap (behind_pairs (front ++ (i, b) ∷ [])) (sym next) ∙ sym (front_more front (i, b) (pairs_behind (suc i)))
        ∙ ap (behind_pairs front) (sym (here ∙ ap (λ c. cond c (number_in (events cs) (image_of left right (view r)) >>= λ b. pairs_behind (suc i) >>= λ R. some_pairs ((i, b) ∷ R)) (pairs_behind (suc i))) t ∙ ap (λ o. o >>= λ b. pairs_behind (suc i) >>= λ R. some_pairs ((i, b) ∷ R)) n))
        ∙ inv

    pub pair_less : begins_so left (view r) ≡ false → behind_pairs front (pairs_behind (i + 1)) ≡ whole
    pair_less t =
        ap (behind_pairs front) (sym next)
        ∙ ap (behind_pairs front) (sym (here ∙ ap (λ c. cond c (number_in (events cs) (image_of left right (view r)) >>= λ b. pairs_behind (suc i) >>= λ R. some_pairs ((i, b) ∷ R)) (pairs_behind (suc i))) t))
        ∙ inv

    pub no_image : begins_so left (view r) ≡ true → number_in (events cs) (image_of left right (view r)) ≡ None → whole ≡ None
    unfolding behind_pairs
    no_image t n =
        sym inv
        ∙ ap (behind_pairs front) (here ∙ ap (λ c. cond c (number_in (events cs) (image_of left right (view r)) >>= λ b. pairs_behind (suc i) >>= λ R. some_pairs ((i, b) ∷ R)) (pairs_behind (suc i))) t ∙ ap (λ o. o >>= λ b. pairs_behind (suc i) >>= λ R. some_pairs ((i, b) ∷ R)) n)

  pub pairs_end : (i : ℕ) (front : Pairs) (whole : Option Pairs) → behind_pairs front (pairs_behind i) ≡ whole → length rs ≤ i → whole ≡ Some front
  unfolding behind_pairs pairs_from
  pairs_end i front whole inv h = sym inv ∙ ap (λ ys. behind_pairs front (pairs_from cs left right i (map view ys))) (drop_none rs i h) ∙ ap some_pairs (append-nil front)

-- ---- pair by pair

module _ {A : Type 0} (cs : List Channel) (known : Known) (ts : List (Tree A)) where
  abbrev pub others : ℕ → Option Pairs
  others i = pairs_of cs known (syntaxes (shapes (drop i ts)))

  front_all : (front : Pairs) (o p : Option Pairs) (new : Pairs) → behind_pairs front o ≡ Some new → behind_pairs front (o >>= λ R. p >>= λ S. Some (R ++ S)) ≡ behind_pairs new p
  unfolding behind_pairs
  front_all front None p new h = absurd cc
  front_all front (Some R) None new h = refl
  front_all front (Some R) (Some S) new h = let e : front ++ R ≡ new = cc in ap some_pairs (sym (append_assoc front R S) ∙ ap (λ xs. xs ++ S) e)

  step : (i : ℕ) (t : Tree A) → i < length ts → t ≡ get_or ts i t → others i ≡ (pair_of cs known (shape t) >>= λ R. others (i + 1) >>= λ S. Some (R ++ S))
  unfolding pairs_of
  step i t h is = ap (λ ts. pairs_of cs known (syntaxes (shapes ts))) (drop_item ts i t h is)

  pub others_more : (i : ℕ) (t : Tree A) (front new : Pairs) (whole : Option Pairs) → behind_pairs front (others i) ≡ whole → i < length ts → t ≡ get_or ts i t → behind_pairs front (pair_of cs known (shape t)) ≡ Some new → behind_pairs new (others (i + 1)) ≡ whole
  others_more i t front new whole inv h is got = sym (front_all front (pair_of cs known (shape t)) (others (i + 1)) new got) ∙ ap (behind_pairs front) (sym (step i t h is)) ∙ inv

  pub others_start : (front : Pairs) → front ≡ [] → behind_pairs front (others 0) ≡ pairs_of cs known (syntaxes (shapes ts))
  unfolding behind_pairs
  others_start front h = ap (λ front. behind_pairs front (others 0)) h ∙ by (others 0)
    where
      by : (o : Option Pairs) → behind_pairs [] o ≡ o
      by None = refl
      by (Some R) = refl

  none_is : (front : Pairs) (o : Option Pairs) → behind_pairs front o ≡ None → o ≡ None
  unfolding behind_pairs
  none_is front None h = refl
  none_is front (Some R) h = absurd cc

  pub others_fail : (k : ReadError) (i : ℕ) (t : Tree A) (front : Pairs) (whole : Option Pairs) → behind_pairs front (others i) ≡ whole → i < length ts → t ≡ get_or ts i t → Fails k (behind_pairs front (pair_of cs known (shape t))) → Fails k whole
  unfolding behind_pairs
  others_fail k i t front whole inv h is f =
      fails_on k (behind_pairs front (pair_of cs known (shape t))) whole
      (λ e. sym inv ∙ ap (behind_pairs front) (step i t h is ∙ ap (λ o. o >>= λ R. others (i + 1) >>= λ S. some_pairs (R ++ S)) (none_is front (pair_of cs known (shape t)) e))) f

  pub others_end : (i : ℕ) (front : Pairs) (whole : Option Pairs) → behind_pairs front (others i) ≡ whole → length ts ≤ i → whole ≡ Some front
  unfolding behind_pairs pairs_of
  others_end i front whole inv h = sym inv ∙ ap (λ ts. behind_pairs front (pairs_of cs known (syntaxes (shapes ts)))) (drop_none ts i h) ∙ ap some_pairs (append-nil front)

-- ---- one pair

abbrev both_sides : EventPhrase → EventPhrase → Option (EventPhrase × EventPhrase)
both_sides d e = Some (d, e)

module _ (cs : List Channel) (known : Known) (t : Syntax) (front : Pairs) where
  abbrev pair_by : Option (EventPhrase × EventPhrase) → Option Pairs
  pair_by o = o >>= λ p. beginning cs known p.0 >>= λ left. beginning cs known p.1 >>= λ right. pairs_from cs left right 0 (events cs)

  pub no_pair : None ≡ sides_of t → behind_pairs front (pair_of cs known t) ≡ None
  unfolding behind_pairs pair_of
  no_pair h = ap (λ o. behind_pairs front (pair_by o)) (sym h)

  module _ (u v : EventPhrase) (h : both_sides u v ≡ sides_of t) where
    pair_so : pair_of cs known t ≡ (beginning cs known u >>= λ left. beginning cs known v >>= λ right. pairs_from cs left right 0 (events cs))
    unfolding pair_of
    pair_so = ap pair_by (sym h)

    pub left_fails : (k : ReadError) → Fails k (beginning cs known u) → Fails k (behind_pairs front (pair_of cs known t))
    unfolding behind_pairs
    left_fails k f =
        fails_on k (beginning cs known u) (behind_pairs front (pair_of cs known t))
        (λ e. ap (behind_pairs front) (pair_so ∙ ap (λ o. o >>= λ left. beginning cs known v >>= λ right. pairs_from cs left right 0 (events cs)) e)) f

    module _ (left : Beginning) (l : beginning cs known u ≡ Some left) where
      pair_on : pair_of cs known t ≡ (beginning cs known v >>= λ right. pairs_from cs left right 0 (events cs))
      pair_on = pair_so ∙ ap (λ o. o >>= λ left. beginning cs known v >>= λ right. pairs_from cs left right 0 (events cs)) l

      pub right_fails : (k : ReadError) → Fails k (beginning cs known v) → Fails k (behind_pairs front (pair_of cs known t))
      unfolding behind_pairs
      right_fails k f =
          fails_on k (beginning cs known v) (behind_pairs front (pair_of cs known t))
          (λ e. ap (behind_pairs front) (pair_on ∙ ap (λ o. o >>= λ right. pairs_from cs left right 0 (events cs)) e)) f

      pub pair_made : (right : Beginning) → beginning cs known v ≡ Some right → behind_pairs front (pair_of cs known t) ≡ behind_pairs front (pairs_from cs left right 0 (events cs))
      pair_made right r = ap (behind_pairs front) (pair_on ∙ ap (λ o. o >>= λ right. pairs_from cs left right 0 (events cs)) r)
