-- The text of a renaming stands for its pairs.
use Rattle.std.proofs.Common.{◌≡◌, ◌≢◌, ℕ, zero, suc, ◌+◌, ◌<◌, List, [], ◌∷◌, ◌++◌, map, length, drop, slice_get, true, false, cond, Option, Some, refl, ap, ◌∙◌, arith, append-nil}
use Rattle.std.proofs.lemmas.Option.{none-some, same_Some}
use Rattle.alphabet.specs.declared.events.Event.TheVariants.{Of as ev}
use Rattle.alphabet.specs.Channels.{Values, Parts, events, event_count}
use Rattle.alphabet.proofs.Lists.{In-at}
use Rattle.term.specs.Specs.{PairsInSigma}
use Rattle.term.specs.Traces.{Pairs}
use Rattle.values.specs.Values.{◌>>=◌, Name}
use Rattle.event_phrases.specs.Events.{Beginning, beginning, begins_so, number_in, pairs_from, pair_of, pairs_of}
use Rattle.event_phrases.specs.Forms.{part_list, node_of, if_none, first_of, one_of, two_of, event_of, pair_form, sides_of}
use Rattle.event_phrases.specs.Scopes.{Scope}
use Rattle.read_back.proofs.Trees.{phrases, tree_of_event, pair_tree}
use Rattle.read_back.proofs.Readable.{IsPrintedScope}
use Rattle.read_back.proofs.Prefixes.{is_row, row_itself, other_row, parts, at}
use Rattle.read_back.proofs.Sets.{its_beginning, begins_row}

-- the number of the only event that is a row of these values
number_found : (c : Name) (ws : Values) (ps : List Parts) (i : ℕ) (p : Parts) → slice_get ps i ≡ Some p → is_row c ws p ≡ true → ((j : ℕ) (q : Parts) → slice_get ps j ≡ Some q → j ≢ i → is_row c ws q ≡ false) → number_in ps (c, ws) ≡ Some i
unfolding number_in
number_found c ws [] i p e t f = absurd (none-some p e)
number_found c ws (r ∷ ps) zero p e t f =
    ap (λ b. cond b (Some 0) (number_in ps (c, ws) >>= λ a. Some (suc a))) (ap (is_row c ws) (same_Some r p e) ∙ t)
number_found c ws (r ∷ ps) (suc i) p e t f =
    ap (λ b. cond b (Some 0) (number_in ps (c, ws) >>= λ a. Some (suc a))) (f 0 r refl (λ z. omega arith))
    ∙ ap (λ o. o >>= λ a. Some (suc a)) (number_found c ws ps i p e t (λ j q g ne. f (suc j) q g (λ z. ne (omega arith))))

module _ (s : Scope) (left right : Beginning) where
  -- what an event adds to the pairs
  abbrev adds : ℕ → List Parts → Option Pairs
  adds k ps = pairs_from s.channels left right k ps

  none_added : (ps : List Parts) (k : ℕ) → ((j : ℕ) (q : Parts) → slice_get ps j ≡ Some q → begins_so left q ≡ false) → adds k ps ≡ Some []
  unfolding pairs_from
  none_added [] k f = refl
  none_added (p ∷ ps) k f =
      ap (λ b. cond b (number_in (events s.channels) (right.0, right.1 ++ drop (length left.1) p.values) >>= λ b. adds (suc k) ps >>= λ R. Some ((k, b) ∷ R)) (adds (suc k) ps)) (f 0 p refl)
      ∙ none_added ps (suc k) (λ j q e. f (suc j) q e)

  one_added : (ps : List Parts) (k i b : ℕ) (p : Parts) → slice_get ps i ≡ Some p → begins_so left p ≡ true → number_in (events s.channels) (right.0, right.1 ++ drop (length left.1) p.values) ≡ Some b → ((j : ℕ) (q : Parts) → slice_get ps j ≡ Some q → j ≢ i → begins_so left q ≡ false) → adds k ps ≡ Some ((k + i, b) ∷ [])
  unfolding pairs_from
  one_added [] k i b p e t is f = absurd (none-some p e)
  one_added (r ∷ ps) k zero b p e t is f =
      let same : k ≡ k + 0 = omega arith in
      let rp = same_Some r p e in
      ap (λ v. cond v (number_in (events s.channels) (right.0, right.1 ++ drop (length left.1) r.values) >>= λ b. adds (suc k) ps >>= λ R. Some ((k, b) ∷ R)) (adds (suc k) ps)) (ap (begins_so left) rp ∙ t)
      ∙ ap (λ o. o >>= λ b. adds (suc k) ps >>= λ R. Some ((k, b) ∷ R)) (ap (λ (v : Parts). number_in (events s.channels) (right.0, right.1 ++ drop (length left.1) v.values)) rp ∙ is)
      ∙ ap (λ o. o >>= λ R. Some ((k, b) ∷ R)) (none_added ps (suc k) (λ j q g. f (suc j) q g (λ z. omega arith)))
      ∙ ap (λ v. Some ((v, b) ∷ [])) same
  one_added (r ∷ ps) k (suc i) b p e t is f =
      let same : suc k + i ≡ k + suc i = omega arith in
      ap (λ v. cond v (number_in (events s.channels) (right.0, right.1 ++ drop (length left.1) r.values) >>= λ b. adds (suc k) ps >>= λ R. Some ((k, b) ∷ R)) (adds (suc k) ps)) (f 0 r refl (λ z. omega arith))
      ∙ one_added ps (suc k) i b p e t is (λ j q g ne. f (suc j) q g (λ z. ne (omega arith)))
      ∙ ap (λ v. Some ((v, b) ∷ [])) same

nothing_left : (vs : Values) → drop (length vs) vs ≡ []
nothing_left [] = refl
nothing_left (v ∷ vs) = nothing_left vs

module _ (s : Scope) (primes m : ℕ) (h : IsPrintedScope s primes m) where
  -- one pair
  pair_given : (a b : ℕ) → a < event_count s.channels → b < event_count s.channels → pair_of s.channels s.known (pair_tree s.channels (a, b)) ≡ Some ((a, b) ∷ [])
  unfolding pair_of sides_of node_of part_list pair_form two_of first_of one_of if_none
  pair_given a b l k =
      let p = parts s primes m h a l in
      let q = parts s primes m h b k in
      let ps = events s.channels in
      let z : 0 + a ≡ a = omega arith in
      let e = at s primes m h a l in
      let f = at s primes m h b k in
      let there : number_in ps (q.channel, q.values ++ drop (length p.values) p.values) ≡ Some b =
      ap (λ vs. number_in ps (q.channel, q.values ++ vs)) (nothing_left p.values) ∙ ap (λ vs. number_in ps (q.channel, vs)) (append-nil q.values)
      ∙ number_found q.channel q.values ps b q f (row_itself q) (λ j r g ne. other_row s.channels q r b j h.sound f g ne) in
      ap (λ o. o >>= λ left. beginning s.channels s.known (event_of (tree_of_event s.channels (ev b))) >>= λ right. pairs_from s.channels left right 0 ps) (its_beginning s primes m h a l)
      ∙ ap (λ o. o >>= λ right. pairs_from s.channels (p.channel, p.values) right 0 ps) (its_beginning s primes m h b k)
      ∙ one_added s (p.channel, p.values) (q.channel, q.values) ps 0 a b p e
      (begins_row s primes m h a l p (In-at ps a e) ∙ row_itself p) there
      (λ j r g ne. begins_row s primes m h a l r (In-at ps j g) ∙ other_row s.channels p r a j h.sound e g ne)
      ∙ ap (λ v. Some ((v, b) ∷ [])) z

  pairs_tail : (p : ℕ × ℕ) (R : Pairs) → PairsInSigma (event_count s.channels) (p ∷ R) → PairsInSigma (event_count s.channels) R
  pairs_tail p R l k d i = l (suc k) d (omega arith)

  pub pairs_given : (R : Pairs) → PairsInSigma (event_count s.channels) R → pairs_of s.channels s.known (phrases (map (pair_tree s.channels) R)) ≡ Some R
  unfolding pairs_of
  pairs_given [] l = refl
  pairs_given (p ∷ R) l =
      let both = l 0 p (omega arith) in
      ap (λ o. o >>= λ S. pairs_of s.channels s.known (phrases (map (pair_tree s.channels) R)) >>= λ T. Some (S ++ T)) (pair_given p.0 p.1 both.0 both.1)
      ∙ ap (λ o. o >>= λ T. Some ((p ∷ []) ++ T)) (pairs_given R (pairs_tail p R l))
