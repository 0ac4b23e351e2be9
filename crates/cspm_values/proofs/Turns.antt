-- Lists of sets and of sequences, from left to right.
use Rattle.std.proofs.Common.{◌≡◌, Result, Ok, Err, IsErrAnd, ℕ, ◌+◌, ◌<◌, ◌≤◌, List, ◌++◌, length, drop, get_or, sym, subst, ap, ◌∙◌}
use Rattle.cspm_values.specs.declared.value.Value.{Value}
use Rattle.std.specs.Prelude.{None}
use Rattle.cspm_values.specs.declared.stop.Limit.{Limit}
use Rattle.cspm_values.specs.declared.stop.Stop.{Stop}
use Rattle.cspm_values.specs.declared.stop.Stop.TheVariants as stops
use Rattle.cspm_values.specs.Values as plain
use Rattle.cspm_values.specs.Answers.{Answer, gives, beyond, ◌>>=◌}
use Rattle.cspm_values.specs.Limits.{fitting}
use Rattle.cspm_values.specs.Parts.{the_set, the_sequence}
use Rattle.cspm_values.specs.Made.{with_all}
use Rattle.cspm_values.specs.Sets.{intersection, united, shared}
use Rattle.cspm_values.specs.Sequences.{joined}
use Rattle.cspm_values.specs.View.{Fails, Gives, value, values}
use Rattle.cspm_values.proofs.Rows.{cell, none_left}

-- what a part fails with, the whole fails with
pub fails_on : {X Y : Type 0} (s : Stop) (o : Answer X) (f : X → Answer Y) → Fails s o → Fails s (o >>= f)
fails_on (stops.Fault k p) o f h = ap (λ o. o >>= f) h
fails_on (stops.Beyond l p) o f h = ap (λ o. o >>= f) h
fails_on stops.Memory o f h = tt

-- what is passed up fails with what a part failed with
pub passed_up : {X Y : Type 0} (view : X → Y) (r : Result X Stop) (s : Stop) (o : Answer Y) → IsErrAnd r (λ e. e ≡ s) → Fails s o → Gives view r o
passed_up view (Ok x) s o is h = elim is [ ]
passed_up view (Err e) s o is h = subst (λ t. Fails t o) (sym is) h

pub fails_beyond : {Y : Type 0} (s : Stop) (l : Limit) (o : Answer Y) → s ≡ stops.Beyond l None → o ≡ beyond l → Fails s o
fails_beyond s l o e h = subst (λ t. Fails t o) (sym e) h

module _ {A : Type 0} (vs : List (Value A)) (i : ℕ) (us : List plain.Value) (whole : Answer (List plain.Value)) where
  -- ---- the union of sets

  abbrev united_from : List plain.Value → ℕ → Answer (List plain.Value)
  united_from all k = united all (values (drop k vs))

  united_next : (v : Value A) → i < length vs → v ≡ get_or vs i v → united_from us i ≡ (the_set (value v) >>= λ ws. fitting (with_all us ws) >>= λ all. united_from all (i + 1))
  unfolding united
  united_next v h is = ap (λ xs. united us (values xs)) (cell vs i v h is)

  pub united_more : (v : Value A) (ws all : List plain.Value) → united us (values (drop i vs)) ≡ whole → i < length vs → v ≡ get_or vs i v → the_set (value v) ≡ gives ws → fitting (with_all us ws) ≡ gives all → united all (values (drop (i + 1) vs)) ≡ whole
  united_more v ws all inv h is got fit =
      sym (united_next v h is ∙ ap (λ o. o >>= λ ws. fitting (with_all us ws) >>= λ all. united_from all (i + 1)) got ∙ ap (λ o. o >>= λ all. united_from all (i + 1)) fit) ∙ inv

  pub united_fails : (s : Stop) (v : Value A) → united us (values (drop i vs)) ≡ whole → i < length vs → v ≡ get_or vs i v → Fails s (the_set (value v)) → Fails s whole
  united_fails s v inv h is failed = subst (Fails s) (sym (united_next v h is) ∙ inv) (fails_on s (the_set (value v)) (λ ws. fitting (with_all us ws) >>= λ all. united_from all (i + 1)) failed)

  pub united_full : (s : Stop) (v : Value A) (ws : List plain.Value) → united us (values (drop i vs)) ≡ whole → i < length vs → v ≡ get_or vs i v → the_set (value v) ≡ gives ws → Fails s (fitting (with_all us ws)) → Fails s whole
  united_full s v ws inv h is got failed =
      subst (Fails s) (sym (united_next v h is ∙ ap (λ o. o >>= λ ws. fitting (with_all us ws) >>= λ all. united_from all (i + 1)) got) ∙ inv) (fails_on s (fitting (with_all us ws)) (λ all. united_from all (i + 1)) failed)

  pub united_end : united us (values (drop i vs)) ≡ whole → length vs ≤ i → whole ≡ gives us
  unfolding united
  united_end inv h = sym inv ∙ ap (λ xs. united us (values xs)) (none_left vs i h)

  -- ---- what sets share

  abbrev shared_from : List plain.Value → ℕ → Answer (List plain.Value)
  shared_from all k = shared all (values (drop k vs))

  shared_next : (v : Value A) → i < length vs → v ≡ get_or vs i v → shared_from us i ≡ (the_set (value v) >>= λ ws. shared_from (intersection us ws) (i + 1))
  unfolding shared
  shared_next v h is = ap (λ xs. shared us (values xs)) (cell vs i v h is)

  pub shared_more : (v : Value A) (ws all : List plain.Value) → shared us (values (drop i vs)) ≡ whole → i < length vs → v ≡ get_or vs i v → the_set (value v) ≡ gives ws → all ≡ intersection us ws → shared all (values (drop (i + 1) vs)) ≡ whole
  shared_more v ws all inv h is got made =
      ap (λ xs. shared_from xs (i + 1)) made ∙ sym (shared_next v h is ∙ ap (λ o. o >>= λ ws. shared_from (intersection us ws) (i + 1)) got) ∙ inv

  pub shared_fails : (s : Stop) (v : Value A) → shared us (values (drop i vs)) ≡ whole → i < length vs → v ≡ get_or vs i v → Fails s (the_set (value v)) → Fails s whole
  shared_fails s v inv h is failed = subst (Fails s) (sym (shared_next v h is) ∙ inv) (fails_on s (the_set (value v)) (λ ws. shared_from (intersection us ws) (i + 1)) failed)

  pub shared_end : shared us (values (drop i vs)) ≡ whole → length vs ≤ i → whole ≡ gives us
  unfolding shared
  shared_end inv h = sym inv ∙ ap (λ xs. shared us (values xs)) (none_left vs i h)

  -- ---- sequences, one after the other

  abbrev joined_from : List plain.Value → ℕ → Answer (List plain.Value)
  joined_from all k = joined all (values (drop k vs))

  joined_next : (v : Value A) → i < length vs → v ≡ get_or vs i v → joined_from us i ≡ (the_sequence (value v) >>= λ ws. fitting (us ++ ws) >>= λ all. joined_from all (i + 1))
  unfolding joined
  joined_next v h is = ap (λ xs. joined us (values xs)) (cell vs i v h is)

  pub joined_more : (v : Value A) (ws all : List plain.Value) → joined us (values (drop i vs)) ≡ whole → i < length vs → v ≡ get_or vs i v → the_sequence (value v) ≡ gives ws → fitting (us ++ ws) ≡ gives all → joined all (values (drop (i + 1) vs)) ≡ whole
  joined_more v ws all inv h is got fit =
      sym (joined_next v h is ∙ ap (λ o. o >>= λ ws. fitting (us ++ ws) >>= λ all. joined_from all (i + 1)) got ∙ ap (λ o. o >>= λ all. joined_from all (i + 1)) fit) ∙ inv

  pub joined_fails : (s : Stop) (v : Value A) → joined us (values (drop i vs)) ≡ whole → i < length vs → v ≡ get_or vs i v → Fails s (the_sequence (value v)) → Fails s whole
  joined_fails s v inv h is failed = subst (Fails s) (sym (joined_next v h is) ∙ inv) (fails_on s (the_sequence (value v)) (λ ws. fitting (us ++ ws) >>= λ all. joined_from all (i + 1)) failed)

  pub joined_full : (s : Stop) (v : Value A) (ws : List plain.Value) → joined us (values (drop i vs)) ≡ whole → i < length vs → v ≡ get_or vs i v → the_sequence (value v) ≡ gives ws → Fails s (fitting (us ++ ws)) → Fails s whole
  joined_full s v ws inv h is got failed =
      subst (Fails s) (sym (joined_next v h is ∙ ap (λ o. o >>= λ ws. fitting (us ++ ws) >>= λ all. joined_from all (i + 1)) got) ∙ inv) (fails_on s (fitting (us ++ ws)) (λ all. joined_from all (i + 1)) failed)

  pub joined_end : joined us (values (drop i vs)) ≡ whole → length vs ≤ i → whole ≡ gives us
  unfolding joined
  joined_end inv h = sym inv ∙ ap (λ xs. joined us (values xs)) (none_left vs i h)
