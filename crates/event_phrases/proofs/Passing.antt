-- Turns over the values of an input, where a channel has no event.
use Rattle.std.proofs.Common.{◌≡◌, ℕ, ◌+◌, ◌-◌, ◌<◌, ◌≤◌, List, [], ◌∷◌, length, map, take, drop, get_or, filter, false, cond, Option, Some, None, Result, Ok, Err, MatchResult, sym, ap, ap₂, subst, ◌∙◌}
use Rattle.tokens.specs.declared.read_error.ReadError.{ReadError}
use Rattle.tokens.specs.declared.read_error.ReadError.TheVariants.{Memory}
use Rattle.values.specs.Names.{is_constant, meaning}
use Rattle.values.specs.Values.{◌>>=◌, Name, is_among}
use Rattle.values.specs.View.{Fails}
use Rattle.alphabet.specs.Channels.{Values}
use Rattle.syntax.specs.Grammar.{Syntax}
use Rattle.event_phrases.specs.Forms.{FieldPhrase, given, input, input_from, field_of}
use Rattle.event_phrases.specs.Prefixes.{all_pass, fields_pass, scopes_after}
use Rattle.event_phrases.specs.Scopes.{Scope, with_input, values_by}
use Rattle.event_phrases.specs.Uses.{chosen_values}
use Rattle.event_phrases.proofs.EventNumbers.{drop_item, drop_none}
use Rattle.syntax.proofs.Failing.{fails_on}
use Rattle.event_phrases.proofs.Options.{bind_assoc}
use Rattle.event_phrases.proofs.Scopes.{first_item, rest_is}
use Rattle.event_phrases.proofs.Unused.{ended}

-- ---- what passes

module _ {R X : Type 0} (view : R → X) (test : X → Option (Unit {0})) (rs : List R) (i : ℕ) where
  module _ (r : R) (l : i < length rs) (at : r ≡ get_or rs i r) where
    here : all_pass test (map view (drop i rs)) ≡ (test (view r) >>= λ u. all_pass test (map view (drop (i + 1) rs)))
    unfolding all_pass
    here = ap (λ ys. all_pass test (map view ys)) (drop_item rs i r l at)

    pub turn_passes : test (view r) ≡ Some tt → all_pass test (map view (drop (i + 1) rs)) ≡ all_pass test (map view (drop i rs))
    turn_passes h = sym (here ∙ ap (λ o. o >>= λ u. all_pass test (map view (drop (i + 1) rs))) h)

    pub turn_fails : (k : ReadError) → all_pass test (map view (drop i rs)) ≡ all_pass test (map view rs) → Fails k (test (view r)) → Fails k (all_pass test (map view rs))
    turn_fails k inv f = fails_on k (test (view r)) (all_pass test (map view rs)) (λ e. sym inv ∙ here ∙ ap (λ o. o >>= λ u. all_pass test (map view (drop (i + 1) rs))) e) f

  pub all_passed : length rs ≤ i → all_pass test (map view (drop i rs)) ≡ all_pass test (map view rs) → all_pass test (map view rs) ≡ Some tt
  unfolding all_pass
  all_passed l inv = sym inv ∙ ap (λ ys. all_pass test (map view ys)) (drop_none rs i l)

-- ---- what is looked at after an input

pub looked_so : {T : Type 0} (r : Result T ReadError) (x : Option (Unit {0})) (each : Scope → Option (Unit {0})) (after : Scope → T → Option (Unit {0})) (s : Scope) → x ≡ each s → MatchResult r (λ o. (s : Scope) → each s ≡ after s o) (λ e. e ≡ Memory) → MatchResult r (λ o. x ≡ after s o) (λ e. Fails e x)
looked_so (Ok o) x each after s h k = h ∙ k s
looked_so (Err e) x each after s h k = subst (λ k. Fails k x) (sym k) tt

-- ---- a field by its form

module _ (fs : List FieldPhrase) (sets : List Values) (s : Scope) (set : Values) where
  abbrev onward : Option (List Scope) → Option (Unit {0})
  onward o = o >>= all_pass (fields_pass fs sets)

  pub given_passes : (t : Syntax) → scopes_after (given t) set s ≡ Some (s ∷ []) → fields_pass (given t ∷ fs) (set ∷ sets) s ≡ fields_pass fs sets s
  unfolding fields_pass all_pass
  given_passes t e = ap onward e ∙ ended (fields_pass fs sets s)

  module _ (x : Name) (c : is_constant (meaning s.entries x) ≡ false) where
    pub input_passes : fields_pass (input x ∷ fs) (set ∷ sets) s ≡ all_pass (fields_pass fs sets) (map (with_input s x) set)
    unfolding fields_pass scopes_after
    input_passes = ap (λ b. onward (cond b None (Some (map (with_input s x) set)))) c

    abbrev scopes_with : Name → Values → List Scope
    scopes_with x vs = map (with_input s x) vs

    module _ (t : Syntax) where
      part_is : fields_pass (input_from x t ∷ fs) (set ∷ sets) s ≡ onward (chosen_values s t set >>= λ vs. Some (scopes_with x vs))
      unfolding fields_pass scopes_after chosen_values
      part_is =
          ap (λ b. onward (cond b None (values_by s t >>= λ part. Some (map (with_input s x) (filter (λ v. is_among v part) set))))) c
          ∙ ap onward (sym (bind_assoc (values_by s t) (λ part. Some (filter (λ v. is_among v part) set)) (λ vs. Some (scopes_with x vs))))

      pub part_passes : (vs : Values) → chosen_values s t set ≡ Some vs → fields_pass (input_from x t ∷ fs) (set ∷ sets) s ≡ all_pass (fields_pass fs sets) (map (with_input s x) vs)
      part_passes vs e = part_is ∙ ap (λ o. onward (o >>= λ vs. Some (scopes_with x vs))) e

      pub part_fails : (k : ReadError) → Fails k (chosen_values s t set) → Fails k (fields_pass (input_from x t ∷ fs) (set ∷ sets) s)
      part_fails k f = fails_on k (chosen_values s t set) (fields_pass (input_from x t ∷ fs) (set ∷ sets) s) (λ e. part_is ∙ ap (λ o. onward (o >>= λ vs. Some (scopes_with x vs))) e) f

-- the first field, as this is read, and those after it
pub first_field : {F S : Type 0} (field : F → Syntax) (set : S → Values) (fs : List F) (sets : List S) (f : F) (g : S) (p : FieldPhrase) (s : Scope) → 1 ≤ length fs → 1 ≤ length sets → f ≡ get_or fs 0 f → g ≡ get_or sets 0 g → p ≡ field_of (field f) →
    fields_pass (map field_of (map field fs)) (map set sets) s ≡ fields_pass (p ∷ map field_of (map field (take (length fs - 1) (drop 1 fs)))) (set g ∷ map set (take (length sets - 1) (drop 1 sets))) s
first_field field set fs sets f g p s h k ef eg e =
    ap₂ (λ fs sets. fields_pass (map field_of (map field fs)) (map set sets) s) (first_item fs f h ef) (first_item sets g k eg)
    ∙ ap (λ p. fields_pass (p ∷ map field_of (map field (drop 1 fs))) (set g ∷ map set (drop 1 sets)) s) (sym e)
    ∙ ap₂ (λ fs sets. fields_pass (p ∷ map field_of (map field fs)) (set g ∷ map set sets) s) (sym (rest_is fs)) (sym (rest_is sets))
