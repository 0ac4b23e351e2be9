-- An event's value against a field, by the field's form.
use Rattle.std.proofs.Common.{◌≡◌, Bool, true, false, cond, Option, Some, None, refl, sym, ap, ◌∙◌}
use Rattle.std.specs.Option.{option_map}
use Rattle.alphabet.specs.Channels.{FieldValue, Values}
use Rattle.syntax.specs.Grammar.{Syntax}
use Rattle.tokens.specs.declared.read_error.ReadError.{ReadError}
use Rattle.values.specs.Names.{is_constant, meaning}
use Rattle.values.specs.Values.{Name, is_among}
use Rattle.values.specs.View.{Fails}
use Rattle.event_phrases.specs.Fitting.{against_input, against_part, fits_field}
use Rattle.event_phrases.specs.Forms.{input, input_from}
use Rattle.event_phrases.specs.Scopes.{Scope, with_input, values_by}
use Rattle.event_phrases.proofs.FieldSteps.{fit_if}
use Rattle.event_phrases.proofs.Options.{some_is}
use Rattle.syntax.proofs.Failing.{fails_on}

module _ (set : Values) (v : FieldValue) (s : Scope) (x : Name) where
  input_is : (b : Bool) → is_constant (meaning s.entries x) ≡ b → fits_field (input x) set v s ≡ cond b None (fit_if (with_input s x v) true)
  unfolding fits_field against_input
  input_is b c = ap (λ b. cond b None (fit_if (with_input s x v) true)) c

  pub input_refused : is_constant (meaning s.entries x) ≡ true → fits_field (input x) set v s ≡ None
  input_refused c = input_is true c

  pub input_fits : (n : Scope) → is_constant (meaning s.entries x) ≡ false → n ≡ with_input s x v → fits_field (input x) set v s ≡ fit_if n true
  input_fits n c e = input_is false c ∙ ap (λ n. fit_if n true) (sym e)

  module _ (t : Syntax) where
    abbrev kept : Bool → Option (Option Scope)
    kept d = cond d (fit_if (with_input s x v) true) (fit_if (with_input s x v) false)

    pub part_refused : is_constant (meaning s.entries x) ≡ true → fits_field (input_from x t) set v s ≡ None
    unfolding fits_field against_part
    part_refused c = by (values_by s t)
      where
        by : (o : Option Values) → against_part v s x o ≡ None
        by None = refl
        by (Some part) = ap (λ b. cond b None (kept (is_among v part))) c

    pub part_fails : (k : ReadError) → Fails k (option_map (is_among v) (values_by s t)) → Fails k (fits_field (input_from x t) set v s)
    unfolding fits_field against_part
    part_fails k f = fails_on k (option_map (is_among v) (values_by s t)) (fits_field (input_from x t) set v s) (by (values_by s t)) f
      where
        by : (o : Option Values) → option_map (is_among v) o ≡ None → against_part v s x o ≡ None
        by None e = refl
        by (Some part) e = absurd cc

    pub part_fits : (b : Bool) (n : Scope) → is_constant (meaning s.entries x) ≡ false → option_map (is_among v) (values_by s t) ≡ Some b → n ≡ with_input s x v → fits_field (input_from x t) set v s ≡ fit_if n b
    unfolding fits_field against_part
    part_fits b n c e l = by (values_by s t) e ∙ ap (λ n. fit_if n b) (sym l)
      where
        here : (b d : Bool) → d ≡ b → kept d ≡ fit_if (with_input s x v) b
        here true d e = ap kept e
        here false d e = ap kept e

        by : (o : Option Values) → option_map (is_among v) o ≡ Some b → against_part v s x o ≡ fit_if (with_input s x v) b
        by None e = absurd cc
        by (Some part) e = ap (λ b. cond b None (kept (is_among v part))) c ∙ here b (is_among v part) (some_is e)
