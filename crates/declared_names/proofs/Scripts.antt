-- The declarations of a script, and the names that they declare.
use Rattle.std.proofs.Common.{◌≡◌, [], cond, Some, None, refl, sym, ap, ◌∙◌}
use Rattle.tokens.specs.declared.read_error.ReadError.{ReadError}
use Rattle.syntax.specs.declared.form.Form.TheVariants as forms
use Rattle.syntax.specs.Grammar.{Syntax, Called, Numeral, Node, Syntaxes}
use Rattle.values.specs.Values.{◌>>=◌}
use Rattle.values.specs.Names.{declared, declared_by_all, are_distinct}
use Rattle.values.specs.View.{Fails}
use Rattle.declared_names.specs.Steps.{steps}
use Rattle.declared_names.specs.Entering.{script_parts, put_declaration, distinct_entries}
use Rattle.declared_names.proofs.Entered.{entered}
use Rattle.syntax.proofs.Failing.{fails_on}
use Rattle.declared_names.proofs.Chains.{some_same}

pub parts_declared : (t : Syntax) (ts : Syntaxes) → script_parts t ≡ Some ts → declared t ≡ declared_by_all ts
unfolding script_parts declared
parts_declared (Called n) ts h = absurd cc
parts_declared (Numeral n) ts h = absurd cc
parts_declared (Node forms.Script us) ts h = ap declared_by_all (some_same h)
parts_declared (Node f us) ts h = absurd cc

no_parts : (t : Syntax) → script_parts t ≡ None → declared t ≡ None
unfolding script_parts declared
no_parts (Called n) h = refl
no_parts (Numeral n) h = refl
no_parts (Node forms.Script us) h = absurd cc
no_parts (Node f us) h = refl

-- the names are entered one by one
pub put_parts : (t : Syntax) (ts : Syntaxes) → script_parts t ≡ Some ts → steps put_declaration [] ts ≡ distinct_entries t
unfolding distinct_entries
put_parts t ts h = entered ts ∙ ap (λ o. o >>= λ es. cond (are_distinct es) (Some es) None) (sym (parts_declared t ts h))

pub parts_none : (k : ReadError) (t : Syntax) → Fails k (script_parts t) → Fails k (distinct_entries t)
unfolding distinct_entries
parts_none k t h = fails_on k (script_parts t) (distinct_entries t) (λ n. ap (λ o. o >>= λ es. cond (are_distinct es) (Some es) None) (no_parts t n)) h
