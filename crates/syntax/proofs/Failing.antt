-- Why something isn't read: a fault is answered only where nothing is wanted.
use Rattle.std.proofs.Common.{◌≡◌, Option, Some, None, refl, sym, subst}
use Rattle.tokens.specs.declared.error.ScriptError.{ScriptError}
use Rattle.tokens.specs.declared.read_error.ReadError.{ReadError}
use Rattle.tokens.specs.declared.read_error.ReadError.TheVariants.{Fault, Memory}
use Rattle.syntax.specs.Answers.{Fails}

module _ {X : Type 0} where
  -- where nothing is wanted anything may be answered
  pub fails_none : (e : ReadError) (o : Option X) → o ≡ None → Fails e o
  fails_none (Fault f) o h = h
  fails_none Memory o h = tt

  -- nothing is wanted where a fault is answered
  pub none_wanted : (e : ReadError) (f : ScriptError) (o : Option X) → e ≡ Fault f → Fails e o → o ≡ None
  none_wanted e f o is h = subst (λ e. Fails e o) is h

  -- where something is wanted only memory fails
  pub only_memory : (e : ReadError) (x : X) → Fails e (Some x) → e ≡ Memory
  only_memory (Fault f) x h = absurd cc
  only_memory Memory x h = refl

  -- one fault may be answered for another
  pub fails_too : (e f : ReadError) (o : Option X) → Fails e o → (e ≡ Memory → f ≡ Memory) → Fails f o
  fails_too (Fault g) f o h m = fails_none f o h
  fails_too Memory f o h m = subst (λ x. Fails x o) (sym (m refl)) tt

-- what a part fails with, the whole fails with
pub fails_on : {X Y : Type 0} (e : ReadError) (r : Option X) (t : Option Y) → (r ≡ None → t ≡ None) → Fails e r → Fails e t
fails_on (Fault f) r t n h = n h
fails_on Memory r t n h = tt
