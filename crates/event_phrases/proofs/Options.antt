-- Options, step by step, and faults of steps.
use Rattle.std.proofs.Common.{◌≡◌, Bool, Option, Some, None, refl, ap}
use Rattle.tokens.specs.declared.read_error.ReadError.{ReadError}
use Rattle.values.specs.Values.{◌>>=◌}
use Rattle.values.specs.View.{Fails}
use Rattle.syntax.proofs.Failing.{fails_on}

pub some_is : {A : Type 0} {x y : A} → Some x ≡ Some y → x ≡ y
some_is h = cc

abbrev pub some_truth : Bool → Option Bool
some_truth b = Some b

pub bind_none : {A B : Type 0} (o : Option A) (f : A → Option B) → ((x : A) → f x ≡ None) → (o >>= f) ≡ None
bind_none None f h = refl
bind_none (Some x) f h = h x

pub bind_assoc : {A B C : Type 0} (o : Option A) (g : A → Option B) (f : B → Option C) → ((o >>= g) >>= f) ≡ (o >>= λ x. g x >>= f)
bind_assoc None g f = refl
bind_assoc (Some x) g f = refl

pub bind_same : {A : Type 0} (o : Option A) (f : A → Option A) → ((x : A) → f x ≡ Some x) → (o >>= f) ≡ o
bind_same None f h = refl
bind_same (Some x) f h = h x

-- a step that gave this
pub step : {X Y : Type 0} (o : Option X) (f : X → Option Y) (x : X) → o ≡ Some x → (o >>= f) ≡ f x
step o f x h = ap (λ o. o >>= f) h

-- a fault of a step is one of the whole
pub fails_at : {X Y : Type 0} (k : ReadError) (o : Option X) (f : X → Option Y) → Fails k o → Fails k (o >>= f)
fails_at k o f h = fails_on k o (o >>= f) (λ n. ap (λ o. o >>= f) n) h
