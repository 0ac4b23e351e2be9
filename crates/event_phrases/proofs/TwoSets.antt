-- Two sets of events, one after the other.
use Rattle.std.proofs.Common.{◌≡◌, List, Option, Some, sym, subst, ◌∙◌}
use Rattle.alphabet.specs.Channels.{Channel}
use Rattle.alphabet.specs.EventSets.{Set}
use Rattle.tokens.specs.declared.read_error.ReadError.{ReadError}
use Rattle.values.specs.Values.{◌>>=◌}
use Rattle.values.specs.View.{Fails}
use Rattle.event_phrases.specs.Events.{Events, masked, two_masked}
use Rattle.event_phrases.proofs.Options.{step, fails_at}

module _ (cs : List Channel) (o u : Option Events) where
  pub first_of_two : (k : ReadError) → Fails k (masked cs o) → Fails k (two_masked cs o u)
  unfolding two_masked
  first_of_two k f = fails_at k (masked cs o) (λ A. masked cs u >>= λ B. Some (A, B)) f

  module _ (A : Set) (a : masked cs o ≡ Some A) where
    two_on : two_masked cs o u ≡ (masked cs u >>= λ B. Some (A, B))
    unfolding two_masked
    two_on = step (masked cs o) (λ A. masked cs u >>= λ B. Some (A, B)) A a

    pub second_of_two : (k : ReadError) → Fails k (masked cs u) → Fails k (two_masked cs o u)
    second_of_two k f = subst (λ o. Fails k o) (sym two_on) (fails_at k (masked cs u) (λ B. Some (A, B)) f)

    pub both_of_two : (B : Set) → masked cs u ≡ Some B → two_masked cs o u ≡ Some (A, B)
    both_of_two B b = two_on ∙ step (masked cs u) (λ B. Some (A, B)) B b
