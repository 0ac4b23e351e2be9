-- The body of a definition, step by step.
use Rattle.std.proofs.Common.{◌≡◌, List, [], ◌∷◌, length, true, false, cond, nat_eq, Option, Some, None, refl, ap, ◌∙◌}
use Rattle.std.proofs.lemmas.Bool.{true≢false}
use Rattle.alphabet.specs.Channels.{FieldValue, Values}
use Rattle.syntax.specs.Grammar.{Syntax}
use Rattle.values.specs.Values.{◌>>=◌, Name}
use Rattle.values.specs.Names.{Meaning, definition, parametric, meaning, is_process}
use Rattle.values.specs.declared.value.Value.{Value}
use Rattle.event_phrases.specs.Scopes.{Scope, within}
use Rattle.event_phrases.specs.View.{listed}
use Rattle.denotation.specs.Bodies.{Body}
use Rattle.denotation.specs.Denotes.{paired, body_by, called_by, body_of}
use Rattle.denotation.specs.Phrases.{phrase_of, denoted}

none_by : (s : Scope) (m : Option Meaning) → ((t : Syntax) → m ≡ Some (definition t) → ⊥) → body_by s m ≡ None
unfolding body_by
none_by s None h = refl
none_by s (Some (definition t)) h = absurd (h t refl)
none_by s (Some m) h = refl

module _ (s : Scope) (n : Name) where
  pub no_process : is_process s.entries n ≡ false → body_of s (n, []) ≡ None
  unfolding body_of
  no_process h = ap (λ b. cond b (body_by s (meaning s.entries n)) None) h

  by_meaning : is_process s.entries n ≡ true → body_of s (n, []) ≡ body_by s (meaning s.entries n)
  unfolding body_of
  by_meaning h = ap (λ b. cond b (body_by s (meaning s.entries n)) None) h

  module _ (h : is_process s.entries n ≡ true) where
    pub no_definition : ((t : Syntax) → meaning s.entries n ≡ Some (definition t) → ⊥) → body_of s (n, []) ≡ None
    no_definition d = by_meaning h ∙ none_by s (meaning s.entries n) d

    pub body_from : (t : Syntax) → meaning s.entries n ≡ Some (definition t) → body_of s (n, []) ≡ denoted (phrase_of t) s
    unfolding body_by
    body_from t d = by_meaning h ∙ ap (body_by s) d

-- ---- definitions with parameters

pub no_call : (s : Scope) (m : Option Meaning) (vs : Values) → ((xs : List Name) (t : Syntax) → m ≡ Some (parametric xs t) → ⊥) → called_by s m vs ≡ None
unfolding called_by
no_call s None vs h = refl
no_call s (Some (parametric xs t)) vs h = absurd (h xs t refl)
no_call s (Some m) vs h = refl

module _ (s : Scope) (m : Option Meaning) (vs : Values) (xs : List Name) (t : Syntax) (d : m ≡ Some (parametric xs t)) where
  abbrev behind_parameters : Option (List (Name × FieldValue)) → Option Body
  behind_parameters o = o >>= λ is. denoted (phrase_of t) (within s is)

  call_by : called_by s m vs ≡ behind_parameters (paired xs vs)
  unfolding called_by
  call_by = ap (λ m. called_by s m vs) d

  pub unmatched : paired xs vs ≡ None → called_by s m vs ≡ None
  unmatched e = call_by ∙ ap behind_parameters e

  pub matched : (is : List (Name × FieldValue)) → paired xs vs ≡ Some is → called_by s m vs ≡ denoted (phrase_of t) (within s is)
  matched is e = call_by ∙ ap behind_parameters e

-- ---- by the values of parameters

pub with_values : {A : Type 0} (s : Scope) (n : Name) (vs : List (Value A)) → nat_eq (length vs) 0 ≡ false → body_of s (n, listed vs) ≡ called_by s (meaning s.entries n) (listed vs)
unfolding body_of
with_values s n [] h = absurd (true≢false h)
with_values s n (v ∷ vs) h = refl
