-- The walk through the values of generators: what there is on it.
use Rattle.std.proofs.Common.{◌≡◌, ◌≤◌, List, [], ◌∷◌, ◌++◌, length, Option, Some, None, refl, sym, ap, ◌∙◌, arith}
use Rattle.alphabet.specs.Channels.{Values}
use Rattle.syntax.specs.Grammar.{Syntax}
use Rattle.values.specs.Values.{◌>>=◌, Name}
use Rattle.event_phrases.specs.Forms.{first_of}
use Rattle.event_phrases.specs.Scopes.{Scope, with_input}
use Rattle.event_phrases.proofs.Options.{some_is}
use Rattle.denotation.specs.Bodies.{Body}
use Rattle.denotation.specs.Phrases.{for_each, over, generator_of, generator_values}
use Rattle.denotation.specs.Walks.{Visit, opens, fails, stands, behind_each, behind_found, visits, on_visits, first_scope}

abbrev some_all : List Body → Option (List Body)
some_all ps = Some ps

abbrev then_all : Option (List Body) → Option (List Body) → Option (List Body)
then_all o u = o >>= λ ps. u >>= λ qs. some_all (ps ++ qs)

module _ (next : Scope → Option Body) where
  visits_append : (us vs : List Visit) → on_visits next (us ++ vs) ≡ then_all (on_visits next us) (on_visits next vs)
  unfolding on_visits
  visits_append [] vs = by (on_visits next vs)
    where
      by : (o : Option (List Body)) → o ≡ (o >>= λ qs. some_all qs)
      by None = refl
      by (Some qs) = refl
  visits_append (opens ∷ us) vs = visits_append us vs
  visits_append (fails ∷ us) vs = refl
  visits_append (stands s ∷ us) vs = by (next s) (visits_append us vs)
    where
      both : (p : Body) (o u : Option (List Body)) → (then_all o u >>= λ qs. some_all (p ∷ qs)) ≡ then_all (o >>= λ qs. some_all (p ∷ qs)) u
      both p None u = refl
      both p (Some ps) None = refl
      both p (Some ps) (Some qs) = refl

      by : (o : Option Body) → on_visits next (us ++ vs) ≡ then_all (on_visits next us) (on_visits next vs) → (o >>= λ p. on_visits next (us ++ vs) >>= λ ps. some_all (p ∷ ps)) ≡ then_all (o >>= λ p. on_visits next us >>= λ ps. some_all (p ∷ ps)) (on_visits next vs)
      by None h = refl
      by (Some p) h = ap (λ o. o >>= λ ps. some_all (p ∷ ps)) h ∙ both p (on_visits next us) (on_visits next vs)

  module _ (inner : Scope → Option (List Body)) (on : Scope → List Visit) (h : (s : Scope) → inner s ≡ on_visits next (on s)) where
    each_is : (s : Scope) (x : Name) (vs : Values) → for_each inner s x vs ≡ on_visits next (behind_each on s x vs)
    unfolding for_each behind_each on_visits
    each_is s x [] = refl
    each_is s x (v ∷ vs) =
        (λ i. then_all (h (with_input s x v) i) (each_is s x vs i))
        ∙ sym (visits_append (on (with_input s x v)) (behind_each on s x vs))

    values_are : (s : Scope) (x : Name) (o : Option Values) → (o >>= for_each inner s x) ≡ on_visits next (behind_found on s (o >>= λ vs. Some (x, vs)))
    unfolding behind_found on_visits
    values_are s x None = refl
    values_are s x (Some vs) = each_is s x vs

    found_is : (s : Scope) (o : Option (Name × Syntax)) → (o >>= λ p. generator_values s p.0 p.1 >>= for_each inner s p.0) ≡ on_visits next (behind_found on s (o >>= λ p. generator_values s p.0 p.1 >>= λ vs. Some (p.0, vs)))
    unfolding behind_found on_visits
    found_is s None = refl
    found_is s (Some p) = values_are s p.0 (generator_values s p.0 p.1)

  over_is_walk : (gs : List Syntax) (s : Scope) → over gs next s ≡ on_visits next (visits gs s)
  unfolding over visits on_visits
  over_is_walk [] s = refl
  over_is_walk (g ∷ gs) s = found_is (over gs next) (visits gs) (over_is_walk gs) s (generator_of g)

  -- there is nothing before the first scope
  pub first_is : (vs : List Visit) → on_visits next vs ≡ (first_scope vs >>= on_visits next)
  unfolding first_scope on_visits
  first_is [] = refl
  first_is (opens ∷ vs) = first_is vs
  first_is (fails ∷ vs) = refl
  first_is (stands s ∷ vs) = refl

  pub begun : (gs : List Syntax) (s : Scope) → over gs next s ≡ (first_scope (visits gs s) >>= on_visits next)
  begun gs s = over_is_walk gs s ∙ first_is (visits gs s)

-- nothing more is met from the first scope on
pub not_more : (vs us : List Visit) → first_scope vs ≡ Some us → length us ≤ length vs
unfolding first_scope
not_more [] us h = let e = ap length (some_is h) in omega (arith, e)
not_more (opens ∷ vs) us h = let k = not_more vs us h in omega (arith, k)
not_more (fails ∷ vs) us h = absurd cc
not_more (stands s ∷ vs) us h = let e = ap length (some_is h) in omega (arith, e)

-- the list with this first item
pub none_first : (gs : List Syntax) → None ≡ first_of gs → gs ≡ []
unfolding first_of
none_first [] h = refl
none_first (g ∷ gs) h = absurd cc

pub some_first : (gs : List Syntax) (g : Syntax) (rest : List Syntax) → Some (g, rest) ≡ first_of gs → gs ≡ g ∷ rest
unfolding first_of
some_first [] g rest h = absurd cc
some_first (k ∷ gs) g rest h =
    let e : (g, rest) ≡ (k, gs) = some_is h in
    sym (ap (λ (p : Syntax × List Syntax). p.0 ∷ p.1) e)
