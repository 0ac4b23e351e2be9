-- Places on the walk through the values of generators: how it goes on from each.
use Rattle.std.proofs.Common.{◌≡◌, suc, List, [], ◌∷◌, ◌++◌, map, length, Option, Some, None, refl, sym, ap, ◌∙◌, arith, append_assoc, append-nil}
use Rattle.std.specs.Prelude.{option_to_list}
use Rattle.std.proofs.lemmas.List.{map-append}
use Rattle.alphabet.specs.Channels.{FieldValue, Values}
use Rattle.syntax.specs.Grammar.{Syntax}
use Rattle.tokens.specs.declared.read_error.ReadError.{ReadError}
use Rattle.values.specs.Values.{◌>>=◌, Name}
use Rattle.values.specs.View.{Fails}
use Rattle.event_phrases.specs.Scopes.{Scope, with_input, within}
use Rattle.event_phrases.proofs.Options.{some_is}
use Rattle.event_phrases.proofs.Scopes.{behind_input}
use Rattle.denotation.specs.Phrases.{generator_of, generator_values}
use Rattle.syntax.proofs.Failing.{fails_on}
use Rattle.denotation.specs.Walks.{Visit, opens, stands, behind_each, found_generator, behind_found, visits, first_scope, Waiting, all_but_last, last_first, visits_after, visits_from, once_found}

-- ---- the ends of lists

last_left_out : {X : Type 0} (xs : List X) (x : X) → all_but_last (xs ++ x ∷ []) ≡ xs
unfolding all_but_last
last_left_out [] x = refl
last_left_out (y ∷ []) x = refl
last_left_out (y ∷ z ∷ xs) x = ap (λ ys. y ∷ ys) (last_left_out (z ∷ xs) x)

pub no_items : {X : Type 0} (xs : List X) → length xs ≡ 0 → xs ≡ []
no_items [] h = refl
no_items (x ∷ xs) h = absurd (omega (arith, h))

-- a list without its last item, as `pop` leaves it
pub popped : {A X : Type 0} (view : A → X) (xs ys : List A) (o : Option A) → xs ≡ ys ++ option_to_list o → (o ≡ None → length xs ≡ 0) → all_but_last (map view xs) ≡ map view ys
unfolding all_but_last
popped view xs ys None e z =
    let n : xs ≡ [] = no_items xs (z refl) in
    let m : xs ≡ ys = e ∙ append-nil ys in
    ap (λ xs. all_but_last (map view xs)) n ∙ ap (map view) (sym n ∙ m)
popped view xs ys (Some x) e z = ap (λ xs. all_but_last (map view xs)) e ∙ ap all_but_last (map-append view ys (x ∷ [])) ∙ last_left_out (map view ys) (view x)

pub with_last : {A X : Type 0} (view : A → X) (xs : List A) (x : A) → last_first view (xs ++ x ∷ []) ≡ view x ∷ last_first view xs
unfolding last_first
with_last view [] x = refl
with_last view (y ∷ xs) x = ap (λ l. l ++ view y ∷ []) (with_last view xs x)

pub by_last : {A X : Type 0} (view : A → X) (xs ys : List A) (x : A) → xs ≡ ys ++ x ∷ [] → last_first view xs ≡ view x ∷ last_first view ys
by_last view xs ys x e = ap (last_first view) e ∙ with_last view ys x

pub none_last : {A X : Type 0} (view : A → X) (xs : List A) → length xs ≡ 0 → last_first view xs ≡ []
unfolding last_first
none_last view xs h = ap (last_first view) (no_items xs h)

-- ---- places

abbrev some_values : Name → Values → Option (Name × Values)
some_values x vs = Some (x, vs)

abbrev pub some_visits : List Visit → Option (List Visit)
some_visits vs = Some vs

past_opening : (vs us : List Visit) → vs ≡ opens ∷ us → first_scope vs ≡ first_scope us
unfolding first_scope
past_opening vs us h = ap first_scope h

at_scope : (vs us : List Visit) (s : Scope) → vs ≡ stands s ∷ us → first_scope vs ≡ Some (stands s ∷ us)
unfolding first_scope
at_scope vs us s h = ap first_scope h

pub nothing_met : (vs : List Visit) → vs ≡ [] → first_scope vs ≡ Some []
unfolding first_scope
nothing_met vs h = ap first_scope h

module _ (s : Scope) where
  -- at a value of a generator
  pub value_taken : (is js : List (Name × FieldValue)) (x : Name) (v : FieldValue) (left : Values) (inner : List Syntax) (gs hs : List Waiting) →
      js ≡ is ++ (x, v) ∷ [] → hs ≡ (x, left, inner) ∷ gs → (visits inner (within s js) ++ visits_after s js hs) ≡ visits_from s is (x, v ∷ left, inner) gs
  unfolding visits_after behind_each
  value_taken is js x v left inner gs hs e f =
      let one = λ (t : Scope) (ks : List (Name × FieldValue)). visits inner t ++ (behind_each (visits inner) (within s ks) x left ++ visits_after s ks gs) in
      ap (λ hs. visits inner (within s js) ++ visits_after s js hs) f
      ∙ ap (one (within s js)) (ap all_but_last e ∙ last_left_out is (x, v))
      ∙ ap (λ t. one t is) (behind_input s is js x v e)
      ∙ sym (append_assoc (visits inner (with_input (within s is) x v)) (behind_each (visits inner) (within s is) x left) (visits_after s is gs))

  module _ (is : List (Name × FieldValue)) (x : Name) (left : Values) (inner : List Syntax) (gs : List Waiting) (whole : List Visit) (inv : visits_from s is (x, left, inner) gs ≡ whole) where
    pub value_next : (v : FieldValue) (later : Values) (us : List Visit) → left ≡ v ∷ later → us ≡ visits_from s is (x, v ∷ later, inner) gs → us ≡ whole
    value_next v later us h e = e ∙ sym (ap (λ left. visits_from s is (x, left, inner) gs) h) ∙ inv

    no_value : left ≡ [] → visits_after s is gs ≡ whole
    unfolding behind_each
    no_value h = sym (ap (λ left. visits_from s is (x, left, inner) gs) h) ∙ inv

    -- where no generator has a value left
    pub all_gone : left ≡ [] → gs ≡ [] → [] ≡ whole
    unfolding visits_after
    all_gone h n = sym (ap (visits_after s is) n) ∙ no_value h

    pub one_back : (js : List (Name × FieldValue)) (g : Waiting) (hs : List Waiting) → left ≡ [] → all_but_last is ≡ js → gs ≡ g ∷ hs → visits_from s js g hs ≡ whole
    unfolding visits_after
    one_back js g hs h e f = sym (ap (visits_after s is) f ∙ ap (λ js. visits_from s js g hs) e) ∙ no_value h

  pub next_generator : (is js : List (Name × FieldValue)) (g : Waiting) (gs hs : List Waiting) → all_but_last is ≡ js → hs ≡ g ∷ gs → visits_after s is hs ≡ visits_from s js g gs
  unfolding visits_after
  next_generator is js g gs hs e f = ap (visits_after s is) f ∙ ap (λ js. visits_from s js g gs) e

  pub no_generator : (is : List (Name × FieldValue)) (hs : List Waiting) → hs ≡ [] → visits_after s is hs ≡ []
  unfolding visits_after
  no_generator is hs h = ap (visits_after s is) h

  -- before the first value
  pub started : (is js : List (Name × FieldValue)) (hs : List Waiting) (gs : List Syntax) → js ≡ is → hs ≡ [] → (visits gs (within s js) ++ visits_after s js hs) ≡ visits gs (within s is)
  started is js hs gs e n =
      ap (λ vs. visits gs (within s js) ++ vs) (no_generator js hs n) ∙ append-nil (visits gs (within s js)) ∙ ap (λ is. visits gs (within s is)) e

  -- ---- the next generator

  module _ (is : List (Name × FieldValue)) (hs : List Waiting) (inner : List Syntax) (g : Syntax) where
    pub no_name : None ≡ generator_of g → once_found s is hs inner g ≡ None
    no_name n = sym (ap (λ o. (o >>= λ p. generator_values (within s is) p.0 p.1 >>= λ vs. some_values p.0 vs) >>= λ p. some_visits (visits_from s is (p.0, p.1, inner) hs)) n)

    module _ (x : Name) (set : Syntax) (n : Some (x, set) ≡ generator_of g) where
      by_name : once_found s is hs inner g ≡ ((generator_values (within s is) x set >>= λ vs. some_values x vs) >>= λ p. some_visits (visits_from s is (p.0, p.1, inner) hs))
      by_name = sym (ap (λ o. (o >>= λ p. generator_values (within s is) p.0 p.1 >>= λ vs. some_values p.0 vs) >>= λ p. some_visits (visits_from s is (p.0, p.1, inner) hs)) n)

      pub set_fails : (k : ReadError) → Fails k (generator_values (within s is) x set) → Fails k (once_found s is hs inner g)
      set_fails k f =
          fails_on k (generator_values (within s is) x set) (once_found s is hs inner g)
          (λ e. by_name ∙ ap (λ o. (o >>= λ vs. some_values x vs) >>= λ p. some_visits (visits_from s is (p.0, p.1, inner) hs)) e) f

      pub set_found : (vs : Values) (us : List Visit) → generator_values (within s is) x set ≡ Some vs → us ≡ visits_from s is (x, vs, inner) hs → once_found s is hs inner g ≡ Some us
      set_found vs us e is_same =
          by_name ∙ ap (λ o. (o >>= λ vs. some_values x vs) >>= λ p. some_visits (visits_from s is (p.0, p.1, inner) hs)) e ∙ ap some_visits (sym is_same)

  module _ (is : List (Name × FieldValue)) (hs : List Waiting) (gs : List Syntax) (whole : Option (List Visit)) (inv : first_scope (visits gs (within s is) ++ visits_after s is hs) ≡ whole) where
    -- after a value of each generator
    pub arrived : gs ≡ [] → whole ≡ Some (stands (within s is) ∷ visits_after s is hs)
    unfolding visits
    arrived h = sym inv ∙ at_scope (visits gs (within s is) ++ visits_after s is hs) (visits_after s is hs) (within s is) (ap (λ gs. visits gs (within s is) ++ visits_after s is hs) h)

    module _ (g : Syntax) (inner : List Syntax) (h : gs ≡ g ∷ inner) where
      from_found : (visits gs (within s is) ++ visits_after s is hs) ≡ behind_found (visits inner) (within s is) (found_generator (within s is) g) ++ visits_after s is hs
      unfolding visits
      from_found = ap (λ gs. visits gs (within s is) ++ visits_after s is hs) h

      not_found : (o : Option (Name × Values)) → (o >>= λ p. some_visits (visits_from s is (p.0, p.1, inner) hs)) ≡ None → first_scope (behind_found (visits inner) (within s is) o ++ visits_after s is hs) ≡ None
      unfolding behind_found first_scope
      not_found None e = refl
      not_found (Some p) e = absurd cc

      pub opening_fails : (k : ReadError) → Fails k (once_found s is hs inner g) → Fails k whole
      opening_fails k f = fails_on k (once_found s is hs inner g) whole (λ e. sym inv ∙ ap first_scope from_found ∙ not_found (found_generator (within s is) g) e) f

      so_found : (o : Option (Name × Values)) (us : List Visit) → (o >>= λ p. some_visits (visits_from s is (p.0, p.1, inner) hs)) ≡ Some us → (behind_found (visits inner) (within s is) o ++ visits_after s is hs) ≡ opens ∷ us
      unfolding behind_found
      so_found None us e = absurd cc
      so_found (Some p) us e = ap (λ us. opens ∷ us) (some_is e)

      went_on : (us : List Visit) → once_found s is hs inner g ≡ Some us → (visits gs (within s is) ++ visits_after s is hs) ≡ opens ∷ us
      went_on us e = from_found ∙ so_found (found_generator (within s is) g) us e

      pub opened_next : (us : List Visit) → once_found s is hs inner g ≡ Some us → first_scope us ≡ whole
      opened_next us e = sym (past_opening (visits gs (within s is) ++ visits_after s is hs) us (went_on us e)) ∙ inv

      pub opened_none : once_found s is hs inner g ≡ Some [] → whole ≡ Some []
      opened_none e = sym (opened_next [] e) ∙ nothing_met [] refl

      pub one_less : (us : List Visit) → once_found s is hs inner g ≡ Some us → length (visits gs (within s is) ++ visits_after s is hs) ≡ suc (length us)
      one_less us e = ap length (went_on us e)
