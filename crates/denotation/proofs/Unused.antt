-- A phrase stands for the same whatever a name stands for that doesn't occur in it. So a set that is empty ahead of a walk is empty all along it.
use Rattle.std.proofs.Common.{◌≡◌, ℕ, ◌+◌, ◌<◌, ◌≤◌, List, [], ◌∷◌, ◌++◌, length, map, take, drop, get_or, Bool, true, false, ◌||◌, cond, Option, Some, None, Vec, refl, sym, ap, subst, ◌∙◌}
use Rattle.std.proofs.lemmas.List.{map-append, take_more}
use Rattle.event_phrases.proofs.EventNumbers.{drop_item, drop_none}
use Rattle.tokens.specs.declared.position.Position.{Position}
use Rattle.syntax.specs.declared.tree.Tree.{Tree, Node as TreeNode}
use Rattle.syntax.specs.Parsing.{syntaxes}
use Rattle.syntax.specs.View.{shape, shapes}
use Rattle.alphabet.specs.Channels.{FieldValue, Values}
use Rattle.syntax.specs.declared.form.Form.{Form}
use Rattle.syntax.specs.Grammar.{Syntax, Called, Numeral, Node, Syntaxes, NoSyntax, MoreSyntax}
use Rattle.values.specs.Values.{◌>>=◌, Name}
use Rattle.values.specs.Names.{is_constant, meaning, same_name}
use Rattle.values.specs.Worths.{one, truth, Known, worth, worths, formed, truth_only, the_set}
use Rattle.values.proofs.Parts.{node_is}
use Rattle.values.proofs.Keeps.{chosen, if_is, and_is, or_is, Parted, by_if, by_and, by_or, by_all, parted, EachPhrase, by_parts}
use Rattle.event_phrases.specs.Scopes.{Scope, with_input}
use Rattle.denotation.specs.Phrases.{generator_of, generator_values}
use Rattle.denotation.specs.Walks.{Visit, opens, fails, stands, behind_each, found_generator, behind_found, visits, first_scope}
use Rattle.denotation.specs.Ahead.{has_name, is_name_of, uses, some_uses}
use Rattle.denotation.proofs.Places.{no_items}

left_is : (a b : Bool) → (a || b) ≡ false → a ≡ false
left_is false b h = refl
left_is true b h = absurd cc

right_is : (a b : Bool) → (a || b) ≡ false → b ≡ false
right_is false b h = h
right_is true b h = absurd cc

-- ---- phrases that don't use names

module _ (gs : List Syntax) (k l : Known) (same : (n : Name) → is_name_of gs n ≡ false → k n ≡ l n) where
  abbrev Unused : Syntax → Type 0
  Unused t = uses gs t ≡ false → worth k t ≡ worth l t

  each_same : (ts : Syntaxes) → EachPhrase Unused ts → some_uses gs ts ≡ false → worths k ts ≡ worths l ts
  unfolding worths some_uses
  each_same NoSyntax h u = refl
  each_same (MoreSyntax t ts) h u =
      let one = h.0 (left_is (uses gs t) (some_uses gs ts) u) in
      let others = each_same ts h.1 (right_is (uses gs t) (some_uses gs ts) u) in
      λ i. one i >>= λ w. others i >>= λ ws. Some (w ∷ ws)

  two_same : (t u : Syntax) → EachPhrase Unused (MoreSyntax t (MoreSyntax u NoSyntax)) → some_uses gs (MoreSyntax t (MoreSyntax u NoSyntax)) ≡ false → (worth k t ≡ worth l t) × (worth k u ≡ worth l u)
  unfolding some_uses
  two_same t u h e =
      let n = right_is (uses gs t) (some_uses gs (MoreSyntax u NoSyntax)) e in
      (h.0 (left_is (uses gs t) (some_uses gs (MoreSyntax u NoSyntax)) e), h.1.0 (left_is (uses gs u) (some_uses gs NoSyntax) n))

  node_same : (f : Form) (ts : Syntaxes) → Parted f ts → EachPhrase Unused ts → some_uses gs ts ≡ false → worth k (Node f ts) ≡ worth l (Node f ts)
  unfolding some_uses
  node_same _ _ (by_if c t u) h e =
      let condition = h.0 (left_is (uses gs c) (some_uses gs (MoreSyntax t (MoreSyntax u NoSyntax))) e) in
      let p = two_same t u h.1 (right_is (uses gs c) (some_uses gs (MoreSyntax t (MoreSyntax u NoSyntax))) e) in
      if_is k c t u ∙ (λ i. chosen (condition i) (p.0 i) (p.1 i)) ∙ sym (if_is l c t u)
  node_same _ _ (by_and t u) h e =
      let p = two_same t u h e in
      and_is k t u ∙ (λ i. chosen (p.0 i) (truth_only (p.1 i)) (Some (truth false))) ∙ sym (and_is l t u)
  node_same _ _ (by_or t u) h e =
      let p = two_same t u h e in
      or_is k t u ∙ (λ i. chosen (p.0 i) (Some (truth true)) (truth_only (p.1 i))) ∙ sym (or_is l t u)
  node_same _ _ (by_all f ts is) h e = is k ∙ ap (λ o. o >>= λ ws. formed f ws) (each_same ts h e) ∙ sym (is l)

  name_same : (n : Name) → Unused (Called n)
  unfolding worth uses
  name_same n u = same n u

  number_same : (n : ℕ) → Unused (Numeral n)
  unfolding worth
  number_same n u = refl

  part_same : (f : Form) (ts : Syntaxes) → EachPhrase Unused ts → Unused (Node f ts)
  unfolding uses
  part_same f ts h u = node_same f ts (parted f ts) h u

  pub worth_same : (t : Syntax) → uses gs t ≡ false → worth k t ≡ worth l t
  worth_same t = by_parts Unused name_same number_same part_same t

-- ---- walks that meet no scope

abbrev some_found : Name → Values → Option (Name × Values)
some_found x vs = Some (x, vs)

-- the scopes differ only in what the names of these generators stand for
abbrev pub Agree : List Syntax → Scope → Scope → Type 0
Agree gs s t = (s.entries ≡ t.entries) × ((n : Name) → is_name_of gs n ≡ false → s.known n ≡ t.known n)

set_same : (gs : List Syntax) (s t : Scope) → Agree gs s t → (x : Name) (set : Syntax) → uses gs set ≡ false → generator_values s x set ≡ generator_values t x set
set_same gs s t a x set u = λ i. cond (is_constant (meaning (a.0 i) x)) None (worth_same gs s.known t.known a.1 set u i >>= λ w. the_set w)

name_passed : (gs : List Syntax) (g : Syntax) (n : Name) → is_name_of (gs ++ g ∷ []) n ≡ false → (is_name_of gs n ≡ false) × (has_name (generator_of g) n ≡ false)
unfolding is_name_of
name_passed [] g n h = (refl, left_is (has_name (generator_of g) n) false h)
name_passed (f ∷ gs) g n h =
    let one = left_is (has_name (generator_of f) n) (is_name_of (gs ++ g ∷ []) n) h in
    let p = name_passed gs g n (right_is (has_name (generator_of f) n) (is_name_of (gs ++ g ∷ []) n) h) in
    (ap (λ b. b || is_name_of gs n) one ∙ p.0, p.1)

behind_value : (gs : List Syntax) (g : Syntax) (x : Name) (set : Syntax) (s t : Scope) (v : FieldValue) → generator_of g ≡ Some (x, set) → Agree gs s t → Agree (gs ++ g ∷ []) s (with_input t x v)
unfolding has_name
behind_value gs g x set s t v e a = (a.0, same)
  where
    same : (n : Name) → is_name_of (gs ++ g ∷ []) n ≡ false → s.known n ≡ cond (same_name n x) (Some (one v)) (t.known n)
    same n h =
        let p = name_passed gs g n h in
        a.1 n p.0 ∙ sym (ap (λ b. cond b (Some (one v)) (t.known n)) (sym (ap (λ o. has_name o n) e) ∙ p.1))

-- nothing of the first list is a scope or fails
first_append : (us vs : List Visit) → first_scope us ≡ Some [] → first_scope (us ++ vs) ≡ first_scope vs
unfolding first_scope
first_append [] vs h = refl
first_append (opens ∷ us) vs h = first_append us vs h
first_append (fails ∷ us) vs h = absurd cc
first_append (stands s ∷ us) vs h = absurd cc

each_empty : (on : Scope → List Visit) (s : Scope) (x : Name) → ((v : FieldValue) → first_scope (on (with_input s x v)) ≡ Some []) → (vs : Values) → first_scope (behind_each on s x vs) ≡ Some []
unfolding behind_each first_scope
each_empty on s x h [] = refl
each_empty on s x h (v ∷ vs) = first_append (on (with_input s x v)) (behind_each on s x vs) (h v) ∙ each_empty on s x h vs

-- no scope is met on the walk through these generators, and nothing fails, whatever the names of those before them stand for
abbrev pub NoneMet : Scope → List Syntax → List Syntax → Type 0
NoneMet s before gs = (t : Scope) → Agree before s t → first_scope (visits gs t) ≡ Some []

-- a generator with these values, of which the set doesn't use the names of those before it
module _ (s : Scope) (before : List Syntax) (g : Syntax) (x : Name) (set : Syntax) (vs : Values) (n : generator_of g ≡ Some (x, set)) (u : uses before set ≡ false) (e : generator_values s x set ≡ Some vs) (rest : List Syntax) where
  found : (t : Scope) → Agree before s t → found_generator t g ≡ some_found x vs
  found t a =
      ap (λ o. o >>= λ p. generator_values t p.0 p.1 >>= λ vs. some_found p.0 vs) n
      ∙ ap (λ o. o >>= λ vs. some_found x vs) (sym (set_same before s t a x set u) ∙ e)

  walked : (t : Scope) → Agree before s t → first_scope (visits (g ∷ rest) t) ≡ first_scope (behind_each (visits rest) t x vs)
  unfolding visits behind_found first_scope
  walked t a = ap (λ o. first_scope (behind_found (visits rest) t o)) (found t a)

  none_here : vs ≡ [] → NoneMet s before (g ∷ rest)
  unfolding behind_each first_scope
  none_here h t a = walked t a ∙ ap (λ vs. first_scope (behind_each (visits rest) t x vs)) h

  none_later : NoneMet s (before ++ g ∷ []) rest → NoneMet s before (g ∷ rest)
  none_later h t a = walked t a ∙ each_empty (visits rest) t x (λ v. h (with_input t x v) (behind_value before g x set s t v n a)) vs

-- ---- over lists in memory

-- a node uses what its parts use
pub node_uses : {A : Type 0} (tree : Tree A) (line : Position) (form : Form) (v : Vec (Tree A) A) (ts : List (Tree A)) (gs : List Syntax) (b : Bool) → tree ≡ TreeNode line form v → ts ≡ v.items → b ≡ some_uses gs (syntaxes (shapes ts)) → b ≡ uses gs (shape tree)
unfolding uses
node_uses tree line form v ts gs b h is e = e ∙ sym (ap (uses gs) (node_is tree line form v ts h is))

module _ {A : Type 0} (view : A → Syntax) (xs : List A) (i : ℕ) (h : length xs ≤ i) where
  pub named_end : (n : Name) (whole : Bool) → is_name_of (map view (drop i xs)) n ≡ whole → false ≡ whole
  unfolding is_name_of
  named_end n whole inv = sym (ap (λ ys. is_name_of (map view ys) n) (drop_none xs i h)) ∙ inv

  pub used_end : (gs : List Syntax) (whole : Bool) → some_uses gs (syntaxes (map view (drop i xs))) ≡ whole → false ≡ whole
  unfolding some_uses
  used_end gs whole inv = sym (ap (λ ys. some_uses gs (syntaxes (map view ys))) (drop_none xs i h)) ∙ inv

module _ {A : Type 0} (view : A → Syntax) (xs : List A) (i : ℕ) (x : A) (h : i < length xs) (at : x ≡ get_or xs i x) where
  name_here : (n : Name) → is_name_of (map view (drop i xs)) n ≡ (has_name (generator_of (view x)) n || is_name_of (map view (drop (i + 1) xs)) n)
  unfolding is_name_of
  name_here n = ap (λ ys. is_name_of (map view ys) n) (drop_item xs i x h at)

  pub named_here : (n : Name) (b whole : Bool) → is_name_of (map view (drop i xs)) n ≡ whole → b ≡ has_name (generator_of (view x)) n → b ≡ true → true ≡ whole
  named_here n b whole inv e t = sym (name_here n ∙ ap (λ b. b || is_name_of (map view (drop (i + 1) xs)) n) (sym e ∙ t)) ∙ inv

  pub named_later : (n : Name) (b whole : Bool) → is_name_of (map view (drop i xs)) n ≡ whole → b ≡ has_name (generator_of (view x)) n → b ≡ false → is_name_of (map view (drop (i + 1) xs)) n ≡ whole
  named_later n b whole inv e t = sym (name_here n ∙ ap (λ b. b || is_name_of (map view (drop (i + 1) xs)) n) (sym e ∙ t)) ∙ inv

  part_here : (gs : List Syntax) → some_uses gs (syntaxes (map view (drop i xs))) ≡ (uses gs (view x) || some_uses gs (syntaxes (map view (drop (i + 1) xs))))
  unfolding some_uses
  part_here gs = ap (λ ys. some_uses gs (syntaxes (map view ys))) (drop_item xs i x h at)

  pub used_here : (gs : List Syntax) (b : Bool) (whole : Bool) → some_uses gs (syntaxes (map view (drop i xs))) ≡ whole → b ≡ uses gs (view x) → b ≡ true → true ≡ whole
  used_here gs b whole inv e t = sym (part_here gs ∙ ap (λ b. b || some_uses gs (syntaxes (map view (drop (i + 1) xs)))) (sym e ∙ t)) ∙ inv

  pub used_later : (gs : List Syntax) (b : Bool) (whole : Bool) → some_uses gs (syntaxes (map view (drop i xs))) ≡ whole → b ≡ uses gs (view x) → b ≡ false → some_uses gs (syntaxes (map view (drop (i + 1) xs))) ≡ whole
  used_later gs b whole inv e t = sym (part_here gs ∙ ap (λ b. b || some_uses gs (syntaxes (map view (drop (i + 1) xs)))) (sym e ∙ t)) ∙ inv

  module _ (s : Scope) (whole : Type 0) (inv : NoneMet s (map view (take i xs)) (map view (drop i xs)) → whole) (n : Name) (set : Syntax) (g : Some (n, set) ≡ generator_of (view x)) (b : Bool) (u : b ≡ uses (map view (take i xs)) set) (f : b ≡ false) (vs : Values) (e : generator_values s n set ≡ Some vs) where
    from_here : NoneMet s (map view (take i xs)) (view x ∷ map view (drop (i + 1) xs)) → whole
    from_here k = inv (subst (λ ys. NoneMet s (map view (take i xs)) (map view ys)) (sym (drop_item xs i x h at)) k)

    pub empty_here : length vs ≡ 0 → whole
    empty_here z = from_here (none_here s (map view (take i xs)) (view x) n set vs (sym g) (sym u ∙ f) e (map view (drop (i + 1) xs)) (no_items vs z))

    one_more : map view (take (i + 1) xs) ≡ map view (take i xs) ++ view x ∷ []
    one_more = ap (map view) (take_more xs i x h ∙ ap (λ y. take i xs ++ y ∷ []) (sym at)) ∙ map-append view (take i xs) (x ∷ [])

    pub values_here : NoneMet s (map view (take (i + 1) xs)) (map view (drop (i + 1) xs)) → whole
    values_here k = from_here (none_later s (map view (take i xs)) (view x) n set vs (sym g) (sym u ∙ f) e (map view (drop (i + 1) xs)) (subst (λ ys. NoneMet s ys (map view (drop (i + 1) xs))) one_more k))
