-- Where no field has an input's name in it, the fields are at fault after the input or without it alike.
use Rattle.std.proofs.Common.{◌≡◌, ◌≤◌, ℕ, List, [], ◌∷◌, length, map, Bool, true, false, ◌||◌, cond, Option, Some, None, refl, sym, subst, ap, ap₂, ◌∙◌, arith}
use Rattle.std.specs.Prelude.{filter}
use Rattle.alphabet.specs.Channels.{FieldValue, Values}
use Rattle.syntax.specs.declared.form.Form.{Form}
use Rattle.syntax.specs.declared.form.Form.TheVariants as forms
use Rattle.syntax.specs.Grammar.{Syntax, Called, Numeral, Node, Syntaxes, NoSyntax, MoreSyntax}
use Rattle.values.specs.Names.{is_constant, meaning, same_name}
use Rattle.values.specs.Values.{◌>>=◌, Name, is_among}
use Rattle.values.specs.Worths.{one, truth, Known, worth, worths, formed, the_value, the_set, truth_only}
use Rattle.values.proofs.Keeps.{Parted, by_if, by_and, by_or, by_all, parted, EachPhrase, by_parts, chosen, if_is, and_is, or_is}
use Rattle.event_phrases.specs.Forms.{FieldPhrase, given, input, input_from, no_field}
use Rattle.event_phrases.specs.Prefixes.{scopes_after, all_pass, fields_pass}
use Rattle.event_phrases.specs.Scopes.{Scope, with_input}
use Rattle.event_phrases.specs.Uses.{mentions, mention, is_within, is_used}
use Rattle.tokens.proofs.Comments.{or_false}

abbrev Checked : Type 0
Checked = Option (Unit {0})

-- ---- phrases

-- names other than x stand for the same
abbrev Agree : Name → Known → Known → Type 0
Agree x k l = (n : Name) → same_name n x ≡ false → k n ≡ l n

module _ (x : Name) (k l : Known) (h : Agree x k l) where
  abbrev Same : Syntax → Type 0
  Same t = mentions x t ≡ false → worth k t ≡ worth l t

  name_same : (n : Name) → Same (Called n)
  unfolding worth mentions
  name_same n e = h n e

  number_same : (n : ℕ) → Same (Numeral n)
  unfolding worth
  number_same n e = refl

  parts_same : (ts : Syntaxes) → EachPhrase Same ts → mention x ts ≡ false → worths k ts ≡ worths l ts
  unfolding worths mention
  parts_same NoSyntax p e = refl
  parts_same (MoreSyntax t ts) p e =
      let q = or_false (mentions x t) (mention x ts) e in
      ap₂ (λ o r. o >>= λ w. r >>= λ ws. Some (w ∷ ws)) (p.0 q.0) (parts_same ts p.1 q.1)

  form_same : (f : Form) (ts : Syntaxes) → Parted f ts → EachPhrase Same ts → mention x ts ≡ false → worth k (Node f ts) ≡ worth l (Node f ts)
  unfolding mention
  form_same _ _ (by_if c t u) p e =
      let q = or_false (mentions x c) (mentions x t || (mentions x u || false)) e in
      let r = or_false (mentions x t) (mentions x u || false) q.1 in
      let z = or_false (mentions x u) false r.1 in
      if_is k c t u ∙ ap (λ o. chosen o (worth k t) (worth k u)) (p.0 q.0) ∙ ap₂ (chosen (worth l c)) (p.1.0 r.0) (p.1.1.0 z.0) ∙ sym (if_is l c t u)
  form_same _ _ (by_and t u) p e =
      let q = or_false (mentions x t) (mentions x u || false) e in
      let z = or_false (mentions x u) false q.1 in
      and_is k t u ∙ ap₂ (λ o r. chosen o (truth_only r) (Some (truth false))) (p.0 q.0) (p.1.0 z.0) ∙ sym (and_is l t u)
  form_same _ _ (by_or t u) p e =
      let q = or_false (mentions x t) (mentions x u || false) e in
      let z = or_false (mentions x u) false q.1 in
      or_is k t u ∙ ap₂ (λ o r. chosen o (Some (truth true)) (truth_only r)) (p.0 q.0) (p.1.0 z.0) ∙ sym (or_is l t u)
  form_same _ _ (by_all f ts is) p e = is k ∙ ap (λ o. o >>= λ ws. formed f ws) (parts_same ts p e) ∙ sym (is l)

  node_same : (f : Form) (ts : Syntaxes) → EachPhrase Same ts → Same (Node f ts)
  unfolding mentions
  node_same f ts p e = form_same f ts (parted f ts) p e

  worth_same : (t : Syntax) → Same t
  worth_same = by_parts Same name_same number_same node_same

-- ---- scopes

abbrev at : Scope → Known → Scope
at s k = record s { known = k }

abbrev plus : Known → Name → FieldValue → Known
plus k y v n = cond (same_name n y) (Some (one v)) (k n)

agree_more : (x : Name) (k l : Known) → Agree x k l → (y : Name) (v : FieldValue) → Agree x (plus k y v) (plus l y v)
agree_more x k l h y v n e = ap (λ o. cond (same_name n y) (Some (one v)) o) (h n e)

-- the fields after one more input are the same, if they are for each two that agree
all_same : (test : Scope → Checked) (s : Scope) (x : Name) (k l : Known) → Agree x k l → ((m n : Known) → Agree x m n → test (at s m) ≡ test (at s n)) → (y : Name) (vs : Values) → all_pass test (map (with_input (at s k) y) vs) ≡ all_pass test (map (with_input (at s l) y) vs)
unfolding all_pass
all_same test s x k l h same y [] = refl
all_same test s x k l h same y (v ∷ vs) = ap₂ (λ (o r : Checked). o >>= λ u. r) (same (plus k y v) (plus l y v) (agree_more x k l h y v)) (all_same test s x k l h same y vs)

module _ (x : Name) (test : Scope → Checked) (s : Scope) (k l : Known) (h : Agree x k l) where
  abbrev chosen_so : Known → Name → Values → Option Values → Option (List Scope)
  chosen_so m y set o = o >>= λ part. Some (map (with_input (at s m) y) (filter (λ v. is_among v part) set))

  -- where an input's name is a constant's neither has anything after it
  by_constant : (b : Bool) (o q : Option (List Scope)) → (o >>= all_pass test) ≡ (q >>= all_pass test) → (cond b None o >>= all_pass test) ≡ (cond b None q >>= all_pass test)
  by_constant true o q e = refl
  by_constant false o q e = e

  -- a field whose set is empty
  empty_same : (p : FieldPhrase) → is_within x p ≡ false → (scopes_after p [] (at s k) >>= all_pass test) ≡ (scopes_after p [] (at s l) >>= all_pass test)
  unfolding scopes_after is_among is_within
  empty_same (given t) e = ap (λ o. ((o >>= λ w. the_value w) >>= λ v. none_there) >>= all_pass test) (worth_same x k l h t e)
    where
      none_there : Option (List Scope)
      none_there = None
  empty_same (input y) e = refl
  empty_same no_field e = refl
  empty_same (input_from y t) e =
      by_constant (is_constant (meaning s.entries y)) (chosen_so k y [] (worth k t >>= λ w. the_set w)) (chosen_so l y [] (worth l t >>= λ w. the_set w))
      (ap (λ o. chosen_so k y [] (o >>= λ w. the_set w) >>= all_pass test) (worth_same x k l h t e))

  module _ (same : (m n : Known) → Agree x m n → test (at s m) ≡ test (at s n)) where
    field_same : (p : FieldPhrase) (set : Values) → is_within x p ≡ false → (scopes_after p set (at s k) >>= all_pass test) ≡ (scopes_after p set (at s l) >>= all_pass test)
    unfolding scopes_after all_pass is_within
    field_same no_field set e = refl
    field_same (given t) set e =
        ap (λ o. ((o >>= λ w. the_value w) >>= λ v. cond (is_among v set) (Some (at s k ∷ [])) None) >>= all_pass test) (worth_same x k l h t e)
        ∙ by (worth l t >>= λ w. the_value w)
      where
        by_test : (b : Bool) → (cond b (Some (at s k ∷ [])) None >>= all_pass test) ≡ (cond b (Some (at s l ∷ [])) None >>= all_pass test)
        by_test true = ap (λ (o : Checked). o >>= λ u. Some tt) (same k l h)
        by_test false = refl

        by : (o : Option FieldValue) → ((o >>= λ v. cond (is_among v set) (Some (at s k ∷ [])) None) >>= all_pass test) ≡ ((o >>= λ v. cond (is_among v set) (Some (at s l ∷ [])) None) >>= all_pass test)
        by None = refl
        by (Some v) = by_test (is_among v set)
    field_same (input y) set e =
        by_constant (is_constant (meaning s.entries y)) (Some (map (with_input (at s k) y) set)) (Some (map (with_input (at s l) y) set)) (all_same test s x k l h same y set)
    field_same (input_from y t) set e =
        by_constant (is_constant (meaning s.entries y)) (chosen_so k y set (worth k t >>= λ w. the_set w)) (chosen_so l y set (worth l t >>= λ w. the_set w))
        (ap (λ o. chosen_so k y set (o >>= λ w. the_set w) >>= all_pass test) (worth_same x k l h t e) ∙ by (worth l t >>= λ w. the_set w))
      where
        by : (o : Option Values) → (chosen_so k y set o >>= all_pass test) ≡ (chosen_so l y set o >>= all_pass test)
        by None = refl
        by (Some part) = all_same test s x k l h same y (filter (λ v. is_among v part) set)

-- ---- all fields

fields_same : (x : Name) (fs : List FieldPhrase) (sets : List Values) (s : Scope) (k l : Known) → Agree x k l → is_used x fs sets ≡ false → fields_pass fs sets (at s k) ≡ fields_pass fs sets (at s l)
unfolding fields_pass is_used
fields_same x [] sets s k l h e = refl
fields_same x (f ∷ fs) [] s k l h e = refl
fields_same x (f ∷ fs) ([] ∷ sets) s k l h e = empty_same x (fields_pass fs sets) s k l h f e
fields_same x (f ∷ fs) ((u ∷ us) ∷ sets) s k l h e =
    let q = or_false (is_within x f) (is_used x fs sets) e in
    field_same x (fields_pass fs sets) s k l h (λ m n g. fields_same x fs sets s m n g q.1) f (u ∷ us) q.0

-- an input that the fields don't use
unused : (x : Name) (v : FieldValue) (fs : List FieldPhrase) (sets : List Values) (s : Scope) → is_used x fs sets ≡ false → fields_pass fs sets (with_input s x v) ≡ fields_pass fs sets s
unused x v fs sets s e = fields_same x fs sets s (plus s.known x v) s.known (λ n g. ap (λ b. cond b (Some (one v)) (s.known n)) g) e

-- ---- an input with each of these values, or without

once : (o : Checked) → (o >>= λ u. o) ≡ o
once None = refl
once (Some u) = refl

pub ended : (o : Checked) → (o >>= λ u. Some tt) ≡ o
ended None = refl
ended (Some u) = refl

pub each_of : (test : Scope → Checked) (s : Scope) (x : Name) (vs : Values) → all_pass test (map (with_input s x) vs) ≡ all_pass (λ v. test (with_input s x v)) vs
unfolding all_pass
each_of test s x [] = refl
each_of test s x (v ∷ vs) = ap (λ (o : Checked). test (with_input s x v) >>= λ u. o) (each_of test s x vs)

without : (x : Name) (fs : List FieldPhrase) (sets : List Values) (s : Scope) (v : FieldValue) (vs : Values) → is_used x fs sets ≡ false → all_pass (fields_pass fs sets) (map (with_input s x) (v ∷ vs)) ≡ fields_pass fs sets s
unfolding all_pass
without x fs sets s v [] e = ended (fields_pass fs sets (with_input s x v)) ∙ unused x v fs sets s e
without x fs sets s v (w ∷ vs) e =
    ap₂ (λ (o r : Checked). o >>= λ u. r) (unused x v fs sets s e) (without x fs sets s w vs e) ∙ once (fields_pass fs sets s)

-- where there is some value
pub without_values : (x : Name) (fs : List FieldPhrase) (sets : List Values) (s : Scope) (vs : Values) → 1 ≤ length vs → is_used x fs sets ≡ false → all_pass (fields_pass fs sets) (map (with_input s x) vs) ≡ fields_pass fs sets s
without_values x fs sets s [] l e = absurd (omega (arith, l))
without_values x fs sets s (v ∷ vs) l e = without x fs sets s v vs e
