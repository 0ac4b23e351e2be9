-- Roots, and the bodies below them.
use Rattle.std.proofs.Common.{◌≡◌, ◌≢◌, ℕ, suc, inl, inr, arith, List, [], ◌∷◌, length, nat_eq, Bool, true, false, ◌&&◌, None, cond, refl, ap}
use Rattle.std.proofs.lemmas.Bool.Decides.{eqb_tells}
use Rattle.syntax.specs.declared.form.Form.TheVariants as forms
use Rattle.syntax.specs.Grammar.{Syntax, Called, Node, NoSyntax, MoreSyntax}
use Rattle.event_phrases.specs.Forms.{one_of, name_of, if_none, read_by, parts_by}
use Rattle.values.specs.Values.{Name}
use Rattle.values.specs.declared.value.Value.{Value}
use Rattle.event_phrases.specs.Scopes.{Scope}
use Rattle.event_phrases.specs.View.{listed}
use Rattle.denotation.specs.Bodies.{Key}
use Rattle.denotation.specs.Denotes.{named, phrased, body_of, is_nameless, body_under, name_called, root_by, root_of}
use Rattle.denotation.specs.declared.forms.Phrase.{Phrase as Held}
use Rattle.denotation.specs.declared.forms.Phrase.TheVariants as phrases
use Rattle.denotation.specs.Shapes.{plain}
use Rattle.denotation.specs.Phrases.{phrase_of, form_phrase, denoted}

some_more : (n : ℕ) → nat_eq (suc n) 0 ≡ false
some_more n = elim (eqb_tells (suc n) 0) [ inl p ↦ absurd (omega (arith, p.1)) | inr p ↦ p.0 ]

pub nameless : {A : Type 0} (n : Name) (vs : List (Value A)) → (nat_eq (length n) 0 && nat_eq (length vs) 0) ≡ is_nameless (n, listed vs)
unfolding is_nameless
nameless [] [] = refl
nameless [] (v ∷ vs) = some_more (length vs)
nameless (c ∷ n) vs = ap (λ b. b && nat_eq (length vs) 0) (some_more (length n))

pub below_phrase : (t : Syntax) (s : Scope) (k : Key) → is_nameless k ≡ true → body_under (phrased t) s k ≡ denoted (phrase_of t) s
unfolding body_under
below_phrase t s k h = ap (λ b. cond b (denoted (phrase_of t) s) (body_of s k)) h

pub below_others : (t : Syntax) (s : Scope) (k : Key) → is_nameless k ≡ false → body_under (phrased t) s k ≡ body_of s k
unfolding body_under
below_others t s k h = ap (λ b. cond b (denoted (phrase_of t) s) (body_of s k)) h

-- a phrase that is no name
pub no_name : {A : Type 0} (p : Held A) → ((n : _) → p ≢ phrases.Called n) → name_called (plain p) ≡ None
unfolding name_called
no_name (phrases.Called n) h = absurd (h n refl)
no_name phrases.Stop h = refl
no_name p h = refl

pub name_root : (n : Name) → root_of (Node forms.Event (MoreSyntax (Called n) NoSyntax)) ≡ named n
unfolding root_by name_called read_by parts_by form_phrase one_of name_of if_none
name_root n = refl
