-- What is entered of the declarations of a form, by how many parts there are.
use Rattle.std.proofs.Common.{◌≡◌, ◌≢◌, List, length, None, ap, refl}
use Rattle.syntax.specs.declared.form.Form.{Form}
use Rattle.syntax.specs.declared.form.Form.TheVariants as forms
use Rattle.syntax.specs.declared.tree.Tree.{Tree}
use Rattle.syntax.specs.Parsing.{syntaxes}
use Rattle.syntax.specs.View.{shapes}
use Rattle.syntax.specs.Grammar.{Syntax, Syntaxes, NoSyntax, MoreSyntax}
use Rattle.values.specs.Values.{◌>>=◌}
use Rattle.values.specs.Names.{Entry}
use Rattle.declared_names.specs.Steps.{only_of, two_of, three_of}
use Rattle.declared_names.specs.Entering.{put_channels, put_fielded, put_typed, put_defined, put_parametric, put_form}
use Rattle.declared_names.proofs.Shapes.{not_only, not_two, not_three}

abbrev one : Syntax → Syntaxes
one t = MoreSyntax t NoSyntax

abbrev two : Syntax → Syntax → Syntaxes
two t u = MoreSyntax t (one u)

abbrev three : Syntax → Syntax → Syntax → Syntaxes
three t u v = MoreSyntax t (two u v)

-- ---- the forms of declarations

module _ (es : List Entry) (f : Form) where
  pub in_channels : (t : Syntax) → f ≡ forms.Channels → put_form es f (one t) ≡ put_channels es t NoSyntax
  unfolding put_form only_of
  in_channels t h = ap (λ g. put_form es g (one t)) h

  pub in_fielded : (t u : Syntax) → f ≡ forms.ChannelsWithFields → put_form es f (two t u) ≡ put_fielded es t u
  unfolding put_form two_of
  in_fielded t u h = ap (λ g. put_form es g (two t u)) h

  pub in_datatype : (t u : Syntax) → f ≡ forms.Datatype → put_form es f (two t u) ≡ put_typed es t u
  unfolding put_form two_of
  in_datatype t u h = ap (λ g. put_form es g (two t u)) h

  pub in_definition : (t u : Syntax) → f ≡ forms.Definition → put_form es f (two t u) ≡ put_defined es t u
  unfolding put_form two_of
  in_definition t u h = ap (λ g. put_form es g (two t u)) h

  pub in_parametric : (t u v : Syntax) → f ≡ forms.DefinitionWithParameters → put_form es f (three t u v) ≡ put_parametric es t u v
  unfolding put_form three_of
  in_parametric t u v h = ap (λ g. put_form es g (three t u v)) h

-- ---- other forms

pub not_channels : (es : List Entry) (f : Form) (t : Syntax) → (f ≡ forms.Channels → ⊥) → put_form es f (one t) ≡ None
unfolding put_form two_of three_of
not_channels es forms.Channels t n = absurd (n refl)
not_channels es f t n = refl

pub none_of_two : (es : List Entry) (f : Form) (t u : Syntax) → (f ≡ forms.ChannelsWithFields → ⊥) → (f ≡ forms.Datatype → ⊥) → (f ≡ forms.Definition → ⊥) → put_form es f (two t u) ≡ None
unfolding put_form only_of three_of
none_of_two es forms.ChannelsWithFields t u a b c = absurd (a refl)
none_of_two es forms.Datatype t u a b c = absurd (b refl)
none_of_two es forms.Definition t u a b c = absurd (c refl)
none_of_two es f t u a b c = refl

pub not_parametric : (es : List Entry) (f : Form) (t u v : Syntax) → (f ≡ forms.DefinitionWithParameters → ⊥) → put_form es f (three t u v) ≡ None
unfolding put_form only_of two_of
not_parametric es forms.DefinitionWithParameters t u v n = absurd (n refl)
not_parametric es f t u v n = refl

none_of_these : (es : List Entry) (f : Form) (ts : Syntaxes) → only_of ts ≡ None → two_of ts ≡ None → three_of ts ≡ None → put_form es f ts ≡ None
unfolding put_form
none_of_these es forms.Channels ts a b c = ap (λ o. o >>= λ t. put_channels es t NoSyntax) a
none_of_these es forms.ChannelsWithFields ts a b c = ap (λ o. o >>= λ p. put_fielded es p.0 p.1) b
none_of_these es forms.Datatype ts a b c = ap (λ o. o >>= λ p. put_typed es p.0 p.1) b
none_of_these es forms.Definition ts a b c = ap (λ o. o >>= λ p. put_defined es p.0 p.1) b
none_of_these es forms.DefinitionWithParameters ts a b c = ap (λ o. o >>= λ p. put_parametric es p.0 p.1 p.2) c
none_of_these es f ts a b c = refl

-- another number of parts
pub other_number : {A : Type 0} (es : List Entry) (f : Form) (ts : List (Tree A)) → (length ts ≢ 1) → (length ts ≢ 2) → (length ts ≢ 3) → put_form es f (syntaxes (shapes ts)) ≡ None
other_number es f ts a b c = none_of_these es f (syntaxes (shapes ts)) (not_only ts a) (not_two ts b) (not_three ts c)
