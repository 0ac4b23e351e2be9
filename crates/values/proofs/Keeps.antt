-- What a phrase stands for by what its parts stand for, and what each such worth keeps.
use Rattle.std.proofs.Common.{◌≡◌, ℕ, ℤ, pos, List, [], ◌∷◌, Bool, true, false, Option, Some, None, cond, refl, ap, sym, ◌∙◌, subst}
use Rattle.alphabet.specs.Channels.{number}
use Rattle.syntax.specs.declared.operator.Operator.TheVariants as operators
use Rattle.syntax.specs.declared.form.Form.{Form}
use Rattle.syntax.specs.declared.form.Form.TheVariants as forms
use Rattle.syntax.specs.Grammar.{Syntax, Called, Numeral, Node, Syntaxes, NoSyntax, MoreSyntax}
use Rattle.values.specs.Values.{◌>>=◌, Name, limited}
use Rattle.values.specs.Worths.{Worth, one, truth, Known, worth, worths, formed, is_lazy, the_truth, truth_only}

pub some_same : {X : Type 0} {x y : X} → Some x ≡ Some y → x ≡ y
some_same h = cc

pub bind_some : {X Y : Type 0} (o : Option X) (f : X → Option Y) (y : Y) → (o >>= f) ≡ Some y → (x : X) × (o ≡ Some x) × (f x ≡ Some y)
bind_some None f y h = absurd cc
bind_some (Some x) f y h = (x, refl, h)

pub bind_is : {X Y : Type 0} (o : Option X) (f : X → Option Y) (x : X) (y : Y) → o ≡ Some x → f x ≡ Some y → (o >>= f) ≡ Some y
bind_is o f x y h k = ap (λ o. o >>= f) h ∙ k

-- ---- forms of which all parts are looked at

pub strict_is : (known : Known) (f : Form) (ts : Syntaxes) → is_lazy f ≡ false → worth known (Node f ts) ≡ (worths known ts >>= λ ws. formed f ws)
unfolding worth is_lazy
strict_is known forms.If ts h = absurd cc
strict_is known (forms.Operation operators.And) ts h = absurd cc
strict_is known (forms.Operation operators.Or) ts h = absurd cc
strict_is known f ts h = refl

-- ---- the lazy forms

-- what is chosen by the first, if it is a truth
abbrev pub chosen : Option Worth → Option Worth → Option Worth → Option Worth
chosen c t u = c >>= λ w. the_truth w >>= λ b. cond b t u

pub if_is : (known : Known) (c t u : Syntax) → worth known (Node forms.If (MoreSyntax c (MoreSyntax t (MoreSyntax u NoSyntax)))) ≡ chosen (worth known c) (worth known t) (worth known u)
unfolding worth
if_is known c t u = refl

pub and_is : (known : Known) (t u : Syntax) → worth known (Node (forms.Operation operators.And) (MoreSyntax t (MoreSyntax u NoSyntax))) ≡ chosen (worth known t) (truth_only (worth known u)) (Some (truth false))
unfolding worth
and_is known t u = refl

pub or_is : (known : Known) (t u : Syntax) → worth known (Node (forms.Operation operators.Or) (MoreSyntax t (MoreSyntax u NoSyntax))) ≡ chosen (worth known t) (Some (truth true)) (truth_only (worth known u))
unfolding worth
or_is known t u = refl

-- how a node's worth comes of those of its parts
pub data Parted : Form → Syntaxes → Type 0 where
  by_if : (c t u : Syntax) → Parted forms.If (MoreSyntax c (MoreSyntax t (MoreSyntax u NoSyntax)))
  by_and : (t u : Syntax) → Parted (forms.Operation operators.And) (MoreSyntax t (MoreSyntax u NoSyntax))
  by_or : (t u : Syntax) → Parted (forms.Operation operators.Or) (MoreSyntax t (MoreSyntax u NoSyntax))
  by_all : (f : Form) (ts : Syntaxes) → ((known : Known) → worth known (Node f ts) ≡ (worths known ts >>= λ ws. formed f ws)) → Parted f ts

parted_if : (ts : Syntaxes) → Parted forms.If ts
unfolding worth
parted_if (MoreSyntax c (MoreSyntax t (MoreSyntax u NoSyntax))) = by_if c t u
parted_if ts = by_all forms.If ts (λ known. refl)

parted_and : (ts : Syntaxes) → Parted (forms.Operation operators.And) ts
unfolding worth
parted_and (MoreSyntax t (MoreSyntax u NoSyntax)) = by_and t u
parted_and ts = by_all (forms.Operation operators.And) ts (λ known. refl)

parted_or : (ts : Syntaxes) → Parted (forms.Operation operators.Or) ts
unfolding worth
parted_or (MoreSyntax t (MoreSyntax u NoSyntax)) = by_or t u
parted_or ts = by_all (forms.Operation operators.Or) ts (λ known. refl)

pub parted : (f : Form) (ts : Syntaxes) → Parted f ts
unfolding is_lazy
parted forms.If ts = parted_if ts
parted (forms.Operation operators.And) ts = parted_and ts
parted (forms.Operation operators.Or) ts = parted_or ts
parted f ts = by_all f ts (λ known. strict_is known f ts refl)

-- ---- induction over phrases

-- each of the phrases has the property
abbrev pub EachPhrase : (Syntax → Type 0) → Syntaxes → Type 0
EachPhrase Q NoSyntax = Unit {0}
EachPhrase Q (MoreSyntax t ts) = Q t × EachPhrase Q ts

module _ (Q : Syntax → Type 0) (of_name : (n : Name) → Q (Called n)) (of_number : (n : ℕ) → Q (Numeral n)) (of_node : (f : Form) (ts : Syntaxes) → EachPhrase Q ts → Q (Node f ts)) where
  mutual
    pub by_parts : (t : Syntax) → Q t
    by_parts (Called n) = of_name n
    by_parts (Numeral n) = of_number n
    by_parts (Node f ts) = of_node f ts (each_by_parts ts)

    pub each_by_parts : (ts : Syntaxes) → EachPhrase Q ts
    each_by_parts NoSyntax = tt
    each_by_parts (MoreSyntax t ts) = (by_parts t, each_by_parts ts)

-- ---- what each worth keeps

-- each of the worths has the property
abbrev pub EachWorth : (Worth → Type 0) → List Worth → Type 0
EachWorth P [] = Unit {0}
EachWorth P (w ∷ ws) = P w × EachWorth P ws

pub only_truth : (o : Option Worth) (w : Worth) → truth_only o ≡ Some w → (b : Bool) × (truth b ≡ w)
unfolding truth_only
only_truth o w h =
    let (v, a, b) = bind_some o (λ w. the_truth w >>= λ b. Some (truth b)) w h in
    let (c, d, e) = bind_some (the_truth v) (λ b. Some (truth b)) w b in
    (c, some_same e)

-- A property of known names, of numbers within their limits, of truths, and of what forms make of worths that have it is one of each worth.
module _ (P : Worth → Type 0) (numbers_have : (y z : ℤ) → limited y ≡ Some z → P (one (number z))) (truths_have : (b : Bool) → P (truth b)) (forms_keep : (f : Form) (ws : List Worth) (w : Worth) → formed f ws ≡ Some w → EachWorth P ws → P w) (known : Known) (names_have : (n : Name) (w : Worth) → known n ≡ Some w → P w) where
  -- what this phrase stands for has the property
  abbrev pub Keeps : Syntax → Type 0
  Keeps t = (w : Worth) → worth known t ≡ Some w → P w

  branch_keeps : (b : Bool) (t u : Option Worth) → ((w : Worth) → t ≡ Some w → P w) → ((w : Worth) → u ≡ Some w → P w) → (w : Worth) → cond b t u ≡ Some w → P w
  branch_keeps true t u h k w e = h w e
  branch_keeps false t u h k w e = k w e

  side_keeps : (o : Option Worth) (w : Worth) → truth_only o ≡ Some w → P w
  side_keeps o w e =
      let (b, is) = only_truth o w e in
      subst P is (truths_have b)

  truth_keeps : (b : Bool) (w : Worth) → Some (truth b) ≡ Some w → P w
  truth_keeps b w e = subst P (some_same e) (truths_have b)

  chosen_keeps : (c t u : Option Worth) → ((w : Worth) → t ≡ Some w → P w) → ((w : Worth) → u ≡ Some w → P w) → (w : Worth) → chosen c t u ≡ Some w → P w
  chosen_keeps c t u h k w e =
      let (v, a, d) = bind_some c (λ w. the_truth w >>= λ b. cond b t u) w e in
      let (b, f, g) = bind_some (the_truth v) (λ b. cond b t u) w d in
      branch_keeps b t u h k w g

  node_keeps : (f : Form) (ts : Syntaxes) → Parted f ts → EachPhrase Keeps ts → ((ws : List Worth) → worths known ts ≡ Some ws → EachWorth P ws) → Keeps (Node f ts)
  node_keeps _ _ (by_if c t u) parts all w e =
      chosen_keeps (worth known c) (worth known t) (worth known u) parts.1.0 parts.1.1.0 w (sym (if_is known c t u) ∙ e)
  node_keeps _ _ (by_and t u) parts all w e =
      chosen_keeps (worth known t) (truth_only (worth known u)) (Some (truth false)) (side_keeps (worth known u)) (truth_keeps false) w (sym (and_is known t u) ∙ e)
  node_keeps _ _ (by_or t u) parts all w e =
      chosen_keeps (worth known t) (Some (truth true)) (truth_only (worth known u)) (truth_keeps true) (side_keeps (worth known u)) w (sym (or_is known t u) ∙ e)
  node_keeps _ _ (by_all f ts is) parts all w e =
      let (ws, a, b) = bind_some (worths known ts) (λ ws. formed f ws) w (sym (is known) ∙ e) in
      forms_keep f ws w b (all ws a)

  each_keeps : (ts : Syntaxes) → EachPhrase Keeps ts → (ws : List Worth) → worths known ts ≡ Some ws → EachWorth P ws
  unfolding worths
  each_keeps NoSyntax h ws e = subst (EachWorth P) (some_same e) tt
  each_keeps (MoreSyntax t ts) h ws e =
      let (w, a, b) = bind_some (worth known t) (λ w. worths known ts >>= λ ws. Some (w ∷ ws)) ws e in
      let (us, c, d) = bind_some (worths known ts) (λ ws. Some (w ∷ ws)) ws b in
      subst (EachWorth P) (some_same d) (h.0 w a, each_keeps ts h.1 us c)

  number_keeps : (n : ℕ) → Keeps (Numeral n)
  unfolding worth
  number_keeps n w e =
      let (z, a, b) = bind_some (limited (pos n)) (λ z. Some (one (number z))) w e in
      subst P (some_same b) (numbers_have (pos n) z a)

  name_keeps : (n : Name) → Keeps (Called n)
  unfolding worth
  name_keeps n w e = names_have n w e

  pub worth_keeps : (t : Syntax) (w : Worth) → worth known t ≡ Some w → P w
  worth_keeps t = by_parts Keeps name_keeps number_keeps (λ f ts parts. node_keeps f ts (parted f ts) parts (each_keeps ts parts)) t
