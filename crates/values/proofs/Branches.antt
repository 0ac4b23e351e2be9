-- Phrases of which not all parts are looked at, by what their parts stand for.
use Rattle.std.proofs.Common.{◌≡◌, ◌≢◌, get_or, List, [], ◌∷◌, length, Bool, true, false, cond, Option, Some, None, refl, sym, ap, ap₂, ◌∙◌, arith}
use Rattle.std.proofs.Math.Bool.{beq}
use Rattle.alphabet.specs.Channels.{number}
use Rattle.syntax.specs.declared.tree.Tree.{Tree}
use Rattle.syntax.specs.declared.operator.Operator.TheVariants as operators
use Rattle.syntax.specs.declared.form.Form.TheVariants as forms
use Rattle.syntax.specs.Grammar.{Syntax, Node, Syntaxes, NoSyntax, MoreSyntax}
use Rattle.syntax.specs.Parsing.{syntaxes}
use Rattle.syntax.specs.View.{shape, shapes}
use Rattle.tokens.specs.declared.read_error.ReadError.{ReadError}
use Rattle.tokens.proofs.Tables.{some_of}
use Rattle.values.specs.Values.{◌>>=◌}
use Rattle.values.specs.Worths.{Worth, truth, Known, worth, worths, one, formed, operated, is_comparison, computed, calculated, two_numbers, the_truth, truth_only, condition}
use Rattle.values.specs.Lazy.{connective}
use Rattle.values.specs.View.{Fails}
use Rattle.syntax.proofs.Failing.{fails_on}
use Rattle.values.proofs.Keeps.{chosen, if_is, and_is, or_is}

bind_assoc : {X Y Z : Type 0} (o : Option X) (f : X → Option Y) (g : Y → Option Z) → (o >>= λ x. f x >>= g) ≡ ((o >>= f) >>= g)
bind_assoc None f g = refl
bind_assoc (Some x) f g = refl

bind_none : {X Y : Type 0} (o : Option X) (f : X → Option Y) → ((x : X) → f x ≡ None) → (o >>= f) ≡ None
bind_none None f h = refl
bind_none (Some x) f h = h x

-- ---- in general

pub chosen_is : (known : Known) (c : Syntax) (t u : Option Worth) → chosen (worth known c) t u ≡ (condition known c >>= λ b. cond b t u)
unfolding condition
chosen_is known c t u = bind_assoc (worth known c) (λ w. the_truth w) (λ b. cond b t u)

pub only_is : (known : Known) (t : Syntax) → truth_only (worth known t) ≡ (condition known t >>= λ b. Some (truth b))
unfolding truth_only condition
only_is known t = bind_assoc (worth known t) (λ w. the_truth w) (λ b. some_of (truth b))

-- a condition chooses a branch
pub if_by : (known : Known) (c t u : Syntax) → worth known (Node forms.If (MoreSyntax c (MoreSyntax t (MoreSyntax u NoSyntax)))) ≡ (condition known c >>= λ b. cond b (worth known t) (worth known u))
if_by known c t u = if_is known c t u ∙ chosen_is known c (worth known t) (worth known u)

-- what `and` or `or` makes of its sides where the first is this truth
abbrev connected : Bool → Option Worth → Bool → Option Worth
connected true second b = cond b (Some (truth true)) second
connected false second b = cond b second (Some (truth false))

connected_by : (known : Known) (d : Bool) (t u : Syntax) → worth known (Node (forms.Operation (connective d)) (MoreSyntax t (MoreSyntax u NoSyntax))) ≡ (condition known t >>= λ b. connected d (condition known u >>= λ b. Some (truth b)) b)
connected_by known true t u =
    or_is known t u ∙ chosen_is known t (Some (truth true)) (truth_only (worth known u)) ∙ ap (λ o. condition known t >>= λ b. connected true o b) (only_is known u)
connected_by known false t u =
    and_is known t u ∙ chosen_is known t (truth_only (worth known u)) (Some (truth false)) ∙ ap (λ o. condition known t >>= λ b. connected false o b) (only_is known u)

decided : (d b : Bool) (second : Option Worth) → beq b d ≡ true → connected d second b ≡ Some (truth b)
decided true true second h = refl
decided true false second h = absurd cc
decided false true second h = absurd cc
decided false false second h = refl

undecided : (d b : Bool) (second : Option Worth) → beq b d ≡ false → connected d second b ≡ second
undecided true true second n = absurd cc
undecided true false second n = refl
undecided false true second n = refl
undecided false false second n = absurd cc

-- ---- the parts in memory

two_in : {A : Type 0} (ts : List (Tree A)) (t u : Tree A) → length ts ≡ 2 → t ≡ get_or ts 0 t → u ≡ get_or ts 1 u → syntaxes (shapes ts) ≡ MoreSyntax (shape t) (MoreSyntax (shape u) NoSyntax)
two_in [] t u h k l = absurd (omega (arith, h))
two_in (x ∷ []) t u h k l = absurd (omega (arith, h))
two_in (x ∷ y ∷ []) t u h k l = ap₂ (λ a b. MoreSyntax (shape a) (MoreSyntax (shape b) NoSyntax)) (sym k) (sym l)
two_in (x ∷ y ∷ z ∷ ts) t u h k l = absurd (omega (arith, h))

three_in : {A : Type 0} (ts : List (Tree A)) (t u v : Tree A) → length ts ≡ 3 → t ≡ get_or ts 0 t → u ≡ get_or ts 1 u → v ≡ get_or ts 2 v → syntaxes (shapes ts) ≡ MoreSyntax (shape t) (MoreSyntax (shape u) (MoreSyntax (shape v) NoSyntax))
three_in [] t u v h k l m = absurd (omega (arith, h))
three_in (x ∷ []) t u v h k l m = absurd (omega (arith, h))
three_in (x ∷ y ∷ []) t u v h k l m = absurd (omega (arith, h))
three_in (x ∷ y ∷ z ∷ []) t u v h k l m =
    ap₂ (λ a b. MoreSyntax (shape a) (MoreSyntax (shape b) (MoreSyntax (shape z) NoSyntax))) (sym k) (sym l)
    ∙ ap (λ c. MoreSyntax (shape t) (MoreSyntax (shape u) (MoreSyntax (shape c) NoSyntax))) (sym m)
three_in (x ∷ y ∷ z ∷ w ∷ ts) t u v h k l m = absurd (omega (arith, h))

-- another number of parts

no_condition : (known : Known) (ts : Syntaxes) → (worths known ts >>= λ ws. formed forms.If ws) ≡ None
unfolding formed
no_condition known ts = bind_none (worths known ts) (λ ws. formed forms.If ws) (λ ws. refl)

no_connective : (known : Known) (d : Bool) (ts : Syntaxes) → (worths known ts >>= λ ws. formed (forms.Operation (connective d)) ws) ≡ None
unfolding formed operated is_comparison computed calculated
no_connective known true ts = bind_none (worths known ts) (λ ws. formed (forms.Operation operators.Or) ws) (λ ws. bind_none (two_numbers ws) (λ p. calculated operators.Or p.0 p.1 >>= λ z. some_of (one (number z))) (λ p. refl))
no_connective known false ts = bind_none (worths known ts) (λ ws. formed (forms.Operation operators.And) ws) (λ ws. bind_none (two_numbers ws) (λ p. calculated operators.And p.0 p.1 >>= λ z. some_of (one (number z))) (λ p. refl))

pub not_three : {A : Type 0} (known : Known) (ts : List (Tree A)) → (length ts ≢ 3) → worth known (Node forms.If (syntaxes (shapes ts))) ≡ None
unfolding worth
not_three known [] n = no_condition known NoSyntax
not_three known (x ∷ []) n = no_condition known (syntaxes (shapes (x ∷ [])))
not_three known (x ∷ y ∷ []) n = no_condition known (syntaxes (shapes (x ∷ y ∷ [])))
not_three known (x ∷ y ∷ z ∷ []) n = absurd (n refl)
not_three known (x ∷ y ∷ z ∷ w ∷ ts) n = no_condition known (syntaxes (shapes (x ∷ y ∷ z ∷ w ∷ ts)))

pub not_two : {A : Type 0} (known : Known) (d : Bool) (ts : List (Tree A)) → (length ts ≢ 2) → worth known (Node (forms.Operation (connective d)) (syntaxes (shapes ts))) ≡ None
unfolding worth
not_two known true [] n = no_connective known true NoSyntax
not_two known true (x ∷ []) n = no_connective known true (syntaxes (shapes (x ∷ [])))
not_two known true (x ∷ y ∷ []) n = absurd (n refl)
not_two known true (x ∷ y ∷ z ∷ ts) n = no_connective known true (syntaxes (shapes (x ∷ y ∷ z ∷ ts)))
not_two known false [] n = no_connective known false NoSyntax
not_two known false (x ∷ []) n = no_connective known false (syntaxes (shapes (x ∷ [])))
not_two known false (x ∷ y ∷ []) n = absurd (n refl)
not_two known false (x ∷ y ∷ z ∷ ts) n = no_connective known false (syntaxes (shapes (x ∷ y ∷ z ∷ ts)))

module _ {A : Type 0} (known : Known) (ts : List (Tree A)) where
  -- ---- conditions

  abbrev pub conditional : Option Worth
  conditional = worth known (Node forms.If (syntaxes (shapes ts)))

  module _ (c t u : Tree A) (three : length ts ≡ 3) (first : c ≡ get_or ts 0 c) (second : t ≡ get_or ts 1 t) (third : u ≡ get_or ts 2 u) where
    if_parts : conditional ≡ (condition known (shape c) >>= λ b. cond b (worth known (shape t)) (worth known (shape u)))
    if_parts = ap (λ us. worth known (Node forms.If us)) (three_in ts c t u three first second third) ∙ if_by known (shape c) (shape t) (shape u)

    pub if_fails : (k : ReadError) → Fails k (condition known (shape c)) → Fails k conditional
    if_fails k f = fails_on k (condition known (shape c)) conditional (λ e. if_parts ∙ ap (λ o. o >>= λ b. cond b (worth known (shape t)) (worth known (shape u))) e) f

    pub if_so : (b : Bool) → condition known (shape c) ≡ Some b → b ≡ true → conditional ≡ worth known (shape t)
    if_so b h e = if_parts ∙ ap (λ o. o >>= λ b. cond b (worth known (shape t)) (worth known (shape u))) (h ∙ ap some_of e)

    pub if_not : (b : Bool) → condition known (shape c) ≡ Some b → b ≡ false → conditional ≡ worth known (shape u)
    if_not b h e = if_parts ∙ ap (λ o. o >>= λ b. cond b (worth known (shape t)) (worth known (shape u))) (h ∙ ap some_of e)

  -- ---- `and` and `or`

  module _ (d : Bool) where
    abbrev pub connection : Option Worth
    connection = worth known (Node (forms.Operation (connective d)) (syntaxes (shapes ts)))

    module _ (t u : Tree A) (two : length ts ≡ 2) (first : t ≡ get_or ts 0 t) (second : u ≡ get_or ts 1 u) where
      abbrev other_side : Option Worth
      other_side = condition known (shape u) >>= λ b. some_of (truth b)

      connected_parts : connection ≡ (condition known (shape t) >>= λ b. connected d other_side b)
      connected_parts = ap (λ us. worth known (Node (forms.Operation (connective d)) us)) (two_in ts t u two first second) ∙ connected_by known d (shape t) (shape u)

      pub first_fails : (k : ReadError) → Fails k (condition known (shape t)) → Fails k connection
      first_fails k f = fails_on k (condition known (shape t)) connection (λ e. connected_parts ∙ ap (λ o. o >>= λ b. connected d other_side b) e) f

      pub first_decides : (b : Bool) → condition known (shape t) ≡ Some b → beq b d ≡ true → connection ≡ Some (truth b)
      first_decides b h e = connected_parts ∙ ap (λ o. o >>= λ b. connected d other_side b) h ∙ decided d b other_side e

      second_is : (b : Bool) → condition known (shape t) ≡ Some b → beq b d ≡ false → connection ≡ other_side
      second_is b h n = connected_parts ∙ ap (λ o. o >>= λ b. connected d other_side b) h ∙ undecided d b other_side n

      pub second_fails : (k : ReadError) (b : Bool) → condition known (shape t) ≡ Some b → beq b d ≡ false → Fails k (condition known (shape u)) → Fails k connection
      second_fails k b h n f = fails_on k (condition known (shape u)) connection (λ e. second_is b h n ∙ ap (λ o. o >>= λ b. some_of (truth b)) e) f

      pub second_decides : (b c : Bool) → condition known (shape t) ≡ Some b → beq b d ≡ false → condition known (shape u) ≡ Some c → connection ≡ Some (truth c)
      second_decides b c h n e = second_is b h n ∙ ap (λ o. o >>= λ b. some_of (truth b)) e
