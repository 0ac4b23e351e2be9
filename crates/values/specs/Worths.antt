-- What phrases for values, for sets of values and for truths mean.
use Rattle.std.specs.Prelude.{List, [], ◌∷◌, Bool, true, false, not, Option, Some, None, if◌then◌else◌, ℤ, pos, ◌+ℤ◌, ◌-ℤ◌, ◌*ℤ◌, int_lt, int_le}
use Rattle.alphabet.specs.Channels.{FieldValue, number, constant, Values}
use Rattle.syntax.specs.declared.operator.Operator.{Operator}
use Rattle.syntax.specs.declared.operator.Operator.TheVariants as operators
use Rattle.syntax.specs.declared.form.Form.{Form}
use Rattle.syntax.specs.declared.form.Form.TheVariants as forms
use Rattle.syntax.specs.Grammar.{Syntax, Called, Numeral, Node, Syntaxes, NoSyntax, MoreSyntax}
use Rattle.values.specs.Values.{◌>>=◌, Name, is_same, limited, remainder, set_of, union, intersection, difference, fitting_set, range}

-- what a phrase means: one value, a set of values in order, or a truth
pub data Worth : Type 0 where
  one : FieldValue → Worth
  many : Values → Worth
  truth : Bool → Worth

-- what names mean
abbrev pub Known : Type 0
Known = Name → Option Worth

unfoldable pub the_value : Worth → Option FieldValue
the_value (one v) = Some v
the_value (many vs) = None
the_value (truth b) = None

unfoldable pub the_number : Worth → Option ℤ
the_number (one (number z)) = Some z
the_number (one (constant n)) = None
the_number (many vs) = None
the_number (truth b) = None

unfoldable pub the_set : Worth → Option Values
the_set (one v) = None
the_set (many vs) = Some vs
the_set (truth b) = None

unfoldable pub the_truth : Worth → Option Bool
the_truth (one v) = None
the_truth (many vs) = None
the_truth (truth b) = Some b

unfoldable pub the_only : List Worth → Option Worth
the_only (w ∷ []) = Some w
the_only ws = None

unfoldable pub the_two : List Worth → Option (Worth × Worth)
the_two (w ∷ x ∷ []) = Some (w, x)
the_two ws = None

unfoldable pub two_numbers : List Worth → Option (ℤ × ℤ)
two_numbers ws = the_two ws >>= λ p. the_number p.0 >>= λ y. the_number p.1 >>= λ z. Some (y, z)

unfoldable pub two_sets : List Worth → Option (Values × Values)
two_sets ws = the_two ws >>= λ p. the_set p.0 >>= λ vs. the_set p.1 >>= λ us. Some (vs, us)

unfoldable pub all_values : List Worth → Option Values
all_values [] = Some []
all_values (w ∷ ws) = all_values ws >>= λ vs. the_value w >>= λ v. Some (v ∷ vs)

-- the set of the values in a list
unfoldable pub set_of_all : List Worth → Option Values
set_of_all ws = all_values ws >>= λ vs. Some (set_of vs)

unfoldable pub nothing_of : List Worth → Option Worth
nothing_of [] = Some (many [])
nothing_of (w ∷ ws) = None

-- what `+`, `-`, `*` and `%` make of two numbers
unfoldable pub calculated : Operator → ℤ → ℤ → Option ℤ
calculated operators.Plus y z = limited (y +ℤ z)
calculated operators.Minus y z = limited (y -ℤ z)
calculated operators.Times y z = limited (y *ℤ z)
calculated operators.Remainder y z = remainder y z
calculated op y z = None

-- the same of what their sides mean
unfoldable pub computed : Operator → List Worth → Option Worth
computed op ws = two_numbers ws >>= λ p. calculated op p.0 p.1 >>= λ z. Some (one (number z))

-- two numbers, two constants or two truths are the same
unfoldable pub are_same : Worth → Worth → Option Bool
are_same (one (number y)) (one (number z)) = Some (is_same (number y) (number z))
are_same (one (constant m)) (one (constant n)) = Some (is_same (constant m) (constant n))
are_same (truth a) (truth b) = Some (if a then b else not b)
are_same v w = None

-- two numbers, the first of which is below the second
unfoldable pub is_less : Worth → Worth → Option Bool
is_less v w = the_number v >>= λ y. the_number w >>= λ z. Some (int_lt y z)

-- two numbers, the first of which is at most the second
unfoldable pub is_at_most : Worth → Worth → Option Bool
is_at_most v w = the_number v >>= λ y. the_number w >>= λ z. Some (int_le y z)

-- what a comparison makes of its sides
unfoldable pub compared : Operator → Worth → Worth → Option Bool
compared operators.Equal v w = are_same v w
compared operators.NotEqual v w = are_same v w >>= λ b. Some (not b)
compared operators.Less v w = is_less v w
compared operators.LessOrEqual v w = is_at_most v w
compared operators.Greater v w = is_less w v
compared operators.GreaterOrEqual v w = is_at_most w v
compared op v w = None

-- the operators of comparisons
unfoldable pub is_comparison : Operator → Bool
is_comparison operators.Equal = true
is_comparison operators.NotEqual = true
is_comparison operators.Less = true
is_comparison operators.LessOrEqual = true
is_comparison operators.Greater = true
is_comparison operators.GreaterOrEqual = true
is_comparison op = false

-- the truth that a comparison makes of what its sides mean
unfoldable pub comparison : Operator → List Worth → Option Worth
comparison op ws = the_two ws >>= λ p. compared op p.0 p.1 >>= λ b. Some (truth b)

-- what an operator makes of what its sides mean
unfoldable pub operated : Operator → List Worth → Option Worth
operated op ws = if is_comparison op then comparison op ws else computed op ws

-- a truth, of no parts
unfoldable pub truth_of : Bool → List Worth → Option Worth
truth_of b [] = Some (truth b)
truth_of b (w ∷ ws) = None

-- the other truth
unfoldable pub negated_truth : List Worth → Option Worth
negated_truth ws = the_only ws >>= λ w. the_truth w >>= λ b. Some (truth (not b))

-- the number with its sign turned
unfoldable pub negated : List Worth → Option Worth
negated ws = the_only ws >>= λ w. the_number w >>= λ y. limited (pos 0 -ℤ y) >>= λ z. Some (one (number z))

unfoldable pub set_with : List Worth → Option Worth
set_with ws = set_of_all ws >>= λ vs. fitting_set vs >>= λ us. Some (many us)

unfoldable pub range_with : List Worth → Option Worth
range_with ws = two_numbers ws >>= λ p. range p.0 p.1 >>= λ vs. Some (many vs)

unfoldable pub union_with : List Worth → Option Worth
union_with ws = two_sets ws >>= λ p. fitting_set (union p.0 p.1) >>= λ vs. Some (many vs)

unfoldable pub intersection_with : List Worth → Option Worth
intersection_with ws = two_sets ws >>= λ p. Some (many (intersection p.0 p.1))

unfoldable pub difference_with : List Worth → Option Worth
difference_with ws = two_sets ws >>= λ p. Some (many (difference p.0 p.1))

-- what a form makes of what its parts mean
unfoldable pub formed : Form → List Worth → Option Worth
formed forms.Event ws = the_only ws
formed forms.Brackets ws = the_only ws
formed forms.Negation ws = negated ws
formed forms.NegativeNumber ws = negated ws
formed forms.True ws = truth_of true ws
formed forms.False ws = truth_of false ws
formed forms.Not ws = negated_truth ws
formed (forms.Operation op) ws = operated op ws
formed forms.EmptySet ws = nothing_of ws
formed forms.Set ws = set_with ws
formed forms.Range ws = range_with ws
formed forms.Union ws = union_with ws
formed forms.Intersection ws = intersection_with ws
formed forms.Difference ws = difference_with ws
formed f ws = None

-- a truth, and nothing where it is of another kind
unfoldable pub truth_only : Option Worth → Option Worth
truth_only o = o >>= λ w. the_truth w >>= λ b. Some (truth b)

unfoldable mutual
  -- what a phrase means; what is left of a condition isn't looked at where it doesn't decide
  pub worth : Known → Syntax → Option Worth
  worth known (Called n) = known n
  worth known (Numeral n) = limited (pos n) >>= λ z. Some (one (number z))
  worth known (Node forms.If (MoreSyntax c (MoreSyntax t (MoreSyntax u NoSyntax)))) = worth known c >>= λ w. the_truth w >>= λ b. if b then worth known t else worth known u
  worth known (Node (forms.Operation operators.And) (MoreSyntax t (MoreSyntax u NoSyntax))) = worth known t >>= λ w. the_truth w >>= λ b. if b then truth_only (worth known u) else Some (truth false)
  worth known (Node (forms.Operation operators.Or) (MoreSyntax t (MoreSyntax u NoSyntax))) = worth known t >>= λ w. the_truth w >>= λ b. if b then Some (truth true) else truth_only (worth known u)
  worth known (Node f ts) = worths known ts >>= λ ws. formed f ws

  -- what each of them means
  pub worths : Known → Syntaxes → Option (List Worth)
  worths known NoSyntax = Some []
  worths known (MoreSyntax t ts) = worth known t >>= λ w. worths known ts >>= λ ws. Some (w ∷ ws)

-- the truth that a phrase means
unfoldable pub condition : Known → Syntax → Option Bool
condition known t = worth known t >>= λ w. the_truth w

-- the forms of which not all parts are looked at
unfoldable pub is_lazy : Form → Bool
is_lazy forms.If = true
is_lazy (forms.Operation operators.And) = true
is_lazy (forms.Operation operators.Or) = true
is_lazy f = false
