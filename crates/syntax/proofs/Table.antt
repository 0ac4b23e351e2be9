-- What the table of operators says, an operator at a time, and what follows for all.
use Rattle.std.proofs.Common.{◌≡◌, ◌<◌, ◌≤◌, List, [], ◌∷◌, ◌++◌, Option, Some, refl, arith, ◌⊎◌, inl, inr}
use Rattle.std.proofs.lemmas.Bool.{cases_lt}
use Rattle.tokens.specs.Lexeme.{Lexeme}
use Rattle.syntax.specs.declared.operator.Operator.{Operator}
use Rattle.syntax.specs.declared.operator.Operator.TheVariants as operators
use Rattle.syntax.specs.Operators.{opening, level, left_limit, right_limit, operator_of_symbol, operator_of_keyword}
use Rattle.syntax.specs.Grammar.{spell_signs}
use Rattle.syntax.specs.Parsing.{operator_of, operator_at}

abbrev pub some_operator : Operator → List Lexeme → Option (Operator × List Lexeme)
some_operator op rest = Some (op, rest)

-- a row of the table
pub record OperatorRow (op : Operator) : Type 0 where
  pub known : (rest : List Lexeme) → operator_at (spell_signs (opening op ∷ []) ++ rest) ≡ some_operator op rest
  pub tight : 0 < level op
  pub loosest : level op ≤ 16
  pub left : left_limit op ≤ level op
  pub right : right_limit op ≤ level op
  -- only the operators of level 9 group to the right, and none of them takes another of them on its left
  pub groups : (right_limit op < level op) ⊎ ((level op ≡ 9) × (left_limit op < 9))
  pub others : (level op ≡ 9) → left_limit op < 9

pub operator_row : (op : Operator) → OperatorRow op
unfolding opening level left_limit right_limit operator_of_symbol operator_of_keyword operator_of operator_at spell_signs
operator_row operators.Renaming = record { known = λ rest. refl; tight = omega arith; loosest = omega arith; left = omega arith; right = omega arith; groups = inl (omega arith); others = λ e. absurd (omega (arith, e)) }
operator_row operators.Times = record { known = λ rest. refl; tight = omega arith; loosest = omega arith; left = omega arith; right = omega arith; groups = inl (omega arith); others = λ e. absurd (omega (arith, e)) }
operator_row operators.Remainder = record { known = λ rest. refl; tight = omega arith; loosest = omega arith; left = omega arith; right = omega arith; groups = inl (omega arith); others = λ e. absurd (omega (arith, e)) }
operator_row operators.Plus = record { known = λ rest. refl; tight = omega arith; loosest = omega arith; left = omega arith; right = omega arith; groups = inl (omega arith); others = λ e. absurd (omega (arith, e)) }
operator_row operators.Minus = record { known = λ rest. refl; tight = omega arith; loosest = omega arith; left = omega arith; right = omega arith; groups = inl (omega arith); others = λ e. absurd (omega (arith, e)) }
operator_row operators.Equal = record { known = λ rest. refl; tight = omega arith; loosest = omega arith; left = omega arith; right = omega arith; groups = inl (omega arith); others = λ e. absurd (omega (arith, e)) }
operator_row operators.NotEqual = record { known = λ rest. refl; tight = omega arith; loosest = omega arith; left = omega arith; right = omega arith; groups = inl (omega arith); others = λ e. absurd (omega (arith, e)) }
operator_row operators.Less = record { known = λ rest. refl; tight = omega arith; loosest = omega arith; left = omega arith; right = omega arith; groups = inl (omega arith); others = λ e. absurd (omega (arith, e)) }
operator_row operators.LessOrEqual = record { known = λ rest. refl; tight = omega arith; loosest = omega arith; left = omega arith; right = omega arith; groups = inl (omega arith); others = λ e. absurd (omega (arith, e)) }
operator_row operators.Greater = record { known = λ rest. refl; tight = omega arith; loosest = omega arith; left = omega arith; right = omega arith; groups = inl (omega arith); others = λ e. absurd (omega (arith, e)) }
operator_row operators.GreaterOrEqual = record { known = λ rest. refl; tight = omega arith; loosest = omega arith; left = omega arith; right = omega arith; groups = inl (omega arith); others = λ e. absurd (omega (arith, e)) }
operator_row operators.And = record { known = λ rest. refl; tight = omega arith; loosest = omega arith; left = omega arith; right = omega arith; groups = inl (omega arith); others = λ e. absurd (omega (arith, e)) }
operator_row operators.Or = record { known = λ rest. refl; tight = omega arith; loosest = omega arith; left = omega arith; right = omega arith; groups = inl (omega arith); others = λ e. absurd (omega (arith, e)) }
operator_row operators.Prefix = record { known = λ rest. refl; tight = omega arith; loosest = omega arith; left = omega arith; right = omega arith; groups = inr (refl, omega arith); others = λ e. omega arith }
operator_row operators.Guard = record { known = λ rest. refl; tight = omega arith; loosest = omega arith; left = omega arith; right = omega arith; groups = inr (refl, omega arith); others = λ e. omega arith }
operator_row operators.Sequence = record { known = λ rest. refl; tight = omega arith; loosest = omega arith; left = omega arith; right = omega arith; groups = inl (omega arith); others = λ e. absurd (omega (arith, e)) }
operator_row operators.Interrupt = record { known = λ rest. refl; tight = omega arith; loosest = omega arith; left = omega arith; right = omega arith; groups = inl (omega arith); others = λ e. absurd (omega (arith, e)) }
operator_row operators.ExternalChoice = record { known = λ rest. refl; tight = omega arith; loosest = omega arith; left = omega arith; right = omega arith; groups = inl (omega arith); others = λ e. absurd (omega (arith, e)) }
operator_row operators.InternalChoice = record { known = λ rest. refl; tight = omega arith; loosest = omega arith; left = omega arith; right = omega arith; groups = inl (omega arith); others = λ e. absurd (omega (arith, e)) }
operator_row operators.Sharing = record { known = λ rest. refl; tight = omega arith; loosest = omega arith; left = omega arith; right = omega arith; groups = inl (omega arith); others = λ e. absurd (omega (arith, e)) }
operator_row operators.Alphabetised = record { known = λ rest. refl; tight = omega arith; loosest = omega arith; left = omega arith; right = omega arith; groups = inl (omega arith); others = λ e. absurd (omega (arith, e)) }
operator_row operators.Interleaving = record { known = λ rest. refl; tight = omega arith; loosest = omega arith; left = omega arith; right = omega arith; groups = inl (omega arith); others = λ e. absurd (omega (arith, e)) }
operator_row operators.Hiding = record { known = λ rest. refl; tight = omega arith; loosest = omega arith; left = omega arith; right = omega arith; groups = inl (omega arith); others = λ e. absurd (omega (arith, e)) }

-- what stands on the left of an operator ends before it
pub ends_before : (inner outer : Operator) → level inner ≤ left_limit outer → right_limit inner < level outer
ends_before inner outer h = ends (operator_row inner) (operator_row outer) (operator_row inner).groups
  where
    ends : OperatorRow inner → OperatorRow outer → (right_limit inner < level inner) ⊎ ((level inner ≡ 9) × (left_limit inner < 9)) → right_limit inner < level outer
    ends i o (inl lt) = omega (arith, o.left)
    ends i o (inr e) = elim (cases_lt 9 (level outer)) [
      | inl lt ↦ omega (arith, e.0, i.right)
      | inr le ↦ absurd (omega (arith, e.0, o.left, o.others (omega (arith, e.0, o.left))))
    ]
