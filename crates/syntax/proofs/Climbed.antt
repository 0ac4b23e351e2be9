-- What climbing reads fits, and its tokens are those that were read.
use Rattle.std.proofs.Common.{◌≡◌, ℕ, ◌≤◌, List, [], ◌∷◌, ◌++◌, true, cond, Some, None, ap, subst, ◌∙◌, ◌&&◌}
use Rattle.std.specs.Prelude.{nat_le}
use Rattle.std.proofs.lemmas.Bool.{leb-true}
use Rattle.tokens.specs.Lexeme.{Lexeme, Kept, Sign}
use Rattle.tokens.specs.declared.symbol.Symbol.{Symbol}
use Rattle.tokens.specs.declared.symbol.Symbol.TheVariants as symbols
use Rattle.tokens.specs.declared.keyword.Keyword.{Keyword}
use Rattle.tokens.specs.declared.keyword.Keyword.TheVariants as keywords
use Rattle.syntax.specs.declared.operator.Operator.{Operator}
use Rattle.syntax.specs.declared.operator.Operator.TheVariants as operators
use Rattle.syntax.specs.Operators.{opening, level, operator_of_symbol, operator_of_keyword}
use Rattle.syntax.specs.Grammar.{Syntax, spell_signs, is, left_fits}
use Rattle.syntax.specs.Parsing.{operator_of, operator_at, next_operator}
use Rattle.syntax.proofs.Table.{some_operator}
use Rattle.syntax.proofs.Sound.{bind_some, guard_some, some_of, some_is}
use Rattle.syntax.proofs.CompleteBools.{both_true}

-- ---- the operator that stands first

known_symbol : (s : Symbol) (op : Operator) (rest : List Lexeme) → operator_of_symbol s ≡ Some op → Sign s ∷ rest ≡ spell_signs (opening op ∷ []) ++ rest
unfolding operator_of_symbol spell_signs opening
known_symbol symbols.OpenRenaming op rest e = ap (λ (o : Operator). spell_signs (opening o ∷ []) ++ rest) (some_is operators.Renaming op e)
known_symbol symbols.Times op rest e = ap (λ (o : Operator). spell_signs (opening o ∷ []) ++ rest) (some_is operators.Times op e)
known_symbol symbols.Percent op rest e = ap (λ (o : Operator). spell_signs (opening o ∷ []) ++ rest) (some_is operators.Remainder op e)
known_symbol symbols.Plus op rest e = ap (λ (o : Operator). spell_signs (opening o ∷ []) ++ rest) (some_is operators.Plus op e)
known_symbol symbols.Minus op rest e = ap (λ (o : Operator). spell_signs (opening o ∷ []) ++ rest) (some_is operators.Minus op e)
known_symbol symbols.Equal op rest e = ap (λ (o : Operator). spell_signs (opening o ∷ []) ++ rest) (some_is operators.Equal op e)
known_symbol symbols.NotEqual op rest e = ap (λ (o : Operator). spell_signs (opening o ∷ []) ++ rest) (some_is operators.NotEqual op e)
known_symbol symbols.Less op rest e = ap (λ (o : Operator). spell_signs (opening o ∷ []) ++ rest) (some_is operators.Less op e)
known_symbol symbols.LessOrEqual op rest e = ap (λ (o : Operator). spell_signs (opening o ∷ []) ++ rest) (some_is operators.LessOrEqual op e)
known_symbol symbols.Greater op rest e = ap (λ (o : Operator). spell_signs (opening o ∷ []) ++ rest) (some_is operators.Greater op e)
known_symbol symbols.GreaterOrEqual op rest e = ap (λ (o : Operator). spell_signs (opening o ∷ []) ++ rest) (some_is operators.GreaterOrEqual op e)
known_symbol symbols.Arrow op rest e = ap (λ (o : Operator). spell_signs (opening o ∷ []) ++ rest) (some_is operators.Prefix op e)
known_symbol symbols.Ampersand op rest e = ap (λ (o : Operator). spell_signs (opening o ∷ []) ++ rest) (some_is operators.Guard op e)
known_symbol symbols.Semicolon op rest e = ap (λ (o : Operator). spell_signs (opening o ∷ []) ++ rest) (some_is operators.Sequence op e)
known_symbol symbols.Interrupt op rest e = ap (λ (o : Operator). spell_signs (opening o ∷ []) ++ rest) (some_is operators.Interrupt op e)
known_symbol symbols.ExternalChoice op rest e = ap (λ (o : Operator). spell_signs (opening o ∷ []) ++ rest) (some_is operators.ExternalChoice op e)
known_symbol symbols.InternalChoice op rest e = ap (λ (o : Operator). spell_signs (opening o ∷ []) ++ rest) (some_is operators.InternalChoice op e)
known_symbol symbols.OpenSharing op rest e = ap (λ (o : Operator). spell_signs (opening o ∷ []) ++ rest) (some_is operators.Sharing op e)
known_symbol symbols.OpenBracket op rest e = ap (λ (o : Operator). spell_signs (opening o ∷ []) ++ rest) (some_is operators.Alphabetised op e)
known_symbol symbols.Interleaving op rest e = ap (λ (o : Operator). spell_signs (opening o ∷ []) ++ rest) (some_is operators.Interleaving op e)
known_symbol symbols.Hiding op rest e = ap (λ (o : Operator). spell_signs (opening o ∷ []) ++ rest) (some_is operators.Hiding op e)
known_symbol s op rest e = absurd cc

known_keyword : (k : Keyword) (op : Operator) (rest : List Lexeme) → operator_of_keyword k ≡ Some op → Kept k ∷ rest ≡ spell_signs (opening op ∷ []) ++ rest
unfolding operator_of_keyword spell_signs opening
known_keyword keywords.And op rest e = ap (λ (o : Operator). spell_signs (opening o ∷ []) ++ rest) (some_is operators.And op e)
known_keyword keywords.Or op rest e = ap (λ (o : Operator). spell_signs (opening o ∷ []) ++ rest) (some_is operators.Or op e)
known_keyword k op rest e = absurd cc

known : (x : Lexeme) (op : Operator) (rest : List Lexeme) → operator_of x ≡ Some op → x ∷ rest ≡ spell_signs (opening op ∷ []) ++ rest
unfolding operator_of
known (Sign s) op rest e = known_symbol s op rest e
known (Kept k) op rest e = known_keyword k op rest e
known x op rest e = absurd cc

operator_is : (toks : List Lexeme) (y : Operator × List Lexeme) → operator_at toks ≡ Some y → toks ≡ spell_signs (opening y.0 ∷ []) ++ y.1
unfolding operator_at
operator_is (x ∷ rest) y e =
    let found = bind_some (operator_of x) (λ op. some_operator op rest) y e in
    known x found.0 rest found.1
    ∙ ap (λ (z : Operator × List Lexeme). spell_signs (opening z.0 ∷ []) ++ z.1) (some_is (found.0, rest) y found.2)
operator_is [] y e = absurd cc

pub record Goes (l : ℕ) (left : Syntax) (toks : List Lexeme) (y : Operator × List Lexeme) : Type 0 where
  pub low : level y.0 ≤ l
  pub fits : left_fits y.0 left ≡ true
  pub spelled : toks ≡ spell_signs (opening y.0 ∷ []) ++ y.1

pub next_goes : (l : ℕ) (left : Syntax) (toks : List Lexeme) (y : Operator × List Lexeme) → next_operator l left toks ≡ Some y → Goes l left toks y
unfolding next_operator
next_goes l left toks y e =
    let found = bind_some (operator_at toks) (λ x. cond (nat_le (level x.0) l && left_fits x.0 left) (Some x) None) y e in
    goes found.0 found.1 (guard_some (nat_le (level found.0.0) l && left_fits found.0.0 left) (Some found.0) y found.2)
  where
    goes : (z : Operator × List Lexeme) → operator_at toks ≡ Some z → ((nat_le (level z.0) l && left_fits z.0 left) ≡ true) × (some_of z ≡ some_of y) → Goes l left toks y
    goes z is both =
        let tests = both_true (nat_le (level z.0) l) (left_fits z.0 left) both.0 in
        subst (Goes l left toks) (some_is z y both.1) (record { low = leb-true _ _ tests.0; fits = tests.1; spelled = operator_is toks z is })
