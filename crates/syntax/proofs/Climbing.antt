-- Going on after an operand: where no operator follows, and where one does.
use Rattle.std.proofs.Common.{◌≡◌, ℕ, zero, suc, ◌<◌, ◌≤◌, List, [], ◌∷◌, ◌++◌, Bool, true, false, cond, Option, Some, None, refl, ap, ◌∙◌, arith, ◌&&◌}
use Rattle.std.specs.Prelude.{nat_lt, nat_le}
use Rattle.std.proofs.lemmas.Bool.{lt-ltb, leb-true, le-leb}
use Rattle.tokens.specs.Lexeme.{Lexeme}
use Rattle.syntax.specs.declared.operator.Operator.{Operator}
use Rattle.syntax.specs.Operators.{opening, level}
use Rattle.syntax.specs.Grammar.{Syntax, spell_signs, height_of, left_fits}
use Rattle.syntax.specs.Parsing.{◌>>=◌, Reader, operator_at, next_operator, may_begin, grown, climb_on, climb}
use Rattle.syntax.proofs.Table.{operator_row, some_operator}

-- what comes next goes on with no phrase of this level
abbrev pub Stops : ℕ → List Lexeme → Type 0
Stops l toks = (op : Operator) (rest : List Lexeme) → operator_at toks ≡ some_operator op rest → l < level op

pub stops_tighter : (k l : ℕ) (toks : List Lexeme) → k ≤ l → Stops l toks → Stops k toks
stops_tighter k l toks h s op rest e = omega (arith, s op rest e)

next_is : (l : ℕ) (left : Syntax) (op : Operator) (rest : List Lexeme) → level op ≤ l → left_fits op left ≡ true → next_operator l left (spell_signs (opening op ∷ []) ++ rest) ≡ some_operator op rest
unfolding next_operator
next_is l left op rest h f =
    let low : nat_le (level op) l ≡ true = le-leb _ _ h in
    ap (λ (o : Option (Operator × List Lexeme)). o >>= λ x. cond (nat_le (level x.0) l && left_fits x.0 left) (Some x) None) ((operator_row op).known rest) ∙ rw low (rw f refl)

no_next_at : (l : ℕ) (left : Syntax) (o : Option (Operator × List Lexeme)) → ((op : Operator) (rest : List Lexeme) → o ≡ some_operator op rest → l < level op) → (o >>= λ x. cond (nat_le (level x.0) l && left_fits x.0 left) (Some x) None) ≡ None
no_next_at l left None h = refl
no_next_at l left (Some x) h = at (nat_le (level x.0) l) refl
  where
    at : (b : Bool) → nat_le (level x.0) l ≡ b → cond (b && left_fits x.0 left) (Some x) None ≡ None
    at true e = absurd (omega (arith, h x.0 x.1 refl, leb-true _ _ e))
    at false e = refl

no_next : (l : ℕ) (left : Syntax) (toks : List Lexeme) → Stops l toks → next_operator l left toks ≡ None
unfolding next_operator
no_next l left toks s = no_next_at l left (operator_at toks) s

pub climb_stops : (read : Reader) (may : Bool) (room l n : ℕ) (t : Syntax) (rest : List Lexeme) → Stops l rest → climb read may room l n t rest ≡ Some (t, rest)
unfolding climb
climb_stops read may room l zero t rest s = ap (climb_on read may (λ p t. None) 0 t rest) (no_next l t rest s)
climb_stops read may room l (suc n) t rest s = ap (climb_on read may (climb read may room l n) room t rest) (no_next l t rest s)

pub climb_goes : (read : Reader) (may : Bool) (room l n : ℕ) (p t : Syntax) (op : Operator) (toks rest : List Lexeme) → level op ≤ l → left_fits op p ≡ true → height_of p < room → may_begin may op ≡ true → grown read may op p toks ≡ Some (t, rest) → climb read may room l (suc n) p (spell_signs (opening op ∷ []) ++ toks) ≡ climb read may room l n t rest
unfolding climb
climb_goes read may room l n p t op toks rest h f low begins e =
    let lt : nat_lt (height_of p) room ≡ true = lt-ltb _ _ low in
    ap (climb_on read may (climb read may room l n) room p (spell_signs (opening op ∷ []) ++ toks)) (next_is l p op toks h f)
    ∙ rw lt (rw begins (rw e refl))
