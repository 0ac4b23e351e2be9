-- What ends a part: which tokens may come after it.
use Rattle.std.proofs.Common.{◌≡◌, ℕ, List, [], ◌∷◌, Bool, true, false, cond, not, ◌&&◌, Option, Some, None, refl, sym, ap, ◌∙◌}
use Rattle.tokens.specs.Lexeme.{Lexeme, Name, Number, Kept, Sign}
use Rattle.tokens.specs.declared.symbol.Symbol.{Symbol}
use Rattle.tokens.specs.declared.symbol.Symbol.TheVariants as symbols
use Rattle.tokens.specs.declared.keyword.Keyword.{Keyword}
use Rattle.tokens.specs.declared.keyword.Keyword.TheVariants as keywords
use Rattle.syntax.specs.declared.operator.Operator.{Operator}
use Rattle.syntax.specs.declared.piece.Sign.{Sign as Signs}
use Rattle.syntax.specs.declared.piece.Sign.TheVariants as signs
use Rattle.syntax.specs.declared.piece.Fields.{Fields}
use Rattle.syntax.specs.declared.piece.Fields.TheVariants as fields
use Rattle.syntax.specs.declared.piece.Kind.{Kind}
use Rattle.syntax.specs.declared.piece.Kind.TheVariants as kinds
use Rattle.syntax.specs.Operators.{operator_of_symbol, operator_of_keyword}
use Rattle.syntax.specs.Grammar.{sign_lexeme}
use Rattle.syntax.specs.Parsing.{◌>>=◌, is_sign, after, begins_field, operator_of, operator_at}
use Rattle.syntax.proofs.Table.{some_operator}
use Rattle.syntax.proofs.Climbing.{Stops}
use Rattle.syntax.proofs.CompleteBools.{both_true}

-- ---- tokens that go on with nothing

unfoldable pub quiet_symbol : Symbol → Bool
quiet_symbol symbols.LeftArrow = true
quiet_symbol symbols.CloseSharing = true
quiet_symbol symbols.DoubleBar = true
quiet_symbol symbols.CloseBracket = true
quiet_symbol symbols.CloseRenaming = true
quiet_symbol symbols.CloseBrace = true
quiet_symbol symbols.CloseEvents = true
quiet_symbol symbols.CloseParenthesis = true
quiet_symbol symbols.Range = true
quiet_symbol symbols.Comma = true
quiet_symbol symbols.At = true
quiet_symbol s = false

unfoldable pub quiet_keyword : Keyword → Bool
quiet_keyword keywords.Then = true
quiet_keyword keywords.Else = true
quiet_keyword keywords.Channel = true
quiet_keyword keywords.Datatype = true
quiet_keyword k = false

-- no phrase goes on there
unfoldable pub quiet : List Lexeme → Bool
quiet [] = true
quiet (Name n ∷ rest) = true
quiet (Number n ∷ rest) = false
quiet (Kept k ∷ rest) = quiet_keyword k
quiet (Sign s ∷ rest) = quiet_symbol s

-- a name goes on there neither as a call nor with the set of an input
unfoldable pub calm : List Lexeme → Bool
calm (Sign symbols.OpenParenthesis ∷ rest) = false
calm (Sign symbols.Colon ∷ rest) = false
calm toks = true

-- a declaration may begin there, or the script ends
unfoldable pub declares : List Lexeme → Bool
declares [] = true
declares (Name n ∷ rest) = true
declares (Kept keywords.Channel ∷ rest) = true
declares (Kept keywords.Datatype ∷ rest) = true
declares toks = false

-- ---- what may come after a part, which is open or not

abbrev pub Behind : Fields → Bool → List Lexeme → Type 0
Behind m open_end rest = (calm rest ≡ true) × (begins_field m rest ≡ false) × (open_end ≡ true → quiet rest ≡ true)

abbrev pub NoSign : Symbol → List Lexeme → Type 0
NoSign s rest = after (signs.Symbol s) rest ≡ None

abbrev pub Follows : Kind → Bool → List Lexeme → Type 0
Follows (kinds.Phrase l) o rest = Behind fields.Any o rest × Stops l rest
Follows (kinds.Atom m) o rest = Behind m o rest
Follows kinds.Event o rest = Behind fields.Any o rest
Follows kinds.Value o rest = Behind fields.None o rest
Follows kinds.Number o rest = Unit {0}
Follows kinds.Field o rest = Behind fields.None o rest
Follows kinds.Generator o rest = Behind fields.Any o rest
Follows kinds.Generators o rest = Behind fields.Any o rest × NoSign symbols.Comma rest
Follows kinds.Pair o rest = Behind fields.Any o rest
Follows (kinds.Left op) o rest = Unit {0}
Follows kinds.Called o rest = Unit {0}
Follows kinds.Names o rest = NoSign symbols.Comma rest
Follows kinds.Constants o rest = NoSign symbols.Bar rest
Follows kinds.FieldSets o rest = Behind fields.Any o rest
Follows kinds.Declaration o rest = declares rest ≡ true
Follows kinds.Script o rest = rest ≡ []

-- ---- what follows from a quiet token

quiet_symbol_none : (s : Symbol) → quiet_symbol s ≡ true → operator_of_symbol s ≡ None
unfolding quiet_symbol operator_of_symbol
quiet_symbol_none symbols.LeftArrow e = refl
quiet_symbol_none symbols.CloseSharing e = refl
quiet_symbol_none symbols.DoubleBar e = refl
quiet_symbol_none symbols.CloseBracket e = refl
quiet_symbol_none symbols.CloseRenaming e = refl
quiet_symbol_none symbols.CloseBrace e = refl
quiet_symbol_none symbols.CloseEvents e = refl
quiet_symbol_none symbols.CloseParenthesis e = refl
quiet_symbol_none symbols.Range e = refl
quiet_symbol_none symbols.Comma e = refl
quiet_symbol_none symbols.At e = refl
quiet_symbol_none s e = absurd cc

quiet_keyword_none : (k : Keyword) → quiet_keyword k ≡ true → operator_of_keyword k ≡ None
unfolding quiet_keyword operator_of_keyword
quiet_keyword_none keywords.Then e = refl
quiet_keyword_none keywords.Else e = refl
quiet_keyword_none keywords.Channel e = refl
quiet_keyword_none keywords.Datatype e = refl
quiet_keyword_none k e = absurd cc

quiet_none : (toks : List Lexeme) → quiet toks ≡ true → operator_at toks ≡ None
unfolding quiet operator_at operator_of
quiet_none [] e = refl
quiet_none (Name n ∷ rest) e = refl
quiet_none (Number n ∷ rest) e = absurd cc
quiet_none (Kept k ∷ rest) e = ap (λ (o : Option Operator). o >>= λ op. some_operator op rest) (quiet_keyword_none k e)
quiet_none (Sign s ∷ rest) e = ap (λ (o : Option Operator). o >>= λ op. some_operator op rest) (quiet_symbol_none s e)

no_operator_stops : (l : ℕ) (toks : List Lexeme) → operator_at toks ≡ None → Stops l toks
no_operator_stops l toks n op rest e = absurd (none_some (some_operator op rest) refl (sym n ∙ e))
  where
    none_some : (o : Option (Operator × List Lexeme)) → o ≡ some_operator op rest → None ≡ o → ⊥
    none_some o e f = cc

pub quiet_stops : (l : ℕ) (toks : List Lexeme) → quiet toks ≡ true → Stops l toks
quiet_stops l toks e = no_operator_stops l toks (quiet_none toks e)

quiet_calm : (toks : List Lexeme) → quiet toks ≡ true → calm toks ≡ true
unfolding quiet quiet_symbol calm
quiet_calm (Sign symbols.OpenParenthesis ∷ rest) e = absurd cc
quiet_calm (Sign symbols.Colon ∷ rest) e = absurd cc
quiet_calm toks e = refl

quiet_fieldless : (m : Fields) (toks : List Lexeme) → quiet toks ≡ true → begins_field m toks ≡ false
unfolding quiet quiet_symbol begins_field
quiet_fieldless fields.Any (Sign symbols.Dot ∷ rest) e = absurd cc
quiet_fieldless fields.Any (Sign symbols.Exclamation ∷ rest) e = absurd cc
quiet_fieldless fields.Any (Sign symbols.Question ∷ rest) e = absurd cc
quiet_fieldless fields.Undotted (Sign symbols.Exclamation ∷ rest) e = absurd cc
quiet_fieldless fields.Undotted (Sign symbols.Question ∷ rest) e = absurd cc
quiet_fieldless m toks e = refl

pub quiet_behind : (m : Fields) (o : Bool) (toks : List Lexeme) → quiet toks ≡ true → Behind m o toks
quiet_behind m o toks e = (quiet_calm toks e, quiet_fieldless m toks e, λ h. e)

-- after a phrase that takes all that can follow
pub quiet_phrase : (l : ℕ) (o : Bool) (toks : List Lexeme) → quiet toks ≡ true → Follows (kinds.Phrase l) o toks
quiet_phrase l o toks e = (quiet_behind fields.Any o toks e, quiet_stops l toks e)

pub declares_quiet : (toks : List Lexeme) → declares toks ≡ true → quiet toks ≡ true
unfolding quiet quiet_keyword declares
declares_quiet [] e = refl
declares_quiet (Name n ∷ rest) e = refl
declares_quiet (Kept keywords.Channel ∷ rest) e = refl
declares_quiet (Kept keywords.Datatype ∷ rest) e = refl
declares_quiet toks e = absurd cc

-- no symbol at all stands there
pub declares_none : (s : Symbol) (toks : List Lexeme) → declares toks ≡ true → NoSign s toks
unfolding declares after is_sign
declares_none s [] e = refl
declares_none s (Name n ∷ rest) e = refl
declares_none s (Kept k ∷ rest) e = refl
declares_none s (Number n ∷ rest) e = refl
declares_none s (Sign t ∷ rest) e = absurd cc

pub fieldless_dot : (toks : List Lexeme) → begins_field fields.Any toks ≡ false → NoSign symbols.Dot toks
unfolding begins_field after is_sign
fieldless_dot (Sign symbols.Dot ∷ rest) e = absurd cc
fieldless_dot [] e = refl
fieldless_dot (Name n ∷ rest) e = refl
fieldless_dot (Number n ∷ rest) e = refl
fieldless_dot (Kept k ∷ rest) e = refl
fieldless_dot (Sign s ∷ rest) e = refl

-- ---- signs that may come after a part

unfoldable pub closes : Kind → Signs → Bool
closes (kinds.Phrase l) s = quiet (sign_lexeme s ∷ [])
closes (kinds.Atom m) s = quiet (sign_lexeme s ∷ [])
closes kinds.Event s = quiet (sign_lexeme s ∷ [])
closes kinds.Generator s = quiet (sign_lexeme s ∷ [])
closes kinds.Pair s = quiet (sign_lexeme s ∷ [])
closes kinds.Generators s = quiet (sign_lexeme s ∷ []) && not (is_sign (signs.Symbol symbols.Comma) (sign_lexeme s))
closes kinds.Names s = not (is_sign (signs.Symbol symbols.Comma) (sign_lexeme s))
closes kinds.Called s = true
closes k s = false

quiet_head : (s : Signs) (toks : List Lexeme) → quiet (sign_lexeme s ∷ []) ≡ true → quiet (sign_lexeme s ∷ toks) ≡ true
unfolding quiet
quiet_head (signs.Symbol s) toks e = e
quiet_head (signs.Keyword k) toks e = e

pub no_sign : (s : Symbol) (x : Lexeme) (toks : List Lexeme) → not (is_sign (signs.Symbol s) x) ≡ true → NoSign s (x ∷ toks)
unfolding after
no_sign s x toks e = at (is_sign (signs.Symbol s) x) e
  where
    at : (b : Bool) → not b ≡ true → cond b (Some toks) None ≡ None
    at true e = absurd cc
    at false e = refl

pub closes_follows : (k : Kind) (s : Signs) (o : Bool) (toks : List Lexeme) → closes k s ≡ true → Follows k o (sign_lexeme s ∷ toks)
unfolding closes
closes_follows (kinds.Phrase l) s o toks e = quiet_phrase l o (sign_lexeme s ∷ toks) (quiet_head s toks e)
closes_follows (kinds.Atom m) s o toks e = quiet_behind m o (sign_lexeme s ∷ toks) (quiet_head s toks e)
closes_follows kinds.Event s o toks e = quiet_behind fields.Any o (sign_lexeme s ∷ toks) (quiet_head s toks e)
closes_follows kinds.Generator s o toks e = quiet_behind fields.Any o (sign_lexeme s ∷ toks) (quiet_head s toks e)
closes_follows kinds.Pair s o toks e = quiet_behind fields.Any o (sign_lexeme s ∷ toks) (quiet_head s toks e)
closes_follows kinds.Generators s o toks e =
    let h = both_true (quiet (sign_lexeme s ∷ [])) (not (is_sign (signs.Symbol symbols.Comma) (sign_lexeme s))) e in
    (quiet_behind fields.Any o (sign_lexeme s ∷ toks) (quiet_head s toks h.0), no_sign symbols.Comma (sign_lexeme s) toks h.1)
closes_follows kinds.Names s o toks e = no_sign symbols.Comma (sign_lexeme s) toks e
closes_follows kinds.Called s o toks e = tt
closes_follows k s o toks e = absurd cc
