-- The table of operators, tightest first.
use Rattle.std.specs.Prelude.{ℕ, List, [], ◌∷◌, Bool, true, false, Option, Some, None}
use Rattle.tokens.specs.declared.symbol.Symbol.{Symbol}
use Rattle.tokens.specs.declared.symbol.Symbol.TheVariants as symbols
use Rattle.tokens.specs.declared.keyword.Keyword.{Keyword}
use Rattle.tokens.specs.declared.keyword.Keyword.TheVariants as keywords
use Rattle.syntax.specs.declared.operator.Operator.{Operator}
use Rattle.syntax.specs.declared.operator.Operator.TheVariants as operators
use Rattle.syntax.specs.declared.piece.Sign.TheVariants as signs
use Rattle.syntax.specs.declared.piece.Kind.TheVariants as kinds
use Rattle.syntax.specs.declared.piece.Place.TheVariants as places
use Rattle.syntax.specs.declared.piece.Start.TheVariants as starts
use Rattle.syntax.specs.declared.piece.Piece.{Piece}
use Rattle.syntax.specs.declared.piece.Piece.TheVariants as pieces

-- the piece that an operator begins with
unfoldable pub opening : Operator → Piece
opening operators.Renaming = pieces.Open symbols.OpenRenaming
opening operators.Times = pieces.Sign (signs.Symbol symbols.Times)
opening operators.Remainder = pieces.Sign (signs.Symbol symbols.Percent)
opening operators.Plus = pieces.Sign (signs.Symbol symbols.Plus)
opening operators.Minus = pieces.Sign (signs.Symbol symbols.Minus)
opening operators.Equal = pieces.Sign (signs.Symbol symbols.Equal)
opening operators.NotEqual = pieces.Sign (signs.Symbol symbols.NotEqual)
opening operators.Less = pieces.Sign (signs.Symbol symbols.Less)
opening operators.LessOrEqual = pieces.Sign (signs.Symbol symbols.LessOrEqual)
opening operators.Greater = pieces.Sign (signs.Symbol symbols.Greater)
opening operators.GreaterOrEqual = pieces.Sign (signs.Symbol symbols.GreaterOrEqual)
opening operators.And = pieces.Sign (signs.Keyword keywords.And)
opening operators.Or = pieces.Sign (signs.Keyword keywords.Or)
opening operators.Prefix = pieces.Sign (signs.Symbol symbols.Arrow)
opening operators.Guard = pieces.Sign (signs.Symbol symbols.Ampersand)
opening operators.Sequence = pieces.Sign (signs.Symbol symbols.Semicolon)
opening operators.Interrupt = pieces.Sign (signs.Symbol symbols.Interrupt)
opening operators.ExternalChoice = pieces.Sign (signs.Symbol symbols.ExternalChoice)
opening operators.InternalChoice = pieces.Sign (signs.Symbol symbols.InternalChoice)
opening operators.Sharing = pieces.Open symbols.OpenSharing
opening operators.Alphabetised = pieces.Open symbols.OpenBracket
opening operators.Interleaving = pieces.Sign (signs.Symbol symbols.Interleaving)
opening operators.Hiding = pieces.Sign (signs.Symbol symbols.Hiding)

-- how loosely an operator binds
unfoldable pub level : Operator → ℕ
level operators.Renaming = 1
level operators.Times = 3
level operators.Remainder = 3
level operators.Plus = 4
level operators.Minus = 4
level operators.Equal = 5
level operators.NotEqual = 5
level operators.Less = 5
level operators.LessOrEqual = 5
level operators.Greater = 5
level operators.GreaterOrEqual = 5
level operators.And = 7
level operators.Or = 8
level operators.Prefix = 9
level operators.Guard = 9
level operators.Sequence = 10
level operators.Interrupt = 11
level operators.ExternalChoice = 12
level operators.InternalChoice = 13
level operators.Sharing = 14
level operators.Alphabetised = 14
level operators.Interleaving = 15
level operators.Hiding = 16

-- the loosest phrase on the left: of the event before an arrow 0, of a comparison 4, of a guard 8;
-- the others group to the left
unfoldable pub left_limit : Operator → ℕ
left_limit operators.Equal = 4
left_limit operators.NotEqual = 4
left_limit operators.Less = 4
left_limit operators.LessOrEqual = 4
left_limit operators.Greater = 4
left_limit operators.GreaterOrEqual = 4
left_limit operators.Prefix = 0
left_limit operators.Guard = 8
left_limit op = level op

-- the loosest phrase on the right
unfoldable pub right_limit : Operator → ℕ
right_limit operators.Renaming = 0
right_limit operators.Times = 2
right_limit operators.Remainder = 2
right_limit operators.Plus = 3
right_limit operators.Minus = 3
right_limit operators.Equal = 4
right_limit operators.NotEqual = 4
right_limit operators.Less = 4
right_limit operators.LessOrEqual = 4
right_limit operators.Greater = 4
right_limit operators.GreaterOrEqual = 4
right_limit operators.And = 6
right_limit operators.Or = 7
right_limit operators.Prefix = 9
right_limit operators.Guard = 9
right_limit operators.Sequence = 9
right_limit operators.Interrupt = 10
right_limit operators.ExternalChoice = 11
right_limit operators.InternalChoice = 12
right_limit operators.Sharing = 13
right_limit operators.Alphabetised = 13
right_limit operators.Interleaving = 14
right_limit operators.Hiding = 15

-- whether an operator begins with a bracket
unfoldable pub opens : Operator → Bool
opens operators.Renaming = true
opens operators.Sharing = true
opens operators.Alphabetised = true
opens op = false

-- what comes after the first token of an operator
unfoldable pub behind : Operator → List Piece
behind operators.Renaming = pieces.Part places.Inside kinds.Pair ∷ pieces.Others places.Inside kinds.Pair (starts.Behind symbols.Comma) ∷ pieces.Sign (signs.Symbol symbols.CloseRenaming) ∷ []
behind operators.Sharing = pieces.Part places.Inside (kinds.Phrase 16) ∷ pieces.Sign (signs.Symbol symbols.CloseSharing) ∷ pieces.Part places.Outside (kinds.Phrase 13) ∷ []
behind operators.Alphabetised = pieces.Part places.Inside (kinds.Phrase 16) ∷ pieces.Sign (signs.Symbol symbols.DoubleBar) ∷ pieces.Part places.Inside (kinds.Phrase 16) ∷ pieces.Sign (signs.Symbol symbols.CloseBracket) ∷ pieces.Part places.Outside (kinds.Phrase 13) ∷ []
behind op = pieces.Part places.Outside (kinds.Phrase (right_limit op)) ∷ []

-- the operator that a token begins
unfoldable pub operator_of_symbol : Symbol → Option Operator
operator_of_symbol symbols.OpenRenaming = Some operators.Renaming
operator_of_symbol symbols.Times = Some operators.Times
operator_of_symbol symbols.Percent = Some operators.Remainder
operator_of_symbol symbols.Plus = Some operators.Plus
operator_of_symbol symbols.Minus = Some operators.Minus
operator_of_symbol symbols.Equal = Some operators.Equal
operator_of_symbol symbols.NotEqual = Some operators.NotEqual
operator_of_symbol symbols.Less = Some operators.Less
operator_of_symbol symbols.LessOrEqual = Some operators.LessOrEqual
operator_of_symbol symbols.Greater = Some operators.Greater
operator_of_symbol symbols.GreaterOrEqual = Some operators.GreaterOrEqual
operator_of_symbol symbols.Arrow = Some operators.Prefix
operator_of_symbol symbols.Ampersand = Some operators.Guard
operator_of_symbol symbols.Semicolon = Some operators.Sequence
operator_of_symbol symbols.Interrupt = Some operators.Interrupt
operator_of_symbol symbols.ExternalChoice = Some operators.ExternalChoice
operator_of_symbol symbols.InternalChoice = Some operators.InternalChoice
operator_of_symbol symbols.OpenSharing = Some operators.Sharing
operator_of_symbol symbols.OpenBracket = Some operators.Alphabetised
operator_of_symbol symbols.Interleaving = Some operators.Interleaving
operator_of_symbol symbols.Hiding = Some operators.Hiding
operator_of_symbol s = None

unfoldable pub operator_of_keyword : Keyword → Option Operator
operator_of_keyword keywords.And = Some operators.And
operator_of_keyword keywords.Or = Some operators.Or
operator_of_keyword k = None
