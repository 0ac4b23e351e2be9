-- What the next tokens say, by the first one.
use Rattle.std.proofs.Common.{◌≡◌, ◌≢◌, ℕ, suc, ◌-◌, ◌<◌, ◌≤◌, length, take, drop, get_or, List, [], ◌∷◌, Option, Some, None, Vec, Bool, false, cond, refl, sym, ap, ◌∙◌, arith}
use Rattle.std.proofs.lemmas.List.{take_all}
use Rattle.std.specs.Prelude.{is_some}
use Rattle.tokens.specs.declared.token.Token.{Token}
use Rattle.tokens.specs.declared.token.Word.{Word}
use Rattle.tokens.specs.declared.token.Word.TheVariants as words
use Rattle.tokens.specs.Lexeme.{Lexeme, Name, Kept, Sign, lexeme, lexeme_of_word, lexemes}
use Rattle.tokens.specs.declared.keyword.Keyword.{Keyword}
use Rattle.tokens.specs.declared.keyword.Keyword.TheVariants as keywords
use Rattle.tokens.specs.declared.symbol.Symbol.{Symbol}
use Rattle.tokens.specs.declared.symbol.Symbol.TheVariants as symbols
use Rattle.tokens.specs.declared.position.Position.TheVariants as positions
use Rattle.syntax.specs.declared.piece.Sign.TheVariants as signs
use Rattle.syntax.specs.declared.piece.Fields.{Fields}
use Rattle.syntax.specs.declared.piece.Fields.TheVariants as fields
use Rattle.syntax.specs.declared.piece.Start.TheVariants as starts
use Rattle.syntax.specs.declared.form.Form.{Form}
use Rattle.syntax.specs.declared.form.Form.TheVariants as forms
use Rattle.syntax.specs.declared.operator.Operator.{Operator}
use Rattle.syntax.specs.Faults.{first_line}
use Rattle.syntax.specs.Parsing.{◌>>=◌, Found, after, is_sign, begins_field, named_form, brace_form, events_form, defined_form, input_form, turned, value_form, field_form, declaration_form, name_at, number_at, another}

abbrev pub some_form : Form → Option Form
some_form f = Some f

abbrev no_form : Option Form
no_form = None

abbrev no_part : Option Found
no_part = None

abbrev some_tokens : List Lexeme → Option (List Lexeme)
some_tokens toks = Some toks

-- ---- the tokens of a slice

pub none_there : {A : Type 0} (ts : List (Token A)) → length ts < 1 → lexemes ts ≡ []
none_there [] h = refl
none_there (t ∷ ts) h = absurd (omega (arith, h))

-- what the first one says, and those after it
pub first_there : {A : Type 0} (ts : List (Token A)) (t : Token A) (w : Word A) → 1 ≤ length ts → t ≡ get_or ts 0 t → t.word ≡ w → lexemes ts ≡ lexeme_of_word w ∷ lexemes (take (length ts - 1) (drop 1 ts))
first_there [] t w h is says = absurd (omega (arith, h))
first_there (x ∷ xs) t w h is says =
    ap (λ y. lexeme y ∷ lexemes xs) (sym is) ∙ ap (λ y. lexeme_of_word y ∷ lexemes xs) says
    ∙ ap (λ ys. lexeme_of_word w ∷ lexemes ys) (sym (take_all (suc (length xs) - 1) xs (omega arith)))

pub first_line_is : {A : Type 0} (ts : List (Token A)) (t : Token A) → 1 ≤ length ts → t ≡ get_or ts 0 t → t.line ≡ first_line ts
first_line_is [] t h is = absurd (omega (arith, h))
first_line_is (x ∷ xs) t h is = ap (λ y. y.line) is

pub no_line : {A : Type 0} (ts : List (Token A)) → length ts < 1 → positions.Line 0 ≡ first_line ts
no_line [] h = refl
no_line (t ∷ ts) h = absurd (omega (arith, h))

-- the tokens, where the test holds
abbrev pub kept_where : List Lexeme → Bool → Option (List Lexeme)
kept_where toks b = cond b (Some toks) None

-- the operator with the tokens after it, if there is one
abbrev pub with_rest : List Lexeme → Option Operator → Option (Operator × List Lexeme)
with_rest toks o = o >>= λ op. Some (op, toks)

-- ---- forms by whether a symbol stands first

abbrev pub begins : Symbol → List Lexeme → Bool
begins s toks = is_some (after (signs.Symbol s) toks)

pub by_symbol : (toks : List Lexeme) → named_form toks ≡ cond (begins symbols.OpenParenthesis toks) forms.Call forms.Event
unfolding named_form after is_sign
by_symbol [] = refl
by_symbol (Sign symbols.OpenParenthesis ∷ rest) = refl
by_symbol (x ∷ rest) = refl

pub by_brace : (toks : List Lexeme) → brace_form toks ≡ cond (begins symbols.CloseBrace toks) forms.EmptySet forms.Set
unfolding brace_form after is_sign
by_brace [] = refl
by_brace (Sign symbols.CloseBrace ∷ rest) = refl
by_brace (x ∷ rest) = refl

pub by_events : (toks : List Lexeme) → events_form toks ≡ cond (begins symbols.CloseEvents toks) forms.NoProductions forms.Productions
unfolding events_form after is_sign
by_events [] = refl
by_events (Sign symbols.CloseEvents ∷ rest) = refl
by_events (x ∷ rest) = refl

pub by_definition : (toks : List Lexeme) → defined_form toks ≡ cond (begins symbols.OpenParenthesis toks) forms.DefinitionWithParameters forms.Definition
unfolding defined_form after is_sign
by_definition [] = refl
by_definition (Sign symbols.OpenParenthesis ∷ rest) = refl
by_definition (x ∷ rest) = refl

pub by_colon : (n : List ℕ) (rest : List Lexeme) → input_form (Name n ∷ rest) ≡ cond (begins symbols.Colon rest) forms.RestrictedInput forms.Input
unfolding input_form after is_sign
by_colon n [] = refl
by_colon n (Sign symbols.Colon ∷ rest) = refl
by_colon n (x ∷ rest) = refl

pub by_range : (toks : List Lexeme) → turned forms.Set toks ≡ cond (begins symbols.Range toks) forms.Range forms.Set
unfolding turned after is_sign
by_range [] = refl
by_range (Sign symbols.Range ∷ rest) = refl
by_range (x ∷ rest) = refl

pub by_fields : (toks : List Lexeme) → turned forms.Channels toks ≡ cond (begins symbols.Colon toks) forms.ChannelsWithFields forms.Channels
unfolding turned after is_sign
by_fields [] = refl
by_fields (Sign symbols.Colon ∷ rest) = refl
by_fields (x ∷ rest) = refl

-- ---- forms by their first token alone

pub value_alone : (s : Symbol) (rest : List Lexeme) → value_form (Sign s ∷ rest) ≡ value_form (Sign s ∷ [])
unfolding value_form
value_alone symbols.Minus rest = refl
value_alone symbols.OpenParenthesis rest = refl
value_alone s rest = refl

pub declaration_alone : (k : Keyword) (rest : List Lexeme) → declaration_form (Kept k ∷ rest) ≡ declaration_form (Kept k ∷ [])
unfolding declaration_form
declaration_alone keywords.Channel rest = refl
declaration_alone keywords.Datatype rest = refl
declaration_alone k rest = refl

pub field_alone : (m : Fields) (s : Symbol) (rest : List Lexeme) → begins_field m (Sign s ∷ rest) ≡ begins_field m (Sign s ∷ [])
unfolding begins_field
field_alone fields.Any symbols.Dot rest = refl
field_alone fields.Any symbols.Exclamation rest = refl
field_alone fields.Any symbols.Question rest = refl
field_alone fields.Any s rest = refl
field_alone fields.Undotted symbols.Exclamation rest = refl
field_alone fields.Undotted symbols.Question rest = refl
field_alone fields.Undotted s rest = refl
field_alone fields.None s rest = refl

-- ---- tokens that begin nothing

pub nothing_begins : (m : Fields) → begins_field m [] ≡ false
unfolding begins_field
nothing_begins fields.Any = refl
nothing_begins fields.Undotted = refl
nothing_begins fields.None = refl

module _ {A : Type 0} where
  pub no_field : (m : Fields) (w : Word A) (rest : List Lexeme) → ((s : Symbol) → w ≢ words.Symbol s) → begins_field m (lexeme_of_word w ∷ rest) ≡ false
  unfolding begins_field
  no_field m (words.Symbol s) rest h = absurd (h s refl)
  no_field fields.Any (words.Name n) rest h = refl
  no_field fields.Any (words.Number n) rest h = refl
  no_field fields.Any (words.Keyword k) rest h = refl
  no_field fields.Undotted (words.Name n) rest h = refl
  no_field fields.Undotted (words.Number n) rest h = refl
  no_field fields.Undotted (words.Keyword k) rest h = refl
  no_field fields.None (words.Name n) rest h = refl
  no_field fields.None (words.Number n) rest h = refl
  no_field fields.None (words.Keyword k) rest h = refl

  pub no_name : (w : Word A) (rest : List Lexeme) → ((n : Vec ℕ A) → w ≢ words.Name n) → input_form (lexeme_of_word w ∷ rest) ≡ forms.Input
  unfolding input_form
  no_name (words.Name n) rest h = absurd (h n refl)
  no_name (words.Number n) rest h = refl
  no_name (words.Keyword k) rest h = refl
  no_name (words.Symbol s) rest h = refl

  pub no_numeral : (w : Word A) (rest : List Lexeme) → ((n : ℕ) → w ≢ words.Number n) → number_at (lexeme_of_word w ∷ rest) ≡ no_part
  unfolding number_at
  no_numeral (words.Number n) rest h = absurd (h n refl)
  no_numeral (words.Name n) rest h = refl
  no_numeral (words.Keyword k) rest h = refl
  no_numeral (words.Symbol s) rest h = refl

  pub no_called : (w : Word A) (rest : List Lexeme) → ((n : Vec ℕ A) → w ≢ words.Name n) → name_at (lexeme_of_word w ∷ rest) ≡ no_part
  unfolding name_at
  no_called (words.Name n) rest h = absurd (h n refl)
  no_called (words.Number n) rest h = refl
  no_called (words.Keyword k) rest h = refl
  no_called (words.Symbol s) rest h = refl

  -- one more part begins with any token
  pub any_there : (ts : List (Token A)) (greedy : Bool) → 1 ≤ length ts → another starts.Any greedy (lexemes ts) ≡ some_tokens (lexemes ts)
  unfolding another
  any_there [] greedy h = absurd (omega (arith, h))
  any_there (t ∷ ts) greedy h = refl

  pub no_value : (w : Word A) (rest : List Lexeme) → ((n : Vec ℕ A) → w ≢ words.Name n) → ((s : Symbol) → w ≢ words.Symbol s) → value_form (lexeme_of_word w ∷ rest) ≡ no_form
  unfolding value_form
  no_value (words.Name n) rest h k = absurd (h n refl)
  no_value (words.Symbol s) rest h k = absurd (k s refl)
  no_value (words.Number n) rest h k = refl
  no_value (words.Keyword j) rest h k = refl

  pub no_field_form : (w : Word A) (rest : List Lexeme) → ((s : Symbol) → w ≢ words.Symbol s) → field_form (lexeme_of_word w ∷ rest) ≡ no_form
  unfolding field_form
  no_field_form (words.Symbol s) rest h = absurd (h s refl)
  no_field_form (words.Name n) rest h = refl
  no_field_form (words.Number n) rest h = refl
  no_field_form (words.Keyword k) rest h = refl

  pub no_declaration : (w : Word A) (rest : List Lexeme) → ((k : Keyword) → w ≢ words.Keyword k) → ((n : Vec ℕ A) → w ≢ words.Name n) → declaration_form (lexeme_of_word w ∷ rest) ≡ no_form
  unfolding declaration_form
  no_declaration (words.Keyword j) rest h k = absurd (h j refl)
  no_declaration (words.Name n) rest h k = absurd (k n refl)
  no_declaration (words.Number n) rest h k = refl
  no_declaration (words.Symbol s) rest h k = refl
