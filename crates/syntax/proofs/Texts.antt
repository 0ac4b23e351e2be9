-- A text's tokens, and the tree that they have.
use Rattle.std.proofs.Common.{◌≡◌, ℕ, List, [], ◌∷◌, refl, arith, Result, Ok, Err, IsErr, IsErrAnd, MatchResult, true, ap, ◌∙◌}
use Rattle.tokens.specs.Lexeme.{Lexeme, Name}
use Rattle.tokens.specs.declared.error.ScriptErrorKind.TheVariants as errors
use Rattle.tokens.specs.declared.error.ScriptError.{ScriptError}
use Rattle.tokens.specs.Text.{HasTokens}
use Rattle.syntax.specs.declared.form.Form.TheVariants as forms
use Rattle.syntax.specs.Rules.{rule, form_level, is_heavy}
use Rattle.syntax.specs.Grammar.{Syntax, Called, Node, NoSyntax, MoreSyntax, level_in, may_stand, shut, is_called, flat, spell, spell_part, spell_signs, nesting, nests, nests_part}
use Rattle.syntax.specs.Script.{IsScript, HasTree, IsPhrase, HasPhrase, is_one_line}

pub has_tree : (text : List ℕ) (toks : List Lexeme) (t : Syntax) → HasTokens text toks → IsScript toks t → HasTree text t
has_tree text toks t h i = record { tokens = toks; read = h; is = i }

pub has_phrase : (text : List ℕ) (toks : List Lexeme) (t : Syntax) → is_one_line text ≡ true → HasTokens text toks → IsPhrase toks t → HasPhrase text t
has_phrase text toks t l h i = record { line = l; tokens = toks; read = h; is = i }

-- a name alone is a phrase
pub name_is_phrase : (n : List ℕ) → IsPhrase (Name n ∷ []) (Node forms.Event (MoreSyntax (Called n) NoSyntax))
unfolding level_in form_level is_heavy rule may_stand shut is_called flat spell spell_part spell_signs nesting nests nests_part
name_is_phrase n = record { kind = refl; fits = (refl, (tt, (refl, refl))); high = omega arith; nested = omega arith; spelled = refl }

-- an error that is handed on
pub only_memory : {X : Type 0} (P : X → Type 0) (r : Result X ScriptError) (e : ScriptError) → IsErr r → IsErrAnd r (λ x. x ≡ e) → e.kind ≡ errors.Memory → MatchResult r P (λ e. e.kind ≡ errors.Memory)
only_memory P (Ok x) e h i k = absurd cc
only_memory P (Err x) e h i k = ap (λ (e : ScriptError). e.kind) i ∙ k
