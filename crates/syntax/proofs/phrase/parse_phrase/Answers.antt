use Rattle.std.proofs.lemmas.Bool.{true≢false}
use Rattle.std.proofs.Common.{◌≡◌, ap, subst, sym, ◌∙◌, List}
use Rattle.tokens.specs.Lexeme.{Lexeme, lexemes}
use Rattle.tokens.specs.Unreads.{reported}
use Rattle.tokens.specs.declared.read_error.ReadError.{ReadError}
use Rattle.syntax.specs.Script.{IsPhrase}
use Rattle.syntax.specs.View.{shape}
use Rattle.syntax.proofs.Texts.{only_memory}
use Rattle.syntax.proofs.phrase.parse_phrase.Goals as goal

pub returns-in_err-tokens-clause-only : goal.returns-in_err-tokens-clause-only
returns-in_err-tokens-clause-only g c t h =
    let told = c.from_residual-in_err-tokens.ensures in
    only_memory (λ tree. shape tree ≡ t) c.from_residual-in_err-tokens.result c.in_err-tokens.field-0.0 told.0 told.1 (c.in_err-tokens.ensures.only h.tokens h.read)

pub returns-in_err-read_phrase-clause-only : goal.returns-in_err-read_phrase-clause-only
returns-in_err-read_phrase-clause-only g c t h =
    let told = c.from_residual-in_err-read_phrase.ensures in
    only_memory (λ tree. shape tree ≡ t) c.from_residual-in_err-read_phrase.result (reported c.in_err-read_phrase.field-0.0) told.0 told.1
    (ap (λ (u : ReadError). (reported u).kind) (c.in_err-read_phrase.ensures.only t (subst (λ (toks : List Lexeme). IsPhrase toks t) (sym (ap lexemes c.deref.ensures.value ∙ c.in_ok-tokens.ensures.only h.tokens h.read)) h.is)))

pub returns-clause-only : goal.returns-clause-only
returns-clause-only g c t h =
    c.in_ok-read_phrase.ensures.only t (subst (λ (toks : List Lexeme). IsPhrase toks t) (sym (ap lexemes c.deref.ensures.value ∙ c.in_ok-tokens.ensures.only h.tokens h.read)) h.is)

pub returns-then-not-is_one_line-clause-only : goal.returns-then-not-is_one_line-clause-only
returns-then-not-is_one_line-clause-only g c t h = absurd (true≢false (sym h.line ∙ sym c.is_one_line.ensures ∙ c.if-not-is_one_line.true))
