use Rattle.std.proofs.Common.{◌≡◌, ◌≤◌, List, [], ◌∷◌, Option, None, length, refl, ap, ◌∙◌, arith}
use Rattle.std.proofs.lemmas.Result.{err_from_is_err_and}
use Rattle.tokens.specs.declared.token.Token.{Token}
use Rattle.tokens.specs.Lexeme.{lexemes}
use Rattle.syntax.specs.Grammar.{Syntax}
use Rattle.syntax.specs.Parsing.{◌>>=◌, Found, ended, reads, whole}
use Rattle.syntax.specs.View.{shape}
use Rattle.syntax.proofs.Failing.{fails_none, fails_on}
use Rattle.syntax.proofs.NextTokens.{none_there}
use Rattle.syntax.proofs.reading.whole.Goals as goal

abbrev no_tree : Option Syntax
no_tree = None

more_left : {A : Type 0} (t : Syntax) (ts : List (Token A)) → 1 ≤ length ts → ended (t, lexemes ts) ≡ no_tree
unfolding ended
more_left t [] h = absurd (omega (arith, h))
more_left t (x ∷ ts) h = refl

pub returns-in_err-part : goal.returns-in_err-part
unfolding whole
returns-in_err-part g c =
    let toks = lexemes c.args.tokens.now in
    let p = err_from_is_err_and c.from_residual.result c.from_residual.ensures.1 in
    rw (p.1, p.2) (fails_on c.in_err-part.field-0.0 (reads 250 250 4 c.args.kind toks) (whole c.args.kind toks) (λ n. ap (λ (o : Option Found). o >>= ended) n) c.in_err-part.ensures.read)

pub returns-in-empty : goal.returns-in-empty
unfolding whole ended
returns-in-empty g c =
    ap (λ (o : Option Found). o >>= ended) c.in_ok-part.ensures.read ∙ ap (λ ts. ended (shape c.in_ok-part.part.tree, ts)) (none_there c.in_ok-part.rest.now c.in-empty.len_below)

pub returns-in-len1-up : goal.returns-in-len1-up
unfolding whole
returns-in-len1-up g c =
    fails_none c.expected.result (whole c.args.kind (lexemes c.args.tokens.now))
    (ap (λ (o : Option Found). o >>= ended) c.in_ok-part.ensures.read ∙ more_left (shape c.in_ok-part.part.tree) c.in_ok-part.rest.now c.in-len1-up.len_at_least)
