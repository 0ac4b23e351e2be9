-- What one line is.
use Rattle.std.proofs.Common.{◌≡◌, ◌≢◌, ℕ, List, [], length, Bool, true, false, not, ◌&&◌, ◌==◌, sym, ap, ◌∙◌}
use Rattle.std.specs.List.{All, list_all}
use Rattle.std.proofs.lemmas.Bool.{true≢false}
use Rattle.std.proofs.lemmas.List.Folds.{list_all_at}
use Rattle.tokens.specs.Text.{is_of_line}
use Rattle.syntax.specs.Script.{is_one_line}

pub some_byte : (n : List ℕ) → is_one_line n ≡ true → n ≢ []
some_byte n h = λ e. true≢false (sym h ∙ ap is_one_line e)

second : (a b : Bool) → (a && b) ≡ true → b ≡ true
second true b e = e
second false b e = absurd cc

pub no_line_feed : (n : List ℕ) → is_one_line n ≡ true → All (λ b. b ≢ 10) n
no_line_feed n h = λ k d l e. true≢false (sym (second (not (length n == 0)) (list_all is_of_line n) h) ∙ list_all_at is_of_line n k d l (ap is_of_line e))
