use Rattle.std.proofs.Common.{◌≡◌, ◌+◌, ◌≤◌, List, ◌++◌, length}
use Rattle.tokens.specs.Lexeme.{Lexeme, lexemes}
use Rattle.tokens.specs.Text.{Holds}
use Rattle.tokens.proofs.script.scanned.Given as goal

abbrev pub invariant-loop-rest : goal.invariant-loop-rest
invariant-loop-rest g l = record {
  sound : (ws : List Lexeme) → Holds l.rest ws → Holds l.text (lexemes l.tokens.items ++ ws);
  only : (ws : List Lexeme) → Holds l.text ws → (vs : List Lexeme) × Holds l.rest vs × (ws ≡ lexemes l.tokens.items ++ vs);
  few : l.number + length l.rest ≤ 65537;
}

abbrev pub decreases-loop-rest : goal.decreases-loop-rest
decreases-loop-rest g l = length l.rest
