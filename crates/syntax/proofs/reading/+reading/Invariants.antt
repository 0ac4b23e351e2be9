use Rattle.std.proofs.Common.{◌≡◌, ◌+◌, ◌-◌, ◌*◌, ◌≤◌, length}
use Rattle.tokens.specs.Lexeme.{lexemes}
use Rattle.syntax.specs.View.{shapes}
use Rattle.syntax.specs.Parsing.{others, reader}
use Rattle.syntax.proofs.reading.+reading.Given as goal

abbrev pub decreases-read : goal.decreases-read
decreases-read g l = 10000 * (l.limits.brackets + l.limits.room) + 1000 * l.limits.layers + 600

abbrev pub decreases-operand : goal.decreases-operand
decreases-operand g l = 10000 * (l.limits.brackets + l.limits.room) + 1000 * l.limits.layers + 500

abbrev pub decreases-climb : goal.decreases-climb
decreases-climb g l = 10000 * (l.limits.brackets + l.limits.room) + 200 + l.turns

abbrev pub decreases-grown : goal.decreases-grown
decreases-grown g l = 10000 * (l.limits.brackets + l.limits.room) + 100

abbrev pub decreases-node : goal.decreases-node
decreases-node g l = 10000 * (l.limits.brackets + l.limits.room) + 1000 * l.limits.layers + 950

abbrev pub decreases-row : goal.decreases-row
decreases-row g l = 10000 * (l.limits.brackets + l.limits.room) + 1000 * l.limits.layers + 800 + length l.pieces.now

abbrev pub decreases-step : goal.decreases-step
decreases-step g l = 10000 * (l.limits.brackets + l.limits.room) + 1000 * l.limits.layers + 750

abbrev pub decreases-others : goal.decreases-others
decreases-others g l = 10000 * (l.limits.brackets + l.limits.room) + 1000 * l.limits.layers + 700

abbrev pub decreases-part : goal.decreases-part
decreases-part g l = 10000 * (l.limits.brackets + l.limits.room) + 1000 * l.limits.layers + 650

abbrev pub invariant-others-loop : goal.invariant-others-loop
invariant-others-loop g l = record {
  read : others (reader l.limits.brackets l.limits.room l.limits.layers l.place l.kind) l.start (length l.tokens - l.counter) (shapes l.parts.trees.items) (lexemes l.rest) ≡ others (reader l.limits.brackets l.limits.room l.limits.layers l.place l.kind) l.start (length l.tokens) (shapes l.initial.parts.trees.items) (lexemes l.tokens);
  high : l.parts.height ≤ l.limits.room;
}
