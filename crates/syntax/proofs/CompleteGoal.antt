-- What is shown of each tree that fits, by induction on trees: where its tokens stand, and then what ends it, it is read.
-- The limits are the fuel: room for its height, brackets for its nesting, and layers for its kind are enough. A phrase
-- may stand on the left of an operator, where it isn't read by itself; so of a phrase it is also shown that reading
-- comes to the point after it (Comes), and that with no operator there to go on with it is what was read.
use Rattle.std.proofs.Common.{◌≡◌, ℕ, suc, ◌+◌, ◌<◌, ◌≤◌, List, ◌++◌, Bool, true, false, Option}
use Rattle.std.specs.Prelude.{nat_le}
use Rattle.tokens.specs.Lexeme.{Lexeme}
use Rattle.syntax.specs.declared.piece.Kind.{Kind}
use Rattle.syntax.specs.declared.piece.Kind.TheVariants as kinds
use Rattle.syntax.specs.declared.piece.Fields.TheVariants as fields
use Rattle.syntax.specs.declared.form.Form.TheVariants as forms
use Rattle.syntax.specs.Operators.{right_limit}
use Rattle.syntax.specs.Grammar.{Syntax, Node, Syntaxes, NoSyntax, MoreSyntax, flat, height_of, nesting, is, is_open, level_in}
use Rattle.syntax.specs.Parsing.{◌>>=◌, Found, reads, reader, may_open, operand, climb}
use Rattle.syntax.proofs.Branches.{some_found}
use Rattle.syntax.proofs.Climbing.{Stops}
use Rattle.syntax.proofs.CompleteFollow.{Behind, Follows}

-- how many layers of parts of one height a part of this kind has, with itself
unfoldable pub rank : Kind → ℕ
rank kinds.Value = 2
rank kinds.Generator = 2
rank kinds.Pair = 2
rank kinds.Names = 2
rank kinds.Constants = 2
rank kinds.FieldSets = 2
rank kinds.Field = 3
rank kinds.Generators = 3
rank kinds.Declaration = 3
rank kinds.Script = 4
rank k = 1

-- the kinds of the rules: what an operator takes on its left is not read by itself, and 16 is the loosest level
unfoldable pub is_read_kind : Kind → Bool
is_read_kind (kinds.Phrase l) = nat_le l 16
is_read_kind (kinds.Left op) = false
is_read_kind k = true

-- a part of any kind is read where it stands
abbrev pub IsRead : Syntax → Type 0
IsRead t = (b r layers : ℕ) (k : Kind) (rest : List Lexeme) → is_read_kind k ≡ true → is k t ≡ true → 0 < r → height_of t ≤ r → nesting t ≤ b → rank k ≤ layers → Follows k (is_open t) rest → reads b r layers k (flat t ++ rest) ≡ some_found t rest

-- the looseness of what stands last, which takes more operators
unfoldable pub edge : Syntax → ℕ
edge (Node (forms.Operation op) ts) = right_limit op
edge (Node forms.Negation ts) = 2
edge (Node forms.Not ts) = 6
edge t = 0

-- how many operators stand on the way down to the first operand
unfoldable pub spine : Syntax → ℕ
spine (Node (forms.Operation op) (MoreSyntax p ts)) = suc (spine p)
spine t = 0

-- the first operand, and up to so many operators after it
abbrev pub start : ℕ → ℕ → ℕ → ℕ → ℕ → List Lexeme → Option Found
start b r layers l turns toks = operand (reader b r 4) (reader b (suc r) layers) (may_open b) (kinds.Phrase l) toks >>= λ x. climb (reader b r 4) (may_open b) (suc r) l turns x.0 x.1

-- what begins with a phrase's tokens comes to the point where the phrase was read, and reading goes on after it
abbrev pub Comes : Syntax → Type 0
Comes t = (b r layers l m n : ℕ) (rest : List Lexeme) → l ≤ 16 → level_in t ≤ l → height_of t ≤ suc r → nesting t ≤ b → Behind fields.Any (is_open t) rest → Stops (edge t) rest → m ≡ spine t + n → start b r layers l m (flat t ++ rest) ≡ climb (reader b r 4) (may_open b) (suc r) l n t rest

-- every part of it is read where it stands, and every phrase of them comes to its end
abbrev pub AllRead : Syntaxes → Type 0
AllRead NoSyntax = Unit {0}
AllRead (MoreSyntax t ts) = (IsRead t × Comes t) × AllRead ts
